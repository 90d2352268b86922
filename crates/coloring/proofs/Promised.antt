-- What the promised colors tell a walk: a constraint that has no color below k is promised color k exactly if it conflicts with no
-- earlier constraint of color k. Constraints are lists of bodies here, of whatever length.
use Rattle.std.proofs.Common.{ℕ, ◌+◌, ◌≤◌, ◌<◌, ◌≡◌, sym, ap, ◌∙◌, Bool, true, ◌&&◌, List, [], arith, leb, ltb, eqb, length, get_or, take, eqb-true, eq-eqb, ltb-true, lt-ltb, leb-true, le-leb}
use Rattle.lists.specs.Basics.{any, range, mem, rises}
use Rattle.lists.proofs.Laws.{and_left, and_right, and_both, bool_ext, any_in, any_out, get_or-mem, filter-mem, mem-filter, in_range, range_high, rises-filter}
use Rattle.lists.proofs.Scans.{rises-before, before-rises}
use Rattle.groups.specs.Groups.{flagged, clash}
use Rattle.groups.proofs.Colors.{proper, least}
use Rattle.coloring.specs.Coloring.{promised, uncolored, Walked}

-- a dynamic body on one of the constraints `passed` that is promised color k
abbrev pub busy : List ℕ → List (List ℕ) → ℕ → List ℕ → ℕ → Bool
busy flags cs k passed b = flagged flags b && any (λ s. eqb k (promised flags cs s) && mem b (get_or cs s [])) passed

module _ (flags : List ℕ) (cs : List (List ℕ)) (k : ℕ) where
  pub listed_in : (r : ℕ) → mem r (uncolored flags cs k) ≡ true → (r < length cs) × (k ≤ promised flags cs r)
  unfolding uncolored
  listed_in r h =
      let o = filter-mem (λ r. leb k (promised flags cs r)) r (range (length cs)) h in
      (omega (arith, range_high r 0 (length cs) o.0), leb-true k (promised flags cs r) o.1)

  pub in_listed : (r : ℕ) → r < length cs → k ≤ promised flags cs r → mem r (uncolored flags cs k) ≡ true
  unfolding uncolored
  in_listed r h l = mem-filter (λ r. leb k (promised flags cs r)) r (range (length cs)) (in_range r 0 (length cs) (omega arith) (omega arith)) (le-leb k (promised flags cs r) l)

  listed_rises : rises (uncolored flags cs k) ≡ true
  unfolding uncolored
  listed_rises = rises-filter (λ r. leb k (promised flags cs r)) 0 (length cs)

  -- an uncolored constraint is promised a higher color exactly if a body of it is busy
  pub busy_higher : (i : ℕ) → i < length (uncolored flags cs k)
      → (let r = get_or (uncolored flags cs k) i 0 in any (busy flags cs k (take i (uncolored flags cs k))) (get_or cs r []) ≡ ltb k (promised flags cs r))
  unfolding clash
  busy_higher i l = bool_ext (any (busy flags cs k before) (get_or cs r [])) (ltb k (promised flags cs r)) higher lower
    where
      before : List ℕ
      before = take i (uncolored flags cs k)

      r : ℕ
      r = get_or (uncolored flags cs k) i 0

      r_in : (r < length cs) × (k ≤ promised flags cs r)
      r_in = listed_in r (get_or-mem (uncolored flags cs k) i l)

      higher : any (busy flags cs k before) (get_or cs r []) ≡ true → ltb k (promised flags cs r) ≡ true
      higher h =
          let o = any_out (busy flags cs k before) (get_or cs r []) h in
          let b = o.0 in
          let near : ℕ → Bool = λ s. eqb k (promised flags cs s) && mem b (get_or cs s []) in
          let f = and_left (flagged flags b) (any near before) o.2 in
          let e = any_out near before (and_right (flagged flags b) (any near before) o.2) in
          let s = e.0 in
          let same = eqb-true k (promised flags cs s) (and_left (eqb k (promised flags cs s)) (mem b (get_or cs s [])) e.2) in
          let apart : promised flags cs s ≡ promised flags cs r → ⊥ = proper flags cs s r b (rises-before (uncolored flags cs k) i s listed_rises l e.1) r_in.0 f (and_right (eqb k (promised flags cs s)) (mem b (get_or cs s [])) e.2) o.1 in
          lt-ltb k (promised flags cs r) (omega (arith, r_in.1))

      lower : ltb k (promised flags cs r) ≡ true → any (busy flags cs k before) (get_or cs r []) ≡ true
      lower h =
          let e = least flags cs r k r_in.0 (ltb-true k (promised flags cs r) h) in
          let s = e.0 in
          let o = any_out (λ b. flagged flags b && mem b (get_or cs s [])) (get_or cs r []) e.3 in
          let b = o.0 in
          let s_in : mem s before ≡ true = before-rises (uncolored flags cs k) i s listed_rises l (in_listed s (omega (arith, e.1, r_in.0)) (omega (arith, e.2))) e.1 in
          let near : ℕ → Bool = λ s. eqb k (promised flags cs s) && mem b (get_or cs s []) in
          any_in (busy flags cs k before) b (get_or cs r []) o.1
          (and_both (flagged flags b) (any near before) (and_left (flagged flags b) (mem b (get_or cs s [])) o.2)
          (any_in near s before s_in (and_both (eqb k (promised flags cs s)) (mem b (get_or cs s [])) (eq-eqb k (promised flags cs s) (sym e.2)) (and_right (flagged flags b) (mem b (get_or cs s [])) o.2))))

-- what a walk leaves uncolored
pub left_higher : (flags : List ℕ) (cs : List (List ℕ)) (k start count left : ℕ) (remaining' colored' busy' : List ℕ) → Walked flags cs k start count left remaining' colored' busy'
    → (r : ℕ) → mem r (take left remaining') ≡ (ltb r (length cs) && ltb k (promised flags cs r))
left_higher flags cs k start count left remaining' colored' busy' w r =
    ap (mem r) w.left_are ∙ bool_ext (mem r (uncolored flags cs (k + 1))) (ltb r (length cs) && ltb k (promised flags cs r))
    (λ h. let o = listed_in flags cs (k + 1) r h in
    and_both (ltb r (length cs)) (ltb k (promised flags cs r)) (lt-ltb r (length cs) o.0) (lt-ltb k (promised flags cs r) (omega (arith, o.1))))
    (λ h. in_listed flags cs (k + 1) r
    (ltb-true r (length cs) (and_left (ltb r (length cs)) (ltb k (promised flags cs r)) h))
    (omega (arith, ltb-true k (promised flags cs r) (and_right (ltb r (length cs)) (ltb k (promised flags cs r)) h))))
