-- The positions of one group's constraints. Each member's part is written without touching another's, so the members have their
-- positions, one after another, and the other constraints keep theirs.
use Rattle.std.proofs.Common.{ℕ, ◌+◌, ◌-◌, ◌≤◌, ◌<◌, ◌≡◌, sym, ap, ◌∙◌, Bool, true, false, ◌||◌, List, map, arith, eqb, ltb, length, get_or, take, drop, length-drop, length-take-le, take_all, eqb-true, ltb-true}
use Rattle.std.proofs.Math.ListN.{length-map}
use Rattle.std.proofs.lemmas.Bool.{eqb-false}
use Rattle.lists.specs.Basics.{all, mem, place, join_map}
use Rattle.lists.proofs.Laws.{or_left, or_right, or_cases, clashes, by_cases, not-true-false, all_in, get_or-mem}
use Rattle.lists.proofs.Scans.{any_next, any-first}
use Rattle.lists.proofs.Ranges.{all-join_map}
use Rattle.parts.specs.Parts.{part_at, Bounded}
use Rattle.parts.specs.Steps.{start_at}
use Rattle.parts.proofs.Parts.{member_low}
use Rattle.parts.proofs.Gapless.{written, written_long, part_inside, part-written, part_kept}
use Rattle.locating.specs.Locates.{Arranged, MembersLocated}

-- ---- the first i members are located
pub record Locating (n : ℕ) (bounds es ms bodies positions₀ table : List ℕ) (i : ℕ) : Type 0 where
  pub inside : i ≤ length ms
  pub size : length table ≡ length positions₀
  pub done : (r : ℕ) → mem r (take i ms) ≡ true → part_at bounds table r ≡ map (λ b. place b bodies) (part_at bounds es r)
  pub kept : (r : ℕ) → r < n → mem r (take i ms) ≡ false → part_at bounds table r ≡ part_at bounds positions₀ r

pub locating_done : {n : ℕ} {bounds es ms bodies positions₀ table : List ℕ} {i : ℕ} → Locating n bounds es ms bodies positions₀ table i → length ms ≤ i → MembersLocated n bounds es ms bodies positions₀ table
locating_done {ms} {i} v h =
    let e : take i ms ≡ ms = take_all i ms h in
    record { done = rw e at v.done; kept = rw e at v.kept }

-- the members ms are below n
module _ {n : ℕ} {bounds es positions₀ : List ℕ} (bounded : Bounded n bounds es) (w : Arranged n bounds es positions₀) (ms : List ℕ) (below : all (λ r. ltb r n) ms ≡ true) where
  low_of : (r : ℕ) → mem r ms ≡ true → r < n
  low_of r m = ltb-true r n (all_in (λ r. ltb r n) r ms m below)

  -- member i
  module _ (i : ℕ) (h : i < length ms) where
    low : get_or ms i 0 < n
    low = member_low n ms i h below

    pub member_all : (p : ℕ → Bool) (bs : List ℕ) → bs ≡ part_at bounds es (get_or ms i 0) → all p (join_map (part_at bounds es) ms) ≡ true → all p bs ≡ true
    member_all p bs b a = rw b (all_in (λ r. all p (part_at bounds es r)) (get_or ms i 0) ms (get_or-mem ms i h) (sym (all-join_map p (part_at bounds es) ms) ∙ a))

    -- its endpoints bs, and their start
    module _ {bodies table bs : List ℕ} {start : ℕ} (v : Locating n bounds es ms bodies positions₀ table i) (b : bs ≡ part_at bounds es (get_or ms i 0)) (s : start ≡ start_at bounds (get_or ms i 0)) where
      pub end_inside : start + length bs ≤ length table
      end_inside = omega (arith, s, ap length b, part_inside bounded w.gapless (get_or ms i 0) low, w.room, v.size)

      pub places-many : length (take (start + length bs - start) (drop start table)) ≡ length bs
      places-many = omega (arith, end_inside, length-take-le (start + length bs - start) (drop start table) (omega (arith, end_inside, length-drop start table)))

      pub locating_more : (ps : List ℕ) → ps ≡ map (λ b. place b bodies) bs → Locating n bounds es ms bodies positions₀ (written start (start + length bs) table ps) (i + 1)
      locating_more ps e =
          let q = get_or ms i 0 in
          let g : ℕ → ℕ = λ b. place b bodies in
          let more : (r : ℕ) → mem r (take (i + 1) ms) ≡ (mem r (take i ms) || eqb r q) = λ r. any_next (eqb r) ms i h in
          let long : length ps ≡ length (part_at bounds es q) = ap length e ∙ length-map bs g ∙ ap length b in
          let room : length table ≡ length es = v.size ∙ w.room in
          let same : written start (start + length bs) table ps ≡ written (start_at bounds q) (start_at bounds q + length (part_at bounds es q)) table ps = rw (b, s) in
          record {
            inside = omega arith;
            size = written_long start (start + length bs) table ps (omega arith) end_inside (omega (arith, long, ap length b)) ∙ v.size;
            done = λ r m.
                ap (λ (t : List ℕ). part_at bounds t r) same
                ∙ by_cases (eqb r q)
                (λ c. let k : r ≡ q = eqb-true r q c in rw k (part-written bounded w.gapless table ps q low room long ∙ e ∙ ap (map g) b))
                (λ c.
                let before : mem r (take i ms) ≡ true = or_cases (mem r (take i ms)) (eqb r q) (sym (more r) ∙ m) (λ o. o) (λ o. clashes (eqb r q) o c) in
                part_kept bounded w.gapless table ps q low room long r (low_of r (any-first (eqb r) i ms before)) (eqb-false r q c) ∙ v.done r before);
            kept = λ r k m.
                let o : (mem r (take i ms) || eqb r q) ≡ false = sym (more r) ∙ m in
                let c : eqb r q ≡ false = not-true-false (eqb r q) (λ t. clashes (mem r (take i ms) || eqb r q) (or_right (mem r (take i ms)) (eqb r q) t) o) in
                let a : mem r (take i ms) ≡ false = not-true-false (mem r (take i ms)) (λ t. clashes (mem r (take i ms) || eqb r q) (or_left (mem r (take i ms)) (eqb r q) t) o) in
                ap (λ (t : List ℕ). part_at bounds t r) same
                ∙ part_kept bounded w.gapless table ps q low room long r k (eqb-false r q c)
                ∙ v.kept r k a;
          }
