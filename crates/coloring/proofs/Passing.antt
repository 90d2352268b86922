-- A walk for color k, constraint by constraint: what stands in the tables when i of the uncolored constraints are passed. Constraints are
-- lists of bodies, of whatever length.
use Rattle.std.proofs.Common.{ℕ, ◌+◌, ◌-◌, ◌≤◌, ◌<◌, ◌≡◌, refl, sym, ap, ◌∙◌, Bool, true, false, not, ◌&&◌, ◌||◌, cond, List, [], ◌∷◌, ◌++◌, append-nil, append_assoc, add-one, arith, leb, ltb, eqb, length, get_or, take, set, length-set, take-suc, take_all, take-suc-set, get_or-take, get_or-set_other, length-take-le, eqb-true, eq-eqb, ne_eqb, ltb-true, ltb-false, le-leb}
use Rattle.std.proofs.Math.Bool.{and-false, or-false}
use Rattle.std.proofs.Math.Seq.{take-set-le}
use Rattle.lists.specs.Basics.{one, any, all, filter, range, mem}
use Rattle.lists.proofs.Laws.{by_cases, all_in, get_or-mem, all-get_or, cond-or}
use Rattle.lists.proofs.Ranges.{filter-append}
use Rattle.lists.proofs.Scans.{any_next, any_ext_in, filter-filter}
use Rattle.groups.specs.Groups.{flagged, colors_of, members}
use Rattle.groups.proofs.Colors.{colors-length}
use Rattle.groups.proofs.Tables.{flatten-suc}
use Rattle.coloring.specs.Coloring.{promised, uncolored, touched, Opened, Walked}
use Rattle.coloring.specs.Steps.{MadeBusy}
use Rattle.lists.proofs.Bits.{one-true}
use Rattle.coloring.proofs.Promised.{busy, listed_in, busy_higher}

-- is one of the bodies busy?
abbrev pub barred : List ℕ → List ℕ → Bool
barred busy bs = any (λ b. eqb (get_or busy b 0) 1) bs

-- the first i of the uncolored constraints
abbrev pub first_of : List ℕ → List (List ℕ) → ℕ → ℕ → List ℕ
first_of flags cs k i = take i (uncolored flags cs k)

-- they are passed: `left` of them stay uncolored, and the others are listed up to place `end`
pub record Passed (flags : List ℕ) (cs : List (List ℕ)) (k start : ℕ) (remaining₀ colored₀ remaining colored busies : List ℕ) (left end i : ℕ) : Type 0 where
  pub remaining_length : length remaining ≡ length remaining₀
  pub members_length : length colored ≡ length colored₀
  pub busy_length : length busies ≡ length flags
  pub order : left ≤ i
  pub ended : end + left ≡ start + i
  pub rest : (j : ℕ) → i ≤ j → get_or remaining j 0 ≡ get_or remaining₀ j 0
  pub kept : take left remaining ≡ filter (λ r. ltb k (promised flags cs r)) (first_of flags cs k i)
  pub grown : take end colored ≡ take start colored₀ ++ filter (λ r. eqb k (promised flags cs r)) (first_of flags cs k i)
  pub busy_are : (b : ℕ) → b < length flags → get_or busies b 0 ≡ one (busy flags cs k (first_of flags cs k i) b)

any-filter : (p q : ℕ → Bool) (xs : List ℕ) → any p (filter q xs) ≡ any (λ x. q x && p x) xs
any-filter p q [] = refl
any-filter p q (x ∷ xs) = by_cases (q x)
    (λ e. rw e (ap (λ (t : Bool). p x || t) (any-filter p q xs)))
    (λ e. rw e (any-filter p q xs))

module _ {flags : List ℕ} {cs : List (List ℕ)} {k start count : ℕ} {remaining₀ colored₀ busy₀ : List ℕ} (o : Opened flags cs k start count remaining₀ colored₀ busy₀) where
  pub many : length (uncolored flags cs k) ≡ count
  many = sym (ap length o.listed) ∙ length-take-le count remaining₀ (omega (arith, o.room, o.counted))

  module _ {remaining colored busies : List ℕ} {left end i : ℕ} (v : Passed flags cs k start remaining₀ colored₀ remaining colored busies left end i) where
    -- the next constraint
    abbrev next : ℕ
    next = get_or remaining i 0

    -- each entry is a bit
    pub bits : (b : ℕ) → b < length flags → get_or busies b 0 ≡ one (eqb (get_or busies b 0) 1)
    bits b l = rw (v.busy_are b l) (ap one (sym (one-true (busy flags cs k (first_of flags cs k i) b))))

    module _ (l : i < count) where
      next_is : next ≡ get_or (uncolored flags cs k) i 0
      next_is = v.rest i (omega arith) ∙ sym (get_or-take count remaining₀ i 0 l) ∙ ap (λ (t : List ℕ). get_or t i 0) o.listed

      next_listed : (next < length cs) × (k ≤ promised flags cs next)
      next_listed = rw next_is (listed_in flags cs k (get_or (uncolored flags cs k) i 0) (get_or-mem (uncolored flags cs k) i (omega (arith, many))))

      pub next_in : next < length colored₀
      next_in = omega (arith, next_listed.0, o.members_length)

      -- there is a place for it in the list of its group
      end_in : end < length colored
      end_in = omega (arith, v.ended, v.order, v.members_length, o.members_length, o.counted)

      bodies_exist : all (λ b. ltb b (length flags)) (get_or cs next []) ≡ true
      bodies_exist = all-get_or (λ bs. all (λ b. ltb b (length flags)) bs) [] cs next refl o.bodies

      pub next-bodies : (bs : List ℕ) → bs ≡ get_or cs next [] → all (λ b. ltb b (length flags)) bs ≡ true
      next-bodies bs e = ap (all (λ b. ltb b (length flags))) e ∙ bodies_exist

      -- the color does not fit exactly the constraints that are promised a higher one
      barred_higher : barred busies (get_or cs next []) ≡ ltb k (promised flags cs next)
      barred_higher =
          any_ext_in (λ b. eqb (get_or busies b 0) 1) (busy flags cs k (first_of flags cs k i)) (get_or cs next [])
          (λ b m. rw (v.busy_are b (ltb-true b (length flags) (all_in (λ b. ltb b (length flags)) b (get_or cs next []) m bodies_exist))) (one-true (busy flags cs k (first_of flags cs k i) b)))
          ∙ rw next_is (busy_higher flags cs k i (omega (arith, many)))

      own-not : eqb k (promised flags cs next) ≡ not (ltb k (promised flags cs next))
      own-not = by_cases (ltb k (promised flags cs next))
          (λ e. rw (e, ne_eqb k (promised flags cs next) (λ q. omega (arith, ltb-true k (promised flags cs next) e))))
          (λ e. rw (e, eq-eqb k (promised flags cs next) (omega (arith, ltb-false k (promised flags cs next) e, next_listed.1))))

      first_next : first_of flags cs k (i + 1) ≡ first_of flags cs k i ++ next ∷ []
      first_next = rw (add-one, next_is) (take-suc (uncolored flags cs k) i 0 (omega (arith, many)))

      filter-next : (p : ℕ → Bool) → filter p (first_of flags cs k (i + 1)) ≡ filter p (first_of flags cs k i) ++ cond (p next) (next ∷ []) []
      filter-next p = rw first_next (filter-append p (first_of flags cs k i) (next ∷ []))

      busy-next : (b : ℕ) → busy flags cs k (first_of flags cs k (i + 1)) b
          ≡ (busy flags cs k (first_of flags cs k i) b || (flagged flags b && (eqb k (promised flags cs next) && mem b (get_or cs next []))))
      busy-next b = by_cases (flagged flags b)
          (λ f. rw (f, next_is) (any_next (λ s. eqb k (promised flags cs s) && mem b (get_or cs s [])) (uncolored flags cs k) i (omega (arith, many))))
          (λ f. rw f)

      -- it stays uncolored; the place after its group's list may have been written, and its bodies stay as they are
      pub walk_left : (bs : List ℕ) {colored' busies' : List ℕ} → bs ≡ get_or cs next [] → barred busies bs ≡ true
          → length colored' ≡ length colored → take end colored' ≡ take end colored
          → length busies' ≡ length busies → ((b : ℕ) → b < length flags → get_or busies' b 0 ≡ get_or busies b 0)
          → Passed flags cs k start remaining₀ colored₀ (set remaining left next) colored' busies' (left + 1) end (i + 1)
      walk_left bs e h lc tc lb sb =
          record {
            remaining_length = length-set remaining left next ∙ v.remaining_length;
            members_length = lc ∙ v.members_length;
            busy_length = lb ∙ v.busy_length;
            order = omega (arith, v.order);
            ended = omega (arith, v.ended);
            rest = λ j m. get_or-set_other remaining left j next 0 (λ e. omega (arith, v.order)) ∙ v.rest j (omega arith);
            kept = appended ∙ rw v.kept (sym (filter-next (λ r. ltb k (promised flags cs r)) ∙ rw higher));
            grown = tc ∙ v.grown ∙ ap (λ (t : List ℕ). take start colored₀ ++ t) (sym others);
            busy_are = λ b m. let q : busy flags cs k (first_of flags cs k (i + 1)) b ≡ busy flags cs k (first_of flags cs k i) b = busy-next b ∙ rw (own-not, higher, and-false, or-false) in
                sb b m ∙ v.busy_are b m ∙ ap one (sym q);
          }
        where
          higher : ltb k (promised flags cs next) ≡ true
          higher = sym barred_higher ∙ ap (barred busies) (sym e) ∙ h

          others : filter (λ r. eqb k (promised flags cs r)) (first_of flags cs k (i + 1)) ≡ filter (λ r. eqb k (promised flags cs r)) (first_of flags cs k i)
          others = filter-next (λ r. eqb k (promised flags cs r)) ∙ rw (own-not, higher, append-nil)

          appended : take (left + 1) (set remaining left next) ≡ take left remaining ++ next ∷ []
          appended = rw add-one (take-suc-set remaining left next (omega (arith, v.order, v.remaining_length, o.counted, o.room)))

      -- it is listed
      pub walk_given : (bs : List ℕ) {busies' : List ℕ} → bs ≡ get_or cs next [] → barred busies bs ≡ false → length busies' ≡ length busies → MadeBusy flags 1 bs busies busies'
          → Passed flags cs k start remaining₀ colored₀ (set remaining left next) (set colored end next) busies' left (end + 1) (i + 1)
      walk_given bs {busies'} e h same d =
          record {
            remaining_length = length-set remaining left next ∙ v.remaining_length;
            members_length = length-set colored end next ∙ v.members_length;
            busy_length = same ∙ v.busy_length;
            order = omega (arith, v.order);
            ended = omega (arith, v.ended);
            rest = λ j m. get_or-set_other remaining left j next 0 (λ e. omega (arith, v.order)) ∙ v.rest j (omega arith);
            kept = take-set-le left remaining left next (omega arith) ∙ v.kept ∙ sym (filter-next (λ r. ltb k (promised flags cs r)) ∙ rw (lower, append-nil));
            grown = appended ∙ rw v.grown (append_assoc (take start colored₀) (filter (λ r. eqb k (promised flags cs r)) (first_of flags cs k i)) (next ∷ []) ∙ ap (λ (t : List ℕ). take start colored₀ ++ t) (sym own));
            busy_are = λ b m. let q : busy flags cs k (first_of flags cs k (i + 1)) b ≡ (busy flags cs k (first_of flags cs k i) b || (flagged flags b && mem b (get_or cs next []))) = busy-next b ∙ rw (own-not, lower) in
                d b (omega (arith, v.busy_length)) ∙ rw (v.busy_are b m, e) (cond-or (busy flags cs k (first_of flags cs k i) b) (flagged flags b && mem b (get_or cs next [])) 1 0 ∙ ap one (sym q));
          }
        where
          lower : ltb k (promised flags cs next) ≡ false
          lower = sym barred_higher ∙ ap (barred busies) (sym e) ∙ h

          own : filter (λ r. eqb k (promised flags cs r)) (first_of flags cs k (i + 1)) ≡ filter (λ r. eqb k (promised flags cs r)) (first_of flags cs k i) ++ next ∷ []
          own = filter-next (λ r. eqb k (promised flags cs r)) ∙ rw (own-not, lower)

          appended : take (end + 1) (set colored end next) ≡ take end colored ++ next ∷ []
          appended = rw add-one (take-suc-set colored end next end_in)

      -- it is passed without a branch: one of both
      pub walk_passed : (bs : List ℕ) {busies' : List ℕ} (bit fits : ℕ) → bs ≡ get_or cs next [] → bit ≡ one (barred busies bs) → fits ≡ 1 - bit → length busies' ≡ length busies → MadeBusy flags fits bs busies busies'
          → Passed flags cs k start remaining₀ colored₀ (set remaining left next) (set colored end next) busies' (left + bit) (end + fits) (i + 1)
      walk_passed bs {busies'} bit fits e q f same d = by_cases (barred busies bs)
          (λ h.
          let b1 : bit ≡ 1 = q ∙ ap one h in
          let f0 : fits ≡ 0 = omega arith in
          let e0 : end + 0 ≡ end = omega arith in
          rw (b1, f0, e0) (walk_left bs e h (length-set colored end next) (take-set-le end colored end next (omega arith)) same (λ b m. rw f0 at (d b (omega (arith, v.busy_length))))))
          (λ h.
          let b0 : bit ≡ 0 = q ∙ ap one h in
          let f1 : fits ≡ 1 = omega arith in
          let e0 : left + 0 ≡ left = omega arith in
          rw (b0, f1, e0) (walk_given bs e h same (rw f1 at d)))

    -- all are passed
    pub walk_ends : count ≤ i → i ≤ count → Walked flags cs k start count left remaining colored busies
    unfolding uncolored members
    walk_ends l m =
        record {
          counted = omega (arith, v.order);
          left_are = v.kept ∙ rw (all_first, add-one)
              (filter-filter (λ r. leb k (promised flags cs r)) (λ r. ltb k (promised flags cs r)) (range (length cs))
              (λ r h. le-leb k (promised flags cs r) (omega (arith, ltb-true k (promised flags cs r) h))));
          grouped = ap (λ (n : ℕ). take n colored) end_is ∙ v.grown ∙ rw (o.grouped, all_first, own) (sym (flatten-suc (members (colors_of flags cs)) k));
          busy_are = λ b h. v.busy_are b h ∙ rw (all_first, on_group b);
        }
      where
        all_first : first_of flags cs k i ≡ uncolored flags cs k
        all_first = take_all i (uncolored flags cs k) (omega (arith, many))

        end_is : start + (count - left) ≡ end
        end_is = omega (arith, v.ended, v.order)

        own : filter (λ r. eqb k (promised flags cs r)) (uncolored flags cs k) ≡ members (colors_of flags cs) k
        own =
            filter-filter (λ r. leb k (promised flags cs r)) (λ r. eqb k (promised flags cs r)) (range (length cs))
            (λ r h. le-leb k (promised flags cs r) (omega (arith, eqb-true k (promised flags cs r) h)))
            ∙ ap (λ (n : ℕ). filter (λ r. eqb k (promised flags cs r)) (range n)) (sym (colors-length flags cs))

        on_group : (b : ℕ) → any (λ s. eqb k (promised flags cs s) && mem b (get_or cs s [])) (uncolored flags cs k) ≡ touched cs (members (colors_of flags cs) k) b
        on_group b = rw (sym own) (sym (any-filter (λ r. mem b (get_or cs r [])) (λ r. eqb k (promised flags cs r)) (uncolored flags cs k)))
