-- The walks one after another, a color each: before the walk for color k the constraints that are promised a lower color have it, and stand
-- in their groups.
use Rattle.std.proofs.Common.{ℕ, zero, suc, ◌+◌, ◌-◌, ◌≤◌, ◌<◌, ◌≡◌, refl, sym, ap, ◌∙◌, List, [], ◌∷◌, ◌++◌, add-one, arith, leb, ltb, eqb, length, get_or, set, take, drop, replicate, take-append-drop, length-set, ext_get_or, take_all, take-suc-set, drop_at, drop-drop, drop-set-lt, length-take-le, eqb-true, ltb-true, ltb-false, lt-ltb, le-leb}
use Rattle.std.proofs.Math.Bool.{and-false}
use Rattle.std.proofs.Math.ListN.{length-replicate, get_or-replicate}
use Rattle.std.proofs.Math.Seq.{take-nil}
use Rattle.std.proofs.lemmas.Bool.{eqb-false}
use Rattle.lists.specs.Basics.{range, mem, place}
use Rattle.lists.proofs.Laws.{clashes, by_cases, get_or-mem, max_in, all_intro, place-lt, place_get}
use Rattle.lists.proofs.Ranges.{map-range-suc}
use Rattle.lists.proofs.Sums.{filter-all}
use Rattle.groups.specs.Groups.{colors_of, group_count, members, flatten, offsets}
use Rattle.groups.proofs.Colors.{colors-length, groups_below, groups_few}
use Rattle.groups.proofs.Tables.{flatten-suc, length-offsets}
use Rattle.groups.proofs.Members.{member_is, member_at}
use Rattle.coloring.specs.Coloring.{promised, uncolored, touched, Ready, Colored, Opened, Walked}
use Rattle.coloring.specs.Steps.{Closable, Closed}
use Rattle.coloring.proofs.Promised.{listed_in, in_listed}
use Rattle.coloring.proofs.Passing.{many}

module _ (flags : List ℕ) (cs : List (List ℕ)) where
  -- before the first walk every constraint is uncolored
  uncolored-all : uncolored flags cs 0 ≡ range (length cs)
  unfolding uncolored
  uncolored-all = filter-all (λ r. leb 0 (promised flags cs r)) (range (length cs)) (all_intro (λ r. leb 0 (promised flags cs r)) (range (length cs)) (λ r m. le-leb 0 (promised flags cs r) (omega arith)))

  -- a color is opened only if a constraint is promised it or a higher one
  opened_few : (k : ℕ) → 0 < length (uncolored flags cs k) → k < group_count (colors_of flags cs)
  unfolding group_count
  opened_few k h =
      let o = listed_in flags cs k (get_or (uncolored flags cs k) 0 0) (get_or-mem (uncolored flags cs k) 0 h) in
      omega (arith, o.1, max_in suc (promised flags cs (get_or (uncolored flags cs k) 0 0)) (colors_of flags cs) (get_or-mem (colors_of flags cs) (get_or (uncolored flags cs k) 0 0) (omega (arith, o.0, colors-length flags cs))))

  -- where none is left every color is below k
  none_left : (k r : ℕ) → uncolored flags cs k ≡ [] → r < length cs → promised flags cs r < k
  none_left k r e h = by_cases (ltb (promised flags cs r) k)
      (λ l. ltb-true (promised flags cs r) k l)
      (λ l. clashes (mem r []) (rw e at (in_listed flags cs k r h (ltb-false (promised flags cs r) k l))) refl)

  count_low : (k : ℕ) → ((r : ℕ) → r < length cs → promised flags cs r < k) → group_count (colors_of flags cs) ≤ k
  count_low k h =
      let colors = colors_of flags cs in
      groups_below k colors (all_intro (λ c. ltb c k) colors
      (λ c m. lt-ltb c k (omega (arith, place_get c colors m, h (place c colors) (omega (arith, place-lt c colors m, colors-length flags cs))))))

-- ---- tables
drop-take : (s n : ℕ) (xs : List ℕ) → drop s (take n xs) ≡ take (n - s) (drop s xs)
drop-take zero n xs = let e : n - 0 ≡ n = omega arith in rw e
drop-take (suc s) zero xs = let e : 0 - suc s ≡ 0 = omega arith in rw e
drop-take (suc s) (suc n) [] = sym (take-nil (suc n - suc s))
drop-take (suc s) (suc n) (x ∷ xs) = let e : suc n - suc s ≡ n - s = omega arith in rw e (drop-take s n xs)

-- the part behind what stands in front
part_behind : (n s : ℕ) (xs ys zs : List ℕ) → take n xs ≡ ys ++ zs → length ys ≡ s → take (n - s) (drop s xs) ≡ zs
part_behind n s xs ys zs e l = sym (drop-take s n xs) ∙ ap (drop s) e ∙ drop_at ys zs s l

-- the walks for the colors below k are made, of n constraints
pub record Walks (flags : List ℕ) (cs : List (List ℕ)) (n k count : ℕ) (starts₀ remaining colors starts colored busy : List ℕ) : Type 0 where
  pub all : length cs ≡ n
  pub opened : Opened flags cs k (n - count) count remaining colored busy
  pub sized : length colors ≡ length cs
  pub starts_length : length starts ≡ length cs + 1
  pub few : k ≤ group_count (colors_of flags cs)
  pub given : (r : ℕ) → r < length cs → promised flags cs r < k → get_or colors r 0 ≡ promised flags cs r
  pub started : take (k + 1) starts ≡ offsets (members (colors_of flags cs)) k
  pub beyond : drop (k + 1) starts ≡ drop (k + 1) starts₀

pub walks_none : {flags : List ℕ} {cs : List (List ℕ)} {remaining colors starts colored busy₀ : List ℕ} → Ready flags cs remaining colors starts colored busy₀
    → (n : ℕ) (remaining' busy : List ℕ) → length remaining' ≡ length remaining → take (length colors) remaining' ≡ range (length colors) → length busy ≡ length busy₀ → busy ≡ replicate n 0
    → Walks flags cs (length colors) 0 (length colors) (set starts 0 0) remaining' colors (set starts 0 0) colored busy
unfolding offsets flatten
walks_none {flags} {cs} {remaining} {colors} {starts} {colored} {busy₀} z n remaining' busy lr e lb s =
    record {
      all = sym z.sized;
      opened = record {
        few = omega (arith, z.sized, z.few);
        bodies = z.bodies;
        room = omega (arith, z.sized, z.room);
        members_length = z.members_length ∙ z.sized;
        busy_length = lb ∙ z.busy_length;
        counted = omega (arith, z.sized);
        listed = e ∙ rw z.sized (sym (uncolored-all flags cs));
        grouped = ap (λ (n : ℕ). take n colored) none;
        idle = λ b l. ap (λ (t : List ℕ). get_or t b 0) s ∙ get_or-replicate {A = ℕ} n b 0 0 (omega (arith, lb, z.busy_length, ap length s, length-replicate {A = ℕ} n 0));
      };
      sized = z.sized;
      starts_length = length-set starts 0 0 ∙ z.starts_length ∙ ap (λ (n : ℕ). n + 1) z.sized;
      few = omega arith;
      given = λ r l h. absurd (omega arith);
      started = take-suc-set starts 0 0 (omega (arith, z.starts_length));
      beyond = refl;
    }
  where
    none : length colors - length colors ≡ 0
    none = omega arith

module _ {flags : List ℕ} {cs : List (List ℕ)} {n k count : ℕ} {starts₀ remaining colors starts colored busy : List ℕ} (w : Walks flags cs n k count starts₀ remaining colors starts colored busy) where
  pub walks_few : (count ≡ 0 → ⊥) → k < group_count (colors_of flags cs)
  walks_few h = opened_few flags cs k (omega (arith, many w.opened))

  -- a color that is opened is below the number of constraints
  pub color_small : (count ≡ 0 → ⊥) → k < length cs
  color_small h = omega (arith, walks_few h, groups_few flags cs)

  module _ {remaining' colored' busy' : List ℕ} {left : ℕ} (d : Walked flags cs k (n - count) count left remaining' colored' busy') (lc : length colored' ≡ length colored) (lb : length busy' ≡ length busy) where
    abbrev start : ℕ
    start = n - count

    abbrev end : ℕ
    end = n - left

    abbrev g : ℕ → List ℕ
    g = members (colors_of flags cs)

    grouped : take end colored' ≡ flatten g (suc k)
    grouped = let e : start + (count - left) ≡ end = omega (arith, w.all, w.opened.counted, d.counted) in rw (sym e) d.grouped

    end_is : length (flatten g (suc k)) ≡ end
    end_is = sym (ap length grouped) ∙ length-take-le end colored' (omega (arith, w.all, lc, w.opened.members_length))

    -- the members of the color
    pub part-members : take (end - start) (drop start colored') ≡ g k
    part-members = part_behind end start colored' (flatten g k) (g k) (grouped ∙ flatten-suc g k) (sym (ap length w.opened.grouped) ∙ length-take-le start colored (omega (arith, w.all, w.opened.members_length, w.opened.counted)))

    pub closable : (count ≡ 0 → ⊥) → Closable cs k (take (end - start) (drop start colored')) colors busy'
    closable h =
        rw part-members
        (record {
          few = omega (arith, w.sized, w.opened.few);
          color_few = omega (arith, color_small h, w.opened.few);
          inside = all_intro (λ r. ltb r (length colors)) (g k) (λ r m. lt-ltb r (length colors) (omega (arith, w.sized, colors-length flags cs, (member_is (colors_of flags cs) k r m).0)));
          bodies = rw (lb, w.opened.busy_length) w.opened.bodies;
        })

    pub walks_more : {colors'' busy'' : List ℕ} → (count ≡ 0 → ⊥) → length remaining' ≡ length remaining → length colors'' ≡ length colors → length busy'' ≡ length busy'
        → Closed cs k (take (end - start) (drop start colored')) colors busy' colors'' busy'' → Walks flags cs n (k + 1) left starts₀ remaining' colors'' (set starts (k + 1) end) colored' busy''
    unfolding offsets
    walks_more {colors''} {busy''} h lr lk lf c =
        record {
          all = w.all;
          opened = record {
            few = w.opened.few;
            bodies = w.opened.bodies;
            room = omega (arith, lr, w.opened.room);
            members_length = lc ∙ w.opened.members_length;
            busy_length = lf ∙ lb ∙ w.opened.busy_length;
            counted = omega (arith, w.all, d.counted, w.opened.counted);
            listed = d.left_are;
            grouped = rw (add-one k) grouped;
            idle = idle;
          };
          sized = lk ∙ w.sized;
          starts_length = length-set starts (k + 1) end ∙ w.starts_length;
          few = omega (arith, walks_few h);
          given = given;
          started = started;
          beyond = beyond;
        }
      where
        closed : Closed cs k (g k) colors busy' colors'' busy''
        closed = rw part-members at c

        idle : (b : ℕ) → b < length flags → get_or busy'' b 0 ≡ 0
        idle b l = by_cases (touched cs (g k) b)
            (λ t. closed.idle b (omega (arith, lb, w.opened.busy_length)) ∙ rw t)
            (λ t. closed.idle b (omega (arith, lb, w.opened.busy_length)) ∙ rw t (d.busy_are b l ∙ rw (t, and-false)))

        given : (r : ℕ) → r < length cs → promised flags cs r < k + 1 → get_or colors'' r 0 ≡ promised flags cs r
        given r l m = closed.given r (omega (arith, w.sized)) ∙ rw (member_at (colors_of flags cs) k r (omega (arith, colors-length flags cs))) (by_cases (eqb k (promised flags cs r))
            (λ e. rw e (eqb-true k (promised flags cs r) e))
            (λ e. rw e (w.given r l (omega (arith, eqb-false k (promised flags cs r) e)))))

        started : take (k + 1 + 1) (set starts (k + 1) end) ≡ offsets g (k + 1)
        started =
            let a : take (suc (k + 1)) (set starts (k + 1) end) ≡ take (k + 1) starts ++ end ∷ [] = take-suc-set starts (k + 1) end (omega (arith, w.starts_length, color_small h)) in
            let b : offsets g (suc k) ≡ offsets g k ++ end ∷ [] = map-range-suc (λ j. length (flatten g j)) (suc k) ∙ rw end_is in
            ap (λ (m : ℕ). take m (set starts (k + 1) end)) (add-one (k + 1)) ∙ a ∙ ap (λ (t : List ℕ). t ++ end ∷ []) w.started ∙ sym b ∙ ap (offsets g) (sym (add-one k))

        beyond : drop (k + 1 + 1) (set starts (k + 1) end) ≡ drop (k + 1 + 1) starts₀
        beyond = drop-set-lt (k + 1 + 1) starts (k + 1) end (omega arith) ∙ sym (drop-drop 1 (k + 1) starts) ∙ ap (drop 1) w.beyond ∙ drop-drop 1 (k + 1) starts₀

  module _ (h : count ≡ 0) where
    below : (r : ℕ) → r < length cs → promised flags cs r < k
    below r l = none_left flags cs k r (sym w.opened.listed ∙ ap (λ (n : ℕ). take n remaining) h) l

    pub walks_done : (t : List ℕ) → starts₀ ≡ set t 0 0 → Colored flags cs t colors starts colored busy k
    walks_done t e =
        record {
          colors_are = ext_get_or 0 colors (colors_of flags cs) (w.sized ∙ sym (colors-length flags cs)) (λ r l. let m : r < length cs = omega (arith, w.sized) in w.given r m (below r m));
          count_is = omega (arith, w.few, count_low flags cs k below);
          starts_are = sym (take-append-drop (k + 1) starts) ∙ rw (w.started, w.beyond, e, drop-set-lt (k + 1) t 0 0 (omega arith), length-offsets (members (colors_of flags cs)) k, add-one k);
          members_are = sym (take_all (n - count) colored (omega (arith, w.all, w.opened.members_length))) ∙ w.opened.grouped;
          idle = w.opened.idle;
        }
