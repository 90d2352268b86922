-- All groups. The endpoints of the groups before k are at most those of all constraints, and a group has at most as many bodies as
-- endpoints, so the bodies of the groups fit the table; the part of group k starts where the bodies of the groups before it end.
use Rattle.std.proofs.Common.{ℕ, zero, suc, ◌+◌, ◌*◌, ◌≤◌, ◌<◌, ◌≡◌, refl, sym, ap, ◌∙◌, Bool, true, false, List, [], ◌∷◌, ◌++◌, arith, add-one, eqb, ltb, length, get_or, set, take, drop, length-append, length-set, take_at, take-suc-set, drop-drop, eqb-true, lt-ltb, le-ltb, ltb-true, ltb-false}
use Rattle.std.proofs.Math.ListN.{get_or-eq_default}
use Rattle.std.proofs.Math.Seq.{drop-append-add}
use Rattle.std.proofs.lemmas.Bool.{eqb-false}
use Rattle.lists.specs.Basics.{one, all, sum_of, range, mem, over, join_map}
use Rattle.lists.proofs.Sums.{sum_le, sum_ext, sum_add, sum_filter, sum_get_or}
use Rattle.lists.proofs.Laws.{by_cases, all_intro, all-get_or}
use Rattle.lists.proofs.Ranges.{length-join_map, map-range-suc, join_map_ext_in, all-join_map}
use Rattle.parts.specs.Parts.{cut, Cut}
use Rattle.groups.specs.Groups.{members, group_bodies, flatten, offsets}
use Rattle.groups.proofs.Tables.{flatten-zero, flatten-suc, start-suc}
use Rattle.groups.proofs.Members.{member_is}
use Rattle.gathering.specs.Gathers.{among, Fresh, Listed, Gatherable}
use Rattle.parts.proofs.Groups.{begins_listed, group_cut, group_is}
use Rattle.gathering.proofs.Ends.{group_bodies_lem, among-few}

-- ---- the endpoints of the groups before k
split : (c k w : ℕ) → one (ltb c (suc k)) * w ≡ one (ltb c k) * w + one (eqb k c) * w
split c k w =
    by_cases (eqb k c)
    (λ e. let q : k ≡ c = eqb-true k c e in rw (e, lt-ltb c (suc k) (omega arith), le-ltb c k (omega arith)) (omega arith))
    (λ e. let q : k ≡ c → ⊥ = eqb-false k c e in
    by_cases (ltb c k)
    (λ l. rw (e, l, lt-ltb c (suc k) (omega (arith, ltb-true c k l))) (omega arith))
    (λ l. rw (e, l, le-ltb c (suc k) (omega (arith, ltb-false c k l, q))) (omega arith)))

part_of_all : (b : Bool) (w : ℕ) → one b * w ≤ w
part_of_all true w = omega arith
part_of_all false w = omega arith

module _ (cs : List (List ℕ)) (colors : List ℕ) where
  abbrev before : ℕ → ℕ
  before k = sum_of (λ r. one (ltb (get_or colors r 0) k) * length (get_or cs r [])) (range (length colors))

  before-suc : (k : ℕ) → before (suc k) ≡ before k + length (join_map (λ r. get_or cs r []) (members colors k))
  unfolding members
  before-suc k =
      let w : ℕ → ℕ = λ r. length (get_or cs r []) in
      let rs = range (length colors) in
      sum_ext (λ r. one (ltb (get_or colors r 0) (suc k)) * w r) (λ r. one (ltb (get_or colors r 0) k) * w r + one (eqb k (get_or colors r 0)) * w r) rs (λ r. split (get_or colors r 0) k (w r))
      ∙ sum_add (λ r. one (ltb (get_or colors r 0) k) * w r) (λ r. one (eqb k (get_or colors r 0)) * w r) rs
      ∙ ap (λ (n : ℕ). before k + n) (sym (length-join_map (λ r. get_or cs r []) (members colors k) ∙ sum_filter w (λ r. eqb k (get_or colors r 0)) rs))

  before-few : length cs ≡ length colors → (k : ℕ) → before k ≤ sum_of length cs
  before-few e k =
      let w : ℕ → ℕ = λ r. length (get_or cs r []) in
      omega (arith, sum_le (λ r. one (ltb (get_or colors r 0) k) * w r) w (range (length colors)) (λ r. part_of_all (ltb (get_or colors r 0) k) (w r)), rw e at (sum_get_or length [] cs))

  starts-few : (nb k : ℕ) → length (flatten (group_bodies nb cs colors) k) ≤ before k
  starts-few nb zero = omega (arith, ap length (flatten-zero (group_bodies nb cs colors)))
  starts-few nb (suc k) =
      omega (
        arith,
        start-suc (group_bodies nb cs colors) k,
        starts-few nb k,
        before-suc k,
        ap length (group_bodies_lem nb cs colors k),
        among-few nb (join_map (λ r. get_or cs r []) (members colors k)),
      )

-- ---- the groups before `color` are listed
pub record Gathering (nb : ℕ) (cs : List (List ℕ)) (colors : List ℕ) (n : ℕ) (scratch₀ starts₀ bodies₀ st scratch starts bodies : List ℕ) (end color : ℕ) : Type 0 where
  pub inside : color ≤ n
  pub st_size : length st ≡ nb
  pub scratch_size : length scratch ≡ length scratch₀
  pub starts_size : length starts ≡ length starts₀
  pub bodies_size : length bodies ≡ length bodies₀
  pub low : (b : ℕ) → get_or st b 0 ≤ color
  pub counted : end ≡ length (flatten (group_bodies nb cs colors) color)
  pub listed : bodies ≡ over (flatten (group_bodies nb cs colors) color) bodies₀
  pub started : take (color + 1) starts ≡ offsets (group_bodies nb cs colors) color

module _ {nb n : ℕ} {cs : List (List ℕ)} {colors color_offsets constraints st₀ scratch₀ starts₀ bodies₀ : List ℕ} (p : Gatherable nb cs colors n color_offsets constraints st₀ scratch₀ starts₀ bodies₀) where
  -- at the start no stamp is above 0
  pub gathering_none : Gathering nb cs colors n scratch₀ (set starts₀ 0 0) bodies₀ st₀ scratch₀ (set starts₀ 0 0) bodies₀ 0 0
  unfolding offsets flatten
  gathering_none =
      record {
        inside = omega arith;
        st_size = p.stamps;
        scratch_size = refl;
        starts_size = refl;
        bodies_size = refl;
        low = λ b. by_cases (ltb b nb)
            (λ l. omega (arith, p.unstamped b (ltb-true b nb l)))
            (λ l. omega (arith, get_or-eq_default st₀ 0 {n = b} (omega (arith, p.stamps, ltb-false b nb l))));
        counted = refl;
        listed = refl;
        started = take-suc-set starts₀ 0 0 (omega (arith, p.ends));
      }

  pub members-cut : (color : ℕ) → color < n → Cut constraints color_offsets color (color + 1)
  members-cut color h = group_cut (members colors) n color_offsets constraints p.starts (begins_listed p.constraints) color h

  -- the endpoints of a constraint are those that `ends` gives
  module _ (ends : ℕ → List ℕ) (size : length cs ≡ length colors) (same : (r : ℕ) → r < length colors → get_or cs r [] ≡ ends r) (color : ℕ) (h : color < n) where
    group_part_lem : cut constraints color_offsets color (color + 1) ≡ members colors color
    group_part_lem = group_is (members colors) n color_offsets constraints p.starts (begins_listed p.constraints) color h

    pub part_below : (r : ℕ) → mem r (cut constraints color_offsets color (color + 1)) ≡ true → r < length colors
    part_below r m = (member_is colors color r (rw group_part_lem at m)).0

    part-ends : join_map ends (cut constraints color_offsets color (color + 1)) ≡ join_map (λ r. get_or cs r []) (members colors color)
    part-ends = ap (join_map ends) group_part_lem ∙ sym (join_map_ext_in (λ r. get_or cs r []) ends (members colors color) (λ r m. same r (member_is colors color r m).0))

    -- the bodies of group `color` can be listed next
    module _ {st scratch starts bodies : List ℕ} {end : ℕ} (v : Gathering nb cs colors n scratch₀ (set starts₀ 0 0) bodies₀ st scratch starts bodies end color) where
      pub group_fresh : Fresh (join_map ends (cut constraints color_offsets color (color + 1))) (color + 1) st bodies end
      group_fresh =
          let below : ℕ → Bool = λ b. ltb b nb in
          rw part-ends
          (record {
            notable = record {
              stampable = record {
                below = rw v.st_size (all-join_map below (λ r. get_or cs r []) (members colors color) ∙ all_intro (λ r. all below (get_or cs r [])) (members colors color) (λ r m. all-get_or (λ bs. all below bs) [] cs r refl p.below));
                small = omega (arith, before-suc cs colors color, before-few cs colors size (suc color), p.small);
              };
              room = omega (arith, v.counted, v.bodies_size, starts-few cs colors nb color, before-suc cs colors color, before-few cs colors size (suc color), p.room);
            };
            fresh = λ b. omega (arith, v.low b);
          })

      module _ {st' bodies' : List ℕ} {end' : ℕ} (w : Listed (join_map ends (cut constraints color_offsets color (color + 1))) (color + 1) st' bodies bodies' end end') (ls : length st' ≡ length st) where
        bodies_are : among (length st') (join_map ends (cut constraints color_offsets color (color + 1))) ≡ group_bodies nb cs colors color
        bodies_are = rw (ls, v.st_size, part-ends) (sym (group_bodies_lem nb cs colors color))

        end_is : end' ≡ length (flatten (group_bodies nb cs colors) (suc color))
        end_is = omega (arith, w.counted, ap length bodies_are, v.counted, start-suc (group_bodies nb cs colors) color)

        pub end_small : end' ≤ 65535
        end_small = omega (arith, end_is, starts-few cs colors nb (suc color), before-few cs colors size (suc color), p.small)

        listed_more : bodies' ≡ over (flatten (group_bodies nb cs colors) (suc color)) bodies₀
        listed_more =
            let g = group_bodies nb cs colors in
            let flat = flatten g color in
            let a : take end bodies ≡ flat = rw v.listed (take_at flat (drop (length flat) bodies₀) end (sym v.counted)) in
            let e : end' ≡ length flat + length (g color) = end_is ∙ start-suc g color in
            let b : drop end' bodies ≡ drop (length flat + length (g color)) bodies₀ = rw (e, v.listed) (drop-append-add flat (drop (length flat) bodies₀) (length (g color)) ∙ drop-drop (length (g color)) (length flat) bodies₀) in
            w.listed ∙ rw (bodies_are, a, b, flatten-suc g color, length-append flat (g color))

        pub gathering_more : {scratch' : List ℕ} → length scratch' ≡ length scratch → length bodies' ≡ length bodies → Gathering nb cs colors n scratch₀ (set starts₀ 0 0) bodies₀ st' scratch' (set starts (color + 1) end') bodies' end' (color + 1)
        unfolding offsets
        gathering_more lc lb =
            let t : take (color + 1 + 1) (set starts (color + 1) end') ≡ take (color + 1) starts ++ (end' ∷ []) = rw (add-one (color + 1)) (take-suc-set starts (color + 1) end' (omega (arith, v.starts_size, length-set starts₀ 0 0, p.ends))) in
            record {
              inside = omega arith;
              st_size = ls ∙ v.st_size;
              scratch_size = lc ∙ v.scratch_size;
              starts_size = length-set starts (color + 1) end' ∙ v.starts_size;
              bodies_size = lb ∙ v.bodies_size;
              low = w.low;
              counted = rw add-one end_is;
              listed = rw add-one listed_more;
              started = rw (t, v.started, end_is, add-one) (sym (map-range-suc (λ k. length (flatten (group_bodies nb cs colors) k)) (suc color)));
            }
