-- The positions of all constraints. A group's constraints and bodies are the parts that stand for it in their tables, and each endpoint of
-- its constraints is among its bodies, so group after group every constraint gets its positions; they fill the table.
use Rattle.std.proofs.Common.{ℕ, suc, ◌+◌, ◌≤◌, ◌<◌, ◌≡◌, refl, sym, ◌∙◌, Bool, true, List, [], arith, eqb, ltb, length, get_or, eqb-true, ltb-true, lt-ltb}
use Rattle.std.proofs.lemmas.Bool.{eqb-false}
use Rattle.lists.specs.Basics.{all, mem, join_map}
use Rattle.lists.proofs.Laws.{by_cases, all_in, all_intro, all-get_or, max_in, get_or-mem}
use Rattle.lists.proofs.Ranges.{all-join_map}
use Rattle.groups.specs.Groups.{group_count, members, group_bodies, positions, flatten}
use Rattle.groups.proofs.Members.{member_is, member_at, bodies_rise, bodies-few, bodies_exist, has_body}
use Rattle.parts.specs.Parts.{cut, Cut, part_at, parts_at, Bounded}
use Rattle.parts.specs.Steps.{Gapless}
use Rattle.parts.proofs.Parts.{parts-at}
use Rattle.parts.proofs.Gapless.{parts_whole}
use Rattle.parts.proofs.Groups.{begins_listed, group_cut, group_is}
use Rattle.locating.specs.Locates.{Locatable, Arranged, Findable, MembersLocated}

-- a group's bodies have all endpoints of its constraints
bodies-all : (nb : ℕ) (cs : List (List ℕ)) (colors : List ℕ) (k : ℕ) → all (λ bs. all (λ b. ltb b nb) bs) cs ≡ true → (r : ℕ) → mem r (members colors k) ≡ true → all (λ b. mem b (group_bodies nb cs colors k)) (get_or cs r []) ≡ true
bodies-all nb cs colors k below r m =
    let low : ℕ → Bool = λ b. ltb b nb in
    all_intro (λ b. mem b (group_bodies nb cs colors k)) (get_or cs r [])
    (λ b o. has_body nb cs colors k r b m o (ltb-true b nb (all_in low b (get_or cs r []) o (all-get_or (λ bs. all low bs) [] cs r refl below))))

-- ---- group k in the tables: its constraints ms and its bodies bs
module _ {nb n : ℕ} {cs : List (List ℕ)} {colors offsets constraints starts bodies places₀ : List ℕ} (p : Locatable nb cs colors n offsets constraints starts bodies places₀) (k : ℕ) (h : k < n) where
  pub members-cut : Cut constraints offsets k (k + 1)
  members-cut = group_cut (members colors) n offsets constraints p.starts (begins_listed p.constraints) k h

  pub bodies-cut : Cut bodies starts k (k + 1)
  bodies-cut = group_cut (group_bodies nb cs colors) n starts bodies p.body_starts p.bodies k h

  members_are : {ms : List ℕ} → ms ≡ cut constraints offsets k (k + 1) → ms ≡ members colors k
  members_are m = m ∙ group_is (members colors) n offsets constraints p.starts (begins_listed p.constraints) k h

  bodies_are : {bs : List ℕ} → bs ≡ cut bodies starts k (k + 1) → bs ≡ group_bodies nb cs colors k
  bodies_are b = b ∙ group_is (group_bodies nb cs colors) n starts bodies p.body_starts p.bodies k h

-- ---- the constraints of the groups before `color` are located
pub record Settling (nb : ℕ) (bounds es colors : List ℕ) (n : ℕ) (places₀ positions₀ places table : List ℕ) (color : ℕ) : Type 0 where
  pub inside : color ≤ n
  pub places_size : length places ≡ length places₀
  pub size : length table ≡ length positions₀
  pub located : (r : ℕ) → r < length colors → get_or colors r 0 < color → part_at bounds table r ≡ positions nb (parts_at (length colors) bounds es) colors r

module _ {nb n : ℕ} {bounds es colors offsets constraints starts bodies places₀ positions₀ places table : List ℕ} {k : ℕ} (w : Bounded (length colors) bounds es × Gapless (length colors) bounds es × (length positions₀ ≡ length es)) (p : Locatable nb (parts_at (length colors) bounds es) colors n offsets constraints starts bodies places₀) (v : Settling nb bounds es colors n places₀ positions₀ places table k) where
  pub settling_done : n ≤ k → table ≡ flatten (positions nb (parts_at (length colors) bounds es) colors) (length colors)
  unfolding group_count
  settling_done h =
      parts_whole w.0 w.1 (positions nb (parts_at (length colors) bounds es) colors) table
      (λ r i. v.located r i (omega (arith, p.groups, max_in suc (get_or colors r 0) colors (get_or-mem colors r i))))
      (v.size ∙ w.2)

  -- the lists of the call: of `many` constraints
  module _ {many : ℕ} (counted : length colors ≡ many) (h : k < n) {ms bs : List ℕ} (m : ms ≡ cut constraints offsets k (k + 1)) (b : bs ≡ cut bodies starts k (k + 1)) where
    pub group_below : all (λ r. ltb r many) ms ≡ true
    group_below = rw (← counted, members_are p k h m) (all_intro (λ r. ltb r (length colors)) (members colors k) (λ r o. lt-ltb r (length colors) (member_is colors k r o).0))

    pub group_arranged : Arranged many bounds es table
    group_arranged = record { gapless = rw (← counted) w.1; room = v.size ∙ w.2 }

    pub group_findable : Findable (join_map (part_at bounds es) ms) bs
    group_findable =
        let cs = parts_at (length colors) bounds es in
        rw (members_are p k h m, bodies_are p k h b)
        (record {
          few = omega (arith, bodies-few nb cs colors k, p.few_bodies);
          rising = bodies_rise nb cs colors k;
          there =
              all-join_map (λ b. mem b (group_bodies nb cs colors k)) (part_at bounds es) (members colors k)
              ∙ all_intro (λ r. all (λ b. mem b (group_bodies nb cs colors k)) (part_at bounds es r)) (members colors k)
              (λ r o. rw (parts-at (length colors) bounds es r (member_is colors k r o).0) at (bodies-all nb cs colors k p.below r o));
        })

    pub group_low : all (λ b. ltb b (length places)) bs ≡ true
    group_low = rw (bodies_are p k h b) (bodies_exist nb (parts_at (length colors) bounds es) colors k (length places) (omega (arith, v.places_size, p.by_body)))

    pub settling_more : {places' table' : List ℕ} → length places' ≡ length places → length table' ≡ length table → MembersLocated many bounds es ms bs table table' → Settling nb bounds es colors n places₀ positions₀ places' table' (k + 1)
    unfolding positions
    settling_more lp lt u =
        record {
          inside = omega arith;
          places_size = lp ∙ v.places_size;
          size = lt ∙ v.size;
          located = λ r i c.
              by_cases (eqb k (get_or colors r 0))
              (λ e.
              let q : get_or colors r 0 ≡ k = sym (eqb-true k (get_or colors r 0) e) in
              let o : mem r ms ≡ true = rw (members_are p k h m) (member_at colors k r i ∙ e) in
              u.done r o ∙ rw (bodies_are p k h b, q, parts-at (length colors) bounds es r i))
              (λ e.
              let q : k ≡ get_or colors r 0 → ⊥ = eqb-false k (get_or colors r 0) e in
              let l : get_or colors r 0 < k = omega (arith, q) in
              u.kept r (omega (arith, counted)) (rw (members_are p k h m) (member_at colors k r i ∙ e)) ∙ v.located r i l);
        }
