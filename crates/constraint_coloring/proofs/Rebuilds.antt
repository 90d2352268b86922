-- The stages of a build make up the plan: what the walks leave is what the listing of groups needs, and what that leaves is what the
-- definition of the plan gives.
use Rattle.std.proofs.Common.{ℕ, ◌+◌, ◌*◌, ◌≤◌, ◌<◌, ◌≡◌, refl, sym, ap, ◌∙◌, true, ◌&&◌, List, [], ◌∷◌, ◌++◌, arith, add-one, leb, ltb, length, get_or, take, drop, take_at, leb-true}
use Rattle.std.proofs.Math.Seq.{take-append-le}
use Rattle.lists.specs.Basics.{sum_of, max_of, range, over, all, distinct}
use Rattle.lists.proofs.Laws.{and_left, and_right, all_weaken}
use Rattle.lists.proofs.Ranges.{length-join_map}
use Rattle.lists.proofs.Sums.{sum_map}
use Rattle.frame.specs.Frames.{fewest, most, fits}
use Rattle.frame.proofs.Pairs.{fits_in}
use Rattle.groups.specs.Groups.{plan_from, colors_of, group_count, members, largest_group, positions, flatten, offsets}
use Rattle.groups.proofs.Colors.{colors-length, groups_few as few_groups}
use Rattle.groups.proofs.Tables.{length-offsets}
use Rattle.parts.specs.Parts.{part_at, parts_at}
use Rattle.parts.specs.Steps.{widest}
use Rattle.parts.proofs.Groups.{widest_is}
use Rattle.parts.proofs.Parts.{parts-length}
use Rattle.coloring.specs.Coloring.{Ready}
use Rattle.gathering.specs.Gathers.{Gatherable}
use Rattle.plan_questions.specs.Plans.{Tables}
use Rattle.constraint_coloring.specs.Calls.{carried}
use Rattle.constraint_coloring.specs.Stages.{Scheduled, Buildable}
use Rattle.constraint_coloring.specs.declared.ConstraintColoring.{ConstraintColoring}

-- the size of the largest group
pub largest_is : (colors : List ℕ) (n : ℕ) → n ≡ group_count colors → widest (offsets (members colors) n) ≡ largest_group colors
unfolding largest_group
largest_is colors n e = widest_is (members colors) n ∙ ap (λ (m : ℕ). max_of (λ k. length (members colors k)) (range m)) e

carried-eq : (b c c' k k' m m' : ℕ) → c ≡ c' → k ≡ k' → m ≡ m'
    → ◌≡◌ {A = ConstraintColoring} (record { body_count = b; constraint_count = c; color_count = k; max_color_constraint_count = m })
    (record { body_count = b; constraint_count = c'; color_count = k'; max_color_constraint_count = m' })
carried-eq b c c' k k' m m' p q r = simp (p, q, r)

-- the first places of offsets that stand in a longer table
pub starts_front : (g : ℕ → List ℕ) (k n : ℕ) (starts₀ starts rest : List ℕ) → starts ≡ over (offsets g k) starts₀ → length starts ≡ n → k + 1 ≤ n → take (k + 1) (starts ++ rest) ≡ offsets g k
starts_front g k n starts₀ starts rest e l h =
    take-append-le (k + 1) starts rest (omega arith) ∙ ap (λ (t : List ℕ). take (k + 1) t) e ∙ take_at (offsets g k) (drop (length (offsets g k)) starts₀) (k + 1) (length-offsets g k ∙ sym (add-one k))

-- constraints that pass question 7 have at most four endpoints each
few-ends : (nb : ℕ) (bs : List ℕ) → fits nb bs ≡ true → length bs ≤ 4
unfolding fits
few-ends nb bs h =
    let two = and_left (leb fewest (length bs) && leb (length bs) most && distinct bs) (all (λ b. ltb b nb) bs) h in
    leb-true (length bs) 4 (and_right (leb fewest (length bs)) (leb (length bs) most) (and_left (leb fewest (length bs) && leb (length bs) most) (distinct bs) two))

ends-few : (nb : ℕ) (cs : List (List ℕ)) → all (fits nb) cs ≡ true → sum_of length cs ≤ 4 * length cs
ends-few nb [] h = omega arith
ends-few nb (bs ∷ cs) h = omega (arith, few-ends nb bs (and_left (fits nb bs) (all (fits nb) cs) h), ends-few nb cs (and_right (fits nb bs) (all (fits nb) cs) h))

module _ {flags ends bounds : List ℕ} {n : ℕ} {t : Tables} (ok : Buildable flags ends bounds n t) where
  abbrev cs : List (List ℕ)
  cs = parts_at n bounds ends

  -- the colors that are promised
  abbrev pub promised : List ℕ
  promised = colors_of flags cs

  bodies_below : all (λ bs. all (λ b. ltb b (length flags)) bs) cs ≡ true
  bodies_below = all_weaken (fits (length flags)) (λ bs. all (λ b. ltb b (length flags)) bs) cs (fits_in (length flags)) ok.sound

  ends_are : sum_of length cs ≡ length ends
  unfolding parts_at
  ends_are = sum_map length (part_at bounds ends) (range n) ∙ sym (length-join_map (part_at bounds ends) (range n)) ∙ sym ok.gapless.whole

  ends_few : sum_of length cs ≤ 65535
  ends_few = omega (arith, ends-few (length flags) cs ok.sound, parts-length n bounds ends, ok.few)

  pub ready : {remaining colors starts constraints busy : List ℕ} → n ≤ length remaining → length colors ≡ n → length starts ≡ n + 1 → length constraints ≡ n → length busy ≡ length flags
      → Ready flags (parts_at (length colors) bounds ends) remaining colors starts constraints busy
  ready {remaining} {colors} r c s m b =
      rw c
      (record {
        sized = c ∙ sym (parts-length n bounds ends);
        few = omega (arith, c, ok.few);
        bodies = bodies_below;
        room = omega (arith, c);
        starts_length = omega (arith, c);
        members_length = m ∙ sym c;
        busy_length = b;
      })

  pub groups_few : (k : ℕ) → k ≡ group_count promised → k ≤ n
  groups_few k e = omega (arith, few_groups flags cs, parts-length n bounds ends)

  pub colors_long : length promised ≡ n
  colors_long = colors-length flags cs ∙ parts-length n bounds ends

  -- what the walks leave can be gathered
  pub gatherable : {colors starts constraints busy scratch body_starts bodies : List ℕ} (k : ℕ) → colors ≡ promised → k ≡ group_count promised → starts ≡ offsets (members promised) k → constraints ≡ flatten (members promised) k
      → length busy ≡ length flags → ((b : ℕ) → b < length flags → get_or busy b 0 ≡ 0) → length flags ≤ length scratch → length body_starts ≡ k + 1 → length bodies ≡ length ends
      → Gatherable (length flags) (parts_at (length colors) bounds ends) colors k starts constraints busy scratch body_starts bodies × (k ≡ group_count colors)
  gatherable {colors} k ec ek es em lb idle room le lo =
      let l : length colors ≡ n = ap length ec ∙ colors_long in
      rw (ap (λ (m : ℕ). parts_at m bounds ends) l) (
        record {
          few_bodies = ok.few_bodies;
          few = omega (arith, l, ok.few);
          low = omega (arith, l, groups_few k ek);
          below = bodies_below;
          small = ends_few;
          starts = rw ec es;
          constraints = rw ec em;
          stamps = lb;
          unstamped = idle;
          scratch = room;
          ends = le;
          room = omega (arith, ends_are, lo);
        },
        rw ec ek,
      )

  -- ---- what the plan says
  pub plan_is : (k largest : ℕ) → k ≡ group_count promised → largest ≡ largest_group promised
      → ◌≡◌ {A = ConstraintColoring} (record { body_count = length flags; constraint_count = n; color_count = k; max_color_constraint_count = largest }) (carried (plan_from flags cs))
  unfolding plan_from
  plan_is k largest ek el = carried-eq (length flags) n (length cs) k (group_count promised) largest (largest_group promised) (sym (parts-length n bounds ends)) ek el

  pub colors_planned : (plan_from flags cs).colors ≡ promised
  unfolding plan_from
  colors_planned = refl

  pub starts_planned : (k : ℕ) → k ≡ group_count promised → (plan_from flags cs).color_offsets ≡ offsets (members promised) k
  unfolding plan_from
  starts_planned k e = ap (offsets (members promised)) (sym e)

  pub constraints_planned : (k : ℕ) → k ≡ group_count promised → (plan_from flags cs).colored_constraints ≡ flatten (members promised) k
  unfolding plan_from
  constraints_planned k e = ap (flatten (members promised)) (sym e)

  module _ {colors bodies₀ body_starts bodies positions' : List ℕ} {k : ℕ} (ec : colors ≡ promised) (ek : k ≡ group_count promised) (l : Scheduled (length flags) (parts_at (length colors) bounds ends) colors k bodies₀ body_starts bodies positions') where
    listed : Scheduled (length flags) cs promised (group_count promised) bodies₀ body_starts bodies positions'
    listed = rw (ap (λ (m : ℕ). parts_at m bounds ends) (ap length ec ∙ colors_long), ec, ek) at l

    pub body-starts_planned : body_starts ≡ (plan_from flags cs).color_body_offsets
    unfolding plan_from
    body-starts_planned = listed.gathered.starts

    pub bodies_planned : bodies ≡ over (plan_from flags cs).color_bodies bodies₀
    unfolding plan_from
    bodies_planned = listed.gathered.bodies

    pub positions_planned : positions' ≡ (plan_from flags cs).positions
    unfolding plan_from
    positions_planned = listed.positions ∙ ap (flatten (positions (length flags) cs promised)) (colors-length flags cs)
