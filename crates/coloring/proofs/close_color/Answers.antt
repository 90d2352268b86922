-- One member more has the color, and its bodies, which are those of its part, are idle too.
use Rattle.std.proofs.Common.{ℕ, ◌+◌, ◌<◌, ◌≡◌, refl, sym, ◌∙◌, true, cond, List, [], arith, ltb, eqb, length, get_or, set, take, get_or-set_same, get_or-set_other, eqb-true}
use Rattle.std.proofs.Math.Bool.{or-true, or-false}
use Rattle.std.proofs.lemmas.Bool.{eqb-false}
use Rattle.lists.specs.Basics.{all, mem}
use Rattle.lists.proofs.Laws.{by_cases, all-get_or, cond-or}
use Rattle.lists.proofs.Scans.{any_next}
use Rattle.parts.specs.Parts.{parts_at}
use Rattle.parts.proofs.Parts.{parts-at, member_low}
use Rattle.coloring.specs.Coloring.{touched}
use Rattle.coloring.specs.Steps.{Closed}
use Rattle.coloring.proofs.close_color.Goals as goal
use Rattle.coloring.proofs.close_color.Goals.{After-part}

-- one member more
more : (cs : List (List ℕ)) (k : ℕ) (ms colors₀ busy₀ colors busy : List ℕ) (i : ℕ) → i < length ms → get_or ms i 0 < length colors → length busy ≡ length busy₀ → Closed cs k (take i ms) colors₀ busy₀ colors busy
    → (bs busy' : List ℕ) → bs ≡ get_or cs (get_or ms i 0) [] → ((b : ℕ) → get_or busy' b 0 ≡ cond (mem b bs) 0 (get_or busy b 0)) → Closed cs k (take (i + 1) ms) colors₀ busy₀ (set colors (get_or ms i 0) k) busy'
more cs k ms colors₀ busy₀ colors busy i l s size v bs busy' e w =
    let next = get_or ms i 0 in
    record {
      given = λ r h. by_cases (eqb r next)
          (λ q. rw (any_next (eqb r) ms i l, q, or-true, eqb-true r next q) (get_or-set_same colors next k 0 s))
          (λ q. rw (any_next (eqb r) ms i l, q, or-false) (get_or-set_other colors next r k 0 (eqb-false r next q) ∙ v.given r h));
      idle = λ b h. w b ∙ rw (e, v.idle b h, any_next (λ r. mem b (get_or cs r [])) ms i l) (cond-or (touched cs (take i ms) b) (mem b (get_or cs next [])) 0 (get_or busy₀ b 0));
    }

-- its part is its bodies
bodies_are : (c : After-part) → c.part.result.now ≡ get_or (parts_at (length c.args.constraint_colors.now) c.args.ends.bounds.now c.args.ends.endpoints.now) (get_or c.args.members.now c.loop-member.member-index 0) []
bodies_are c =
    let n = length c.args.constraint_colors.now in
    (rw c.from-constraint.ensures at c.part.ensures) ∙ sym (parts-at n c.args.ends.bounds.now c.args.ends.endpoints.now (get_or c.args.members.now c.loop-member.member-index 0) (member_low n c.args.members.now c.loop-member.member-index (omega arith) c.requires.closable.inside))

pub clear_each-requires : goal.clear_each-requires
clear_each-requires c =
    let n = length c.args.busy_bodies.now in
    let cs = parts_at (length c.args.constraint_colors.now) c.args.ends.bounds.now c.args.ends.endpoints.now in
    let size : length c.loop-member.busy_bodies ≡ n = c.loop-member.auto.busy_bodies in
    let e : all (λ b. ltb b (length c.loop-member.busy_bodies)) c.part.result.now ≡ true =
    rw (bodies_are (goal.at.clear_each-requires c).After-part, size) (all-get_or (λ bs. all (λ b. ltb b n) bs) [] cs (get_or c.args.members.now c.loop-member.member-index 0) refl c.requires.closable.bodies) in
    e

pub loop-member-preserved : goal.loop-member-preserved
loop-member-preserved c =
    let l = c.loop-member in
    let n = length c.args.constraint_colors.now in
    let ms = c.args.members.now in
    let size : length l.constraint_colors ≡ n = l.auto.constraint_colors in
    rw c.from-constraint.ensures (more (parts_at n c.args.ends.bounds.now c.args.ends.endpoints.now) c.args.color ms c.args.constraint_colors.now c.args.busy_bodies.now l.constraint_colors l.busy_bodies l.member-index (omega arith)
    (omega (arith, member_low n ms l.member-index (omega arith) c.requires.closable.inside, size)) l.auto.busy_bodies l.invariant c.part.result.now c.clear_each.new.table (bodies_are (goal.at.loop-member-preserved c).After-part) (c.clear_each.ensures 0))
