-- What a walk leaves is what the color is closed by, and then the following color is opened.
use Rattle.std.proofs.Common.{ℕ, ◌+◌, ◌≤◌, ◌<◌, ◌≡◌, refl, ap, ◌∙◌, List, ◌++◌, arith, length, take, drop, length-append, length-drop, length-take-le, take_at}
use Rattle.lists.specs.Basics.{range}
use Rattle.lists.proofs.Laws.{length-range}
use Rattle.coloring.proofs.Walks.{Walks, walks_none, walks_few, color_small, closable, walks_more, walks_done}
use Rattle.coloring.proofs.color_constraints.Goals as goal

-- the first n places hold their numbers
numbered : (old t : List ℕ) (n : ℕ) → n ≤ length old → t ≡ range (length (take n old)) → (length (t ++ drop n old) ≡ length old) × (take n (t ++ drop n old) ≡ range n)
numbered old t n h e =
    let s : t ≡ range n = e ∙ ap range (length-take-le n old h) in
    let l : length t ≡ n = ap length s ∙ length-range 0 n in
    (omega (arith, length-append t (drop n old), length-drop n old, l), take_at t (drop n old) n l ∙ s)

-- a color is opened: there are few, and a place for where the group ends
few : {flags : List ℕ} {cs : List (List ℕ)} {n k count : ℕ} {starts₀ remaining colors starts colored busy : List ℕ} → Walks flags cs n k count starts₀ remaining colors starts colored busy → (count ≡ 0 → ⊥)
    → (k < n) × (n ≤ 8192) × (length starts ≡ n + 1)
few v h = (omega (arith, v.all, color_small v h), omega (arith, v.all, v.opened.few), omega (arith, v.all, v.starts_length))

pub colors-init : goal.colors-init
colors-init c =
    let z = c.requires.ready in
    let r = numbered c.args.remaining.now c.number_all.new.table (length c.args.constraint_colors.now) (omega (arith, z.sized, z.room)) c.number_all.ensures in
    walks_none z (length c.args.busy_bodies.now) _ _ r.0 r.1 c.fill.auto.self (c.fill.ensures.after (λ y e. e))

pub close_color-requires-clause-closable : goal.close_color-requires-clause-closable
close_color-requires-clause-closable c =
    let v = c.colors.invariant in
    let w = c.walk-uncolored_count in
    let sized : length c.colors.colored_constraints ≡ length c.args.constraint_colors.now = v.opened.members_length ∙ v.all in
    rw c.colors.auto.constraint_colors (closable v (rw sized at w.ensures) w.auto.colored_constraints w.auto.busy_bodies c.if-uncolored_count-eq0.false)

pub overflow_add-color : goal.overflow_add-color
overflow_add-color c = omega (arith, few c.colors.invariant c.if-uncolored_count-eq0.false)

pub offset_bounds-color_offsets-color : goal.offset_bounds-color_offsets-color
offset_bounds-color_offsets-color c = omega (arith, few c.colors.invariant c.if-uncolored_count-eq0.false)

pub bounds-color_offsets-color : goal.bounds-color_offsets-color
bounds-color_offsets-color c = omega (arith, few c.colors.invariant c.if-uncolored_count-eq0.false)

pub colors-smaller : goal.colors-smaller
colors-smaller c = omega (arith, walks_few c.colors.invariant c.if-uncolored_count-eq0.false)

pub colors-preserved : goal.colors-preserved
colors-preserved c =
    let v = c.colors.invariant in
    let w = c.walk-uncolored_count in
    let sized : length c.colors.colored_constraints ≡ length c.args.constraint_colors.now = v.opened.members_length ∙ v.all in
    let same : length c.colors.constraint_colors ≡ length c.args.constraint_colors.now = c.colors.auto.constraint_colors in
    walks_more v (rw sized at w.ensures) w.auto.colored_constraints w.auto.busy_bodies c.if-uncolored_count-eq0.false w.auto.remaining c.close_color.auto.constraint_colors c.close_color.auto.busy_bodies (rw same at c.close_color.ensures)

pub returns : goal.returns
returns c = walks_done c.colors.invariant c.if-uncolored_count-eq0.true _ refl
