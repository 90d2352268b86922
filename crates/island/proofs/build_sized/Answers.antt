-- `island::build_sized` meets its contract: a frame whose constraints all pass is joined and labelled; any other leaves blank tables.
use Rattle.std.proofs.Common.{rules, ℕ, List, Bool, true, false, Result, ◌≡◌, length, replicate, refl, sym, ap, ◌∙◌, cond, arith}
use Rattle.lists.specs.Basics.{range}
use Rattle.lists.proofs.Laws.{clashes}
use Rattle.frame.specs.declared.refusal.Refusal.{Refusal}
use Rattle.frame.specs.Frames.{Frame, constraints, all_sound, none}
use Rattle.frame.specs.Asked.{frame_asked}
use Rattle.island_sets.specs.Sets.{root_of}
use Rattle.island_sets.specs.Steps.{Sets}
use Rattle.island_sets.proofs.Starts.{root_self, fresh}
use Rattle.island_joins.specs.Joins.{Joined}
use Rattle.island.specs.Calls.{WeighedSets}
use Rattle.island.specs.Steps.{Sized, Ready, BuiltSized}
use Rattle.island.proofs.Whole.{ready, weighed-sets}
use Rattle.island.proofs.build_sized.Goals as goal

-- what the lent tables hold in the end is what the sets hold
ended : {f : Frame} {p s : List ℕ} (q t : List ℕ) {b m j : List ℕ} {r : Result ℕ Refusal} → p ≡ q → s ≡ t → BuiltSized f q t b m j r → BuiltSized f p s b m j r
ended q t e g h = rw (e, g) h

pub invariant_of-sets : goal.invariant_of-sets
invariant_of-sets c =
    let h = c.requires in
    record { sets = (fresh (length c.args.parents.now) (length c.args.sizes.now) c.reset.new.parents c.reset.new.sizes (omega (arith, h.sized.few, h.sized.long_parents)) h.sizes_len c.reset.ensures.0 c.reset.ensures.1).0 }

pub join_frame-requires : goal.join_frame-requires
join_frame-requires c =
    record {
      long_parents = c.reset.auto.parents ∙ c.requires.sized.long_parents;
      long_bodies = c.fill.ensures.len ∙ c.requires.sized.long_bodies;
    }

pub returns-then-not-join_frame : goal.returns-then-not-join_frame
unfolding all_sound
returns-then-not-join_frame c =
    let f = frame_asked c.args.lists in
    let h = c.requires in
    let j = c.join_frame in
    let q = c.reset-then-not-join_frame in
    let bad : all_sound f ≡ false = sym j.ensures.joined.answer ∙ c.if-not-join_frame.true in
    let parents_long : length j.new.sets.parents.now ≡ length f.types = j.ensures.same.long ∙ c.reset.auto.parents ∙ h.sized.long_parents in
    let fill_bodies : c.fill-then-not-join_frame.new.self ≡ replicate (length j.new.body_islands) none = search rules in
    let fill_manifolds : c.fill-then-not-join_frame-2.new.self ≡ replicate (length c.args.manifold_islands.now) none = search rules in
    let fill_joints : c.fill-then-not-join_frame-3.new.self ≡ replicate (length c.args.joint_islands.now) none = search rules in
    ended q.new.self.parents.now q.new.self.sizes.now (search rules) (search rules) (record {
      refusal = ap (λ (t : Bool). cond t 0 7) (sym bad);
      accepted = λ e. clashes (all_sound f) e bad;
      blank = λ e. record {
        count = refl;
        parents = q.ensures.alone.parents ∙ ap range parents_long;
        sizes = q.ensures.alone.sizes ∙ ap (λ (n : ℕ). replicate n 1) parents_long;
        body_labels = fill_bodies ∙ ap (λ (n : ℕ). replicate n none) (j.auto.body_islands ∙ c.fill.ensures.len ∙ h.sized.long_bodies);
        manifold_labels = fill_manifolds ∙ ap (λ (n : ℕ). replicate n none) h.sized.long_manifolds;
        joint_labels = fill_joints ∙ ap (λ (n : ℕ). replicate n none) h.sized.long_joints;
      };
    })

-- where all constraints passed: the tables of bodies that are alone (p₁, b₁), and what the joining left of them (p, s, b)
module _ (f : Frame) (p₀ b₀ m j p₁ b₁ p s b : List ℕ) (h : Sized f p₀ b₀ m j)
    (ep : p₁ ≡ range (length p₀)) (eb : b₁ ≡ replicate (length b₀) none)
    (lp : length p ≡ length p₀) (lb : length b ≡ length b₀) (sets : Sets p s) (w : Joined f.types (constraints f) p₁ b₁ p b) where
  fits : Sized f p b m j
  fits = record { few = h.few; long_parents = lp ∙ h.long_parents; long_bodies = lb ∙ h.long_bodies; long_manifolds = h.long_manifolds; long_joints = h.long_joints }

  roots : root_of p₁ ≡ (λ (x : ℕ). x)
  roots = ap root_of ep ∙ root_self (length p₀)

  joined_ready : all_sound f ≡ true → Ready f p b m j
  joined_ready = ready f p₁ b₁ p s b m j (length b₀) roots eb fits sets w

  joined_sets : WeighedSets f p s
  joined_sets = weighed-sets f p₁ b₁ p s b m j (length b₀) roots eb fits sets w

pub label_frame-islands-requires : goal.label_frame-islands-requires
unfolding all_sound
label_frame-islands-requires c =
    let h = c.requires in
    let r = c.reset in
    let j = c.join_frame in
    let s = j.new.sets in
    let ok = c.if-not-join_frame.false in
    let filled : c.fill.new.self ≡ replicate (length c.args.body_islands.now) none = search rules in
    rw c.parents.ensures.0 (joined_ready (frame_asked c.args.lists) _ _ _ _ _ c.fill.new.self s.parents.now s.sizes.now _ h.sized r.ensures.0 filled (j.ensures.same.long ∙ r.auto.parents) (j.auto.body_islands ∙ c.fill.ensures.len) s.sets (j.ensures.joined.joined ok) (sym j.ensures.joined.answer ∙ ok))

pub returns : goal.returns
unfolding all_sound
returns c =
    let f = frame_asked c.args.lists in
    let h = c.requires in
    let r = c.reset in
    let j = c.join_frame in
    let s = j.new.sets in
    let ok = c.if-not-join_frame.false in
    let passed : all_sound f ≡ true = sym j.ensures.joined.answer ∙ ok in
    let filled : c.fill.new.self ≡ replicate (length c.args.body_islands.now) none = search rules in
    let sets = joined_sets f _ _ _ _ _ c.fill.new.self s.parents.now s.sizes.now _ h.sized r.ensures.0 filled (j.ensures.same.long ∙ r.auto.parents) (j.auto.body_islands ∙ c.fill.ensures.len) s.sets (j.ensures.joined.joined ok) in
    ended s.parents.now s.sizes.now (search rules) (search rules) (record {
      refusal = ap (λ (t : Bool). cond t 0 7) (sym passed);
      accepted = λ e. (sets, c.label_frame-islands.ensures);
      blank = λ e. clashes (all_sound f) passed e;
    })
