-- `union` meets its contract. The two lookups change no root; one root twice is left as it is, and two are joined.
use Rattle.std.proofs.Common.{refl, ◌∙◌}
use Rattle.island_sets.proofs.Unions.{ready, joined, alike}
use Rattle.island_sets.proofs.BodySets.union.Goals as goal

pub returns-then-root_left-root_right : goal.returns-then-root_left-root_right
returns-then-root_left-root_right c =
    let a = c.args in
    let s = a.self.now in
    let f = c.find-found_left in
    let g = c.find-found_right in
    let r = alike s.parents.now f.new.parents g.new.parents s.sizes.now a.left a.right f.result.root g.result.root s.sets c.requires.0 c.requires.1 f.ensures.1 g.ensures.1 f.ensures.0.root g.ensures.0.root c.if-root_left-root_right.true in
    (record { parents = refl; sizes = refl; long = g.auto.parents ∙ f.auto.parents }, r.1)

pub join_roots-requires : goal.join_roots-requires
join_roots-requires c =
    let a = c.args in
    let s = a.self.now in
    let f = c.find-found_left in
    let g = c.find-found_right in
    let r = ready s.parents.now f.new.parents g.new.parents s.sizes.now a.left a.right f.result.root g.result.root s.sets c.requires.0 c.requires.1 f.ensures.1 g.ensures.1 f.ensures.0.root g.ensures.0.root in
    (r.0, r.1, r.2, r.3, r.4, c.if-root_left-root_right.false)

pub returns : goal.returns
returns c =
    let a = c.args in
    let s = a.self.now in
    let f = c.find-found_left in
    let g = c.find-found_right in
    let j = c.join_roots in
    let r = joined s.parents.now f.new.parents g.new.parents s.sizes.now a.left a.right f.result.root g.result.root s.sets c.requires.0 c.requires.1 f.ensures.1 g.ensures.1 f.ensures.0.root g.ensures.0.root j.new.parents j.new.sizes j.ensures in
    (record { parents = refl; sizes = refl; long = j.auto.parents ∙ g.auto.parents ∙ f.auto.parents }, r.1)
