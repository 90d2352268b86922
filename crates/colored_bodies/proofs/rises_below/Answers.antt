-- `all` over the windows asks whether each entry is below the next, and the last entry bounds them all.
use Rattle.std.proofs.Common.{rules, tests, ◌∙◌, sym, ◌≡◌}
use Rattle.std.proofs.lemmas.Iterator.Search.{all_from_yields_List}
use Rattle.lists.specs.Basics.{rises}
use Rattle.colored_bodies.proofs.Rises.{goes_up, pairs_rise, yields_pairs, last_told}
use Rattle.colored_bodies.proofs.rises_below.Goals as goal
use Rattle.colored_bodies.proofs.rises_below.Goals.{After-all}

up : (c : After-all) → c.all.result ≡ rises c.args.indices.now
up c = all_from_yields_List goes_up _ _ c.all.result c.all.ensures.ran (yields_pairs c.args.indices.now c.windows.ensures.size c.windows.ensures.rest) (λ x b q k. search (rules, tests)) ∙ pairs_rise c.args.indices.now

pub returns-then-all : goal.returns-then-all
returns-then-all c = rw (sym (up (goal.at.returns-then-all c).After-all) ∙ c.if-all.true) (last_told c.args.n c.args.indices.now c.last.result c.is_none_or.result c.last.ensures.value (search (rules, tests)))

pub returns-else-all : goal.returns-else-all
returns-else-all c = rw (sym (up (goal.at.returns-else-all c).After-all) ∙ c.if-all.false) c.if-all.false
