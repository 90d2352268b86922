-- `frame::entries::entry_places`: one more place is filled; it lies inside the file, which is shorter than 2^16.
use Rattle.std.proofs.Common.{◌≡◌, ℕ, ◌+◌, ◌*◌, ◌-◌, ◌<◌, List, ◌++◌, length, take, sym, ap, ◌∙◌, arith}
use Rattle.lists.proofs.Fills.{fill_turn, fill_end}
use Rattle.frame.specs.Files.{entry_end, places_from}
use Rattle.frame.proofs.Walks.{walk_whole, walk_next, places-next, places-none}
use Rattle.frame.proofs.Files.{file_short}
use Rattle.frame.proofs.entries.entry_places.Goals as goal

pub overflow_cast-place : goal.overflow_cast-place
overflow_cast-place c = let l = c.loop-place in let w = walk_whole c.args.bytes.now l.at _ (omega arith) l.invariant.walked in omega (arith, w.begun, file_short c.args.bytes.now c.requires.file)

pub loop-place-preserved : goal.loop-place-preserved
loop-place-preserved c =
    let l = c.loop-place in
    let bs = c.args.bytes.now in
    let n = length c.args.places.now in
    let h : l.place-index < n = omega arith in
    let some : 0 < n - l.place-index = omega arith in
    let next : l.at + (2 + 2 * c.from-in-loop-place.result) ≡ entry_end bs l.at = omega (arith, c.from-in-loop-place.ensures) in
    let less : n - l.place-index - 1 ≡ n - (l.place-index + 1) = omega arith in
    record {
      walked = rw less at (walk_next bs l.at (n - l.place-index) _ some l.invariant.walked next);
      places = rw (← less) (fill_turn l.places (places_from bs _ (n - l.place-index - 1)) _ l.place-index l.at (omega arith) (ap (λ (xs : List ℕ). take l.place-index l.places ++ xs) (sym (places-next bs l.at (n - l.place-index) _ some next)) ∙ l.invariant.places));
    }

pub returns : goal.returns
returns c =
    let l = c.loop-place in
    fill_end l.places _ l.place-index (omega arith)
    (ap (λ (xs : List ℕ). take l.place-index l.places ++ xs) (sym (places-none c.args.bytes.now l.at (length c.args.places.now - l.place-index) (omega arith))) ∙ l.invariant.places)
