-- A table of 4,096 entries has room for the places of an accepted file's joints.
use Rattle.std.proofs.Common.{◌∙◌, sym, arith, length-take-le}
use Rattle.frame.proofs.Files.{file_sized}
use Rattle.print_pieces.proofs.place_joints.Goals as goal

pub slice_bounds-entry_places-end : goal.slice_bounds-entry_places-end
slice_bounds-entry_places-end c =
    let s = file_sized c.args.frame.now c.requires in
    omega (arith, s.joints, c.half_or_zero-joints.ensures.0)

pub slice_bounds-entry_places-end-then-is_second : goal.slice_bounds-entry_places-end-then-is_second
slice_bounds-entry_places-end-then-is_second c =
    let s = file_sized c.args.frame.now c.requires in
    sym (length-take-le c.half_or_zero-joints.result c.args.places.now (omega (arith, s.joints, c.half_or_zero-joints.ensures.0)))

pub entry_places-requires : goal.entry_places-requires
entry_places-requires c =
    let s = file_sized c.args.frame.now c.requires in
    record {
      file = c.requires;
      version = sym c.is_second.ensures ∙ c.if-is_second.true;
      places = length-take-le c.half_or_zero-joints.result c.args.places.now (omega (arith, s.joints, c.half_or_zero-joints.ensures.0)) ∙ c.half_or_zero-joints.ensures.0;
    }
