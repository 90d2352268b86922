-- Takes by marks are takes by value. The contract of a take by marks gives its refusal, which bodies are "dynamic" and the marks; the bodies
-- are read at the positions, and a turn and its takes depend on the refusal and on how many are "dynamic" alone.
use Rattle.std.proofs.Common.{refl, sym, ◌∙◌, [], ◌∷◌}
use Rattle.colored_bodies.specs.Answers.{with_bodies}
use Rattle.colored_bodies.proofs.Pairs.{takes_by}
use Rattle.colored_bodies.proofs.Positions.{takes_at}
use Rattle.group_run.specs.ByValue.{MarksAreTakes, CountedMarksAreTakes, GroupsByMarks}
use Rattle.group_run.specs.Appends.{pair_taken, counted_taken}
use Rattle.group_run.proofs.Takes.{same-pair_number, same-counted_number, none_taken, dynamic-two, dynamic-several, call_added, bodies_apart}

pub marks_are_takes : MarksAreTakes
marks_are_takes b x y r left h = record {
  taken = takes_by b x y r left h (with_bodies b.bodies x y r) refl;
  added = λ t. sym (call_added _ t (pair_taken r) (same-pair_number r ∙ h.refusal) (dynamic-two _ r h.dynamic) (none_taken b (x ∷ y ∷ [])) refl refl refl);
}

pub counted_marks_are_takes : CountedMarksAreTakes
counted_marks_are_takes b ps r left h = record {
  taken = takes_at b ps r left h;
  added = λ t. sym (call_added _ t (counted_taken r) (same-counted_number r ∙ h.refusal) (dynamic-several _ r h.dynamic) (none_taken b ps) refl refl refl);
}

pub groups_by_marks : GroupsByMarks
groups_by_marks = bodies_apart
