-- The samples hold: antt computes each answer from the definitions.
use Rattle.std.proofs.Common.{◌≡◌, refl, map}
use Rattle.frame.specs.Frames.{constraint_at, dynamic, on, touches, fits, sound, all_sound, degree, degree_max}
use Rattle.frame.specs.Questions.{few_each}
use Rattle.frame.specs.Files.{half, word, pairs_from, enabled_from, entry_refusal, entries_refusal, places_from, halves_from, decode, frame_refusal}
use Rattle.connected_sets.specs.Islands.{edges_of, edges, lowest, in_island, leads, island_count, body_label, label, of_island}
use Rattle.island.specs.Calls.{island_refusal, labels_after}
use Rattle.groups.specs.Groups.{clash, free_from, free, used_by, color_from, colors_of, group_count, members, group_bodies, positions, largest_group, flatten, offsets, plan_from}
use Rattle.plan_questions.specs.Plans.{update_refusal, group_part, positions_refusal}
use Rattle.plan_history.specs.Memory.{changes, remembered}
use Rattle.multi_coloring.specs.Counts.{multi_positions_refusal}
use Rattle.colored_bodies.specs.Bindings.{bind_refusal, padded, bound_of, bind_of, placed, spend, refusal_from, marks_from, take_refusal, take_marks, take_of}
use Rattle.schedules.specs.Runs.{flags, ends_of, pairs_for, counts_for, freshly, plan_at, members_in, bodies_in, lookup_refusal, lookup_of, take_rank, calls_from, group_calls, schedule, turns_of, takes_of, rising, run_refusal, run_of}
use Rattle.schedules.specs.Print.{digits, decimal, spaced, head_of, turn_line, refusal_line, turn_lines, first_line, answer_to, print_of}
use Rattle.schedules.specs.Samples.{answer, samples}
use Rattle.schedules.specs.Lanes.{LoggedShared}

computed : (map (λ s. answer s.ask) samples ≡ map (λ s. s.gives) samples) × LoggedShared
unfolding constraint_at dynamic on touches fits sound all_sound degree degree_max few_each half word pairs_from enabled_from entry_refusal entries_refusal places_from halves_from decode frame_refusal edges_of edges lowest in_island leads island_count body_label label of_island island_refusal labels_after clash free_from free used_by color_from colors_of group_count members group_bodies positions largest_group flatten offsets plan_from update_refusal changes remembered group_part positions_refusal multi_positions_refusal bind_refusal padded bound_of bind_of placed spend refusal_from marks_from take_refusal take_marks take_of flags ends_of pairs_for counts_for freshly plan_at members_in bodies_in lookup_refusal lookup_of take_rank calls_from group_calls schedule turns_of takes_of rising run_refusal run_of digits decimal spaced head_of turn_line refusal_line turn_lines first_line answer_to print_of
computed = (refl, (refl, refl, refl))

pub samples_hold : map (λ s. answer s.ask) samples ≡ map (λ s. s.gives) samples
samples_hold = computed.0

-- two islands share a logged body
pub logged_shared : LoggedShared
logged_shared = computed.1
