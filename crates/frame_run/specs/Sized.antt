-- A run on tables of the frame's sizes, once questions 1 to 6 are passed.
use Rattle.std.specs.Prelude.{ℕ, ◌+◌, ◌*◌, ◌≤◌, ◌≡◌, Bool, true, false, not, List, eqb, length, Result, is_err}
use Rattle.lists.specs.Basics.{over}
use Rattle.frame.specs.Questions.{asked}
use Rattle.frame.specs.Files.{file_questions, second, count_b, count_m, count_j, joint_ends_in, decode}
use Rattle.frame.specs.Decodes.{all_counts}
use Rattle.frame.specs.declared.Frame.{Frame}
use Rattle.frame.specs.declared.refusal.Refusal.{Refusal}
use Rattle.frame.specs.Refusals.{refused_by}
use Rattle.island.specs.Calls.{IslandTables, Built}
use Rattle.plan_questions.specs.Plans.{Tables, roomy_with}
use Rattle.schedules.specs.Runs.{run_of}
use Rattle.frame_tables.specs.Filled.{sound_refusal, IslandRoom}
use Rattle.run_answer.specs.declared.Report.{Report}
use Rattle.run_answer.specs.Answers.{run_report, reported}
use Rattle.run_answer.specs.Lent.{Lent, with_counts, entries_for, counts_room}
use Rattle.frame_run.specs.Calls.{roomy_in}

-- what stands once questions 1 to 6 are passed: the file's sizes, and a workspace that is long enough to be cut to them
pub record Cuttable (bs : List ℕ) (l : Lent) (a : Frame) : Type 0 where
  pub file : asked (file_questions bs) ≡ 0
  pub room : roomy_in bs l ≡ true
  pub version : with_counts a.version ≡ second bs
  pub bodies : a.bodies ≡ count_b bs
  pub manifolds : a.manifolds ≡ count_m bs
  pub joints : a.joints ≡ count_j bs
  pub ends : 2 * a.manifolds + a.joint_ends ≡ 2 * count_m bs + length (joint_ends_in bs)
  pub counted : counts_room (with_counts a.version) a.manifolds a.joints ≡ length (all_counts bs)
  pub few : (a.manifolds ≤ 4096) × (a.joints ≤ 4096) × (a.joint_ends ≤ 16384)
  pub types : a.bodies ≤ length l.types
  pub flags : a.bodies ≤ length l.flags
  pub pairs : 2 * a.manifolds + a.joint_ends ≤ length l.pairs
  pub island_pairs : 2 * a.manifolds + a.joint_ends ≤ length l.island_pairs
  pub counts : counts_room (with_counts a.version) a.manifolds a.joints ≤ length l.counts
  pub island_counts : counts_room (with_counts a.version) a.manifolds a.joints ≤ length l.island_counts
  pub plan_counts : counts_room (with_counts a.version) a.manifolds a.joints ≤ length l.plan_counts
  pub enabled : a.joints ≤ length l.enabled
  pub numbers : a.manifolds + a.joints ≤ length l.numbers

-- of the tables that a run on a sized frame cuts itself: the constraints by island, and the plan's counts
pub record CutTo (bs : List ℕ) (a : Frame) (ns ip ic pc : List ℕ) : Type 0 where
  pub manifolds : a.manifolds ≡ count_m bs
  pub joints : a.joints ≡ count_j bs
  pub few : (a.manifolds ≤ 4096) × (a.joints ≤ 4096) × (a.joint_ends ≤ 16384)
  pub numbers : a.manifolds + a.joints ≤ length ns
  pub island_pairs : 2 * a.manifolds + a.joint_ends ≤ length ip
  pub island_counts : counts_room (with_counts a.version) a.manifolds a.joints ≤ length ic
  pub plan_counts : counts_room (with_counts a.version) a.manifolds a.joints ≤ length pc

-- a table of counts keeps its length, and its content where the constraints have none
pub record WornCounts (counted : Bool) (old new : List ℕ) : Type 0 where
  pub pairs : counted ≡ false → new ≡ old
  pub long : length new ≡ length old

-- room in the tables that are not cut to size, and as many numbers, endpoints and counts for the islands as the frame has
pub record RoomySized (bs : List ℕ) (is : IslandTables) (ts ip ic ns : List ℕ) (t : Tables) (pc : List ℕ) : Type 0 where
  pub islands : IslandRoom bs is
  pub turns : 3 * (count_m bs + count_j bs) ≤ length ts
  pub island_pairs : length ip ≡ 2 * count_m bs + length (joint_ends_in bs)
  pub island_counts : length ic ≡ length (all_counts bs)
  pub numbers : length ns ≡ count_m bs + count_j bs
  pub tables : roomy_with (count_b bs) (count_m bs + count_j bs) (entries_for (second bs) (count_m bs) (count_j bs)) t ≡ true
  pub plan_counts : length (all_counts bs) ≤ length pc

-- the island tables and the turn table at entry and at exit, and the answer
pub record RanSized (bs : List ℕ) (is : IslandTables) (ts : List ℕ) (is' : IslandTables) (ts' : List ℕ) (r : Result Report Refusal) : Type 0 where
  pub refusal : refused_by r ≡ sound_refusal bs
  pub refused : is_err r ≡ not (eqb (sound_refusal bs) 0)
  pub report : run_report r ≡ reported (run_of bs true)
  pub turns : ts' ≡ over (run_of bs true).table ts
  pub islands : Built (decode bs) (sound_refusal bs) is is' (refused_by r) (run_report r).islands
