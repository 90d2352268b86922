-- The takes of all islands, as they are made from a frame's tables.
use Rattle.std.specs.Prelude.{ℕ, ◌≤◌, ◌<◌, ◌≡◌, true, List, length}
use Rattle.lists.specs.Basics.{join_map, range}
use Rattle.groups.specs.Groups.{members}
use Rattle.plan_questions.specs.Plans.{Tables, roomy_with}
use Rattle.schedules.specs.Runs.{Call}
use Rattle.island_numbers.specs.Numbers.{Labels, by_island, ends_among, counts_among, Collectable}
use Rattle.one_island.specs.Island.{island_calls, fresh_refusal, ranks}

-- island i, whose constraints are those of its label, by the endpoints and counts of all constraints
unfoldable pub calls_at : List ℕ → List ℕ → List ℕ → List ℕ → List ℕ → ℕ → List Call
calls_at types flags counts ends labels i =
    let ns = members labels i in
    island_calls types flags (counts_among counts ns) (ends_among counts ends ns) i ns

-- the islands in number order
unfoldable pub calls_of : List ℕ → List ℕ → List ℕ → List ℕ → List ℕ → ℕ → List Call
calls_of types flags counts ends labels islands = join_map (calls_at types flags counts ends labels) (range islands)

-- all islands can be run: the numbers are sorted, endpoints and counts can be collected in their order, and each island's update will be accepted
pub record Prepared (islands : ℕ) (flags counts ends labels numbers island_ends island_counts : List ℕ) (t : Tables) (plan_counts : List ℕ) : Type 0 where
  pub labels_are : Labels islands labels
  pub numbers_are : numbers ≡ by_island islands labels
  pub collectable : Collectable counts ends numbers t.body_constraints island_ends island_counts
  pub accepted : (i : ℕ) → i < islands → fresh_refusal flags (counts_among counts (members labels i)) (ends_among counts ends (members labels i)) ≡ 0
  pub ranked : (i : ℕ) → i < islands → length (members labels i) ≡ ranks (counts_among counts (members labels i)) (ends_among counts ends (members labels i))
  pub tables : roomy_with (length flags) (length labels) (length island_ends) t ≡ true
  pub plan_counts_room : length island_counts ≤ length plan_counts
