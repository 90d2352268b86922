-- Every table but the turn table has the largest size.
use Rattle.std.proofs.Common.{ℕ, ◌≤◌, List, arith, length, replicate}
use Rattle.std.proofs.Math.ListN.{length-replicate}
use Rattle.island.specs.Calls.{island_tables_of}
use Rattle.run_answer.specs.Lent.{Lent}
use Rattle.standalone_run.proofs.Rooms.{Ample, ran_alone}
use Rattle.standalone_run.proofs.run_file.Goals as goal

abbrev zeros : ℕ → List ℕ
zeros n = replicate n 0

-- the tables as they are lent

abbrev own : List ℕ → Lent
own ts = record {
  islands = island_tables_of (zeros 4096) (zeros 4096) (zeros 4096) (zeros 4096) (zeros 4096);
  turns = ts;
  types = zeros 4096;
  flags = zeros 4096;
  pairs = zeros 24576;
  island_pairs = zeros 24576;
  counts = zeros 8192;
  island_counts = zeros 8192;
  enabled = zeros 4096;
  numbers = zeros 8192;
  plan = record {
    dynamic_bodies = zeros 4096;
    endpoints = zeros 24576;
    body_offsets = zeros 4097;
    body_constraints = zeros 24576;
    scratch_offsets = zeros 8192;
    constraint_colors = zeros 8192;
    color_stamps = zeros 8192;
    body_stamps = zeros 4096;
    color_offsets = zeros 8193;
    colored_constraints = zeros 8192;
    color_body_offsets = zeros 8193;
    color_bodies = zeros 24576;
    constraint_body_positions = zeros 24576;
  };
  plan_counts = zeros 8192;
}

long : (n : ℕ) → n ≤ length (zeros n)
long n = omega (arith, length-replicate {A = ℕ} n 0)

ample : (ts : List ℕ) → Ample (own ts)
ample ts = record {
  parents = long 4096;
  sizes = long 4096;
  body_islands = long 4096;
  manifold_islands = long 4096;
  joint_islands = long 4096;
  types = long 4096;
  flags = long 4096;
  pairs = long 24576;
  island_pairs = long 24576;
  counts = long 8192;
  island_counts = long 8192;
  enabled = long 4096;
  numbers = long 8192;
  dynamic_bodies = long 4096;
  endpoints = long 24576;
  body_offsets = long 4097;
  body_constraints = long 24576;
  scratch_offsets = long 8192;
  constraint_colors = long 8192;
  color_stamps = long 8192;
  body_stamps = long 4096;
  color_offsets = long 8193;
  colored_constraints = long 8192;
  color_body_offsets = long 8193;
  color_bodies = long 24576;
  constraint_body_positions = long 24576;
  plan_counts = long 8192;
}

pub returns : goal.returns
returns c = ran_alone _ (own c.args.turns.now) (ample c.args.turns.now) _ _ c.run.ensures.ran
