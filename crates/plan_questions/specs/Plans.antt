-- A plan: its tables, the questions of an update, and the lookups.
use Rattle.std.specs.Prelude.{ℕ, ◌+◌, ◌-◌, ◌*◌, Bool, ◌&&◌, cond, List, [], ◌∷◌, leb, ltb, length, get_or, take, drop}
use Rattle.lists.specs.Basics.{all}
use Rattle.frame.specs.Frames.{fits}
use Rattle.frame.specs.Questions.{question, asked, even, pair_count, bits}
use Rattle.groups.specs.Groups.{pairs_of}

-- ---- the thirteen tables, and question 6
pub record Tables : Type 0 where
  -- the remembered flags, one a body
  pub dynamic_bodies : List ℕ
  -- the remembered endpoints
  pub endpoints : List ℕ
  -- free: the Rust's adjacency, where each body's constraints start; not used
  pub body_offsets : List ℕ
  -- free: the constraints on each body; a plan with counts keeps the bounds of its constraints here
  pub body_constraints : List ℕ
  -- free: the uncolored constraints, then the sort's copy, then each body's place in its group
  pub scratch_offsets : List ℕ
  -- the color of each constraint
  pub constraint_colors : List ℕ
  -- free: not used
  pub color_stamps : List ℕ
  -- free: which bodies are busy in the open color, then the group in which each was last met
  pub body_stamps : List ℕ
  -- where each group's members start, with the end
  pub color_offsets : List ℕ
  -- the members, group after group
  pub colored_constraints : List ℕ
  -- where each group's bodies start, with the end
  pub color_body_offsets : List ℕ
  -- the bodies, group after group
  pub color_bodies : List ℕ
  -- the places of each constraint's endpoints among its group's bodies
  pub constraint_body_positions : List ℕ

-- these tables, in the order in which a call lends them
abbrev pub tables_of : List ℕ → List ℕ → List ℕ → List ℕ → List ℕ → List ℕ → List ℕ → List ℕ → List ℕ → List ℕ → List ℕ → List ℕ → List ℕ → Tables
tables_of dynamic_bodies endpoints body_offsets body_constraints scratch_offsets constraint_colors color_stamps body_stamps color_offsets colored_constraints color_body_offsets color_bodies constraint_body_positions = record {
  dynamic_bodies = dynamic_bodies;
  endpoints = endpoints;
  body_offsets = body_offsets;
  body_constraints = body_constraints;
  scratch_offsets = scratch_offsets;
  constraint_colors = constraint_colors;
  color_stamps = color_stamps;
  body_stamps = body_stamps;
  color_offsets = color_offsets;
  colored_constraints = colored_constraints;
  color_body_offsets = color_body_offsets;
  color_bodies = color_bodies;
  constraint_body_positions = constraint_body_positions;
}

-- room for b bodies, c constraints and e endpoints
unfoldable pub roomy_with : ℕ → ℕ → ℕ → Tables → Bool
roomy_with b c e t =
    leb b (length t.dynamic_bodies) && leb e (length t.endpoints) && leb (b + 1) (length t.body_offsets)
    && leb e (length t.body_constraints) && leb b (length t.scratch_offsets) && leb c (length t.scratch_offsets)
    && leb c (length t.constraint_colors) && leb c (length t.color_stamps) && leb b (length t.body_stamps)
    && leb (c + 1) (length t.color_offsets) && leb c (length t.colored_constraints) && leb (c + 1) (length t.color_body_offsets)
    && leb e (length t.color_bodies) && leb e (length t.constraint_body_positions)

-- the same where each constraint has two
abbrev pub roomy : ℕ → ℕ → Tables → Bool
roomy b c t = roomy_with b c (2 * c) t

-- ---- an update: questions 3 to 7, where `room` answers 6
unfoldable pub update_refusal : List ℕ → List ℕ → Bool → ℕ
update_refusal flags pairs room = asked
    (question 3 (leb (length flags) 4096 && leb (pair_count pairs) 8192)
    ∷ question 4 (even pairs)
    ∷ question 5 (bits flags)
    ∷ question 6 room
    ∷ question 7 (all (fits (length flags)) (pairs_of pairs))
    ∷ [])

-- ---- the lookups

-- the part of a table from place s to place e; empty if these don't lie in order inside it
abbrev pub part : ℕ → ℕ → List ℕ → List ℕ
part s e table = cond (leb s e && leb e (length table)) (take (e - s) (drop s table)) []

-- the part of group k of n groups; empty if there is no such group or its offsets are missing
unfoldable pub group_part : ℕ → List ℕ → List ℕ → ℕ → List ℕ
group_part n offsets table k =
    cond (ltb k n && ltb (k + 1) (length offsets)) (part (get_or offsets k 0) (get_or offsets (k + 1) 0) table) []

-- the positions of constraint r in a plan of n constraints: questions 3, 6 and 12
unfoldable pub positions_refusal : ℕ → List ℕ → ℕ → ℕ
positions_refusal n table r = asked
    (question 3 (leb n 8192)
    ∷ question 6 (leb (2 * n) (length table))
    ∷ question 12 (ltb r n)
    ∷ [])
