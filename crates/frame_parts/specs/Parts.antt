-- The frame that stands in a run's tables, the refusal of its islands call, and what counting D needs.
use Rattle.std.specs.Prelude.{ℕ, ◌*◌, ◌≤◌, ◌≡◌, true, cond, Result, List, eqb, length, take, drop}
use Rattle.frame.specs.declared.Lists.{Lists}
use Rattle.frame.specs.declared.refusal.Refusal.{Refusal}
use Rattle.frame.specs.Lists.{frame_in}
use Rattle.frame.specs.Refusals.{refused_by}
use Rattle.frame.specs.Frames.{constraints, end_count, all_sound}
use Rattle.island.specs.Calls.{Rooms, island_refusal, multi_island_refusal}

-- the lists l stand in the tables of types, endpoints, counts and enabled bytes, with m manifolds first; without counts all are pairs
pub record Standing (ts ps : List ℕ) (m : ℕ) (cs es : List ℕ) (l : Lists) : Type 0 where
  pub types : l.types.now ≡ ts
  pub manifolds : l.manifolds.now ≡ take (2 * m) ps
  pub joint_ends : l.joint_ends.now ≡ drop (2 * m) ps
  pub joint_counts : l.joint_counts.now ≡ drop m cs
  pub enabled : l.enabled.now ≡ es

-- the refusal of their islands call: of pairs where there are no counts
abbrev pub standing_refusal : Lists → Rooms → ℕ
standing_refusal l r = cond (eqb (length l.joint_counts.now) 0)
    (island_refusal l.types.now l.manifolds.now l.joint_ends.now l.enabled.now r)
    (multi_island_refusal l.types.now l.manifolds.now l.joint_ends.now l.joint_counts.now l.enabled.now r)

-- unless the islands' call refused them, they passed question 7; the joints' counts make no more endpoints than there are
pub record Countable (built : Result ℕ Refusal) (l : Lists) (on_bodies : List ℕ) : Type 0 where
  pub joints : end_count l.joint_counts.now ≤ length l.joint_ends.now
  pub counts : length l.types.now ≤ length on_bodies
  pub sound : refused_by built ≡ 0 → all_sound (frame_in l) ≡ true
  pub few : length (constraints (frame_in l)) ≤ 8192
