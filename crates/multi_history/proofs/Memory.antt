-- What an accepted update leaves remembered is its input, whether it answered "changed" or "unchanged".
use Rattle.std.proofs.Common.{ℕ, ◌≡◌, Bool, true, ◌&&◌, List}
use Rattle.lists.specs.Basics.{same}
use Rattle.lists.proofs.Laws.{and_left, and_right, by_cases}
use Rattle.plan_history.proofs.Memory.{same-eq}
use Rattle.multi_coloring.specs.Counts.{multi_update_refusal}
use Rattle.multi_history.specs.Memory.{MultiMemory, multi_changes, multi_remembered}

-- three lists that are the same are equal
pub record Equal (flags ends counts : List ℕ) (m : MultiMemory) : Type 0 where
  pub flags_are : flags ≡ m.flags
  pub counts_are : counts ≡ m.counts
  pub ends_are : ends ≡ m.ends

pub all_equal : (flags ends counts : List ℕ) (m : MultiMemory) → (same flags m.flags && same counts m.counts && same ends m.ends) ≡ true → Equal flags ends counts m
all_equal flags ends counts m h =
    let two = and_left (same flags m.flags && same counts m.counts) (same ends m.ends) h in
    record {
      flags_are = same-eq flags m.flags (and_left (same flags m.flags) (same counts m.counts) two);
      counts_are = same-eq counts m.counts (and_right (same flags m.flags) (same counts m.counts) two);
      ends_are = same-eq ends m.ends (and_right (same flags m.flags && same counts m.counts) (same ends m.ends) h);
    }

pub multi_remembers : (m : MultiMemory) (flags ends counts : List ℕ) (room : Bool) → multi_update_refusal flags ends counts room ≡ 0 → multi_remembered m flags ends counts room ≡ record { flags = flags; ends = ends; counts = counts }
unfolding multi_remembered multi_changes
multi_remembers m flags ends counts room e = by_cases (same flags m.flags && same counts m.counts && same ends m.ends)
    (λ s. let w = all_equal flags ends counts m s in rw (e, s) (simp (w.flags_are, w.counts_are, w.ends_are)))
    (λ s. rw (e, s))
