-- What the private steps of the color stage need and leave: bodies made busy, a color closed.
use Rattle.std.specs.Prelude.{ℕ, ◌≤◌, ◌<◌, ◌≡◌, true, ◌&&◌, cond, List, ltb, eqb, length, get_or}
use Rattle.lists.specs.Basics.{all, mem}
use Rattle.groups.specs.Groups.{flagged}
use Rattle.coloring.specs.Coloring.{touched}

-- of the bodies bs the dynamic ones become busy, if the color fits; the others stay as they were
abbrev pub MadeBusy : List ℕ → ℕ → List ℕ → List ℕ → List ℕ → Type 0
MadeBusy flags fits bs busy busy' = (b : ℕ) → b < length busy → get_or busy' b 0 ≡ cond (eqb fits 1 && (flagged flags b && mem b bs)) 1 (get_or busy b 0)

-- the members ms of color k are constraints, on bodies that exist
pub record Closable (cs : List (List ℕ)) (k : ℕ) (ms colors busy : List ℕ) : Type 0 where
  pub few : length colors ≤ 8192
  pub color_few : k ≤ 8192
  pub inside : all (λ r. ltb r (length colors)) ms ≡ true
  pub bodies : all (λ bs. all (λ b. ltb b (length busy)) bs) cs ≡ true

-- color k is closed: the constraints ms have it, and their bodies are not busy; the others stay as they were
pub record Closed (cs : List (List ℕ)) (k : ℕ) (ms colors busy colors' busy' : List ℕ) : Type 0 where
  pub given : (r : ℕ) → r < length colors → get_or colors' r 0 ≡ cond (mem r ms) k (get_or colors r 0)
  pub idle : (b : ℕ) → b < length busy → get_or busy' b 0 ≡ cond (touched cs ms b) 0 (get_or busy b 0)
