-- What numbers the islands and labels the constraints, step by step.
use Rattle.std.specs.Prelude.{ℕ, ◌+◌, min, ◌≡◌, Bool, not, ◌&&◌, cond, List, [], ◌∷◌, eqb, length, get_or, set}
use Rattle.lists.specs.Basics.{one, count, range}
use Rattle.frame.specs.Frames.{Constraint, Frame, frame_of, dynamic, none}
use Rattle.island_sets.specs.Sets.{root_of}
use Rattle.island_sets.specs.Steps.{Balanced, LowestOf}

-- a frame's bodies alone
abbrev pub bare : List ℕ → Frame
bare ts = frame_of ts [] [] []

-- ---- numbering

-- the label of a body that is in an island and has no number yet: above every number, and not none
abbrev pub unnumbered : ℕ
unnumbered = 65534

-- a body is in an island: it is dynamic and constrained
abbrev pub in_island_by : List ℕ → List ℕ → ℕ → Bool
in_island_by ts l x = dynamic (bare ts) x && not (eqb (get_or l x none) none)

-- it is the lowest of its set
abbrev pub leads_by : (ℕ → Bool) → (ℕ → ℕ) → ℕ → Bool
leads_by m low x = m x && eqb (low x) x

-- bodies of one set are in an island or not together
unfoldable pub Together : (ℕ → Bool) → (ℕ → ℕ) → Type 0
Together m root = (x y : ℕ) → root x ≡ root y → m x ≡ m y

-- parents and labels, as many of each as bodies, for sets that have a lowest body each
pub record Numberable (ts p l : List ℕ) : Type 0 where
  pub balanced : Balanced p
  pub long_parents : length p ≡ length ts
  pub long_bodies : length l ≡ length ts
  pub together : Together (in_island_by ts l) (root_of p)
  pub lowest : (low : ℕ → ℕ) × LowestOf (root_of p) low

-- the bodies in islands have no number yet, and any other has none
pub record Flagged (m : ℕ → Bool) (l : List ℕ) : Type 0 where
  pub labels : (x : ℕ) → get_or l x none ≡ cond (m x) unnumbered none

-- body b with n islands before it: it gets the label of its root, or n where that has no number yet, and then so does the root
abbrev pub next_label : List ℕ → List ℕ → ℕ → ℕ → ℕ
next_label p l b n = cond (eqb (get_or l (root_of p b) none) unnumbered) n (get_or l (root_of p b) none)

abbrev pub next_place : List ℕ → List ℕ → ℕ → ℕ
next_place p l b = cond (eqb (get_or l (root_of p b) none) unnumbered) (root_of p b) b

pub record Stepped (p l : List ℕ) (b n : ℕ) (l' : List ℕ) (n' : ℕ) : Type 0 where
  pub count : n' ≡ n + one (eqb (get_or l (root_of p b) none) unnumbered)
  pub labels : l' ≡ set (set l (next_place p l b) (next_label p l b n)) b (next_label p l b n)

-- the constrained bodies have the number of constrained lowest bodies below their own, any other has none
pub record Numbered (m : ℕ → Bool) (low : ℕ → ℕ) (size islands : ℕ) (l : List ℕ) : Type 0 where
  pub islands_are : islands ≡ count (leads_by m low) (range size)
  pub labels_are : (x : ℕ) → get_or l x none ≡ cond (m x) (count (leads_by m low) (range (low x))) none

-- the same of labels l that were made of l₀, by whichever function gives each set's lowest body
pub record NumberedByLowest (ts p l₀ : List ℕ) (islands : ℕ) (l : List ℕ) : Type 0 where
  pub numbered : (low : ℕ → ℕ) → LowestOf (root_of p) low → Numbered (in_island_by ts l₀) low (length ts) islands l

-- ---- a live constraint's label is the least of its bodies' labels
abbrev pub least : List ℕ → List ℕ → ℕ
least l [] = none
least l (x ∷ xs) = min (get_or l x none) (least l xs)

abbrev pub label_by : List ℕ → Constraint → ℕ
label_by l c = cond c.live (least l c.ends) none
