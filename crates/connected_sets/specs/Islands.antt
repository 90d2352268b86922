-- Islands: which bodies are connected, the lowest body of a connected set, its root by weight and its size, and the labels.
use Rattle.std.specs.Prelude.{ℕ, ◌≡◌, Bool, true, ◌&&◌, cond, eqb, length, get_or}
use mathlib.Core.List.{List, [], ◌∷◌, map, Memᴰ}
use Rattle.lists.specs.Basics.{filter, any, count, range, join_map}
use Rattle.frame.specs.Frames.{Constraint, Frame, constraints, numbers, bodies, constraint_at, dynamic, on, touches, none}
use Rattle.island_sets.specs.Sets.{merge, size_in, hang}

-- ---- the relation that islands are made by

-- one live constraint is on both bodies, and both are dynamic
pub record Linked (f : Frame) (x y : ℕ) : Type 0 where
  pub constraint : Constraint
  pub listed : Memᴰ constraint (constraints f)
  pub on_x : on x constraint ≡ true
  pub on_y : on y constraint ≡ true
  pub dynamic_x : dynamic f x ≡ true
  pub dynamic_y : dynamic f y ≡ true

-- a chain of such links leads from one body to the other
pub data Connected (f : Frame) : ℕ → ℕ → Type 0 where
  here : {x : ℕ} → Connected f x x
  step : {x y z : ℕ} → Linked f x y → Connected f y z → Connected f x z

-- ---- the same, computed: each body's lowest connected body

-- two bodies that are joined
pub record Edge : Type 0 where
  pub from : ℕ
  pub to : ℕ

-- the first body of a list with each of the others
abbrev pub star : List ℕ → List Edge
star [] = []
star (d ∷ ds) = map (λ (e : ℕ). record { from = d; to = e }) ds

-- a live constraint joins its dynamic endpoints
unfoldable pub edges_of : Frame → Constraint → List Edge
edges_of f c = cond c.live (star (filter (dynamic f) c.ends)) []

unfoldable pub edges : Frame → List Constraint → List Edge
edges f cs = join_map (edges_of f) cs

-- the sets of each edge become one
abbrev pub join : (ℕ → ℕ) → List Edge → ℕ → ℕ
join low [] = low
join low (e ∷ es) = join (merge low e.from e.to) es

-- at first each body is alone; then every constraint joins its bodies
unfoldable pub lowest : Frame → ℕ → ℕ
lowest f = join (λ x. x) (edges f (constraints f))

-- ---- the same sets by weight (document 02, request 7): each body's root, and how many bodies its set has

-- the sets of each edge become one among nb bodies, the smaller hung under the larger
abbrev pub hang_all : ℕ → (ℕ → ℕ) → List Edge → ℕ → ℕ
hang_all nb root [] = root
hang_all nb root (e ∷ es) = hang_all nb (hang nb root e.from e.to) es

-- at first each body is alone; then the constraints join their bodies, in order
unfoldable pub heaviest : Frame → ℕ → ℕ
heaviest f = hang_all (length f.types) (λ x. x) (edges f (constraints f))

-- how many bodies are connected with b
unfoldable pub set_size : Frame → ℕ → ℕ
set_size f b = size_in (length f.types) (lowest f) (lowest f b)

-- ---- labels

-- a body is in an island: it is dynamic, and a live constraint is on it
unfoldable pub in_island : Frame → ℕ → Bool
in_island f b = dynamic f b && any (on b) (constraints f)

-- it is the lowest body of its island
unfoldable pub leads : Frame → ℕ → Bool
leads f b = in_island f b && eqb (lowest f b) b

unfoldable pub island_count : Frame → ℕ
island_count f = count (leads f) (bodies f)

-- an island's number is how many islands have a lower lowest body
unfoldable pub body_label : Frame → ℕ → ℕ
body_label f b = cond (in_island f b) (count (leads f) (range (lowest f b))) none

-- a live constraint has the island of its (first) dynamic endpoint; with none, or disabled, it has none
unfoldable pub label : Frame → Constraint → ℕ
label f c = cond (touches f c) (body_label f (get_or (filter (dynamic f) c.ends) 0 0)) none

-- the constraints of an island, in rising number
unfoldable pub of_island : Frame → ℕ → List ℕ
of_island f i = filter (λ n. eqb i (label f (constraint_at f n))) (numbers f)
