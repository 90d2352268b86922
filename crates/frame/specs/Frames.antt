-- Frames: bodies, constraints, and what is read off them.
use Rattle.std.specs.Prelude.{ℕ, Bool, true, false, not, ◌&&◌, ◌||◌, cond, List, [], ◌∷◌, ◌++◌, leb, ltb, eqb, length, get_or, take, drop}
use Rattle.lists.specs.Basics.{any, all, sum_of, max_of, count, range, mem, distinct, one}

-- a constraint: its endpoints, in their order, and whether it is live
pub record Constraint : Type 0 where
  pub ends : List ℕ
  pub live : Bool

-- a frame: a type for each body; manifold i has number i, joint j has number M + j
pub record Frame : Type 0 where
  pub types : List ℕ
  pub manifolds : List Constraint
  pub joints : List Constraint

-- what a body's type says: 0 is static, 1 kinematic; a dynamic one (2) connects bodies (islands)
abbrev pub connects : ℕ → Bool
connects t = eqb t 2

-- a drum whose line pull is logged (3) connects none
abbrev pub logged : ℕ → Bool
logged t = eqb t 3

-- the solver writes both, so both make conflicts (groups, marks, takes, D)
abbrev pub conflicts : ℕ → Bool
conflicts t = connects t || logged t

-- "none": the label of what has no island
abbrev pub none : ℕ
none = 65535

abbrev pub constraints : Frame → List Constraint
constraints f = f.manifolds ++ f.joints

-- the numbers of the constraints, and of the bodies
abbrev pub numbers : Frame → List ℕ
numbers f = range (length (constraints f))

abbrev pub bodies : Frame → List ℕ
bodies f = range (length f.types)

-- constraint n; where there is none, a dead one with no endpoints
abbrev pub nothing : Constraint
nothing = record { ends = []; live = false }

unfoldable pub constraint_at : Frame → ℕ → Constraint
constraint_at f n = get_or (constraints f) n nothing

-- is the body of this number dynamic?
unfoldable pub dynamic : Frame → ℕ → Bool
dynamic f b = connects (get_or f.types b 0)

-- does it make conflicts?
abbrev pub conflicting : Frame → ℕ → Bool
conflicting f b = conflicts (get_or f.types b 0)

-- a constraint is on a body: it is live and has that body as an endpoint
unfoldable pub on : ℕ → Constraint → Bool
on b c = c.live && mem b c.ends

-- a constraint touches a dynamic body
unfoldable pub touches : Frame → Constraint → Bool
touches f c = c.live && any (dynamic f) c.ends

-- how many endpoints a constraint has, at least and at most
abbrev pub fewest : ℕ
fewest = 2

abbrev pub most : ℕ
most = 4

abbrev pub counted : ℕ → Bool
counted c = leb fewest c && leb c most

-- question 7 of one constraint among nb bodies: live, it has two to four endpoints, all different and below nb
unfoldable pub fits : ℕ → List ℕ → Bool
fits nb bs = leb fewest (length bs) && leb (length bs) most && distinct bs && all (λ b. ltb b nb) bs

unfoldable pub sound : ℕ → Constraint → Bool
sound nb c = not c.live || fits nb c.ends

-- question 7 of a frame
unfoldable pub all_sound : Frame → Bool
all_sound f = all (sound (length f.types)) (constraints f)

-- turns: the constraints that touch a dynamic body
unfoldable pub turn_count : Frame → ℕ
turn_count f = count (touches f) (constraints f)

-- the constraints on a body that have an island, as those that touch a dynamic body do; counted for bodies that make conflicts only. Their
-- sum is the takes, the largest is D
unfoldable pub degree : Frame → ℕ → ℕ
degree f b = cond (conflicting f b) (count (λ c. touches f c && on b c) (constraints f)) 0

unfoldable pub degree_sum : Frame → ℕ
degree_sum f = sum_of (degree f) (bodies f)

unfoldable pub degree_max : Frame → ℕ
degree_max f = max_of (degree f) (bodies f)

-- ---- a frame as a call is lent it: types, endpoint pairs a, b, a, b, .., enabled bytes

-- one constraint a pair, live unless it has an enabled byte that is not 1; a last odd entry is no pair
abbrev pub constraint : Bool → ℕ → ℕ → Constraint
constraint live a b = record { ends = a ∷ b ∷ []; live = live }

abbrev pub constraints_of : List ℕ → List ℕ → List Constraint
constraints_of [] es = []
constraints_of (a ∷ []) es = []
constraints_of (a ∷ b ∷ r) [] = constraint true a b ∷ constraints_of r []
constraints_of (a ∷ b ∷ r) (e ∷ es) = constraint (eqb e 1) a b ∷ constraints_of r es

-- the frame of types, manifold pairs, joint pairs and the joints' enabled bytes
abbrev pub frame_of : List ℕ → List ℕ → List ℕ → List ℕ → Frame
frame_of ts ps js es = record { types = ts; manifolds = constraints_of ps []; joints = constraints_of js es }

-- constraints that have a count each: their endpoints stand constraint after constraint; live as pairs are
abbrev pub counted_of : List ℕ → List ℕ → List ℕ → List Constraint
counted_of [] bs es = []
counted_of (c ∷ cs) bs [] = record { ends = take c bs; live = true } ∷ counted_of cs (drop c bs) []
counted_of (c ∷ cs) bs (e ∷ es) = record { ends = take c bs; live = eqb e 1 } ∷ counted_of cs (drop c bs) es

-- joints by their counts; where there are no counts, pairs
abbrev pub joints_of : List ℕ → List ℕ → List ℕ → List Constraint
joints_of [] bs es = constraints_of bs es
joints_of (c ∷ cs) bs es = counted_of (c ∷ cs) bs es

-- the frame of types, manifold pairs, joint endpoints, the joints' counts and their enabled bytes
abbrev pub frame_with : List ℕ → List ℕ → List ℕ → List ℕ → List ℕ → Frame
frame_with ts ps bs cs es = record { types = ts; manifolds = constraints_of ps []; joints = joints_of cs bs es }

-- question 5 of counts, and how many endpoints they make
abbrev pub counts_known : List ℕ → Bool
counts_known cs = all counted cs

abbrev pub end_count : List ℕ → ℕ
end_count cs = sum_of (λ c. c) cs

-- a body's flag, from its type: 1 if it makes conflicts
abbrev pub flag_of : ℕ → ℕ
flag_of t = one (conflicts t)
