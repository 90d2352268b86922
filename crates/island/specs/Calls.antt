-- What an islands call answers, and what it leaves in its five tables.
use Rattle.std.specs.Prelude.{ℕ, ◌^◌, ◌≤◌, ◌<◌, ◌≡◌, Bool, ◌&&◌, cond, List, [], ◌∷◌, ◌++◌, map, eqb, leb, length, get_or, take, drop, replicate}
use Rattle.lists.specs.Basics.{over}
use Rattle.frame.specs.Frames.{Frame, frame_of, frame_with, counts_known, end_count, bodies, all_sound, none}
use Rattle.frame.specs.Questions.{Question, question, asked, few_each, even, pair_count, types_known, bits}
use Rattle.island_sets.specs.Sets.{link, root_of, links_of}
use Rattle.connected_sets.specs.Islands.{heaviest, set_size, island_count, body_label, label}

-- ---- the lent tables
pub record IslandTables : Type 0 where
  pub parents : List ℕ
  pub sizes : List ℕ
  pub body_islands : List ℕ
  pub manifold_islands : List ℕ
  pub joint_islands : List ℕ

-- these tables, in the order in which a call is lent them
abbrev pub island_tables_of : List ℕ → List ℕ → List ℕ → List ℕ → List ℕ → IslandTables
island_tables_of parents sizes body_islands manifold_islands joint_islands = record {
  parents = parents;
  sizes = sizes;
  body_islands = body_islands;
  manifold_islands = manifold_islands;
  joint_islands = joint_islands;
}

-- ---- their lengths, and the questions 3 to 7
pub record Rooms : Type 0 where
  pub parents : ℕ
  pub sizes : ℕ
  pub bodies : ℕ
  pub manifolds : ℕ
  pub joints : ℕ

-- how many entries each table has
abbrev pub rooms_of : IslandTables → Rooms
rooms_of t = record {
  parents = length t.parents;
  sizes = length t.sizes;
  bodies = length t.body_islands;
  manifolds = length t.manifold_islands;
  joints = length t.joint_islands;
}

-- question 6, of so many bodies, manifolds and joints
abbrev pub roomy : ℕ → ℕ → ℕ → Rooms → Bool
roomy b m j r = leb b r.parents && leb b r.sizes && leb b r.bodies && leb m r.manifolds && leb j r.joints

-- the questions before the 7th, of these types, manifold pairs, joint pairs and enabled bytes
abbrev pub early_questions : List ℕ → List ℕ → List ℕ → List ℕ → Rooms → List Question
early_questions ts ps js es r =
    question 3 (few_each (length ts) (pair_count ps) (pair_count js))
    ∷ question 4 (even ps && even js && eqb (length es) (pair_count js))
    ∷ question 5 (types_known ts && bits es)
    ∷ question 6 (roomy (length ts) (pair_count ps) (pair_count js) r)
    ∷ []

-- the refusal of a call with them; 0 is acceptance
unfoldable pub island_refusal : List ℕ → List ℕ → List ℕ → List ℕ → Rooms → ℕ
island_refusal ts ps js es r = asked (early_questions ts ps js es r ++ question 7 (all_sound (frame_of ts ps js es)) ∷ [])

-- the same where the joints are lent as endpoints bs and counts cs
abbrev pub multi_early_questions : List ℕ → List ℕ → List ℕ → List ℕ → List ℕ → Rooms → List Question
multi_early_questions ts ps bs cs es r =
    question 3 (few_each (length ts) (pair_count ps) (length cs))
    ∷ question 4 (even ps && eqb (end_count cs) (length bs) && eqb (length es) (length cs))
    ∷ question 5 (types_known ts && bits es && counts_known cs)
    ∷ question 6 (roomy (length ts) (pair_count ps) (length cs) r)
    ∷ []

unfoldable pub multi_island_refusal : List ℕ → List ℕ → List ℕ → List ℕ → List ℕ → Rooms → ℕ
multi_island_refusal ts ps bs cs es r = asked (multi_early_questions ts ps bs cs es r ++ question 7 (all_sound (frame_with ts ps bs cs es)) ∷ [])

-- ---- parents and sizes (document 02, request 7)

-- after acceptance they are free but for this: following the links ends, at the root that weighted union gives, after so few links that 2 to
-- their number is at most the number of bodies in the set; and that number is the root's size
pub record WeighedSets (f : Frame) (p s : List ℕ) : Type 0 where
  pub ends : (b : ℕ) → link p (root_of p b) ≡ root_of p b
  pub roots : (b : ℕ) → root_of p b ≡ heaviest f b
  pub links : (b : ℕ) → b < length f.types → 2 ^ links_of p b ≤ set_size f b
  pub sizes : (b : ℕ) → b < length f.types → get_or s (root_of p b) 0 ≡ set_size f b

-- ---- the tables at exit, where k is the refusal

-- one of the two, where `alone` is what it holds while each body is alone: what lies beyond is kept; after 7 each body is alone, and after any
-- other refusal the table is as it was
pub record SetsAfter (k : ℕ) (alone old new : List ℕ) : Type 0 where
  pub beyond : drop (length alone) new ≡ drop (length alone) old
  pub reset : k ≡ 7 → new ≡ over alone old
  pub kept : (k ≡ 0 → ⊥) → (k ≡ 7 → ⊥) → new ≡ old

-- accepted: the labels; after 7: none everywhere; after any other refusal: as it was
unfoldable pub labels_after : ℕ → List ℕ → List ℕ → List ℕ
labels_after k labels old = cond (eqb k 0) (over labels old) (cond (eqb k 7) (over (replicate (length labels) none) old) old)

-- the contract: tables at entry (t) and at exit (u); the answer's number and its island count
pub record Built (f : Frame) (k : ℕ) (t u : IslandTables) (number islands : ℕ) : Type 0 where
  pub refusal : number ≡ k
  pub count : islands ≡ cond (eqb k 0) (island_count f) 0
  pub body_labels : u.body_islands ≡ labels_after k (map (body_label f) (bodies f)) t.body_islands
  pub manifold_labels : u.manifold_islands ≡ labels_after k (map (label f) f.manifolds) t.manifold_islands
  pub joint_labels : u.joint_islands ≡ labels_after k (map (label f) f.joints) t.joint_islands
  pub parents : SetsAfter k (bodies f) t.parents u.parents
  pub sizes : SetsAfter k (replicate (length f.types) 1) t.sizes u.sizes
  pub sets : k ≡ 0 → WeighedSets f (take (length f.types) u.parents) (take (length f.types) u.sizes)
