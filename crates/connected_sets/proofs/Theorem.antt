-- Islands are the connected sets. `lowest` is the lowest body of the connected set, and two bodies have the same one exactly if they are connected:
-- an edge is a link, so `lowest` never leaves the set, and every link is an edge or goes over two, so it is the same all over the set.
-- An island's number counts the lowest bodies below its own, so labels are equal exactly for connected bodies, and rise with the lowest bodies.
use Rattle.std.proofs.Common.{ℕ, ◌≤◌, ◌<◌, arith, ◌≡◌, refl, sym, ap, ◌∙◌, subst, ⊎_elim, true, false, List, [], ◌∷◌, map, eqb, length, get_or, eqb-true, eq-eqb}
use Rattle.std.proofs.Math.Decide.{dec_lt}
use mathlib.Core.List.{Memᴰ}
use Rattle.std.proofs.Math.ListN.{get_or-eq_default}
use mathlib.Core.List.Memᴰ
use Rattle.lists.specs.Basics.{any, count, range, mem, filter}
use Rattle.lists.proofs.Laws.{and_left, and_right, and_both, or_left, or_right, or_cases, clashes, by_cases, mem_self, any_in, any_out, filter-mem, mem-filter, get_or_listed}
use Rattle.lists.proofs.Counts.{count-le, count_past, count_same}
use Rattle.frame.specs.Frames.{Constraint, Frame, constraints, constraint_at, nothing, dynamic, on, touches, none}
use Rattle.frame.proofs.Pairs.{live_number}
use Rattle.connected_sets.specs.Islands.{Edge, Linked, Connected, star, edges_of, edges, join, lowest, in_island, leads, island_count, body_label, label}
use Rattle.connected_sets.specs.Islands.Connected.{here, step}
use Rattle.connected_sets.proofs.Joins.{join_rel, join-le, join-edge}

-- ---- the edges of a list of bodies
fan_in : (d : ℕ) (ds : List ℕ) (e : Edge) → Memᴰ e (map (λ (x : ℕ). record { from = d; to = x }) ds) → (e.from ≡ d) × (mem e.to ds ≡ true)
fan_in d [] e m = absurd (Memᴰ.not-nil m)
fan_in d (x ∷ ds) e m = ⊎_elim
    (λ q. (ap (λ (g : Edge). g.from) q, or_left (eqb e.to x) (mem e.to ds) (eq-eqb e.to x (ap (λ (g : Edge). g.to) q))))
    (λ k. let r = fan_in d ds e k in (r.0, or_right (eqb e.to x) (mem e.to ds) r.1))
    (Memᴰ.cases_cons m)

fan_has : (d : ℕ) (ds : List ℕ) (x : ℕ) → mem x ds ≡ true → Memᴰ {A = Edge} (record { from = d; to = x }) (map (λ (y : ℕ). record { from = d; to = y }) ds)
fan_has d [] x m = clashes false m refl
fan_has d (y ∷ ds) x m = or_cases (eqb x y) (mem x ds) m
    (λ q. Memᴰ.head (ap (λ (n : ℕ). record { from = d; to = n }) (eqb-true x y q)))
    (λ k. Memᴰ.tail (fan_has d ds x k))

-- both ends of an edge of a star are in its list
star_in : (ds : List ℕ) (e : Edge) → Memᴰ e (star ds) → (mem e.from ds ≡ true) × (mem e.to ds ≡ true)
star_in [] e m = absurd (Memᴰ.not-nil m)
star_in (d ∷ ds) e m =
    let r = fan_in d ds e m in
    (or_left (eqb e.from d) (mem e.from ds) (eq-eqb e.from d r.0), or_right (eqb e.to d) (mem e.to ds) r.1)

-- what agrees over each edge of a star agrees over its list
star-same : (ds : List ℕ) (g : ℕ → ℕ) → ((e : Edge) → Memᴰ e (star ds) → g e.from ≡ g e.to) → (x y : ℕ) → mem x ds ≡ true → mem y ds ≡ true → g x ≡ g y
star-same [] g h x y mx my = clashes false mx refl
star-same (d ∷ ds) g h x y mx my = sym (to_hub x mx) ∙ to_hub y my
  where
    to_hub : (z : ℕ) → mem z (d ∷ ds) ≡ true → g d ≡ g z
    to_hub z m = or_cases (eqb z d) (mem z ds) m (λ q. ap g (sym (eqb-true z d q))) (λ k. h (record { from = d; to = z }) (fan_has d ds z k))

-- ---- edges and links
module _ (f : Frame) where
  edges_in : (cs : List Constraint) (e : Edge) → Memᴰ e (edges f cs) → (c : Constraint) × Memᴰ c cs × Memᴰ e (edges_of f c)
  unfolding edges
  edges_in [] e m = absurd (Memᴰ.not-nil m)
  edges_in (c ∷ cs) e m = ⊎_elim
      (λ k. (c, Memᴰ.head refl, k))
      (λ k. let r = edges_in cs e k in (r.0, Memᴰ.tail r.1, r.2))
      (Memᴰ.append_cases (edges_of f c) m)

  edges_has : (cs : List Constraint) (c : Constraint) (e : Edge) → Memᴰ c cs → Memᴰ e (edges_of f c) → Memᴰ e (edges f cs)
  unfolding edges
  edges_has [] c e m k = absurd (Memᴰ.not-nil m)
  edges_has (d ∷ cs) c e m k = ⊎_elim
      (λ q. Memᴰ.append_left (edges f cs) (subst (λ (g : Constraint). Memᴰ e (edges_of f g)) q k))
      (λ m'. Memᴰ.append_right (edges_of f d) (edges_has cs c e m' k))
      (Memᴰ.cases_cons m)

  -- the ends of an edge of a constraint are dynamic bodies that it is on
  edges_of_in : (c : Constraint) (e : Edge) → Memᴰ e (edges_of f c) → (on e.from c ≡ true) × (dynamic f e.from ≡ true) × (on e.to c ≡ true) × (dynamic f e.to ≡ true)
  unfolding edges_of on
  edges_of_in c e m = by_cases c.live
      (λ q.
      let s = star_in (filter (dynamic f) c.ends) e (rw q at m) in
      let x = filter-mem (dynamic f) e.from c.ends s.0 in
      let y = filter-mem (dynamic f) e.to c.ends s.1 in
      (and_both c.live (mem e.from c.ends) q x.0, x.1, and_both c.live (mem e.to c.ends) q y.0, y.1))
      (λ q. absurd (Memᴰ.not-nil (rw q at m)))

  edge-link : (e : Edge) → Memᴰ e (edges f (constraints f)) → Linked f e.from e.to
  edge-link e m =
      let r = edges_in (constraints f) e m in
      let s = edges_of_in r.0 e r.2 in
      record { constraint = r.0; listed = r.1; on_x = s.0; on_y = s.2; dynamic_x = s.1; dynamic_y = s.3 }

  -- ---- the relation is an equivalence
  linked_back : (x y : ℕ) → Linked f x y → Linked f y x
  linked_back x y l = record { constraint = l.constraint; listed = l.listed; on_x = l.on_y; on_y = l.on_x; dynamic_x = l.dynamic_y; dynamic_y = l.dynamic_x }

  pub connected_on : (x y z : ℕ) → Connected f x y → Connected f y z → Connected f x z
  connected_on x y z here k = k
  connected_on x y z (step {y = w} l h) k = step l (connected_on w y z h k)

  pub connected_back : (x y : ℕ) → Connected f x y → Connected f y x
  connected_back x y here = here
  connected_back x y (step {y = w} l h) = connected_on y w x (connected_back w y h) (step (linked_back x w l) here)

  -- ---- `lowest`
  link-lowest : (x y : ℕ) → Linked f x y → lowest f x ≡ lowest f y
  unfolding lowest edges_of on
  link-lowest x y l =
      let c = l.constraint in
      let live = and_left c.live (mem x c.ends) l.on_x in
      star-same (filter (dynamic f) c.ends) (join (λ n. n) (edges f (constraints f)))
      (λ e m. join-edge (edges f (constraints f)) (λ n. n) e (edges_has (constraints f) c e l.listed (rw live m)))
      x y
      (mem-filter (dynamic f) x c.ends (and_right c.live (mem x c.ends) l.on_x) l.dynamic_x)
      (mem-filter (dynamic f) y c.ends (and_right c.live (mem y c.ends) l.on_y) l.dynamic_y)

  -- connected bodies have the same lowest body
  pub lowest-same : (x y : ℕ) → Connected f x y → lowest f x ≡ lowest f y
  lowest-same x y here = refl
  lowest-same x y (step {y = w} l h) = link-lowest x w l ∙ lowest-same w y h

  -- it is in the set
  pub lowest_in : (x : ℕ) → Connected f x (lowest f x)
  unfolding lowest
  lowest_in x = join_rel (Connected f) (λ y. here) connected_back connected_on (edges f (constraints f)) (λ n. n) (λ y. here) (λ e m. step (edge-link e m) here) x

  -- bodies with the same lowest body are connected
  pub lowest_connected : (x y : ℕ) → lowest f x ≡ lowest f y → Connected f x y
  lowest_connected x y q = connected_on x (lowest f x) y (lowest_in x) (subst (λ (n : ℕ). Connected f n y) (sym q) (connected_back y (lowest f y) (lowest_in y)))

  pub lowest-le : (x : ℕ) → lowest f x ≤ x
  unfolding lowest
  lowest-le x = join-le (edges f (constraints f)) (λ n. n) (λ y. omega arith) x

  -- and no body of the set is lower
  pub lowest-least : (x y : ℕ) → Connected f x y → lowest f x ≤ y
  lowest-least x y h = omega (arith, lowest-same x y h, lowest-le y)

  -- ---- who is in an island
  on_some : (cs : List Constraint) (c : Constraint) (x : ℕ) → Memᴰ c cs → on x c ≡ true → any (on x) cs ≡ true
  on_some [] c x m e = absurd (Memᴰ.not-nil m)
  on_some (d ∷ cs) c x m e = ⊎_elim
      (λ q. or_left (on x d) (any (on x) cs) (ap (on x) (sym q) ∙ e))
      (λ k. or_right (on x d) (any (on x) cs) (on_some cs c x k e))
      (Memᴰ.cases_cons m)

  pub dynamic_below : (b : ℕ) → dynamic f b ≡ true → b < length f.types
  unfolding dynamic
  dynamic_below b e = go (dec_lt b (length f.types))
    where
      go : Dec (b < length f.types) → b < length f.types
      go (yes h) = h
      go (no n) = let z : get_or f.types b 0 ≡ 0 = get_or-eq_default f.types 0 (omega arith) in omega (arith, z, eqb-true (get_or f.types b 0) 2 e)

  pub on_island : (c : Constraint) (x : ℕ) → Memᴰ c (constraints f) → on x c ≡ true → dynamic f x ≡ true → in_island f x ≡ true
  unfolding in_island
  on_island c x m e d = and_both (dynamic f x) (any (on x) (constraints f)) d (on_some (constraints f) c x m e)

  pub connected_island : (x y : ℕ) → Connected f x y → in_island f x ≡ in_island f y
  connected_island x y here = refl
  connected_island x y (step {y = w} l h) =
      on_island l.constraint x l.listed l.on_x l.dynamic_x ∙ sym (on_island l.constraint w l.listed l.on_y l.dynamic_y) ∙ connected_island w y h

  island_leads : (x : ℕ) → in_island f x ≡ true → leads f (lowest f x) ≡ true
  unfolding leads
  island_leads x m = and_both (in_island f (lowest f x)) (eqb (lowest f (lowest f x)) (lowest f x))
      (sym (connected_island x (lowest f x) (lowest_in x)) ∙ m)
      (eq-eqb (lowest f (lowest f x)) (lowest f x) (sym (lowest-same x (lowest f x) (lowest_in x))))

  -- ---- the labels of bodies
  body-label : (x : ℕ) → in_island f x ≡ true → body_label f x ≡ count (leads f) (range (lowest f x))
  unfolding body_label
  body-label x m = rw m

  -- connected bodies have the same label
  pub connected_label : (x y : ℕ) → Connected f x y → body_label f x ≡ body_label f y
  unfolding body_label
  connected_label x y h = rw (connected_island x y h, lowest-same x y h)

  -- bodies of islands with the same label are connected
  pub label_connected : (x y : ℕ) → in_island f x ≡ true → in_island f y ≡ true → body_label f x ≡ body_label f y → Connected f x y
  label_connected x y mx my e = lowest_connected x y
      (count_same (leads f) (lowest f x) (lowest f y) (island_leads x mx) (island_leads y my) (sym (body-label x mx) ∙ e ∙ body-label y my))

  -- islands are numbered by their lowest bodies
  pub label-rises : (x y : ℕ) → in_island f x ≡ true → in_island f y ≡ true → lowest f x < lowest f y → body_label f x < body_label f y
  label-rises x y mx my h = omega (arith, body-label x mx, body-label y my, count_past (leads f) (lowest f x) (lowest f y) (island_leads x mx) h)

  -- their numbers are below their count, and there are no more of them than bodies
  pub body_below : (x : ℕ) → in_island f x ≡ true → body_label f x < island_count f
  unfolding island_count in_island
  body_below x m = omega (
    arith,
    body-label x m,
    count_past (leads f) (lowest f x) (length f.types) (island_leads x m) (omega (arith, lowest-le x, dynamic_below x (and_left (dynamic f x) (any (on x) (constraints f)) m))),
  )

  pub islands-few : island_count f ≤ length f.types
  unfolding island_count
  islands-few = count-le (leads f) (length f.types)

  -- ---- the labels of constraints

  -- a list with a member has a first one
  first_in : (ds : List ℕ) (x : ℕ) → mem x ds ≡ true → mem (get_or ds 0 0) ds ≡ true
  first_in [] x m = m
  first_in (d ∷ ds) x m = mem_self d ds

  -- a live constraint has the label of each of its dynamic endpoints
  pub label-each : (c : Constraint) (b : ℕ) → Memᴰ c (constraints f) → on b c ≡ true → dynamic f b ≡ true → label f c ≡ body_label f b
  unfolding label touches on
  label-each c b m e d =
      let live = and_left c.live (mem b c.ends) e in
      let in_ends = and_right c.live (mem b c.ends) e in
      let a = get_or (filter (dynamic f) c.ends) 0 0 in
      let r = filter-mem (dynamic f) a c.ends (first_in (filter (dynamic f) c.ends) b (mem-filter (dynamic f) b c.ends in_ends d)) in
      let l : Linked f a b = record { constraint = c; listed = m; on_x = and_both c.live (mem a c.ends) live r.0; on_y = e; dynamic_x = r.1; dynamic_y = d } in
      rw (and_both c.live (any (dynamic f) c.ends) live (any_in (dynamic f) b c.ends in_ends d)) (connected_label a b (step l here))

  pub label_below : (c : Constraint) → Memᴰ c (constraints f) → touches f c ≡ true → label f c < island_count f
  unfolding touches on
  label_below c m t =
      let live = and_left c.live (any (dynamic f) c.ends) t in
      let o = any_out (dynamic f) c.ends (and_right c.live (any (dynamic f) c.ends) t) in
      let e : on o.0 c ≡ true = and_both c.live (mem o.0 c.ends) live o.1 in
      omega (arith, label-each c o.0 m e o.2, body_below o.0 (on_island c o.0 m e o.2))

  pub label_below_at : (n : ℕ) → touches f (constraint_at f n) ≡ true → label f (constraint_at f n) < island_count f
  unfolding constraint_at touches
  label_below_at n t = label_below (get_or (constraints f) n nothing) (get_or_listed (constraints f) n nothing (live_number f n (and_left (constraint_at f n).live _ t))) t

  -- a constraint that has an island touches a dynamic body
  pub island_touches : (c : Constraint) → (label f c ≡ none → ⊥) → touches f c ≡ true
  unfolding label
  island_touches c h = by_cases (touches f c) (λ t. t) (λ t. absurd (h (rw t)))
