-- The takes of one group, in any order: two members share no body that makes conflicts, since their colors are equal, so every take finds its bodies there.
use Rattle.std.proofs.Common.{cond, Bool, true, false, not, ◌||◌, ℕ, ◌≤◌, ◌<◌, ◌≡◌, refl, sym, ap, ◌∙◌, subst, List, [], ◌∷◌, map, arith, ltb, eqb, length, get_or, eqb-true, ltb-true, ltb-false, lt-ltb, le-leb}
use Rattle.std.proofs.lemmas.Bool.{eqb-false, not-true}
use Rattle.schedules.specs.Runs.{take_rank, Call, flags, ends_of, members_in, bodies_in, calls_from}
use Rattle.lists.specs.Basics.{all, mem, place, distinct, rises}
use Rattle.lists.proofs.Laws.{and_left, and_right, or_right, clashes, by_cases, not-true-false, mem_self, all_in, get_or-mem, rises-distinct, distinct-count, count-distinct, mem-count, count-any}
use Rattle.frame.specs.Frames.{Frame, constraint_at}
use Rattle.connected_sets.specs.Islands.{island_count, of_island}
use Rattle.groups.specs.Groups.{Plan, members, group_bodies, positions}
use Rattle.groups.proofs.Colors.{proper}
use Rattle.groups.proofs.Members.{member_is, members_rise, bodies_rise, bodies-few, bodies_exist, has_body}
use Rattle.colored_bodies.specs.Bindings.{last_below, bind_refusal, bind_of, take_of}
use Rattle.colored_bodies.specs.declared.Handed.{Handed}
use Rattle.colored_bodies.proofs.Takes.{typed, left_of, left-first, take_left}
use Rattle.schedules.specs.Condition.{SameNumbers, due}
use Rattle.schedules.proofs.Accepted.{Accepted, live, sized, flag_conflicts}
use Rattle.schedules.proofs.Plans.{ends_at, length-flags, colors_at, live_here, length_ends, length-colors, ends_are, Stands}

last_inside : (n : ℕ) (xs : List ℕ) → all (λ b. ltb b n) xs ≡ true → last_below n xs ≡ true
last_inside n [] h = refl
last_inside n (x ∷ []) h = and_left (ltb x n) true h
last_inside n (x ∷ y ∷ ys) h = last_inside n (y ∷ ys) (and_right (ltb x n) (all (λ b. ltb b n) (y ∷ ys)) h)

module _ {counted : Bool} (f : Frame) (ok : Accepted counted f) (i : ℕ) (l : i < island_count f) (p : Plan) (st : Stands f i p) (k : ℕ) (inside_k : k < p.groups) where
  abbrev nb : ℕ
  nb = length (flags f)

  abbrev colors : List ℕ
  colors = colors_at f i

  -- the constraint of rank r
  abbrev at : ℕ → ℕ
  at r = get_or (of_island f i) r 0

  bs : List ℕ
  bs = group_bodies nb (ends_of f i) colors k

  rising : rises bs ≡ true
  unfolding bs
  rising = bodies_rise nb (ends_of f i) colors k

  few : length bs ≤ 4096
  unfolding bs
  few = omega (arith, bodies-few nb (ends_of f i) colors k, length-flags f, ok.few_bodies)

  inside : all (λ b. ltb b (length f.types)) bs ≡ true
  unfolding bs
  inside = bodies_exist nb (ends_of f i) colors k (length f.types) (omega (arith, length-flags f))

  -- the bind is accepted, and nothing is gone at first
  bound_first : bind_of f.types (bodies_in p k) ≡ left_of f.types (λ b. false) bs
  unfolding bind_of bind_refusal bs
  bound_first = rw (st.bodies k inside_k, le-leb (length f.types) 4096 ok.few_bodies, ok.types_are_known, rising, last_inside (length f.types) bs inside) (left-first f.types bs)

  -- what is known of a member of the group
  record Member (r : ℕ) : Type 0 where
    color : get_or colors r 0 ≡ k
    ranked : r < length (of_island f i)
    ends_there : get_or (ends_of f i) r [] ≡ ends_at f (at r)
    is_live : (constraint_at f (at r)).live ≡ true

  know : (r : ℕ) → mem r (members colors k) ≡ true → Member r
  know r m =
      let o = member_is colors k r m in
      let h : r < length (of_island f i) = omega (arith, length-colors f ok i l) in
      record { color = sym o.1; ranked = h; ends_there = ends_are f ok i l r h; is_live = live_here f ok i l (at r) (get_or-mem (of_island f i) r h) }

  within : (r : ℕ) → mem r (members colors k) ≡ true → (b : ℕ) → mem b (ends_at f (at r)) ≡ true → mem b bs ≡ true
  unfolding bs
  within r m b h =
      let q = know r m in
      has_body nb (ends_of f i) colors k r b m (rw q.ends_there h) (omega (arith, ltb-true b (length f.types) (all_in (λ x. ltb x (length f.types)) b (ends_at f (at r)) h (live f ok (at r) q.is_live).inside), length-flags f))

  -- two members share no body that makes conflicts
  pub disjoint : (r s b : ℕ) → mem r (members colors k) ≡ true → mem s (members colors k) ≡ true → eqb r s ≡ false → typed f.types b ≡ true
      → mem b (ends_at f (at r)) ≡ true → mem b (ends_at f (at s)) ≡ true → ⊥
  disjoint r s b m n e t h j =
      let p = know r m in
      let q = know s n in
      by_cases (ltb r s)
      (λ x. proper (flags f) (ends_of f i) r s b (ltb-true r s x) (omega (arith, length_ends f ok i l, q.ranked)) (flag_conflicts f b ∙ t) (rw p.ends_there h) (rw q.ends_there j) (p.color ∙ sym q.color))
      (λ x. proper (flags f) (ends_of f i) s r b (omega (arith, ltb-false r s x, eqb-false r s e)) (omega (arith, length_ends f ok i l, p.ranked)) (flag_conflicts f b ∙ t) (rw q.ends_there j) (rw p.ends_there h) (q.color ∙ sym p.color))

  positions_are : (r : ℕ) → mem r (members colors k) ≡ true → positions nb (ends_of f i) colors r ≡ map (λ b. place b bs) (ends_at f (at r))
  unfolding positions bs
  positions_are r m = let q = know r m in rw (q.color, q.ends_there)

  -- what a call is to be: not refused, and handed what it is due
  abbrev pub Right : List Call → Type 0
  Right cs = (map (λ c. c.refusal) cs ≡ map (λ c. 0) cs) × (map (λ c. c.handed) cs ≡ map (λ c. due f c.constraint) cs)

  calls_right : (rs : List ℕ) (gone : ℕ → Bool) → ((r : ℕ) → mem r rs ≡ true → mem r (members colors k) ≡ true) → distinct rs ≡ true
      → ((r b : ℕ) → mem r rs ≡ true → mem b (ends_at f (at r)) ≡ true → typed f.types b ≡ true → gone b ≡ false)
      → Right (calls_from p (of_island f i) i k (left_of f.types gone bs) rs)
  unfolding calls_from
  calls_right [] gone all_members d fresh = (refl, refl)
  calls_right (r ∷ rs) gone all_members d fresh =
      let n = at r in
      let m = all_members r (mem_self r rs) in
      let q = know r m in
      let not_in : mem r rs ≡ false = not-true (mem r rs) (and_left (not (mem r rs)) (distinct rs) d) in
      let b₀ = left_of f.types gone bs in
      let asked : take_rank p b₀ r ≡ take_of b₀ (positions nb (ends_of f i) colors r) = st.takes b₀ r ∙ ap (λ (t : Bool). cond t (take_of b₀ (positions nb (ends_of f i) colors r)) (record { refusal = 12; handed = []; after = b₀ })) (lt-ltb r (length (ends_of f i)) (omega (arith, q.ranked, length_ends f ok i l))) in
      let taken = asked ∙ ap (take_of (left_of f.types gone bs)) (positions_are r m)
      ∙ take_left f.types gone bs (ends_at f n) (within r m) (rises-distinct bs rising) (live f ok n q.is_live).apart few (λ b h t. fresh r b (mem_self r rs) h t) (sized f ok n q.is_live) in
      let rest = calls_right rs (λ b. mem b (ends_at f n) || gone b)
      (λ s h. all_members s (or_right (eqb s r) (mem s rs) h))
      (and_right (not (mem r rs)) (distinct rs) d)
      (λ s b h j t. rw (fresh s b (or_right (eqb s r) (mem s rs) h) j t) (by_cases (mem b (ends_at f n))
      (λ z. absurd (disjoint r s b m (all_members s (or_right (eqb s r) (mem s rs) h))
      (not-true-false (eqb r s) (λ e. clashes (mem r rs) (ap (λ (x : ℕ). mem x rs) (eqb-true r s e) ∙ h) not_in)) t z j))
      (λ z. rw z))) in
      (rw taken (ap (λ (xs : List ℕ). 0 ∷ xs) rest.0), rw taken (ap (λ (xs : List (List Handed)). due f n ∷ xs) rest.1))

  -- the takes of a group, as the schedule makes them
  pub group_right : (rs : List ℕ) → SameNumbers rs (members_in p k) → Right (calls_from p (of_island f i) i k (bind_of f.types (bodies_in p k)) rs)
  group_right rs same =
      let same' : SameNumbers rs (members colors k) = subst (SameNumbers rs) (st.members k inside_k) same in
      rw bound_first (calls_right rs (λ b. false)
      (λ r m. count-any (eqb r) (members colors k) (omega (arith, mem-count r rs m, same' r)))
      (count-distinct rs (λ n. omega (arith, same' n, distinct-count n (members colors k) (rises-distinct (members colors k) (members_rise colors k)))))
      (λ r b h j t. refl))
