-- The numbering of the islands. Before body b, each lower body in an island has its number, and so has each root whose set's lowest body is lower
-- than b. So a body that is the lowest of its set finds no number at its root, and any other finds its set's.
use Rattle.std.proofs.Common.{ℕ, suc, ◌+◌, ◌≤◌, ◌<◌, arith, le_refl, add-one, ◌≡◌, refl, sym, ap, ◌∙◌, subst, Bool, true, false, not, ◌&&◌, ◌||◌, cond, List, eqb, ltb, length, get_or, set, length-set, get_or-set_same, get_or-set_other, eqb-true, eq-eqb, ne_eqb, lt-ltb, le-ltb, ltb-false}
use Rattle.std.proofs.Math.Decide.{ℕ_discrete, dec_lt}
use Rattle.std.proofs.Math.Path.{fun_ext}
use Rattle.std.proofs.Math.ListN.{get_or-eq_default}
use Rattle.lists.specs.Basics.{one, count, range}
use Rattle.lists.proofs.Laws.{by_cases, clashes, or_left, get_or-any}
use Rattle.lists.proofs.Counts.{count_next, count-le}
use Rattle.frame.specs.Frames.{dynamic, none}
use Rattle.island_sets.specs.Sets.{root_of}
use Rattle.island_sets.specs.Steps.{Balanced, SameSets, LowestOf}
use Rattle.island_sets.proofs.Links.{root_root}
use Rattle.island_sets.proofs.Weights.{ends, root_inside}
use Rattle.island_labels.specs.Labels.{unnumbered, in_island_by, leads_by, Together, Numberable, Flagged, next_label, next_place, Stepped, Numbered, NumberedByLowest}

-- ---- the flags, at body b: l₀ at the start, l as it is
pub record Flagging (ts l₀ l : List ℕ) (b : ℕ) : Type 0 where
  pub inside : b ≤ length ts
  pub long : length l ≡ length l₀
  pub done : (x : ℕ) → x < b → get_or l x none ≡ cond (in_island_by ts l₀ x) unnumbered none
  pub todo : (x : ℕ) → b ≤ x → get_or l x none ≡ get_or l₀ x none

module _ (ts l₀ l : List ℕ) (b : ℕ) (w : Flagging ts l₀ l b) (size : length l₀ ≡ length ts) where
  -- what the code tests
  abbrev test : Bool
  test = eqb (get_or ts b 0) 2 && not (eqb (get_or l b 0) none)

  in_island_here : b < length ts → test ≡ in_island_by ts l₀ b
  unfolding dynamic
  in_island_here k = ap (λ (v : ℕ). eqb (get_or ts b 0) 2 && not (eqb v none)) (get_or-any l b 0 none (omega (arith, w.long)) ∙ w.todo b (le_refl b))

  pub flagging_turns : b < length ts → (f : ℕ) → f ≡ cond test unnumbered none → Flagging ts l₀ (set l b f) (b + 1)
  flagging_turns k f e = record {
    inside = omega (arith, k);
    long = length-set l b f ∙ w.long;
    done = λ x j. at x j (ℕ_discrete x b);
    todo = λ x j. get_or-set_other l b x f none (λ q. omega (arith, q, j)) ∙ w.todo x (omega (arith, j));
  }
    where
      at : (x : ℕ) → x < b + 1 → Dec (x ≡ b) → get_or (set l b f) x none ≡ cond (in_island_by ts l₀ x) unnumbered none
      at x j (yes q) = subst (λ (y : ℕ). get_or (set l b f) y none ≡ cond (in_island_by ts l₀ y) unnumbered none) (sym q)
          (get_or-set_same l b f none (omega (arith, w.long)) ∙ e ∙ ap (λ (t : Bool). cond t unnumbered none) (in_island_here k))
      at x j (no q) = get_or-set_other l b x f none q ∙ w.done x (omega (arith, q, j))

-- ---- one body, in the terms of `number_one`: r is its root
module _ (p l : List ℕ) (b n r : ℕ) (e : r ≡ root_of p b) (k : r < length l) where
  root_label : get_or l r 0 ≡ get_or l (root_of p b) none
  root_label = get_or-any l r 0 none k ∙ ap (λ (x : ℕ). get_or l x none) e

  pub stepped : (v q : ℕ) → v ≡ cond (eqb (get_or l r 0) unnumbered) n (get_or l r 0) → q ≡ cond (eqb (get_or l r 0) unnumbered) r b
      → (n' : ℕ) → n' ≡ n + one (eqb (get_or l r 0) unnumbered) → Stepped p l b n (set (set l q v) b v) n'
  stepped v q ev eq n' en = record {
    count = en ∙ ap (λ (x : ℕ). n + one (eqb x unnumbered)) root_label;
    labels = ap (λ (x : ℕ). set (set l x v) b v) (eq ∙ ap (λ (x : ℕ). cond (eqb x unnumbered) r b) root_label ∙ ap (λ (x : ℕ). cond (eqb (get_or l (root_of p b) none) unnumbered) x b) e)
        ∙ ap (λ (x : ℕ). set (set l (next_place p l b) x) b x) (ev ∙ ap (λ (x : ℕ). cond (eqb x unnumbered) n x) root_label);
  }

-- ---- the pass, for given lowest bodies low: m tells the bodies in islands
module _ (p : List ℕ) (m : ℕ → Bool) (low : ℕ → ℕ) where
  abbrev up_to : ℕ → ℕ
  up_to z = count (leads_by m low) (range z)

  -- before body b, y has its number
  abbrev numbered : ℕ → ℕ → Bool
  numbered b y = ltb y b || (eqb (root_of p y) y && ltb (low y) b)

  abbrev shown : ℕ → ℕ → ℕ
  shown b y = cond (m y) (cond (numbered b y) (up_to (low y)) unnumbered) none

  pub record State (l : List ℕ) (n b : ℕ) : Type 0 where
    pub islands : n ≡ up_to b
    pub table : (y : ℕ) → get_or l y none ≡ shown b y

  module _ (h : Balanced p) (few : (y : ℕ) → m y ≡ true → y < length p) (together : Together m (root_of p)) (o : LowestOf (root_of p) low) where
    same_low : (x y : ℕ) → root_of p x ≡ root_of p y → low x ≡ low y
    unfolding SameSets
    same_low x y e = eqb-true (low x) (low y) (sym (o.same x y) ∙ eq-eqb (root_of p x) (root_of p y) e)

    same_root : (x y : ℕ) → low x ≡ low y → root_of p x ≡ root_of p y
    unfolding SameSets
    same_root x y e = eqb-true (root_of p x) (root_of p y) (o.same x y ∙ eq-eqb (low x) (low y) e)

    pub state_ends : (l : List ℕ) (n b : ℕ) → State l n b → b ≡ length p → Numbered m low b n l
    state_ends l n b w e = record {
      islands_are = w.islands;
      labels_are = λ x. w.table x ∙ by_cases (m x)
          (λ i. rw (i, or_left (ltb x b) (eqb (root_of p x) x && ltb (low x) b) (lt-ltb x b (omega (arith, e, few x i)))))
          (λ i. rw i);
    }

    -- ---- body b's turn
    module _ (l : List ℕ) (n b : ℕ) (w : State l n b) (k : b < length p) (long : length l ≡ length p) where
      abbrev r : ℕ
      r = root_of p b

      root_fixed : root_of p r ≡ r
      root_fixed = root_root p (ends p h.0 h.1.weighed) b

      low_root : low r ≡ low b
      low_root = same_low r b root_fixed

      in_root : m r ≡ m b
      unfolding Together
      in_root = together r b root_fixed

      r_inside : r < length l
      r_inside = omega (arith, long, root_inside p h.0 h.1.weighed b k)

      -- a root has its number once its set's lowest body was met
      numbered_root : (c : ℕ) → numbered c r ≡ ltb (low b) c
      numbered_root c = by_cases (ltb (low b) c)
          (λ t. rw (low_root, eq-eqb (root_of p r) r root_fixed, t) (or_yes (ltb r c)))
          (λ t. rw (low_root, eq-eqb (root_of p r) r root_fixed, t, le-ltb r c (omega (arith, ltb-false (low b) c t, o.below r, low_root))))
        where
          or_yes : (t : Bool) → (t || true) ≡ true
          or_yes true = refl
          or_yes false = refl

      at_root : get_or l r none ≡ cond (m b) (cond (ltb (low b) b) (up_to (low b)) unnumbered) none
      at_root = w.table r ∙ rw (in_root, numbered_root b, low_root)

      small : up_to (low b) ≤ 4096
      small = omega (arith, count-le (leads_by m low) (low b), o.below b, k, h.1.few)

      -- the lowest of its set finds no number at its root, any other its set's
      at_first : m b ≡ true → low b ≡ b → get_or l r none ≡ unnumbered
      at_first i e = at_root ∙ rw (i, le-ltb (low b) b (omega (arith, e)))

      at_later : m b ≡ true → low b < b → get_or l r none ≡ up_to (low b)
      at_later i e = at_root ∙ rw (i, lt-ltb (low b) b e)

      at_out : m b ≡ false → get_or l r none ≡ none
      at_out i = at_root ∙ rw i

      later : (low b ≡ b → ⊥) → low b < b
      later q = omega (arith, o.below b, q)

      first_is : eqb (get_or l r none) unnumbered ≡ leads_by m low b
      first_is = by_cases (m b)
          (λ i. rw i (go i (ℕ_discrete (low b) b)))
          (λ i. rw i (ap (λ (v : ℕ). eqb v unnumbered) (at_out i)))
        where
          go : m b ≡ true → Dec (low b ≡ b) → eqb (get_or l r none) unnumbered ≡ eqb (low b) b
          go i (yes e) = eq-eqb (get_or l r none) unnumbered (at_first i e) ∙ sym (eq-eqb (low b) b e)
          go i (no e) = ne_eqb (get_or l r none) unnumbered (λ q. absurd (omega (arith, q, at_later i (later e), small))) ∙ sym (ne_eqb (low b) b e)

      label_is : next_label p l b n ≡ cond (m b) (up_to (low b)) none
      label_is = ap (λ (t : Bool). cond t n (get_or l r none)) first_is ∙ by_cases (m b)
          (λ i. rw i (go i (ℕ_discrete (low b) b)))
          (λ i. rw i (at_out i))
        where
          go : m b ≡ true → Dec (low b ≡ b) → cond (eqb (low b) b) n (get_or l r none) ≡ up_to (low b)
          go i (yes e) = rw (eq-eqb (low b) b e) (w.islands ∙ ap up_to (sym e))
          go i (no e) = rw (ne_eqb (low b) b e) (at_later i (later e))

      -- the body, its root, and any other after the turn
      shown_here : shown (suc b) b ≡ cond (m b) (up_to (low b)) none
      shown_here = rw (or_left (ltb b (suc b)) (eqb (root_of p b) b && ltb (low b) (suc b)) (lt-ltb b (suc b) (omega arith)))

      shown_root : shown (suc b) r ≡ cond (m b) (up_to (low b)) none
      shown_root = rw (in_root, numbered_root (suc b) ∙ lt-ltb (low b) (suc b) (omega (arith, o.below b)), low_root)

      lows : (z : ℕ) → (z ≡ b → ⊥) → ltb z b ≡ ltb z (suc b)
      lows z q = go (dec_lt z b)
        where
          go : Dec (z < b) → ltb z b ≡ ltb z (suc b)
          go (yes j) = lt-ltb z b j ∙ sym (lt-ltb z (suc b) (omega arith))
          go (no j) = le-ltb z b (omega arith) ∙ sym (le-ltb z (suc b) (omega (arith, q, j)))

      shown_other : (y : ℕ) → (y ≡ b → ⊥) → (y ≡ r → ⊥) → shown b y ≡ shown (suc b) y
      shown_other y q s = ap (λ (t : Bool). cond (m y) (cond t (up_to (low y)) unnumbered) none)
          (ap (λ (t : Bool). t || (eqb (root_of p y) y && ltb (low y) b)) (lows y q) ∙ by_cases (eqb (root_of p y) y)
          (λ i. ap (λ (t : Bool). ltb y (suc b) || (eqb (root_of p y) y && t)) (lows (low y) (λ e. s (sym (eqb-true (root_of p y) y i) ∙ same_root y b (low_met e)))))
          (λ i. rw i))
        where
          low_met : low y ≡ b → low y ≡ low b
          low_met e = sym (o.fixed y) ∙ ap low e

      abbrev v : ℕ
      v = next_label p l b n

      abbrev q : ℕ
      q = next_place p l b

      -- where the root had no number it has one now; where it had one, that is the set's
      with_first : (y : ℕ) → (y ≡ b → ⊥) → Dec (y ≡ r) → get_or (set l r v) y none ≡ shown (suc b) y
      with_first y z (yes s) = subst (λ (x : ℕ). get_or (set l r v) x none ≡ shown (suc b) x) (sym s) (get_or-set_same l r v none r_inside ∙ label_is ∙ sym shown_root)
      with_first y z (no s) = get_or-set_other l r y v none s ∙ w.table y ∙ shown_other y z s

      with_later : v ≡ get_or l r none → (y : ℕ) → (y ≡ b → ⊥) → Dec (y ≡ r) → get_or (set l b v) y none ≡ shown (suc b) y
      with_later e y z (yes s) = get_or-set_other l b y v none z ∙ subst (λ (x : ℕ). get_or l x none ≡ shown (suc b) x) (sym s) (sym e ∙ label_is ∙ sym shown_root)
      with_later e y z (no s) = get_or-set_other l b y v none z ∙ w.table y ∙ shown_other y z s

      others : (y : ℕ) → (y ≡ b → ⊥) → get_or (set l q v) y none ≡ shown (suc b) y
      others y z = by_cases (eqb (get_or l r none) unnumbered)
          (λ t. let e : q ≡ r = rw t in ap (λ (x : ℕ). get_or (set l x v) y none) e ∙ with_first y z (ℕ_discrete y r))
          (λ t. let e : q ≡ b = rw t in let f : v ≡ get_or l r none = rw t in ap (λ (x : ℕ). get_or (set l x v) y none) e ∙ with_later f y z (ℕ_discrete y r))

      pub state_turns : (l' : List ℕ) (n' : ℕ) → Stepped p l b n l' n' → State l' n' (suc b)
      state_turns l' n' z = record {
        islands = z.count ∙ ap (λ (t : Bool). n + one t) first_is ∙ ap (λ (c : ℕ). c + one (leads_by m low b)) w.islands ∙ sym (count_next (leads_by m low) b);
        table = λ y. ap (λ (t : List ℕ). get_or t y none) z.labels ∙ at y (ℕ_discrete y b);
      }
        where
          at : (y : ℕ) → Dec (y ≡ b) → get_or (set (set l q v) b v) y none ≡ shown (suc b) y
          at y (yes z) = subst (λ (x : ℕ). get_or (set (set l q v) b v) x none ≡ shown (suc b) x) (sym z)
              (get_or-set_same (set l q v) b v none (omega (arith, length-set l q v, long, k)) ∙ label_is ∙ sym shown_here)
          at y (no z) = get_or-set_other (set l q v) b y v none z ∙ others y z

-- ---- the loop, at body b: f has the flags
abbrev waits : List ℕ → ℕ → Bool
waits f y = eqb (get_or f y none) unnumbered

pub record Numbering (p f l : List ℕ) (n b : ℕ) : Type 0 where
  pub inside : b ≤ length p
  pub long : length l ≡ length f
  pub states : (low : ℕ → ℕ) → LowestOf (root_of p) low → State p (waits f) low l n b

module _ (ts p l₀ f : List ℕ) (q : Balanced p) (h : Numberable ts p l₀) (w : Flagged (in_island_by ts l₀) f) (size : length f ≡ length l₀) where
  waits_are : waits f ≡ in_island_by ts l₀
  waits_are = fun_ext (λ y. ap (λ (v : ℕ). eqb v unnumbered) (w.labels y) ∙ told (in_island_by ts l₀ y))
    where
      told : (t : Bool) → eqb (cond t unnumbered none) unnumbered ≡ t
      told true = refl
      told false = refl

  waits_inside : (y : ℕ) → waits f y ≡ true → y < length p
  waits_inside y i = go (dec_lt y (length p))
    where
      go : Dec (y < length p) → y < length p
      go (yes k) = k
      go (no k) = let past : get_or f y none ≡ none = get_or-eq_default f none (omega (arith, k, size, h.long_bodies, h.long_parents)) in
          clashes (waits f y) i (ap (λ (v : ℕ). eqb v unnumbered) past)

  module _ (l : List ℕ) (n b : ℕ) (v : Numbering p f l n b) where
    pub long_now : length l ≡ length p
    long_now = v.long ∙ size ∙ h.long_bodies ∙ sym h.long_parents

    -- few islands so far
    pub numbering_few : n ≤ 4096
    numbering_few = omega (arith, (v.states h.lowest.0 h.lowest.1).islands, count-le (leads_by (waits f) h.lowest.0) b, v.inside, q.1.few)

    together : Together (waits f) (root_of p)
    together = subst (λ (m : ℕ → Bool). Together m (root_of p)) (sym waits_are) h.together

    pub numbering_turns : b < length p → (l' : List ℕ) (n' : ℕ) → length l' ≡ length l → Stepped p l b n l' n' → Numbering p f l' n' (b + 1)
    numbering_turns k l' n' el z = record {
      inside = omega (arith, k);
      long = el ∙ v.long;
      states = λ low o. subst (λ (c : ℕ). State p (waits f) low l' n' c) (sym (add-one b))
          (state_turns p (waits f) low q waits_inside together o l n b (v.states low o) k long_now l' n' z);
    }

    pub numbering_ends : length l ≤ b → NumberedByLowest ts p l₀ n l
    numbering_ends k = record {
      numbered = λ low o. subst (λ (c : ℕ). Numbered (in_island_by ts l₀) low c n l) (e ∙ h.long_parents)
          (subst (λ (m : ℕ → Bool). Numbered m low b n l) waits_are (state_ends p (waits f) low q waits_inside together o l n b (v.states low o) e));
    }
      where
        e : b ≡ length p
        e = omega (arith, k, long_now, v.inside)
