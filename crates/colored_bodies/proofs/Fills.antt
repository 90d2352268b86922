-- A bind fills its tables from the front: the first bodies and their marks, padded. An accepted
-- list is no longer than the types and stays below them, so each turn finds its type and its place.
use Rattle.std.proofs.Common.{ℕ, zero, suc, ◌+◌, ◌-◌, ◌≤◌, ◌<◌, ◌≡◌, refl, sym, ap, ◌∙◌, Bool, true, false, ◌&&◌, cond, List, [], ◌∷◌, ◌++◌, map, add-one, arith, leb, eqb, length, get_or, set, take, drop, replicate, length-append, take-suc, length-take-le, leb-true, eqb-true}
use mathlib.Core.List.{map-append}
use Rattle.std.proofs.Math.ListN.{length-map}
use Rattle.std.proofs.Math.Seq.{set_at, append_snoc}
use Rattle.lists.specs.Basics.{rises}
use Rattle.frame.specs.Questions.{types_known}
use Rattle.colored_bodies.specs.Bindings.{last_below, bind_refusal, mark_of, padded, bound_of, bind_of}
use Rattle.colored_bodies.specs.Answers.{Fillable}
use Rattle.colored_bodies.specs.declared.BodyBinding.{BodyBinding}
use Rattle.colored_bodies.proofs.Rises.{rises_from, rises_is, rises-room, rises_under}

-- one more element before the padding
pub pad_to : {T : Type 0} (none : T) (n : ℕ) (p : List T) (i : ℕ) (v : T) → length p ≡ i → i < n → set (p ++ replicate (n - length p) none) i v ≡ p ++ (v ∷ []) ++ replicate (n - length (p ++ (v ∷ []))) none
pad_to none n p i v e h =
    let less : n - length p ≡ suc (n - (length p + 1)) = omega arith in
    let same : n - (length p + 1) ≡ n - length (p ++ (v ∷ [])) = omega (arith, length-append p (v ∷ [])) in
    ap (λ (k : ℕ). set (p ++ replicate k none) i v) less
    ∙ set_at p none (replicate (n - (length p + 1)) none) v i e
    ∙ sym (append_snoc p v (replicate (n - (length p + 1)) none))
    ∙ ap (λ (k : ℕ). p ++ (v ∷ []) ++ replicate k none) same

pad_step : (p : List ℕ) (i v : ℕ) → length p ≡ i → i < 4096 → set (padded p) i v ≡ padded (p ++ (v ∷ []))
unfolding padded
pad_step p i v e h = pad_to 0 4096 p i v e h

pub taken_more : (l : List ℕ) (i : ℕ) → i < length l → take (i + 1) l ≡ take i l ++ (get_or l i 0 ∷ [])
taken_more l i h = rw (add-one, take-suc l i 0)

-- what an accepted bind says of its list
accepted_by : (a b c : Bool) (types indices : List ℕ) → leb (length types) 4096 ≡ a → (rises indices && last_below (length types) indices) ≡ c
    → ◌≡◌ {A = ℕ} (cond a (cond b (cond c 0 8) 5) 3) 0 → (length types ≤ 4096) × (rises_from 0 (length types) indices ≡ true)
accepted_by true true true types indices e r h = (leb-true _ _ e, rises_is (length types) indices ∙ r)
accepted_by true true false types indices e r h = absurd (omega arith)
accepted_by true false c types indices e r h = absurd (omega arith)
accepted_by false b c types indices e r h = absurd (omega arith)

accepted : (types indices : List ℕ) → bind_refusal types indices ≡ 0 → (length types ≤ 4096) × (rises_from 0 (length types) indices ≡ true)
unfolding bind_refusal
accepted types indices h = accepted_by _ (types_known types) _ types indices refl refl h

-- the bodies that a bind lists have places and types: none if it is refused
module _ (types indices bound : List ℕ) (refusal : ℕ) (asked : refusal ≡ bind_refusal types indices) (listed : bound ≡ cond (eqb refusal 0) indices []) where
  fillable_by : (t : Bool) → eqb refusal 0 ≡ t → Fillable types bound
  fillable_by true e =
      let ok = accepted types indices (sym asked ∙ eqb-true refusal 0 e) in
      let all : bound ≡ indices = listed ∙ rw e in
      rw all (record {
        room = omega (arith, ok.0, rises-room 0 (length types) indices ok.1);
        typed = λ i h. rises_under 0 (length types) indices i ok.1 h;
      })
  fillable_by false e = let none : bound ≡ [] = listed ∙ rw e in rw none (record { room = omega arith; typed = λ i h. absurd (omega arith) })

  pub fillable : Fillable types bound
  fillable = fillable_by (eqb refusal 0) refl

  abbrev filled : BodyBinding
  filled = record { bodies = padded bound; marks = padded (map (mark_of types) bound); count = length bound }

  bound_by : (t : Bool) → eqb refusal 0 ≡ t → filled ≡ bind_of types indices
  unfolding bind_of bound_of
  bound_by true e =
      let all : bound ≡ indices = listed ∙ rw e in
      simp (← asked, e, all)
  bound_by false e =
      let none : bound ≡ [] = listed ∙ rw e in
      simp (← asked, e, none)

  pub bound_is : filled ≡ bind_of types indices
  bound_is = bound_by (eqb refusal 0) refl

-- a list copied over zeros is padded
zeros : (n m : ℕ) → n ≤ m → drop {A = ℕ} n (replicate m 0) ≡ replicate (m - n) 0
zeros zero m h =
    let e : m ≡ m - 0 = omega arith in
    ap (λ (k : ℕ). replicate k 0) e
zeros (suc n) zero h = absurd (omega arith)
zeros (suc n) (suc m) h =
    let e : m - n ≡ suc m - suc n = omega arith in
    zeros n m (omega arith) ∙ ap (λ (k : ℕ). replicate k 0) e

pub list_padded : (xs : List ℕ) → length xs ≤ 4096 → xs ++ drop (length xs) (replicate 4096 0) ≡ padded xs
unfolding padded
list_padded xs h = rw (zeros (length xs) 4096 h)

-- one mark more
pub mark_next : (types indices : List ℕ) (i : ℕ) → i < length indices → i < 4096
    → set (padded (map (mark_of types) (take i indices))) i (mark_of types (get_or indices i 0)) ≡ padded (map (mark_of types) (take (i + 1) indices))
mark_next types indices i h room =
    pad_step (map (mark_of types) (take i indices)) i (mark_of types (get_or indices i 0)) (length-map (take i indices) (mark_of types) ∙ length-take-le i indices (omega arith)) room
    ∙ ap padded (sym (map-append (mark_of types) (take i indices) (get_or indices i 0 ∷ [])) ∙ ap (map (mark_of types)) (sym (taken_more indices i h)))

-- nothing filled yet
pub none_filled : padded [] ≡ replicate 4096 0
unfolding padded
none_filled = refl
