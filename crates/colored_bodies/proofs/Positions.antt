-- Takes of two to four positions. Positions that pass questions 5 and 9 are at most four places; in rising order they are still places,
-- and the take of each in turn is a clause of `refusal_from` and `marks_from`. The flags are read before anything is taken.
use Rattle.std.proofs.Common.{ℕ, zero, suc, ◌+◌, ◌-◌, ◌≤◌, ◌<◌, ◌≡◌, refl, sym, ap, ◌∙◌, Bool, true, false, ◌&&◌, cond, Result, Ok, Err, List, [], ◌∷◌, ◌++◌, map, arith, add-one, leb, ltb, eqb, length, length-append, get_or, set, take, drop, replicate, drop_of_length-le, drop-cons, length-take-le, take_at, ltb-true, le-leb, leb-true, eq-eqb, ne_eqb}
use mathlib.Core.List.{map-append, map-map}
use Rattle.std.proofs.Math.ListN.{length-map, length-replicate}
use mir.Val.{bool_byte}
use Rattle.std.proofs.lemmas.Bool.{lt-leb}
use Rattle.std.proofs.lemmas.Bool.Decides.{nat_tests}
use Rattle.lists.specs.Basics.{all, one, distinct, sorted, four}
use Rattle.lists.proofs.Bits.{byte_one}
use Rattle.lists.proofs.Laws.{and_right, all_weaken, all_in, all_intro, all-get_or}
use Rattle.frame.specs.Frames.{counted}
use Rattle.frame.proofs.Questions.{passed, zero-cond}
use Rattle.colored_bodies.specs.Bindings.{placed, ask_refusal, spend, refusal_from, marks_from, take_refusal, take_marks, handed_at, take_of}
use Rattle.colored_bodies.specs.Answers.{Handable, MarksAt, TakesAt, flags_of, four_handed, handed_each, with_bodies_at}
use Rattle.colored_bodies.specs.Lent.{entries_at}
use Rattle.colored_bodies.specs.declared.BodyBinding.{BodyBinding}
use Rattle.colored_bodies.specs.declared.Handed.{Handed}
use Rattle.colored_bodies.specs.declared.multi.TakenAt.{TakenAt}
use Rattle.ordering.proofs.Sorting.{length-sorted}
use Rattle.colored_bodies.proofs.Fills.{pad_to, taken_more}
use Rattle.colored_bodies.proofs.Takes.{mem-sorted}
use Rattle.frame.proofs.Answered.{numbered}
use Rattle.frame.specs.declared.refusal.Refusal.{Refusal}
use Rattle.frame.specs.Refusals.{number_of}

-- ---- questions 5 and 9
abbrev pub Places : List ℕ → Type 0
Places ps = all (λ p. ltb p 4096) ps ≡ true

pub place_below : (ps : List ℕ) (i : ℕ) → Places ps → get_or ps i 0 < 4096
place_below ps i h = ltb-true (get_or ps i 0) 4096 (all-get_or (λ p. ltb p 4096) 0 ps i refl h)

under : (p count : ℕ) → ltb p (cond (ltb count 4096) count 4096) ≡ (ltb p count && ltb p 4096)
under p count = grind (arith, nat_tests)

all_under : (ps : List ℕ) (count : ℕ) → all (λ p. ltb p (cond (ltb count 4096) count 4096)) ps ≡ all (λ p. ltb p count && ltb p 4096) ps
all_under [] count = refl
all_under (p ∷ ps) count = rw (under p count, all_under ps count)

pub positions_placed : (ps : List ℕ) (count limit : ℕ) (t : Bool) → limit ≡ cond (ltb count 4096) count 4096 → t ≡ (distinct ps && all (λ p. ltb p limit) ps) → t ≡ placed count ps
unfolding placed
positions_placed ps count limit t l e = e ∙ ap (λ (m : ℕ). distinct ps && all (λ p. ltb p m) ps) l ∙ ap (λ (u : Bool). distinct ps && u) (all_under ps count)

-- what they are refused for: 9, or nothing
module _ (ps : List ℕ) (count limit : ℕ) (t : Bool) (k : 2 ≤ length ps) (h : length ps ≤ 4) (l : limit ≡ cond (ltb count 4096) count 4096) (e : t ≡ (distinct ps && all (λ p. ltb p limit) ps)) where
  pub ask_nine : t ≡ false → 9 ≡ ask_refusal count ps
  ask_nine f = rw (le-leb 2 (length ps) k, le-leb (length ps) 4 h, sym (positions_placed ps count limit t l e) ∙ f)

  pub ask_none : t ≡ true → 0 ≡ ask_refusal count ps
  ask_none f = rw (le-leb 2 (length ps) k, le-leb (length ps) 4 h, sym (positions_placed ps count limit t l e) ∙ f)

pub ask_passed : (ps : List ℕ) (count : ℕ) → 0 ≡ ask_refusal count ps → (length ps ≤ 4) × Places ps
unfolding placed
ask_passed ps count e =
    let q5 = passed (counted (length ps)) _ 4 (sym e) in
    let q9 = passed (placed count ps) 0 8 q5.1 in
    (leb-true (length ps) 4 (and_right (leb 2 (length ps)) (leb (length ps) 4) q5.0), all_weaken _ (λ p. ltb p 4096) ps (λ p. and_right (ltb p count) (ltb p 4096)) (and_right (distinct ps) (all (λ p. ltb p count && ltb p 4096) ps) q9.0))

-- ---- rising order
sorted_places : (ps : List ℕ) → Places ps → Places (sorted ps)
sorted_places ps h = all_intro (λ p. ltb p 4096) (sorted ps) (λ q m. all_in (λ p. ltb p 4096) q ps (sym (mem-sorted q ps) ∙ m) h)

-- places of which the first are the positions; and those sorted
module _ (ps first rest inner : List ℕ) (e : first ≡ ps) (s : inner ≡ sorted (take (length ps) (first ++ rest))) where
  copied_first : take (length ps) (first ++ rest) ≡ ps
  copied_first = ap (λ (l : List ℕ). take (length ps) (l ++ rest)) e ∙ take_at ps rest (length ps) refl

  inner_is : inner ≡ sorted ps
  inner_is = s ∙ ap sorted copied_first

  pub rising_places : Places ps → Places (take (length ps) (inner ++ drop (length ps) (first ++ rest)))
  rising_places h = ap (all (λ p. ltb p 4096)) (take_at inner (drop (length ps) (first ++ rest)) (length ps) (ap length inner_is ∙ length-sorted ps) ∙ inner_is) ∙ sorted_places ps h

-- ---- place after place
abbrev pub gone : ℕ → ℕ
gone i = cond (eqb i 0) 10 11

module _ (marks ps : List ℕ) (i : ℕ) where
  abbrev at : ℕ
  at = get_or ps i 0

  module _ (h : i < length ps) where
    pub each_gone : 1 < get_or marks at 0 → (gone i ≡ refusal_from (gone i) marks (drop i ps)) × (marks ≡ marks_from marks (drop i ps))
    unfolding refusal_from marks_from
    each_gone g = (rw (drop-cons ps i 0 h, lt-leb (get_or marks at 0) 1 g), rw (drop-cons ps i 0 h, lt-leb (get_or marks at 0) 1 g))

    pub each_turn : (after : List ℕ) → get_or marks at 0 ≤ 1 → after ≡ spend marks at
        → (refusal_from (gone (i + 1)) after (drop (i + 1) ps) ≡ refusal_from (gone i) marks (drop i ps)) × (marks_from after (drop (i + 1) ps) ≡ marks_from marks (drop i ps))
    unfolding refusal_from marks_from
    each_turn after g e =
        let later : gone (i + 1) ≡ 11 = rw (ne_eqb (i + 1) 0 (λ z. omega arith)) in
        (rw (later, e, drop-cons ps i 0 h, le-leb (get_or marks at 0) 1 g, add-one i), rw (e, drop-cons ps i 0 h, le-leb (get_or marks at 0) 1 g, add-one i))

  pub each_end : length ps ≤ i → (0 ≡ refusal_from (gone i) marks (drop i ps)) × (marks ≡ marks_from marks (drop i ps))
  unfolding refusal_from marks_from
  each_end h = (rw (drop_of_length-le ps {i = i} h), rw (drop_of_length-le ps {i = i} h))

-- ---- the flags
abbrev pub flag_at : List ℕ → ℕ → ℕ
flag_at marks p = one (eqb (get_or marks p 0) 1)

-- four places filled from the front, and then `none`
module _ {T : Type 0} (none : T) (table : List T) where
  abbrev entry : ℕ → T
  entry p = get_or table p none

  entries_padded : (ps : List ℕ) → entries_at none table ps ≡ map entry ps ++ replicate (4 - length (map entry ps)) none
  entries_padded ps = ap (λ (k : ℕ). map entry ps ++ replicate (4 - k) none) (sym (length-map ps entry))

  -- one more is filled
  pub entries_next : (ps : List ℕ) (i : ℕ) → i < length ps → length ps ≤ 4 → set (entries_at none table (take i ps)) i (entry (get_or ps i 0)) ≡ entries_at none table (take (i + 1) ps)
  entries_next ps i h few =
      let done = map entry (take i ps) in
      ap (λ (l : List T). set l i (entry (get_or ps i 0))) (entries_padded (take i ps))
      ∙ pad_to none 4 done i (entry (get_or ps i 0)) (length-map (take i ps) entry ∙ length-take-le i ps (omega arith)) (omega arith)
      ∙ ap (λ (l : List T). l ++ replicate (4 - length l) none) (sym (map-append entry (take i ps) (get_or ps i 0 ∷ [])) ∙ ap (map entry) (sym (taken_more ps i h)))
      ∙ sym (entries_padded (take (i + 1) ps))

pub entries_four : (table ps : List ℕ) → entries_at 0 table ps ≡ four (map (λ p. get_or table p 0) ps)
unfolding four
entries_four table ps = entries_padded 0 table ps

-- one more of four places is filled
pub four_next : (g : ℕ → ℕ) (ps : List ℕ) (i v : ℕ) → i < length ps → i < 4 → v ≡ g (get_or ps i 0) → set (four (map g (take i ps))) i v ≡ four (map g (take (i + 1) ps))
unfolding four
four_next g ps i v h few e =
    let done = map g (take i ps) in
    pad_to 0 4 done i v (length-map (take i ps) g ∙ length-take-le i ps (omega arith)) few
    ∙ ap (λ (w : ℕ). four (done ++ (w ∷ []))) e
    ∙ ap four (sym (map-append g (take i ps) (get_or ps i 0 ∷ [])) ∙ ap (map g) (sym (taken_more ps i h)))

pub flags_next : (marks ps : List ℕ) (i : ℕ) → i < length ps → length ps ≤ 4
    → set (four (map (flag_at marks) (take i ps))) i (bool_byte (eqb (get_or marks (get_or ps i 0) 0) 1)) ≡ four (map (flag_at marks) (take (i + 1) ps))
flags_next marks ps i h few = four_next (flag_at marks) ps i _ h (omega arith) (byte_one (eqb (get_or marks (get_or ps i 0) 0) 1))

pub four_none : replicate 4 0 ≡ four []
unfolding four
four_none = refl

-- four marks, and the flags that they make
abbrev held : ℕ → ℕ
held mark = one (eqb mark 1)

abbrev pub four_held : List ℕ → List Bool
four_held ms = eqb (get_or ms 0 0) 1 ∷ eqb (get_or ms 1 0) 1 ∷ eqb (get_or ms 2 0) 1 ∷ eqb (get_or ms 3 0) 1 ∷ []

held_each : (ms : List ℕ) → length ms ≡ 4 → map one (four_held ms) ≡ map held ms
held_each (a ∷ b ∷ c ∷ d ∷ []) h = refl
held_each [] h = absurd (omega arith)
held_each (a ∷ []) h = absurd (omega arith)
held_each (a ∷ b ∷ []) h = absurd (omega arith)
held_each (a ∷ b ∷ c ∷ []) h = absurd (omega arith)
held_each (a ∷ b ∷ c ∷ d ∷ e ∷ ms) h = absurd (omega arith)

map_replicate : {A B : Type 0} (f : A → B) (n : ℕ) (x : A) → map f (replicate n x) ≡ replicate n (f x)
map_replicate f zero x = refl
map_replicate f (suc n) x = ap (λ (l : List _). f x ∷ l) (map_replicate f n x)

held_four : (marks ps : List ℕ) → map held (four (map (λ p. get_or marks p 0) ps)) ≡ four (map (flag_at marks) ps)
unfolding four
held_four marks ps =
    let entries = map (λ (p : ℕ). get_or marks p 0) ps in
    let both : map held entries ≡ map (flag_at marks) ps = map-map held (λ (p : ℕ). get_or marks p 0) ps in
    let n : length entries ≡ length (map (flag_at marks) ps) = length-map ps (λ (p : ℕ). get_or marks p 0) ∙ sym (length-map ps (flag_at marks)) in
    map-append held entries (replicate (4 - length entries) 0)
    ∙ ap (λ (l : List ℕ). map held entries ++ l) (map_replicate held (4 - length entries) 0)
    ∙ ap (λ (l : List ℕ). l ++ replicate (4 - length entries) 0) both
    ∙ ap (λ (k : ℕ). map (flag_at marks) ps ++ replicate (4 - k) 0) n

length_entries : {T : Type 0} (none : T) (table : List T) (ps : List ℕ) → length ps ≤ 4 → length (entries_at none table ps) ≡ 4
length_entries {T = T} none table ps h =
    let entry : ℕ → T = λ p. get_or table p none in
    omega (arith, length-append (map entry ps) (replicate (4 - length ps) none), length-map ps entry, length-replicate (4 - length ps) none)

pub dynamic_four : (marks ps ms : List ℕ) → length ps ≤ 4 → ms ≡ entries_at 0 marks ps → map one (four_held ms) ≡ four (map (flag_at marks) ps)
dynamic_four marks ps ms h e =
    held_each ms (ap length e ∙ length_entries 0 marks ps h)
    ∙ ap (map held) (e ∙ entries_four marks ps)
    ∙ held_four marks ps

pub handable : (ps : List ℕ) (count : ℕ) → 0 ≡ ask_refusal count ps → Handable ps
handable ps count e =
    let q = ask_passed ps count e in
    record { room = q.0; within = λ i h. place_below ps i q.1 }

-- ---- the whole take
module _ (bodies marks ps : List ℕ) (count : ℕ) where
  abbrev binding : BodyBinding
  binding = record { bodies = bodies; marks = marks; count = count }

  pub at_refused : (r : Refusal) → number_of r ≡ ask_refusal count ps → MarksAt binding ps (Err r) marks
  unfolding take_of take_refusal take_marks four
  at_refused r e =
      let n : eqb (ask_refusal count ps) 0 ≡ false = ne_eqb (ask_refusal count ps) 0 (λ h. numbered r (e ∙ h)) in
      record { refusal = rw n e; dynamic = rw (n, n); marks = rw n }

  module _ (n : ℕ) (left : List ℕ) (a : 0 ≡ ask_refusal count ps) (two : (n ≡ refusal_from 10 marks (sorted ps)) × (left ≡ marks_from marks (sorted ps))) where
    number : n ≡ take_refusal binding ps
    unfolding take_refusal
    number = two.0 ∙ rw (sym a)

    after : left ≡ take_marks binding ps
    unfolding take_marks
    after = two.1 ∙ rw (sym a)

    pub at_gone : (r : Refusal) → number_of r ≡ n → MarksAt binding ps (Err r) left
    unfolding take_of four
    at_gone r e = record { refusal = e ∙ number; dynamic = rw (ne_eqb (take_refusal binding ps) 0 (λ z. numbered r (e ∙ number ∙ z))); marks = after }

    pub at_taken : (flags : List Bool) → 0 ≡ n → map one flags ≡ four (map (flag_at marks) ps) → MarksAt binding ps (Ok flags) left
    unfolding take_of
    at_taken flags z e = record { refusal = z ∙ number; dynamic = e ∙ rw (eq-eqb (take_refusal binding ps) 0 (sym (z ∙ number))) (ap four (sym (map-map (λ h. one h.dynamic) (handed_at binding) ps))); marks = after }

-- ---- four bodies, each with its flag
module _ (hs : List Handed) where
  abbrev past : Handed
  past = record { body = 0; dynamic = false }

  abbrev rest : List Handed
  rest = replicate (4 - length hs) past

  four_bodies : four (map (λ h. h.body) hs) ≡ map (λ h. h.body) (four_handed hs)
  unfolding four
  four_bodies =
      ap (λ (k : ℕ). map (λ h. h.body) hs ++ replicate (4 - k) 0) (length-map hs (λ h. h.body))
      ∙ ap (λ (l : List ℕ). map (λ h. h.body) hs ++ l) (sym (map_replicate (λ (h : Handed). h.body) (4 - length hs) past))
      ∙ sym (map-append (λ h. h.body) hs rest)

  four_flags : flags_of hs ≡ map (λ h. one h.dynamic) (four_handed hs)
  unfolding four
  four_flags =
      ap (λ (k : ℕ). map (λ h. one h.dynamic) hs ++ replicate (4 - k) 0) (length-map hs (λ h. one h.dynamic))
      ∙ ap (λ (l : List ℕ). map (λ h. one h.dynamic) hs ++ l) (sym (map_replicate (λ (h : Handed). one h.dynamic) (4 - length hs) past))
      ∙ sym (map-append (λ h. one h.dynamic) hs rest)

-- flags are known by their numbers
flag_read : (flags : List Bool) → map (λ n. eqb n 1) (map one flags) ≡ flags
flag_read [] = refl
flag_read (true ∷ flags) = ap (λ (l : List Bool). true ∷ l) (flag_read flags)
flag_read (false ∷ flags) = ap (λ (l : List Bool). false ∷ l) (flag_read flags)

flags_same : (flags : List Bool) (hs : List Handed) → map one flags ≡ map (λ h. one h.dynamic) hs → flags ≡ map (λ h. h.dynamic) hs
flags_same flags hs e =
    sym (flag_read flags) ∙ ap (map (λ n. eqb n 1)) (e ∙ sym (map-map one (λ h. h.dynamic) hs)) ∙ flag_read (map (λ h. h.dynamic) hs)

handed_same : (hs : List Handed) → length hs ≡ 4 → handed_each (map (λ h. h.body) hs) (map (λ h. h.dynamic) hs) ≡ hs
handed_same (a ∷ b ∷ c ∷ d ∷ []) h = refl
handed_same [] h = absurd (omega arith)
handed_same (a ∷ []) h = absurd (omega arith)
handed_same (a ∷ b ∷ []) h = absurd (omega arith)
handed_same (a ∷ b ∷ c ∷ []) h = absurd (omega arith)
handed_same (a ∷ b ∷ c ∷ d ∷ e ∷ hs) h = absurd (omega arith)

pub handed_four : (hs : List Handed) (bs : List ℕ) (flags : List Bool) → length hs ≤ 4 → bs ≡ four (map (λ h. h.body) hs) → map one flags ≡ flags_of hs → handed_each bs flags ≡ four_handed hs
handed_four hs bs flags few e f =
    rw (e ∙ four_bodies hs, flags_same flags (four_handed hs) (f ∙ four_flags hs))
    (handed_same (four_handed hs) (omega (arith, length-append hs (rest hs), length-replicate (4 - length hs) (past hs))))

-- ---- from a take of marks to the whole take
module _ (b : BodyBinding) (ps left : List ℕ) where
  -- a take that is not refused passed questions 5 and 9
  pub taken_handable : (flags : List Bool) → MarksAt b ps (Ok flags) left → Handable ps
  unfolding take_of take_refusal
  taken_handable flags k = handable ps b.count (sym (zero-cond (ask_refusal b.count ps) _ (sym k.refusal)).0)

  pub takes_refused : (r : Refusal) → MarksAt b ps (Err r) left → TakesAt b ps (Err r) (record { bodies = b.bodies; marks = left; count = b.count })
  unfolding take_of
  takes_refused r k =
      let none : eqb (take_refusal b ps) 0 ≡ false = ne_eqb (take_refusal b ps) 0 (λ z. numbered r (k.refusal ∙ z)) in
      record {
        refusal = k.refusal;
        count = rw none;
        handed = rw none;
        after = ap (λ (l : List ℕ). record { bodies = b.bodies; marks = l; count = b.count }) k.marks;
      }

  pub takes_taken : (flags : List Bool) (bs : List ℕ) → MarksAt b ps (Ok flags) left → bs ≡ four (map (λ p. get_or b.bodies p 0) ps)
      → TakesAt b ps (Ok (record { count = length ps; handed = handed_each bs flags })) (record { bodies = b.bodies; marks = left; count = b.count })
  unfolding take_of
  takes_taken flags bs k f =
      let all : eqb (take_refusal b ps) 0 ≡ true = eq-eqb (take_refusal b ps) 0 (sym k.refusal) in
      let few : length ps ≤ 4 = (taken_handable flags k).room in
      let bodies : bs ≡ four (map (λ h. h.body) (map (handed_at b) ps)) = f ∙ ap four (sym (map-map (λ h. h.body) (handed_at b) ps)) in
      record {
        refusal = k.refusal;
        count = rw all (sym (length-map ps (handed_at b)));
        handed = rw all (handed_four (map (handed_at b) ps) bs flags (omega (arith, length-map ps (handed_at b))) bodies (rw all at k.dynamic));
        after = ap (λ (l : List ℕ). record { bodies = b.bodies; marks = l; count = b.count }) k.marks;
      }

-- the whole take that a take of marks becomes once the bodies at its positions are read
pub takes_at : (b : BodyBinding) (ps : List ℕ) (m : Result (List Bool) Refusal) (left : List ℕ) → MarksAt b ps m left → TakesAt b ps (with_bodies_at b.bodies ps m) (record { bodies = b.bodies; marks = left; count = b.count })
takes_at b ps (Ok flags) left k = takes_taken b ps left flags _ k refl
takes_at b ps (Err r) left k = takes_refused b ps left r k

-- the marks that it leaves, in other words
pub takes_at_leaving : {b : BodyBinding} {ps : List ℕ} {t : Result TakenAt Refusal} {left left' : List ℕ} → TakesAt b ps t (record { bodies = b.bodies; marks = left; count = b.count }) → left' ≡ left
    → TakesAt b ps t (record { bodies = b.bodies; marks = left'; count = b.count })
takes_at_leaving h e = rw e h
