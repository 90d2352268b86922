-- A line that was written is read back: four fields of 1 to 19 digits, parted by a space, with a newline at the end.
use Rattle.std.proofs.Common.{ℕ, zero, suc, ◌+◌, ◌≤◌, ◌<◌, ◌≡◌, refl, sym, ap, ◌∙◌, true, false, List, [], ◌∷◌, ◌++◌, Some, append_assoc, arith, length, get_or, drop, length-append, drop_at, lt-ltb}
use Rattle.std.proofs.Math.Seq.{get_or_at}
use Rattle.lists.specs.Basics.{all}
use Rattle.lists.proofs.Laws.{and_left, and_right}
use Rattle.lift_line.specs.Lines.{digit, digits_of, value_of, field_at, end_of, number_at, second, third, fourth, written, parted, readable, wanted, line_of, Spelled, line_text}

digits_back : (n : ℕ) (ds : List ℕ) (x : ℕ) (rest : List ℕ) → all digit ds ≡ true → length ds ≤ n → digit x ≡ false → digits_of n (ds ++ x ∷ rest) ≡ ds
digits_back zero [] x rest a l h = refl
digits_back zero (d ∷ ds) x rest a l h = absurd (omega arith)
digits_back (suc n) [] x rest a l h = rw h
digits_back (suc n) (d ∷ ds) x rest a l h =
    rw (and_left (digit d) (all digit ds) a) (ap (λ (l : List ℕ). d ∷ l) (digits_back n ds x rest (and_right (digit d) (all digit ds) a) (omega arith) h))

-- a field stands at a place, and a byte that is no digit behind it
record Placed (text : List ℕ) (at : ℕ) (ds : List ℕ) (x : ℕ) (rest : List ℕ) : Type 0 where
  front : List ℕ
  here : length front ≡ at
  whole : text ≡ front ++ (ds ++ x ∷ rest)

module _ (text : List ℕ) (at : ℕ) (ds : List ℕ) (x : ℕ) (rest : List ℕ) (p : Placed text at ds x rest) (s : Spelled ds) (h : digit x ≡ false) where
  field_back : field_at text at ≡ ds
  unfolding field_at
  field_back =
      ap (λ (t : List ℕ). digits_of 19 (drop at t)) p.whole
      ∙ ap (digits_of 19) (drop_at p.front (ds ++ x ∷ rest) at p.here)
      ∙ digits_back 19 ds x rest s.digits s.few h

  end_back : end_of text at ≡ at + length ds
  unfolding end_of
  end_back = ap (λ (l : List ℕ). at + length l) field_back

  number_back : number_at text at ≡ value_of 0 ds
  unfolding number_at
  number_back = ap (value_of 0) field_back

  forward : text ≡ (p.front ++ ds) ++ x ∷ rest
  forward = p.whole ∙ sym (append_assoc p.front ds (x ∷ rest))

  byte_back : (e : ℕ) → get_or text (end_of text at) e ≡ x
  byte_back e =
      ap (λ (t : List ℕ). get_or t (end_of text at) e) forward
      ∙ get_or_at (p.front ++ ds) x rest e (end_of text at) (omega (arith, length-append p.front ds, p.here, end_back))

  written_back : written text at ≡ true
  written_back = lt-ltb at (end_of text at) (omega (arith, end_back, s.some))

  parted_back : x ≡ 32 → parted text at ≡ true
  parted_back e = rw (written_back, byte_back 0, e)

-- the next field
onward : (text : List ℕ) (at : ℕ) (ds : List ℕ) (x : ℕ) (es : List ℕ) (y : ℕ) (rest : List ℕ) (p : Placed text at ds x (es ++ y ∷ rest)) → Spelled ds → digit x ≡ false → Placed text (end_of text at + 1) es y rest
onward text at ds x es y rest p s h = record {
  front = (p.front ++ ds) ++ x ∷ [];
  here = omega (arith, length-append (p.front ++ ds) (x ∷ []), length-append p.front ds, p.here, end_back text at ds x (es ++ y ∷ rest) p s h);
  whole = forward text at ds x (es ++ y ∷ rest) p s h ∙ sym (append_assoc (p.front ++ ds) (x ∷ []) (es ++ y ∷ rest));
}

pub line-read_back : (seed bodies manifolds joints : List ℕ) → Spelled seed → Spelled bodies → Spelled manifolds → Spelled joints → value_of 0 seed < 4294967296 →
    line_of (line_text seed bodies manifolds joints) ≡ Some (wanted (value_of 0 seed) (value_of 0 bodies) (value_of 0 manifolds) (value_of 0 joints))
unfolding line_of readable
line-read_back a b c d sa sb sc sd h =
    let t = line_text a b c d in
    let pa : Placed t 0 a 32 (b ++ 32 ∷ (c ++ 32 ∷ (d ++ 10 ∷ []))) = record { front = []; here = refl; whole = refl } in
    let pb = onward t 0 a 32 b 32 (c ++ 32 ∷ (d ++ 10 ∷ [])) pa sa refl in
    let pc = onward t (second t) b 32 c 32 (d ++ 10 ∷ []) pb sb refl in
    let pd = onward t (third t) c 32 d 10 [] pc sc refl in
    rw (
      parted_back t 0 a 32 (b ++ 32 ∷ (c ++ 32 ∷ (d ++ 10 ∷ []))) pa sa refl refl,
      parted_back t (second t) b 32 (c ++ 32 ∷ (d ++ 10 ∷ [])) pb sb refl refl,
      parted_back t (third t) c 32 (d ++ 10 ∷ []) pc sc refl refl,
      written_back t (fourth t) d 10 [] pd sd refl,
      byte_back t (fourth t) d 10 [] pd sd refl 10,
      number_back t 0 a 32 (b ++ 32 ∷ (c ++ 32 ∷ (d ++ 10 ∷ []))) pa sa refl,
      number_back t (second t) b 32 (c ++ 32 ∷ (d ++ 10 ∷ [])) pb sb refl,
      number_back t (third t) c 32 (d ++ 10 ∷ []) pc sc refl,
      number_back t (fourth t) d 10 [] pd sd refl,
      lt-ltb (value_of 0 a) 4294967296 h,
    )
