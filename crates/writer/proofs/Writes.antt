-- Texts written one behind another are one text.
use Rattle.std.proofs.Common.{ℕ, ◌+◌, ◌≤◌, ◌≡◌, refl, sym, ap, ◌∙◌, List, [], ◌++◌, append_assoc, arith, length, length-append, take, drop}
use Rattle.std.proofs.Math.Seq.{take-length, paste}
use Rattle.lists.specs.Basics.{put}
use Rattle.lists.proofs.Puts.{put-none, put_then}
use Rattle.writer.specs.declared.Writer.{Writer}
use Rattle.writer.specs.Wrote.{Wrote, SameBytes}

-- the end of a copy
pub paste-put : (old : List ℕ) (at : ℕ) (text : List ℕ) (n : ℕ) → n ≡ length text → paste old at text n ≡ put at text old
unfolding put
paste-put old at text n e =
    ap (paste old at text) e
    ∙ ap (λ (l : List ℕ). take at old ++ l ++ drop (at + length text) old) (take-length text)
    ∙ append_assoc (take at old) text (drop (at + length text) old)

-- nothing
pub wrote_none : (old : Writer) → Wrote [] old old
wrote_none old = record { bytes = sym (put-none old.at old.out.now); next = omega arith; within = λ h. h; long = refl; kept = refl }

-- one text more
pub wrote_then : {a b : List ℕ} {old mid new : Writer} → Wrote a old mid → Wrote b mid new → old.at + length a + length b ≤ length old.out.now → Wrote (a ++ b) old new
wrote_then {a} {b} {old} {mid} {new} w v h = record {
  bytes = put_then old.at a old.out.now mid.out.now w.bytes b new.out.now mid.at w.next v.bytes (omega (arith, w.next));
  next = let e = length-append a b in omega (arith, w.next, v.next);
  within = λ i. omega (arith, w.next, v.next, v.long, w.long, h);
  long = v.long ∙ w.long;
  kept = v.kept ∙ w.kept;
}

pub same_of : {text : List ℕ} {old new : Writer} → Wrote text old new → SameBytes old new
same_of w = record { long = w.long; kept = w.kept }

pub same_then : {old mid new : Writer} → SameBytes old mid → SameBytes mid new → SameBytes old new
same_then v w = record { long = w.long ∙ v.long; kept = w.kept ∙ v.kept }

-- nothing more
pub wrote_also : {a : List ℕ} {old mid new : Writer} → Wrote a old mid → Wrote [] mid new → Wrote a old new
wrote_also {a} {old} {mid} {new} w v = record {
  bytes = v.bytes ∙ put-none mid.at mid.out.now ∙ w.bytes;
  next = omega (arith, w.next, v.next);
  within = λ i. omega (arith, w.within i, v.next, v.long);
  long = v.long ∙ w.long;
  kept = v.kept ∙ w.kept;
}
