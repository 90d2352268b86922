-- A frame that was made stands in the buffer already, and a refusal kept the buffer, so that its line is all that was put into it.
use Rattle.std.proofs.Common.{ℕ, ◌+◌, ◌≤◌, ◌≡◌, sym, ap, ◌∙◌, true, false, List, arith, leb, eqb, length, drop, length-append, length-drop, le-leb, Ok, Err}
use Rattle.std.proofs.lemmas.Bool.{not-true}
use Rattle.lists.specs.Basics.{over, put}
use Rattle.schedules.specs.Print.{refusal_line}
use Rattle.print_fields.specs.Puts.{longest, if_left, if_room}
use Rattle.frame_file.specs.Written.{file_length}
use Rattle.lists.proofs.Puts.{put_first}
use Rattle.frame.specs.declared.refusal.Refusal.{Refusal}
use Rattle.frame.specs.Refusals.{number_of}
use Rattle.writer.specs.declared.Writer.{Writer}
use Rattle.writer.specs.Wrote.{Wrote}
use Rattle.generator.specs.Draws.{generated_bytes}
use Rattle.generator.specs.Calls.{generate_refusal, Makes}
use Rattle.generator.proofs.Calls.{all_yes}
use Rattle.generator.proofs.Lifts.{generated_long}
use Rattle.lift_print.specs.Prints.{lift_of, Printed}

over_long : (text old new : List ℕ) → new ≡ over text old → length text ≤ length old → length new ≡ length old
over_long text old new e h = ap length e ∙ length-append text (drop (length text) old) ∙ omega (arith, length-drop (length text) old)

module _ (seed b m j : ℕ) (old new : List ℕ) (room : length old ≡ 40971) where
  pub frame_printed : (n : ℕ) → Makes seed b m j old new (Ok n) → Printed (lift_of seed b m j) old new n
  unfolding lift_of
  frame_printed n makes =
      let made = makes.made in
      let none : generate_refusal b m j 40971 ≡ 0 = ap (generate_refusal b m j) (sym room) ∙ sym made.refusal in
      let yes = all_yes b m j 40971 none in
      let size : length (generated_bytes seed b m j) ≡ file_length b m j = generated_long seed b m j yes.0 yes.1 in
      let there : new ≡ over (generated_bytes seed b m j) old = made.bytes ∙ rw (room, none) in
      record {
        buffer = rw none there;
        long = over_long (generated_bytes seed b m j) old new there (omega (arith, size, yes.2, room));
        as_long = made.as_long ∙ rw (room, none) (sym size);
      }

  pub refusal_printed : (k : Refusal) (out : List ℕ) (r : ℕ) → Makes seed b m j old new (Err k) → Printed (refusal_line (number_of k)) new out r → Printed (lift_of seed b m j) old out r
  unfolding lift_of
  refusal_printed k out r makes p =
      let made = makes.made in
      let some : eqb (number_of k) 0 ≡ false = ap (λ (n : ℕ). eqb n 0) made.refusal ∙ not-true _ (sym makes.refused) in
      let is : generate_refusal b m j 40971 ≡ number_of k = ap (generate_refusal b m j) (sym room) ∙ sym made.refusal in
      let kept : new ≡ old = made.bytes ∙ rw (room, is, some) in
      let q : Printed (refusal_line (number_of k)) old out r = rw kept at p in
      rw (is, some) q

-- a refusal's line, where there is room
pub line_printed : (n : ℕ) (old new : Writer) → old.at ≡ 0 → length old.out.now ≡ 40971 → Wrote (if_room (length old.out.now) old.at (refusal_line n)) old new → Printed (refusal_line n) old.out.now new.out.now new.at
unfolding if_left
line_printed n old new start room w =
    let fits : leb (old.at + longest) (length old.out.now) ≡ true = le-leb (old.at + longest) (length old.out.now) (omega (arith, start, room)) in
    let v : Wrote (refusal_line n) old new = rw fits at w in
    record {
      buffer = v.bytes ∙ ap (λ (i : ℕ). put i (refusal_line n) old.out.now) start ∙ put_first (refusal_line n) old.out.now;
      long = v.long;
      as_long = omega (arith, v.next, start);
    }
