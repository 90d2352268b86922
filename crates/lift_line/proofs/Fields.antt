-- The first field that can't be read decides; where all can, the line asks for their numbers.
use Rattle.std.proofs.Common.{ℕ, ◌+◌, ◌<◌, ◌≤◌, ◌≡◌, true, false, ◌&&◌, List, Some, None, ltb, lt-ltb, le-ltb}
use Rattle.lists.proofs.Laws.{by_cases}
use Rattle.lift_line.specs.Lines.{end_of, number_at, second, third, fourth, written, followed, parted, readable, wanted, line_of}

-- the fields' places as the code finds them
module _ (text : List ℕ) (at₂ at₃ at₄ : ℕ) where
  pub none_1 : parted text 0 ≡ false → line_of text ≡ None
  unfolding line_of readable
  none_1 a = rw a

  module _ (e₂ : at₂ ≡ end_of text 0) (a : parted text 0 ≡ true) where
    pub none_2 : parted text (at₂ + 1) ≡ false → line_of text ≡ None
    unfolding line_of readable
    none_2 b = let b' : parted text (second text) ≡ false = rw e₂ at b in rw (a, b')

    module _ (e₃ : at₃ ≡ end_of text (at₂ + 1)) (b : parted text (at₂ + 1) ≡ true) where
      pub none_3 : parted text (at₃ + 1) ≡ false → line_of text ≡ None
      unfolding line_of readable
      none_3 c =
          let b' : parted text (second text) ≡ true = rw e₂ at b in
          let c' : parted text (third text) ≡ false = rw (e₃, e₂) at c in
          rw (a, b', c')

      module _ (e₄ : at₄ ≡ end_of text (at₃ + 1)) (c : parted text (at₃ + 1) ≡ true) where
        last : followed text (at₄ + 1) 10 10 ≡ followed text (fourth text) 10 10
        last = rw (e₄, e₃, e₂)

        readable_is : readable text ≡ (followed text (at₄ + 1) 10 10 && ltb (number_at text 0) 4294967296)
        unfolding readable
        readable_is =
            let b' : parted text (second text) ≡ true = rw e₂ at b in
            let c' : parted text (third text) ≡ true = rw (e₃, e₂) at c in
            rw (a, b', c', last)
            (by_cases (written text (fourth text)) (λ w. rw w) (λ w. rw w))

        pub none_4 : followed text (at₄ + 1) 10 10 ≡ false → line_of text ≡ None
        unfolding line_of
        none_4 d = rw (readable_is, d)

        module _ (d : followed text (at₄ + 1) 10 10 ≡ true) where
          pub none_5 : 4294967296 ≤ number_at text 0 → line_of text ≡ None
          unfolding line_of
          none_5 h = rw (readable_is, d, le-ltb (number_at text 0) 4294967296 h)

          pub all_read : number_at text 0 < 4294967296 → line_of text ≡ Some (wanted (number_at text 0) (number_at text (at₂ + 1)) (number_at text (at₃ + 1)) (number_at text (at₄ + 1)))
          unfolding line_of
          all_read h = rw (readable_is, d, lt-ltb (number_at text 0) 4294967296 h, e₄, e₃, e₂)
