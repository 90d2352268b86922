-- Decoding a file by its version: what its parts need, and that together they are what is left.
use Rattle.std.proofs.Common.{ℕ, ◌+◌, ◌-◌, ◌*◌, ◌/◌, ◌%◌, ◌≤◌, ◌≡◌, sym, ap, ◌∙◌, true, false, List, ◌++◌, arith, length, take, drop, replicate, length-drop, length-take-le}
use borrow.Rule.Slice.PartMut.{put_mid}
use Rattle.lists.proofs.Fills.{two-parts}
use Rattle.lists.proofs.Laws.{no_length}
use Rattle.frame.specs.Files.{second, count_b, count_j, joints_at, pairs_from, enabled_from, manifolds_in, joint_ends_in}
use Rattle.frame.specs.Decodes.{ConstraintsDecodable, ConstraintsDecoded}
use Rattle.frame.specs.Joints.{Walkable, Entered}
use Rattle.frame.proofs.Files.{file_bytes, file-walked, ends-first_long, ends-second_long, all_counts-first, all_counts_long}
use Rattle.frame.proofs.Decoding.{enabled-part}
use Rattle.frame.proofs.Whole.{rest_of}

module _ (bs : List ℕ) (m : ℕ) (ps cs es : List ℕ) (r : ConstraintsDecodable bs m ps cs es) where
  -- the front of the table of endpoints, for the manifolds' pairs, and of the table of counts
  pub front_long : length (take (2 * m) ps) ≡ 2 * m
  front_long = length-take-le (2 * m) ps (omega (arith, r.ends, r.manifolds))

  counts_front_long : second bs ≡ true → length (take m cs) ≡ m
  counts_front_long v = length-take-le m cs (omega (arith, r.counts, all_counts_long bs v, r.manifolds))

  -- b is the number of bodies as it was read; a are the manifolds' endpoints
  module _ (b : ℕ) (a : List ℕ) (eb : b ≡ count_b bs) (ea : a ≡ pairs_from bs (11 + b) 4 (length (take (2 * m) ps) / 2)) (la : length a ≡ length (take (2 * m) ps)) where
    -- the table with them, and its rest
    abbrev table : List ℕ
    table = a ++ drop (2 * m) ps

    abbrev rest : List ℕ
    rest = take (length table - 2 * m) (drop (2 * m) table)

    from_is : 11 + b + 4 * m ≡ joints_at bs
    from_is = omega (arith, eb, r.manifolds)

    front_is : length a ≡ 2 * m
    front_is = la ∙ front_long

    rest_long : length rest ≡ length (joint_ends_in bs)
    rest_long = ap length (rest_of (2 * m) ps a front_is) ∙ omega (arith, length-drop (2 * m) ps, r.ends, r.manifolds)

    manifolds_are : a ≡ manifolds_in bs
    manifolds_are =
        let n : length (take (2 * m) ps) / 2 ≡ m = omega (arith, front_long) in
        rw (← eb, ← r.manifolds, ← n) ea

    -- both parts of the table, once the rest is written too
    ends_are : (j : List ℕ) → j ≡ joint_ends_in bs → put_mid (2 * m) (length table - 2 * m) table j ≡ manifolds_in bs ++ joint_ends_in bs
    ends_are j ej = two-parts (2 * m) ps a j front_is ∙ rw (manifolds_are, ej)

    -- version 2: w are the counts that were written for the manifolds
    module _ (v : second bs ≡ true) (w : List ℕ) (ew : w ≡ replicate (length (take m cs)) 2) (lw : length w ≡ length (take m cs)) where
      abbrev counts : List ℕ
      counts = w ++ drop m cs

      abbrev counts_rest : List ℕ
      counts_rest = take (length counts - m) (drop m counts)

      twos_long : length w ≡ m
      twos_long = lw ∙ counts_front_long v

      pub entries-ready : Walkable bs (11 + b + 4 * m) rest counts_rest es
      entries-ready = record {
        walked = rw (from_is, r.enabled) (file-walked bs r.file v);
        ends = rw (from_is, r.enabled) (rest_long ∙ sym (ends-second_long bs v) ∙ rw v);
        counts = ap length (rest_of m cs w twos_long) ∙ omega (arith, length-drop m cs, r.counts, all_counts_long bs v, r.manifolds, r.enabled);
      }

      pub second_decoded : (j d e : List ℕ) → Entered bs (11 + b + 4 * m) (length es) j d e
          → ConstraintsDecoded bs (put_mid (2 * m) (length table - 2 * m) table j) (put_mid m (length counts - m) counts d) e
      second_decoded j d e h = record {
        ends = ends_are j (h.ends ∙ rw (from_is, r.enabled, v));
        counts = two-parts m cs w d twos_long ∙ rw (ew, counts_front_long v, h.counts, from_is, r.enabled, r.manifolds, v);
        enabled = h.enabled ∙ rw (from_is, r.enabled, v);
      }

    -- version 1: js is the part of its joints
    pub pairs_ready : second bs ≡ false → (11 + b + 4 * m + 5 * (length rest / 2) ≤ length bs) × (length rest % 2 ≡ 0)
    pairs_ready v = (omega (arith, rest_long, ends-first_long bs v, file_bytes bs r.file v, from_is), omega (arith, rest_long, ends-first_long bs v))

    module _ (v : second bs ≡ false) (js : List ℕ) (d : js ≡ drop (11 + b + 4 * m) bs) where
      pub enabled-ready : length js ≡ 5 * length es
      enabled-ready = ap length d ∙ omega (arith, length-drop (11 + b + 4 * m) bs, file_bytes bs r.file v, from_is, r.enabled)

      pub first_decoded : (j e : List ℕ) → j ≡ pairs_from bs (11 + b + 4 * m) 5 (length rest / 2) → e ≡ enabled_from js 0 (length es)
          → ConstraintsDecoded bs (put_mid (2 * m) (length table - 2 * m) table j) cs e
      first_decoded j e ej ee = record {
        ends = ends_are j (ej ∙ joints_are);
        counts = no_length cs (r.counts ∙ ap length (all_counts-first bs v)) ∙ sym (all_counts-first bs v);
        enabled = ee ∙ ap (λ (ys : List ℕ). enabled_from ys 0 (length es)) d ∙ enabled-part bs (11 + b + 4 * m) 0 (length es) ∙ rw (start, r.enabled, v);
      }
        where
          start : 11 + b + 4 * m + 0 ≡ joints_at bs
          start = omega (arith, from_is)

          joints_are : pairs_from bs (11 + b + 4 * m) 5 (length rest / 2) ≡ joint_ends_in bs
          joints_are =
              let n : length rest / 2 ≡ count_j bs = omega (arith, rest_long, ends-first_long bs v) in
              rw (from_is, n, v)
