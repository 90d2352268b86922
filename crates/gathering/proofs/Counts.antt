-- Counting by stamps: stamping one list of bodies and then another is stamping both, and the count goes on from where it stands. It is
-- at most the number of bodies passed, so it fits.
use Rattle.std.proofs.Common.{ℕ, ◌+◌, ◌≤◌, ◌<◌, ◌≡◌, refl, sym, ap, ◌∙◌, Bool, true, not, List, [], ◌∷◌, ◌++◌, arith, eqb, ltb, length, get_or, set, length-append, ltb-true}
use mir.Val.{bool_byte}
use Rattle.lists.specs.Basics.{one}
use Rattle.lists.proofs.Laws.{by_cases, and_left, all_in, all_intro}
use Rattle.gathering.specs.Gathers.{lacking, stamp_all, Stampable, Counted}
use Rattle.gathering.proofs.Stamps.{length-stamp_all, stamp_all-append, lacking-append, length-lacking}
use Rattle.gathering.proofs.Ends.{Next}

module _ (stamp : ℕ) (st : List ℕ) where
  pub counted_none : (start : ℕ) → Counted stamp [] start st st start
  unfolding lacking stamp_all
  counted_none start = record { stamps = refl; counted = omega arith }

  pub counted-one : (b : ℕ) → Counted stamp (b ∷ []) 0 st (set st b stamp) (one (not (eqb (get_or st b 0) stamp)))
  unfolding lacking stamp_all
  counted-one b = record { stamps = refl; counted = by_cases (eqb (get_or st b 0) stamp) (λ e. rw e) (λ e. rw e) }

-- the byte of a test is 1 or 0
pub counted-byte : {stamp n : ℕ} {bs st st' : List ℕ} (fresh : Bool) → Counted stamp bs 0 st st' (one fresh) → n ≡ bool_byte fresh → Counted stamp bs 0 st st' n
counted-byte fresh v e = let same : one fresh ≡ bool_byte fresh = by_cases fresh (λ q. rw q) (λ q. rw q) in rw (e, ← same) v

-- counted from 0, it can be added
pub counted-add : {stamp count : ℕ} {bs st st' : List ℕ} (start : ℕ) → Counted stamp bs 0 st st' count → Counted stamp bs start st st' (start + count)
counted-add start v = record { stamps = v.stamps; counted = omega (arith, v.counted) }

module _ {stamp start mid : ℕ} {front st st₁ : List ℕ} (v : Counted stamp front start st st₁ mid) where
  pub counted_size : length st₁ ≡ length st
  counted_size = ap length v.stamps ∙ length-stamp_all stamp st front

  pub counted_low : mid ≤ start + length front
  counted_low = omega (arith, v.counted, length-lacking stamp st front)

  counted_then : {this st₂ : List ℕ} {end : ℕ} → Counted stamp this mid st₁ st₂ end → Counted stamp (front ++ this) start st st₂ end
  counted_then {this} w =
      record {
        stamps = w.stamps ∙ rw v.stamps (sym (stamp_all-append stamp st front this));
        counted = w.counted ∙ rw (v.counted, v.stamps, lacking-append stamp st front this) (omega (arith, length-append (lacking stamp st front) (lacking stamp (stamp_all stamp st front) this)));
      }

  module _ {whole this more : List ℕ} (n : Next whole front this more) where
    pub stampable_next : Stampable whole st → Stampable this st₁
    stampable_next s =
        record {
          below = rw counted_size (all_intro (λ b. ltb b (length st)) this (λ b m. all_in (λ b. ltb b (length st)) b whole (n.inside b m) s.below));
          small = omega (arith, s.small, n.short, ap length n.joined, length-append front this);
        }

    pub counted_next : {st₂ : List ℕ} {end : ℕ} → Counted stamp this mid st₁ st₂ end → Counted stamp more start st st₂ end
    counted_next w = rw n.joined (counted_then w)

-- one body
pub body_below : {b : ℕ} {st : List ℕ} → Stampable (b ∷ []) st → b < length st
body_below {b} {st} s = ltb-true b (length st) (and_left (ltb b (length st)) true s.below)

-- the sum fits
pub counted-fits : {stamp count more : ℕ} {whole front this after st st₁ st₂ : List ℕ} → Stampable whole st → Next whole front this after → Counted stamp front 0 st st₁ count → Counted stamp this 0 st₁ st₂ more → count + more ≤ 65535
counted-fits {count = count} s n v w = omega (arith, counted_low (counted_next v n (counted-add count w)), n.short, s.small)
