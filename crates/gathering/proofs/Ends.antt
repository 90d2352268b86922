-- The endpoints of constraints, one after another: a group's bodies are those among its members' endpoints, and there are no more of
-- them than endpoints. A list is passed body by body, or constraint by constraint.
use Rattle.std.proofs.Common.{ℕ, ◌+◌, ◌≤◌, ◌<◌, ◌≡◌, sym, ap, ◌∙◌, true, List, [], ◌∷◌, ◌++◌, append-nil, arith, add-one, eqb, length, get_or, take, drop, length-append, take-append-drop, take-suc, length-take-le, eqb-true}
use Rattle.std.proofs.Math.Bool.{or-false}
use Rattle.lists.specs.Basics.{one, sum_of, count, range, mem, join_map}
use Rattle.lists.proofs.Sums.{sum_le, sum_swap, length-filter}
use Rattle.lists.proofs.Laws.{any_in, get_or-mem, one-any, at_most_one, sum_one}
use Rattle.lists.proofs.Ranges.{join_map-append, filter_ext_in, any-join_map}
use Rattle.groups.specs.Groups.{members, group_bodies}
use Rattle.gathering.specs.Gathers.{among}

pub group_bodies_lem : (nb : ℕ) (cs : List (List ℕ)) (colors : List ℕ) (k : ℕ) → group_bodies nb cs colors k ≡ among nb (join_map (λ r. get_or cs r []) (members colors k))
unfolding group_bodies among
group_bodies_lem nb cs colors k = filter_ext_in _ (λ b. mem b (join_map (λ r. get_or cs r []) (members colors k))) (range nb) (λ b m. sym (any-join_map (eqb b) (λ r. get_or cs r []) (members colors k)))

pub among-few : (nb : ℕ) (bs : List ℕ) → length (among nb bs) ≤ length bs
unfolding among
among-few nb bs =
    omega (
      arith,
      length-filter (λ b. mem b bs) (range nb),
      sum_le (λ b. one (mem b bs)) (λ b. count (eqb b) bs) (range nb) (λ b. one-any (eqb b) bs),
      sum_swap (λ b x. one (eqb b x)) (range nb) bs,
      sum_le (λ x. sum_of (λ b. one (eqb b x)) (range nb)) (λ x. 1) bs (λ x. at_most_one x 0 nb),
      sum_one bs,
    )

-- ---- of the list `whole`, `front` is passed; `this` is next, and then `more` is passed
pub record Next (whole front this more : List ℕ) : Type 0 where
  pub joined : more ≡ front ++ this
  pub short : length more ≤ length whole
  pub inside : (b : ℕ) → mem b this ≡ true → mem b whole ≡ true

-- body by body
pub next-body : (bs : List ℕ) (i : ℕ) → i < length bs → Next bs (take i bs) (get_or bs i 0 ∷ []) (take (i + 1) bs)
next-body bs i h =
    record {
      joined = rw (add-one i) (take-suc bs i 0 h);
      short = omega (arith, length-take-le (i + 1) bs (omega arith));
      inside = λ b m. let e : b ≡ get_or bs i 0 = eqb-true b (get_or bs i 0) (sym (or-false (eqb b (get_or bs i 0))) ∙ m) in rw e (get_or-mem bs i h);
    }

-- constraint by constraint
pub next-part : (ends : ℕ → List ℕ) (ms : List ℕ) (i : ℕ) → i < length ms → Next (join_map ends ms) (join_map ends (take i ms)) (ends (get_or ms i 0)) (join_map ends (take (i + 1) ms))
next-part ends ms i h =
    let whole : join_map ends ms ≡ join_map ends (take (i + 1) ms) ++ join_map ends (drop (i + 1) ms) = ap (join_map ends) (sym (take-append-drop (i + 1) ms)) ∙ join_map-append ends (take (i + 1) ms) (drop (i + 1) ms) in
    record {
      joined = rw (add-one i, take-suc ms i 0 h, join_map-append ends (take i ms) (get_or ms i 0 ∷ []), append-nil);
      short = omega (arith, ap length whole, length-append (join_map ends (take (i + 1) ms)) (join_map ends (drop (i + 1) ms)));
      inside = λ b m. any-join_map (eqb b) ends ms ∙ any_in (λ r. mem b (ends r)) (get_or ms i 0) ms (get_or-mem ms i h) m;
    }
