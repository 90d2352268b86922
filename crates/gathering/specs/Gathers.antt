-- What the stage needs and leaves: bodies stamped and counted, bodies noted, one group's bodies, all groups' bodies.
use Rattle.std.specs.Prelude.{ℕ, ◌+◌, ◌≤◌, ◌<◌, ◌≡◌, true, cond, List, [], ◌∷◌, ◌++◌, eqb, ltb, length, get_or, set, take, drop}
use Rattle.std.proofs.lemmas.List.Edits.{sets}
use Rattle.lists.specs.Basics.{filter, all, sum_of, range, mem, over}
use Rattle.groups.specs.Groups.{members, group_bodies, flatten, offsets}

-- the bodies bs, once each, rising
unfoldable pub among : ℕ → List ℕ → List ℕ
among nb bs = filter (λ b. mem b bs) (range nb)

-- the bodies bs that do not have the stamp, once each, in the order in which they come; and the stamps when all have it
unfoldable pub lacking : ℕ → List ℕ → List ℕ → List ℕ
lacking stamp st [] = []
lacking stamp st (b ∷ bs) = cond (eqb (get_or st b 0) stamp) (lacking stamp st bs) (b ∷ lacking stamp (set st b stamp) bs)

unfoldable pub stamp_all : ℕ → List ℕ → List ℕ → List ℕ
stamp_all stamp st [] = st
stamp_all stamp st (b ∷ bs) = stamp_all stamp (set st b stamp) bs

-- the bodies that have the stamp, rising
unfoldable pub stamped : ℕ → List ℕ → List ℕ
stamped stamp st = filter (λ b. eqb (get_or st b 0) stamp) (range (length st))

-- the bodies bs can be stamped: they exist, and their number fits
pub record Stampable (bs st : List ℕ) : Type 0 where
  pub below : all (λ b. ltb b (length st)) bs ≡ true
  pub small : length bs ≤ 65535

-- they are stamped, and those that did not have the stamp are counted, from `start` up to `end`
pub record Counted (stamp : ℕ) (bs : List ℕ) (start : ℕ) (st st' : List ℕ) (end : ℕ) : Type 0 where
  pub stamps : st' ≡ stamp_all stamp st bs
  pub counted : end ≡ start + length (lacking stamp st bs)

-- the bodies bs can be noted: there is room for all of them too
pub record Notable (bs st bodies : List ℕ) (start : ℕ) : Type 0 where
  pub stampable : Stampable bs st
  pub room : start + length bs ≤ length bodies

-- they are noted: those that are counted are also appended, from place `start` on
pub record Noted (stamp : ℕ) (bs : List ℕ) (start : ℕ) (st bodies st' bodies' : List ℕ) (end : ℕ) : Type 0 where
  pub counted : Counted stamp bs start st st' end
  pub appended : bodies' ≡ sets bodies start (lacking stamp st bs)

-- one group's bodies can be listed: no body has its stamp
pub record Fresh (bs : List ℕ) (stamp : ℕ) (st bodies : List ℕ) (start : ℕ) : Type 0 where
  pub notable : Notable bs st bodies start
  pub fresh : (b : ℕ) → get_or st b 0 < stamp

-- they are listed from place `start` to `end`, the other places are kept, and no stamp is above the group's
pub record Listed (bs : List ℕ) (stamp : ℕ) (st' bodies bodies' : List ℕ) (start end : ℕ) : Type 0 where
  pub counted : end ≡ start + length (among (length st') bs)
  pub listed : bodies' ≡ take start bodies ++ among (length st') bs ++ drop end bodies
  pub low : (b : ℕ) → get_or st' b 0 ≤ stamp

-- what `gather` needs: constraints cs on bodies that exist, with the members of all groups; no body stamped; tables of these lengths
pub record Gatherable (body_count : ℕ) (cs : List (List ℕ)) (colors : List ℕ) (color_count : ℕ) (color_offsets colored_constraints body_stamps scratch_offsets color_body_offsets color_bodies : List ℕ) : Type 0 where
  pub few_bodies : body_count ≤ 4096
  pub few : length colors ≤ 8192
  pub low : color_count ≤ length colors
  pub below : all (λ bs. all (λ b. ltb b body_count) bs) cs ≡ true
  pub small : sum_of length cs ≤ 65535
  pub starts : color_offsets ≡ offsets (members colors) color_count
  pub constraints : colored_constraints ≡ flatten (members colors) color_count
  pub stamps : length body_stamps ≡ body_count
  pub unstamped : (b : ℕ) → b < body_count → get_or body_stamps b 0 ≡ 0
  pub scratch : body_count ≤ length scratch_offsets
  pub ends : length color_body_offsets ≡ color_count + 1
  pub room : sum_of length cs ≤ length color_bodies

-- what it leaves: the bodies of all groups, group after group, and where each starts, with the end
pub record Gathered (body_count : ℕ) (cs : List (List ℕ)) (colors : List ℕ) (color_count : ℕ) (color_body_offsets' color_bodies color_bodies' : List ℕ) : Type 0 where
  pub starts : color_body_offsets' ≡ offsets (group_bodies body_count cs colors) color_count
  pub bodies : color_bodies' ≡ over (flatten (group_bodies body_count cs colors) color_count) color_bodies
