-- Two lanes never hold one body. Two turns of one group have different constraints of one color, and the coloring is proper, so no body that
-- makes conflicts is on both. Turns of two islands have constraints of different labels, and a constraint has the label of each of its dynamic bodies.
use Rattle.std.proofs.Common.{ℕ, ◌<◌, ◌≡◌, sym, ap, ◌∙◌, Bool, true, false, ◌&&◌, List, ◌∷◌, ◌++◌, arith, eqb, length, get_or, eqb-true, ne_eqb}
use mathlib.Core.List.{Memᴰ}
use Rattle.lists.specs.Basics.{any, mem}
use Rattle.lists.proofs.Laws.{and_left, and_right, and_both, or_cases, clashes, not-true-false, any_in, any_out, get_or-mem, range_high, any-map, get_or_listed}
use Rattle.lists.proofs.Bits.{one-le}
use Rattle.frame.specs.Frames.{Constraint, Frame, connects, logged, constraints, constraint_at, nothing, dynamic, conflicting, on, touches}
use Rattle.frame.specs.Files.{second, decode, frame_refusal}
use Rattle.connected_sets.specs.Islands.{island_count, body_label, of_island}
use Rattle.connected_sets.proofs.Theorem.{label-each}
use Rattle.groups.specs.Groups.{members}
use Rattle.groups.proofs.Members.{member_is}
use Rattle.colored_bodies.specs.declared.Handed.{Handed}
use Rattle.schedules.specs.Runs.{Call, Plans, Orders, schedule}
use Rattle.schedules.specs.Condition.{Schedule, due}
use Rattle.schedules.specs.Lanes.{holds_body, Turns, Apart, LanesApart, IslandsApart, UnloggedApart}
use Rattle.schedules.proofs.Accepted.{Accepted, accepted, conflicting_below}
use Rattle.schedules.proofs.Plans.{ends_at, colors_at, Stands, of_island_lem, length-colors, planned_stands}
use Rattle.schedules.proofs.Groups.{disjoint}
use Rattle.schedules.proofs.Condition3.{all_turns, condition3}
use Rattle.schedules.proofs.Calls.{map_each, Member, call_member, numbers_differ, first_listed, second_listed}

-- a constraint on a body has it as an endpoint
on-end : (c : Constraint) (b : ℕ) → on b c ≡ true → mem b c.ends ≡ true
unfolding on
on-end c b h = and_right c.live (mem b c.ends) h

-- ---- what a turn holds

-- a body that a turn holds makes conflicts, and is an endpoint of its constraint
held_by : (f : Frame) (b n : ℕ) (hs : List Handed) → hs ≡ due f n → any (λ h. h.dynamic && eqb b h.body) hs ≡ true → (conflicting f b ≡ true) × (mem b (ends_at f n) ≡ true)
held_by f b n hs e h =
    let q : Handed → Bool = λ x. x.dynamic && eqb b x.body in
    let o = any_out (λ x. conflicting f x && eqb b x) (ends_at f n) (sym (any-map q (λ x. record { body = x; dynamic = conflicting f x }) (ends_at f n)) ∙ ap (any q) (sym e) ∙ h) in
    let is : b ≡ o.0 = eqb-true b o.0 (and_right (conflicting f o.0) (eqb b o.0) o.2) in
    (rw is (and_left (conflicting f o.0) (eqb b o.0) o.2), rw is o.1)

-- ---- two members

module _ {counted : Bool} (f : Frame) (ok : Accepted counted f) where
  -- a dynamic body of a member's constraint has the label of its island
  body_island : (i k r n b : ℕ) → i < island_count f → mem r (members (colors_at f i) k) ≡ true → n ≡ get_or (of_island f i) r 0 → dynamic f b ≡ true → mem b (ends_at f n) ≡ true → i ≡ body_label f b
  unfolding constraint_at on touches
  body_island i k r n b l m e d h =
      let short : r < length (of_island f i) = omega (arith, (member_is (colors_at f i) k r m).0, length-colors f ok i l) in
      let known = of_island_lem f ok i n l (rw e (get_or-mem (of_island f i) r short)) in
      let inside : n < length (constraints f) = omega (arith, range_high n 0 (length (constraints f)) known.0) in
      let live = and_left (constraint_at f n).live (any (dynamic f) (ends_at f n)) known.2 in
      sym known.1 ∙ label-each f (constraint_at f n) b (get_or_listed (constraints f) n nothing inside) (and_both (constraint_at f n).live (mem b (ends_at f n)) live h) d

  module _ (p : Plans) (st : (i : ℕ) → i < island_count f → Stands f i (p i)) where
    -- two constraints of one group share no body that makes conflicts
    group_apart : (i k r s n m b : ℕ) → i < island_count f → k < (p i).groups → mem r (members (colors_at f i) k) ≡ true → mem s (members (colors_at f i) k) ≡ true
        → n ≡ get_or (of_island f i) r 0 → m ≡ get_or (of_island f i) s 0 → (n ≡ m → ⊥) → conflicting f b ≡ true → mem b (ends_at f n) ≡ true → mem b (ends_at f m) ≡ true → ⊥
    group_apart i k r s n m b l h mr ms en em differ d hn hm =
        disjoint f ok i l (p i) (st i l) k h r s b mr ms (ne_eqb r s (λ q. differ (en ∙ ap (λ (x : ℕ). get_or (of_island f i) x 0) q ∙ sym em))) d (rw en at hn) (rw em at hm)

-- ---- two turns

module _ (bs : List ℕ) (p : Plans) (o : Orders) (c d : Call) (e : frame_refusal bs ≡ 0) (sch : Schedule (second bs) (decode bs) p o) (two : Turns (decode bs) p o c d) where
  abbrev f : Frame
  f = decode bs

  abbrev ok : Accepted (second bs) f
  ok = accepted bs e

  st : (i : ℕ) → i < island_count f → Stands f i (p i)
  st i l = planned_stands (second bs) f ok i l (p i) (sch.plans i l)

  -- every take is a turn
  listed : schedule f p o ≡ two.earlier ++ c ∷ two.between ++ d ∷ two.later
  listed = sym (all_turns f ok p st o sch.orders) ∙ two.listed

  c_listed : Memᴰ c (schedule f p o)
  c_listed = first_listed (schedule f p o) two.earlier two.between two.later c d listed

  d_listed : Memᴰ d (schedule f p o)
  d_listed = second_listed (schedule f p o) two.earlier two.between two.later c d listed

  c_member : Member f p c
  c_member = call_member f ok p st o sch.orders c c_listed

  d_member : Member f p d
  d_member = call_member f ok p st o sch.orders d d_listed

  differ : c.constraint ≡ d.constraint → ⊥
  differ = numbers_differ (schedule f p o) two.earlier two.between two.later c d listed (λ n. omega (arith, (condition3 bs p o e sch).once n, one-le (touches f (constraint_at f n))))

  -- no body that makes conflicts on both constraints: that is what being apart comes to
  apart : ((b : ℕ) → conflicting f b ≡ true → mem b (ends_at f c.constraint) ≡ true → mem b (ends_at f d.constraint) ≡ true → ⊥) → Apart f c d
  apart none =
      let handed = (condition3 bs p o e sch).handed in
      record {
        held = λ b hc. not-true-false (holds_body b d) (λ hd.
            let x = held_by f b c.constraint c.handed (map_each (λ a. a.handed) (λ a. due f a.constraint) c (schedule f p o) handed c_listed) hc in
            let y = held_by f b d.constraint d.handed (map_each (λ a. a.handed) (λ a. due f a.constraint) d (schedule f p o) handed d_listed) hd in
            none b x.0 x.1 y.1);
        bodies = λ b t hc. not-true-false (on b (constraint_at f d.constraint)) (λ hd.
            none b t (on-end (constraint_at f c.constraint) b hc) (on-end (constraint_at f d.constraint) b hd));
      }

-- the second turn's group is the first's
same_group : (f : Frame) (c d : Call) (s : ℕ) → c.island ≡ d.island → c.group ≡ d.group → mem s (members (colors_at f d.island) d.group) ≡ true → d.constraint ≡ get_or (of_island f d.island) s 0
    → (mem s (members (colors_at f c.island) c.group) ≡ true) × (d.constraint ≡ get_or (of_island f c.island) s 0)
same_group f c d s i g m n = (rw (i, g) m, rw i n)

pub lanes_apart : LanesApart
lanes_apart bs p o c d e sch two i g =
    let x = c_member bs p o c d e sch two in
    let y = d_member bs p o c d e sch two in
    let z = same_group (decode bs) c d y.rank i g y.listed y.number in
    apart bs p o c d e sch two (λ b. group_apart (decode bs) (accepted bs e) p (st bs p o c d e sch two) c.island c.group x.rank y.rank c.constraint d.constraint b
    x.island_inside x.group_inside x.listed z.0 x.number z.1 (differ bs p o c d e sch two))

pub islands_apart : IslandsApart
islands_apart bs p o c d e sch two other =
    let f = decode bs in
    let ok = accepted bs e in
    let x = c_member bs p o c d e sch two in
    let y = d_member bs p o c d e sch two in
    λ b t hc. not-true-false (on b (constraint_at f d.constraint)) (λ hd. other
    (body_island f ok c.island c.group x.rank c.constraint b x.island_inside x.listed x.number t (on-end (constraint_at f c.constraint) b hc)
    ∙ sym (body_island f ok d.island d.group y.rank d.constraint b y.island_inside y.listed y.number t (on-end (constraint_at f d.constraint) b hd))))

-- where no body is logged, those that make conflicts are the dynamic ones
unlogged : (f : Frame) (b : ℕ) → any logged f.types ≡ false → conflicting f b ≡ true → dynamic f b ≡ true
unfolding dynamic
unlogged f b none t =
    let x = get_or f.types b 0 in
    or_cases (connects x) (logged x) t (λ h. h)
    (λ h. clashes (any logged f.types) (any_in logged x f.types (get_or-mem f.types b (conflicting_below f b t)) h) none)

pub unlogged_apart : UnloggedApart
unlogged_apart bs p o c d e sch two other none b t = islands_apart bs p o c d e sch two other b (unlogged (decode bs) b none t)
