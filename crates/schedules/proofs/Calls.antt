-- Each call of a schedule is the take of a member of its island's group: its constraint is that member's, and it is handed that
-- constraint's bodies. Two calls at different places have different constraints, since each is taken at most once.
use Rattle.std.proofs.Common.{ℕ, ◌+◌, ◌≤◌, ◌<◌, ◌≡◌, refl, sym, ap, ◌∙◌, ⊎_elim, Bool, true, List, [], ◌∷◌, ◌++◌, map, arith, eqb, get_or, eq-eqb}
use mathlib.Core.List.{Memᴰ}
use mathlib.Core.List.Memᴰ
use Rattle.lists.specs.Basics.{one, sum_of, join_map, range, mem}
use Rattle.lists.proofs.Sums.{sum_append}
use Rattle.lists.proofs.Laws.{or_right, mem_self, mem-count, count-any, range_high}
use Rattle.frame.specs.Frames.{Frame}
use Rattle.connected_sets.specs.Islands.{island_count, of_island}
use Rattle.groups.specs.Groups.{Plan, members}
use Rattle.colored_bodies.specs.declared.BodyBinding.{BodyBinding}
use Rattle.schedules.specs.Runs.{Call, Plans, Orders, members_in, take_rank, calls_from, group_calls, schedule}
use Rattle.schedules.specs.Condition.{SameNumbers, takes_on}
use Rattle.schedules.proofs.Accepted.{Accepted}
use Rattle.schedules.proofs.Plans.{colors_at, Stands}

-- ---- members of lists

join_in : {A : Type 0} (g : ℕ → List A) (c : A) (xs : List ℕ) → Memᴰ c (join_map g xs) → (x : ℕ) × (mem x xs ≡ true) × Memᴰ c (g x)
join_in g c [] m = absurd (Memᴰ.not-nil m)
join_in g c (x ∷ xs) m = ⊎_elim
    (λ k. (x, mem_self x xs, k))
    (λ k. let r = join_in g c xs k in (r.0, or_right (eqb r.0 x) (mem r.0 xs) r.1, r.2))
    (Memᴰ.append_cases (g x) m)

-- what two maps agree on, they agree on at each member
pub map_each : {A B : Type 0} (g h : A → B) (c : A) (xs : List A) → map g xs ≡ map h xs → Memᴰ c xs → g c ≡ h c
map_each g h c [] e m = absurd (Memᴰ.not-nil m)
map_each g h c (x ∷ xs) e m =
    let first : g x ≡ h x = cc in
    let rest : map g xs ≡ map h xs = cc in
    ⊎_elim (λ q. ap g q ∙ first ∙ sym (ap h q)) (λ k. map_each g h c xs rest k) (Memᴰ.cases_cons m)

-- ---- a call of a schedule

-- the member that it takes, by rank
pub record Member (f : Frame) (p : Plans) (c : Call) : Type 0 where
  pub rank : ℕ
  pub island_inside : c.island < island_count f
  pub group_inside : c.group < (p c.island).groups
  pub listed : mem rank (members (colors_at f c.island) c.group) ≡ true
  pub number : c.constraint ≡ get_or (of_island f c.island) rank 0

record Taken (ns : List ℕ) (i k : ℕ) (rs : List ℕ) (c : Call) : Type 0 where
  rank : ℕ
  listed : mem rank rs ≡ true
  island : c.island ≡ i
  group : c.group ≡ k
  number : c.constraint ≡ get_or ns rank 0

call_taken : (p : Plan) (ns : List ℕ) (i k : ℕ) (b : BodyBinding) (rs : List ℕ) (c : Call) → Memᴰ c (calls_from p ns i k b rs) → Taken ns i k rs c
unfolding calls_from
call_taken p ns i k b [] c m = absurd (Memᴰ.not-nil m)
call_taken p ns i k b (r ∷ rs) c m = ⊎_elim
    (λ q. record { rank = r; listed = mem_self r rs; island = ap (λ (x : Call). x.island) q; group = ap (λ (x : Call). x.group) q; number = ap (λ (x : Call). x.constraint) q })
    (λ n. let t = call_taken p ns i k (take_rank p b r).after rs c n in
    record { rank = t.rank; listed = or_right (eqb t.rank r) (mem t.rank rs) t.listed; island = t.island; group = t.group; number = t.number })
    (Memᴰ.cases_cons m)

placed : (f : Frame) (p : Plans) (i k : ℕ) (c : Call) (r : ℕ) → i < island_count f → k < (p i).groups → mem r (members (colors_at f i) k) ≡ true → c.island ≡ i → c.group ≡ k → c.constraint ≡ get_or (of_island f i) r 0 → Member f p c
placed f p i k c r l h m e g n = record {
  rank = r;
  island_inside = rw e l;
  group_inside = rw (e, g) h;
  listed = rw (e, g) m;
  number = rw e n;
}

module _ {counted : Bool} (f : Frame) (ok : Accepted counted f) (p : Plans) (st : (i : ℕ) → i < island_count f → Stands f i (p i)) (o : Orders)
    (ord : (i k : ℕ) → i < island_count f → k < (p i).groups → SameNumbers (o i k) (members_in (p i) k)) where
  pub call_member : (c : Call) → Memᴰ c (schedule f p o) → Member f p c
  unfolding schedule group_calls
  call_member c m =
      let a = join_in (λ i. join_map (group_calls f p o i) (range (p i).groups)) c (range (island_count f)) m in
      let i = a.0 in
      let l : i < island_count f = omega (arith, range_high i 0 (island_count f) a.1) in
      let b = join_in (group_calls f p o i) c (range (p i).groups) a.2 in
      let k = b.0 in
      let h : k < (p i).groups = omega (arith, range_high k 0 (p i).groups b.1) in
      let t = call_taken (p i) (of_island f i) i k _ (o i k) c b.2 in
      let in_group : mem t.rank (members_in (p i) k) ≡ true = count-any (eqb t.rank) (members_in (p i) k) (omega (arith, mem-count t.rank (o i k) t.listed, ord i k l h t.rank)) in
      placed f p i k c t.rank l h (ap (mem t.rank) (sym ((st i l).members k h)) ∙ in_group) t.island t.group t.number

-- ---- two calls

-- at different places of a list in which each number is taken at most once
pub numbers_differ : (cs xs ys zs : List Call) (c d : Call) → cs ≡ xs ++ c ∷ ys ++ d ∷ zs → ((n : ℕ) → takes_on n cs ≤ 1) → c.constraint ≡ d.constraint → ⊥
numbers_differ cs xs ys zs c d e once same =
    let n = c.constraint in
    let at : Call → ℕ = λ x. one (eqb n x.constraint) in
    let whole : sum_of at cs ≡ sum_of at (xs ++ c ∷ ys ++ d ∷ zs) = ap (sum_of at) e in
    let last : sum_of at (xs ++ c ∷ ys ++ d ∷ zs) ≡ sum_of at (xs ++ c ∷ ys) + (at d + sum_of at zs) = sum_append at (xs ++ c ∷ ys) (d ∷ zs) in
    let first : sum_of at (xs ++ c ∷ ys) ≡ sum_of at xs + (at c + sum_of at ys) = sum_append at xs (c ∷ ys) in
    let most : sum_of at cs ≤ 1 = once n in
    let here : at c ≡ 1 = ap one (eq-eqb n n refl) in
    let there : at d ≡ 1 = ap one (eq-eqb n d.constraint same) in
    omega arith

pub first_listed : (cs xs ys zs : List Call) (c d : Call) → cs ≡ xs ++ c ∷ ys ++ d ∷ zs → Memᴰ c cs
first_listed cs xs ys zs c d e = rw e (Memᴰ.append_left (d ∷ zs) (Memᴰ.append_right xs {t = c ∷ ys} (Memᴰ.head refl)))

pub second_listed : (cs xs ys zs : List Call) (c d : Call) → cs ≡ xs ++ c ∷ ys ++ d ∷ zs → Memᴰ d cs
second_listed cs xs ys zs c d e = rw e (Memᴰ.append_right (xs ++ c ∷ ys) {t = d ∷ zs} (Memᴰ.head refl))
