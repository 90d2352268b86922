-- Every loop of the run keeps one invariant: the calls done and those still to come are the whole, and what is done has been added. So a
-- turn of a loop moves the next calls from the one list to the other, and at the end all are done.
use Rattle.std.proofs.Common.{ℕ, ◌+◌, ◌-◌, ◌<◌, ◌≡◌, refl, sym, ap, ◌∙◌, List, [], ◌++◌, append_assoc, append-nil, arith, eqb, length, length-append}
use Rattle.lists.specs.Basics.{count, put, join_map, range_from}
use Rattle.lists.proofs.Puts.{length-put, put-put}
use Rattle.lists.proofs.Ranges.{filter-append, join_map-append, range-next}
use Rattle.lists.proofs.Sums.{sum_append}
use Rattle.schedules.specs.Runs.{Call, turn_of, turns_of, takes_of}
use Rattle.turn_table.specs.declared.TurnTable.{TurnTable}
use Rattle.turn_table.specs.Turns.{Added, RoomIn, AppendedTo}
use Rattle.turn_table.proofs.Turns.{appended_none}
use Rattle.group_run.specs.Appends.{added_by}

-- ---- calls one after another

pub added_turns : (a b : List Call) → (added_by (a ++ b)).turns ≡ (added_by a).turns ++ (added_by b).turns
unfolding turns_of
added_turns a b = rw (filter-append (λ c. eqb c.refusal 0) a b) (join_map-append turn_of (turns_of a) (turns_of b))

pub added_takes : (a b : List Call) → (added_by (a ++ b)).takes ≡ (added_by a).takes + (added_by b).takes
unfolding takes_of
added_takes a b = sum_append (λ c. count (λ h. h.dynamic) c.handed) a b

-- what is added may be said in other words
pub room_by : {a b : Added} (t : TurnTable) → a ≡ b → RoomIn a t → RoomIn b t
room_by t e h = rw e at h

pub appended_by : {a b : Added} {t t' : TurnTable} → a ≡ b → AppendedTo a t t' → AppendedTo b t t'
appended_by e h = rw e at h

-- ---- the invariant

pub record Going (whole rest : List Call) (t₀ t : TurnTable) : Type 0 where
  pub done : List Call
  pub both : done ++ rest ≡ whole
  pub far : AppendedTo (added_by done) t₀ t

pub going_first : {whole rest : List Call} {t : TurnTable} → rest ≡ whole → Going whole rest t t
unfolding turns_of takes_of
going_first {t = t} e = record { done = []; both = e; far = record { appended = appended_none t.turns.now t.tally; kept = refl } }

module _ {whole rest : List Call} {t₀ t : TurnTable} (room : RoomIn (added_by whole) t₀) (g : Going whole rest t₀ t) where
  turns_long : length (added_by g.done).turns + length (added_by rest).turns ≡ length (added_by whole).turns
  turns_long = sym (length-append (added_by g.done).turns (added_by rest).turns) ∙ ap length (sym (added_turns g.done rest)) ∙ ap (λ (cs : List Call). length (added_by cs).turns) g.both

  takes_sum : (added_by g.done).takes + (added_by rest).takes ≡ (added_by whole).takes
  takes_sum = sym (added_takes g.done rest) ∙ ap (λ (cs : List Call). (added_by cs).takes) g.both

  pub going_length : length t.turns.now ≡ length t₀.turns.now
  going_length = ap length g.far.appended.table ∙ length-put t₀.tally.place (added_by g.done).turns t₀.turns.now (omega (arith, room.places, turns_long))

  -- room for the next part of the rest
  pub going_room : (a b : List Call) → rest ≡ a ++ b → RoomIn (added_by a) t
  going_room a b e =
      let lt = ap (λ (cs : List Call). length (added_by cs).turns) e ∙ ap length (added_turns a b) ∙ length-append (added_by a).turns (added_by b).turns in
      let lk = ap (λ (cs : List Call). (added_by cs).takes) e ∙ added_takes a b in
      record {
        places = omega (arith, room.places, turns_long, going_length, g.far.appended.place, lt);
        count = omega (arith, room.count, takes_sum, g.far.appended.takes, lk);
      }

  -- it was added
  pub going_more : (a b : List Call) (t' : TurnTable) → rest ≡ a ++ b → AppendedTo (added_by a) t t' → Going whole b t₀ t'
  going_more a b t' e h =
      let d = g.done in
      let f = g.far.appended in
      let n = h.appended in
      let lt = ap (λ (cs : List Call). length (added_by cs).turns) e ∙ ap length (added_turns a b) ∙ length-append (added_by a).turns (added_by b).turns in
      record {
        done = d ++ a;
        both = append_assoc d a b ∙ ap (λ (cs : List Call). d ++ cs) (sym e) ∙ g.both;
        far = record {
          appended = record {
            table =
                n.table
                ∙ ap (λ (k : ℕ). put k (added_by a).turns t.turns.now) f.place
                ∙ ap (put (t₀.tally.place + length (added_by d).turns) (added_by a).turns) f.table
                ∙ put-put t₀.tally.place (added_by d).turns (added_by a).turns t₀.turns.now (omega (arith, room.places, turns_long, lt))
                ∙ ap (λ (l : List ℕ). put t₀.tally.place l t₀.turns.now) (sym (added_turns d a));
            place = omega (arith, n.place, f.place, ap length (added_turns d a), length-append (added_by d).turns (added_by a).turns);
            takes = omega (arith, n.takes, f.takes, added_takes d a);
          };
          kept = h.kept ∙ g.far.kept;
        };
      }

  -- nothing is left
  pub going_last : rest ≡ [] → AppendedTo (added_by whole) t₀ t
  going_last e = rw (sym g.both ∙ ap (λ (cs : List Call). g.done ++ cs) e ∙ append-nil g.done) g.far

-- ---- a loop over numbers, each with its calls

module _ (g : ℕ → List Call) (k n : ℕ) where
  pub parts_next : k < n → join_map g (range_from k (n - k)) ≡ g k ++ join_map g (range_from (k + 1) (n - (k + 1)))
  parts_next h = ap (join_map g) (range-next n k h)
