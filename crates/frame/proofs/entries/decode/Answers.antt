-- `frame::entries::decode`: one more entry fills one place of two tables, and its endpoints' places of the third.
use Rattle.std.proofs.Common.{◌≡◌, ℕ, ◌+◌, ◌*◌, ◌-◌, ◌<◌, ◌≤◌, List, ◌++◌, length, take, map, refl, sym, ap, ◌∙◌, arith, length-set}
use Rattle.lists.proofs.Fills.{whole, fill_end}
use Rattle.frame.specs.Files.{byte, count_at, entry_end}
use Rattle.frame.proofs.Walks.{walk_whole, walk_next, entry_turn, ends_long, ends-next_long, ends-none, ends-none_long, places-none, part_long, table_long, table_turn}
use Rattle.frame.proofs.entries.decode.Goals as goal

pub loop-j-init : goal.loop-j-init
loop-j-init c =
    let bs = c.args.bytes.now in
    let s = c.args.from in
    let n = length c.args.enabled.now in
    let e : n - 0 ≡ n = whole n in
    record {
      ends_long = refl;
      counts_long = c.requires.counts;
      walked = rw e c.requires.walked;
      room = rw e (omega (arith, c.requires.ends, ends_long bs s n));
      ends = rw e;
      counts = rw e;
      enabled = rw e;
    }

pub slice_bounds-decode_halves-end : goal.slice_bounds-decode_halves-end
slice_bounds-decode_halves-end c =
    let l = c.loop-j in
    let some : 0 < length c.args.enabled.now - l.j = omega arith in
    omega (arith, l.invariant.room, l.invariant.ends_long, ends-next_long c.args.bytes.now l.at (length c.args.enabled.now - l.j) _ some refl, c.from-count.ensures)

pub decode_halves-requires : goal.decode_halves-requires
decode_halves-requires c =
    let l = c.loop-j in
    let bs = c.args.bytes.now in
    let h : l.j < length c.args.enabled.now = omega arith in
    let w = walk_whole bs l.at _ (omega arith) l.invariant.walked in
    let inside : l.k + c.from-count.result ≤ length l.ends = omega (arith, l.invariant.room, l.invariant.ends_long, ends-next_long bs l.at (length c.args.enabled.now - l.j) _ (omega arith) refl, c.from-count.ensures) in
    omega (arith, part_long l.ends l.k c.from-count.result inside, w.ended, c.from-count.ensures)

pub loop-j-preserved : goal.loop-j-preserved
loop-j-preserved c =
    let l = c.loop-j in
    let bs = c.args.bytes.now in
    let n = length c.args.enabled.now in
    let count = c.from-count.result in
    let h : l.j < n = omega arith in
    let some : 0 < n - l.j = omega arith in
    let next : l.at + (2 + 2 * count) ≡ entry_end bs l.at = omega (arith, c.from-count.ensures) in
    let less : n - l.j - 1 ≡ n - (l.j + 1) = omega arith in
    let long = ends-next_long bs l.at (n - l.j) _ some next in
    let inside : l.k + count ≤ length l.ends = omega (arith, l.invariant.room, l.invariant.ends_long, long, c.from-count.ensures) in
    record {
      ends_long = table_long bs l.ends _ l.at l.k count c.from-count.ensures inside c.decode_halves.ensures ∙ l.invariant.ends_long;
      counts_long = simp length-set l.invariant.counts_long;
      walked = rw less at (walk_next bs l.at (n - l.j) _ some l.invariant.walked next);
      room = rw (← less) (omega (arith, l.invariant.room, long, c.from-count.ensures));
      ends = rw (← less) (table_turn bs l.ends _ l.at l.k count c.from-count.ensures inside c.decode_halves.ensures _ (n - l.j) _ some next l.invariant.ends);
      counts = entry_turn bs (count_at bs) l.counts _ l.at n l.j _ _ (omega (arith, l.invariant.counts_long)) h refl next l.invariant.counts;
      enabled = entry_turn bs (byte bs) l.enabled _ l.at n l.j _ _ (omega arith) h refl next l.invariant.enabled;
    }

pub returns : goal.returns
returns c =
    let l = c.loop-j in
    let bs = c.args.bytes.now in
    let n = length c.args.enabled.now in
    let none : n - l.j ≡ 0 = omega arith in
    record {
      ends = fill_end l.ends _ l.k (omega (arith, l.invariant.room, l.invariant.ends_long, ends-none_long bs l.at (n - l.j) none)) (ap (λ (xs : List ℕ). take l.k l.ends ++ xs) (sym (ends-none bs l.at (n - l.j) none)) ∙ l.invariant.ends);
      counts = fill_end l.counts _ l.j (omega (arith, l.invariant.counts_long, arith)) (ap (λ (ps : List ℕ). take l.j l.counts ++ map (count_at bs) ps) (sym (places-none bs l.at (n - l.j) none)) ∙ l.invariant.counts);
      enabled = fill_end l.enabled _ l.j (omega arith) (ap (λ (ps : List ℕ). take l.j l.enabled ++ map (byte bs) ps) (sym (places-none bs l.at (n - l.j) none)) ∙ l.invariant.enabled);
    }
