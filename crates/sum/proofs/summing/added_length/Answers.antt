use Rattle.std.proofs.Common.{◌≤◌, ◌∙◌, arith, rules}
use Rattle.sheet.proofs.Lists.{spot_small}
use Rattle.sum.specs.Merging.{pair_sum}
use Rattle.sum.proofs.Steps.{counted_cell, counted_row}
use Rattle.sum.proofs.summing.added_length.Goals as goal

pub overflow_add-length-in-Some : goal.overflow_add-length-in-Some
overflow_add-length-in-Some g c =
    let a = g.F.Arithmetic.figures in
    let pair = c.args.pair.now in
    let inv = c.loop-cell.invariant in
    let counted = inv.counted in
    let within : c.loop-cell.merge.from ≤ pair.first.order = rw inv.pair at c.loop-cell.merge.merging.from_within in
    let few = spot_small a.ring pair.first.order (pair_sum pair) c.loop-row.row c.loop-cell.merge.from pair.small_order in
    omega (arith, pair.small_order, c.places-length.ensures.small)

pub loop-cell-preserved : goal.loop-cell-preserved
loop-cell-preserved g c =
    let a = g.F.Arithmetic.figures in
    let pair = c.args.pair.now in
    let inv = c.loop-cell.invariant in
    let next = rw (inv.pair, inv.row, c.in-Some.is) at c.next_cell.ensures.next in
    record {
      pair = search rules;
      row = next.4;
      counted = counted_cell a pair.first.order (pair_sum pair) c.loop-row.row c.loop-cell.merge.from (omega arith) _ _ c.in-Some.cell next c.loop-cell.length c.places-length.result inv.counted c.places-length.ensures.count;
    }

pub loop-row-preserved : goal.loop-row-preserved
loop-row-preserved g c =
    let a = g.F.Arithmetic.figures in
    let pair = c.args.pair.now in
    let inv = c.loop-cell.invariant in
    let next = rw (inv.pair, inv.row, c.in_default.is) at c.next_cell.ensures.next in
    let within : c.loop-cell.merge.from ≤ pair.first.order = rw inv.pair at c.loop-cell.merge.merging.from_within in
    record {
      pair = search rules;
      row = next.1;
      from = next.2;
      counted = inv.counted ∙ counted_row a pair.first.order (pair_sum pair) c.loop-row.row c.loop-cell.merge.from (omega arith) _ _ within next;
    }
