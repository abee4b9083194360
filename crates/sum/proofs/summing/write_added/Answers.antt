use Rattle.std.proofs.Common.{◌≤◌, arith, rules}
use Rattle.sheet.proofs.Laying.{head_room, laying_start, laying_all}
use Rattle.sum.specs.Merging.{pair_sum}
use Rattle.sum.proofs.Steps.{written_room, written_cell, written_end, written_row}
use Rattle.sum.proofs.summing.write_added.Goals as goal

pub start_row-requires : goal.start_row-requires
start_row-requires g c =
    let a = g.F.Arithmetic.figures in
    let pair = c.args.pair.now in
    let t = pair_sum pair in
    let head = head_room a pair.first.order t c.args.index.now c.args.figures.now c.requires.room (omega arith) in
    (omega arith, (omega arith, omega (arith, pair.small_order)))

pub loop-row-init : goal.loop-row-init
loop-row-init g c =
    let a = g.F.Arithmetic.figures in
    let pair = c.args.pair.now in
    let t = pair_sum pair in
    record {
      pair = search rules;
      row = search rules;
      from = search rules;
      laying = laying_start a pair.first.order t c.args.index.now c.args.figures.now c.requires.room (omega arith) c.start_row.new.index c.start_row.new.figures c.start_row.ensures;
    }

pub write_entry-at-requires : goal.write_entry-at-requires
write_entry-at-requires g c =
    let a = g.F.Arithmetic.figures in
    let pair = c.args.pair.now in
    let t = pair_sum pair in
    let inv = c.loop-cell.invariant in
    let head = head_room a pair.first.order t c.args.index.now c.args.figures.now c.requires.room (omega arith) in
    let next = rw (inv.pair, inv.row, c.in-Some.is) at c.next_cell.ensures.next in
    record {
      arrays = (omega arith, omega arith);
      row = omega arith;
      room = λ off some. let low = written_room a pair.first.order t c.loop-row.row c.loop-cell.merge.from (omega arith) _ _ c.args.index.now c.args.figures.now c.requires.room (omega arith) c.loop-cell.index c.loop-cell.figures c.loop-cell.at inv.laying c.in-Some.cell next off some in omega arith;
    }

pub loop-cell-preserved : goal.loop-cell-preserved
loop-cell-preserved g c =
    let a = g.F.Arithmetic.figures in
    let pair = c.args.pair.now in
    let t = pair_sum pair in
    let inv = c.loop-cell.invariant in
    let next = rw (inv.pair, inv.row, c.in-Some.is) at c.next_cell.ensures.next in
    record {
      pair = search rules;
      row = next.4;
      laying = written_cell a pair.first.order t c.loop-row.row c.loop-cell.merge.from (omega arith) _ _ c.args.index.now c.args.figures.now c.requires.room (omega arith) c.loop-cell.index c.loop-cell.figures c.loop-cell.at inv.laying c.in-Some.cell next c.write_entry-at.new.index c.write_entry-at.new.figures c.write_entry-at.result c.write_entry-at.ensures;
    }

pub start_row-requires-in-loop-row : goal.start_row-requires-in-loop-row
start_row-requires-in-loop-row g c =
    let a = g.F.Arithmetic.figures in
    let pair = c.args.pair.now in
    let t = pair_sum pair in
    let inv = c.loop-cell.invariant in
    let head = head_room a pair.first.order t c.args.index.now c.args.figures.now c.requires.room (omega arith) in
    let next = rw (inv.pair, inv.row, c.in_default.is) at c.next_cell.ensures.next in
    let within : c.loop-cell.merge.from ≤ pair.first.order = rw inv.pair at c.loop-cell.merge.merging.from_within in
    let end = written_end a pair.first.order t c.loop-row.row c.loop-cell.merge.from (omega arith) _ _ c.args.index.now c.args.figures.now c.requires.room (omega arith) c.loop-cell.index c.loop-cell.figures c.loop-cell.at inv.laying within next in
    (omega arith, (omega arith, omega arith))

pub loop-row-preserved : goal.loop-row-preserved
loop-row-preserved g c =
    let a = g.F.Arithmetic.figures in
    let pair = c.args.pair.now in
    let t = pair_sum pair in
    let inv = c.loop-cell.invariant in
    let next = rw (inv.pair, inv.row, c.in_default.is) at c.next_cell.ensures.next in
    let within : c.loop-cell.merge.from ≤ pair.first.order = rw inv.pair at c.loop-cell.merge.merging.from_within in
    record {
      pair = search rules;
      row = next.1;
      from = next.2;
      laying = written_row a pair.first.order t c.loop-row.row c.loop-cell.merge.from (omega arith) _ _ c.args.index.now c.args.figures.now c.requires.room (omega arith) c.loop-cell.index c.loop-cell.figures c.loop-cell.at inv.laying within next c.start_row-in-loop-row.new.index c.start_row-in-loop-row.new.figures c.start_row-in-loop-row.ensures;
    }

pub returns : goal.returns
returns g c =
    let a = g.F.Arithmetic.figures in
    let pair = c.args.pair.now in
    let t = pair_sum pair in
    (laying_all a pair.first.order t c.args.index.now c.args.figures.now c.requires.room (omega arith) c.loop-row.row (omega arith) c.loop-row.index c.loop-row.figures c.loop-row.at c.loop-row.invariant.laying).0
