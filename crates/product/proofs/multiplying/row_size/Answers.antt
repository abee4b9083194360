use Rattle.std.proofs.Common.{arith}
use Rattle.product.proofs.Resting.{from_is, cell_from, rest_more, size_more, size_all}
use Rattle.product.proofs.multiplying.row_size.Goals as goal

pub loop-cell-preserved : goal.loop-cell-preserved
loop-cell-preserved g c =
    let up = cell_from c.args.pair.now c.args.i c.loop-cell.invariant.0 c.in-Some.cell c.next_cell.new.self c.in-Some.ensures in (
      rest_more c.args.pair.now c.args.i c.loop-cell.invariant.0 c.in-Some.cell c.next_cell.new.self c.in-Some.ensures,
      size_more c.args.pair.now c.args.i c.loop-cell.invariant.0 c.in-Some.cell c.next_cell.new.self c.in-Some.ensures c.loop-cell.size c.places-size.result c.loop-cell.invariant.1 c.places-size.ensures.count,
      omega (arith, from_is c.args.pair.now c.args.i c.loop-cell.invariant.0 c.in-Some.cell c.next_cell.new.self c.in-Some.ensures, c.places-size.ensures.small),
    )

pub returns-clause-size : goal.returns-clause-size
returns-clause-size g c = size_all c.args.pair.now c.args.i c.loop-cell.invariant.0 c.next_cell.new.self c.in_default.ensures c.loop-cell.size c.loop-cell.invariant.1
