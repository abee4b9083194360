use Rattle.std.proofs.Common.{arith}
use Rattle.sheet.proofs.Laying.{laying_start, laying_all}
use Rattle.product.specs.Meetings.{pair_product}
use Rattle.product.proofs.Resting.{rest_all}
use Rattle.product.proofs.Multiplies.{heads_fit, cell_room, multiplying_more, row_end, row_laid}
use Rattle.product.proofs.multiplying.write_product.Goals as goal

pub start_row-requires : goal.start_row-requires
start_row-requires g c =
    let pair = c.args.pair.now in
    let head = heads_fit pair c.args.index.now c.args.figures.now c.requires.room (omega arith) in
    (omega arith, (omega arith, omega (arith, pair.small_order)))

pub loop-row-init : goal.loop-row-init
loop-row-init g c =
    let pair = c.args.pair.now in
    (laying_start g.F.Arithmetic.figures pair.first.order (pair_product pair) c.args.index.now c.args.figures.now c.requires.room (omega arith) c.start_row.new.index c.start_row.new.figures c.start_row.ensures, c.requires.idle)

pub write_entry-at-requires-clause-row : goal.write_entry-at-requires-clause-row
write_entry-at-requires-clause-row g c =
    let pair = c.args.pair.now in
    let head = heads_fit pair c.args.index.now c.args.figures.now c.requires.room (omega arith) in
    omega arith

pub write_entry-at-requires-clause-room : goal.write_entry-at-requires-clause-room
write_entry-at-requires-clause-room g c = λ off some.
    let low = cell_room c.args.pair.now c.args.index.now c.args.figures.now c.requires.room (omega arith) c.loop-row.row c.loop-row-test.true c.loop-cell.invariant c.in-Some.cell c.next_cell.new.self c.in-Some.ensures off some in
    omega arith

pub loop-cell-preserved : goal.loop-cell-preserved
loop-cell-preserved g c = multiplying_more c.args.pair.now c.args.index.now c.args.figures.now c.requires.room (omega arith) c.loop-row.row c.loop-row-test.true c.loop-cell.invariant c.in-Some.cell c.next_cell.new.self c.in-Some.ensures c.write_entry-at.new.index c.write_entry-at.new.figures c.write_entry-at.result c.write_entry-at.ensures

pub start_row-requires-in-loop-row : goal.start_row-requires-in-loop-row
start_row-requires-in-loop-row g c =
    let pair = c.args.pair.now in
    let head = heads_fit pair c.args.index.now c.args.figures.now c.requires.room (omega arith) in
    let end = row_end pair c.args.index.now c.args.figures.now c.requires.room (omega arith) c.loop-row.row c.loop-row-test.true c.loop-cell.invariant c.next_cell.new.self c.in_default.ensures in
    (omega arith, (omega arith, omega arith))

pub loop-row-preserved : goal.loop-row-preserved
loop-row-preserved g c =
    let pair = c.args.pair.now in (
      row_laid pair c.args.index.now c.args.figures.now c.requires.room (omega arith) c.loop-row.row c.loop-row-test.true c.loop-cell.invariant c.next_cell.new.self c.in_default.ensures c.start_row-in-loop-row.new.index c.start_row-in-loop-row.new.figures c.start_row-in-loop-row.ensures,
      rest_all pair c.loop-row.row c.loop-cell.invariant.rest c.next_cell.new.self c.in_default.ensures,
    )

pub returns : goal.returns
returns g c =
    let pair = c.args.pair.now in
    (laying_all g.F.Arithmetic.figures pair.first.order (pair_product pair) c.args.index.now c.args.figures.now c.requires.room (omega arith) c.loop-row.row (omega arith) c.loop-row.index c.loop-row.figures c.loop-row.at c.loop-row.invariant.0).0
