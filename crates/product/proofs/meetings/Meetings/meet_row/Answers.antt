use Rattle.std.proofs.Common.{arith}
use Rattle.product.proofs.Linking.{first_room, linking_first, linking_all, column_low, row_room, linking_more}
use Rattle.product.proofs.meetings.Meetings.meet_row.Goals as goal

pub push_row-requires-clause-room : goal.push_row-requires-clause-room
push_row-requires-clause-room g c = first_room c.args.pair.now c.args.i c.requires.row c.args.self.now c.clear.new.self c.clear.ensures

pub loop-p-init : goal.loop-p-init
loop-p-init g c = rw c.row-from.ensures.from (linking_first c.args.pair.now c.args.i c.requires.row c.args.self.now c.clear.new.self c.push_row.new.self c.requires.idle c.clear.ensures c.push_row.ensures)

pub push_row-requires-in-loop-p-clause-cell : goal.push_row-requires-in-loop-p-clause-cell
push_row-requires-in-loop-p-clause-cell g c =
    let row = c.row-from.ensures in
    let low = column_low c.args.pair.now c.args.i c.requires.row c.loop-p.invariant (omega (arith, row.from)) (omega (arith, row.to)) in
    (omega (arith, c.args.pair.now.one_order), omega (arith, row.within))

pub push_row-requires-in-loop-p-clause-room : goal.push_row-requires-in-loop-p-clause-room
push_row-requires-in-loop-p-clause-room g c =
    let row = c.row-from.ensures in
    row_room c.args.pair.now c.args.i c.requires.row c.loop-p.invariant (omega (arith, row.from)) (omega (arith, row.to))

pub loop-p-preserved : goal.loop-p-preserved
loop-p-preserved g c =
    let row = c.row-from.ensures in
    linking_more c.args.pair.now c.args.i c.requires.row c.loop-p.invariant (omega (arith, row.from)) (omega (arith, row.to)) c.push_row-in-loop-p.new.self c.push_row-in-loop-p.ensures

pub returns-clause-lists : goal.returns-clause-lists
returns-clause-lists g c = linking_all c.args.pair.now c.args.i c.requires.row c.loop-p.invariant (omega (arith, c.row-from.ensures.to))
