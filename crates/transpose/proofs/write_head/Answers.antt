use Rattle.std.proofs.Common.{arith}
use Rattle.matrix.proofs.Meant.{at_means}
use Rattle.sheet.proofs.Known.{sheet_sound}
use Rattle.transpose.proofs.Heads.{heading_none, heading_more, heading_all}
use Rattle.transpose.proofs.write_head.Goals as goal

pub loop-row-init : goal.loop-row-init
loop-row-init g c =
    let a = g.F.Arithmetic.figures in
    let sheet = c.args.sheet.now in
    let sound = sheet_sound sheet in
    heading_none record { sound = sound; small = omega arith; room = omega arith; even = omega arith } c.args.next.now c.requires.counts

pub loop-row-preserved : goal.loop-row-preserved
loop-row-preserved g c =
    let a = g.F.Arithmetic.figures in
    let figures = c.args.sheet.now.figures.now in
    let room = c.loop-row.invariant.flip.sound.room in
    heading_more c.loop-row.invariant (omega arith) (omega arith) _ (at_means a figures c.loop-row.row c.index-sheet-row.result a.ring.zero (omega arith))

pub returns-clause-head : goal.returns-clause-head
returns-clause-head g c = heading_all c.loop-row.invariant (omega arith) c.start_row.new.index c.start_row.new.figures c.start_row.ensures
