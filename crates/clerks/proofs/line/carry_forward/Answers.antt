use Rattle.book.specs.Book.{Arrays}
use Rattle.clerks.specs.Carrying.{forward_none}
use Rattle.clerks.proofs.Lines.{forward_next}
use Rattle.clerks.proofs.line.carry_forward.Goals as goal

pub loop-sheet-init : goal.loop-sheet-init
loop-sheet-init g c = rw c.copy_from_slice.ensures.after forward_none

pub loop-sheet-preserved : goal.loop-sheet-preserved
loop-sheet-preserved g c =
    let b : Arrays g.row.F.Denot = record { header = c.args.header.now; index = c.args.index.now; figures = c.args.figures.now } in
    forward_next g.F.Arithmetic.figures b c.loop-sheet.invariant (rw c.copy_from_slice-in-loop-sheet.ensures.after at c.in_ok-row_working.ensures)
