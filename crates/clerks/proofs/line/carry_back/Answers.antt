use Rattle.std.proofs.Common.{arith}
use Rattle.std.proofs.lemmas.Iterator.Adapters.{YieldsList-from_rev_slice}
use Rattle.std.proofs.lemmas.Iterator.Consumers.{YieldsList-from_copied, YieldsList-turn}
use Rattle.book.specs.Book.{Arrays}
use Rattle.clerks.specs.Carrying.{back_none}
use Rattle.clerks.proofs.Lines.{never_sent, back_next}
use Rattle.clerks.proofs.line.carry_back.Goals as goal

pub loop-sheet-init : goal.loop-sheet-init
loop-sheet-init g c = rw c.copy_from_slice.ensures.after back_none

pub loop-sheet-preserved : goal.loop-sheet-preserved
loop-sheet-preserved g c =
    let b : Arrays g.row.F.Denot = record { header = c.args.header.now; index = c.args.index.now; figures = c.args.figures.now } in
    back_next g.F.Arithmetic.figures b c.loop-sheet.yielded c.in-Some.sheet _ _ _ _ c.loop-sheet.invariant (rw c.copy_from_slice-in-loop-sheet.ensures.after at c.in_ok-column_working.ensures)

pub returns-in_err-column_working : goal.returns-in_err-column_working
returns-in_err-column_working g c =
    let b : Arrays g.row.F.Denot = record { header = c.args.header.now; index = c.args.index.now; figures = c.args.figures.now } in
    let met = YieldsList-turn (YieldsList-from_copied (YieldsList-from_rev_slice c.args.line.now cc)) c.loop-sheet.yielded _ c.loop-sheet.yielded_by _ _ c.in-Some.sheet c.in-Some.is c.next.ensures.steps in
    absurd (never_sent g.F.Arithmetic.figures b c.args.line.now c.requires.stands _ _ met _ _ (omega arith) (omega arith) _ c.in_err-column_working.ensures.0)
