use Rattle.std.proofs.Common.{◌+◌, length, get_or}
use Rattle.transpose.proofs.Walks.{Walking}
use Rattle.transpose.proofs.write_flipped.Given as goal

abbrev pub invariant-loop-row : goal.invariant-loop-row
invariant-loop-row g l = Walking g.F.Arithmetic.figures l.sheet.order l.sheet.words.now l.sheet.figures.now l.fn.index l.fn.figures (get_or l.sheet.words.now l.row 0) l.index l.figures l.next

abbrev pub invariant-loop-column : goal.invariant-loop-column
invariant-loop-column g l = Walking g.F.Arithmetic.figures l.sheet.order l.sheet.words.now l.sheet.figures.now l.fn.index l.fn.figures (get_or l.sheet.words.now l.row 0 + length l.yielded) l.index l.figures l.next
