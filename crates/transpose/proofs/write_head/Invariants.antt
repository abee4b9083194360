use Rattle.transpose.proofs.Heads.{Heading}
use Rattle.transpose.proofs.write_head.Given as goal

abbrev pub invariant-loop-row : goal.invariant-loop-row
invariant-loop-row g l = Heading g.F.Arithmetic.figures l.sheet.order l.sheet.words.now l.sheet.figures.now l.fn.index l.fn.figures l.row l.index l.figures l.next l.at
