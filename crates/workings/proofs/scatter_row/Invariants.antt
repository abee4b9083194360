use Rattle.std.proofs.Common.{◌+◌, length, get_or}
use Rattle.arithmetic.specs.Semiring.{meanings}
use Rattle.workings.proofs.Scatters.{Scattered}
use Rattle.workings.proofs.scatter_row.Given as goal

abbrev pub invariant-loop-column : goal.invariant-loop-column
invariant-loop-column g l =
    let a = g.F.Arithmetic.figures in
    Scattered a.ring l.sheet.order l.sheet.words.now (meanings a l.sheet.figures.now) l.i (a.meaning l.factor) (meanings a l.fn.out) (meanings a l.out) (get_or l.sheet.words.now l.i 0 + length l.yielded)
