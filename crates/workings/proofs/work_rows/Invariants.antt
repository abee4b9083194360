use Rattle.arithmetic.specs.Semiring.{meanings}
use Rattle.matrix.specs.Vectors.{figure_at}
use Rattle.workings.proofs.Scatters.{Spread}
use Rattle.workings.proofs.work_rows.Given as goal

abbrev pub invariant-loop-i : goal.invariant-loop-i
invariant-loop-i g l =
    let a = g.F.Arithmetic.figures in
    Spread a.ring l.sheet.order l.sheet.words.now (meanings a l.sheet.figures.now) (figure_at a.ring (meanings a l.y)) (meanings a l.out) l.i
