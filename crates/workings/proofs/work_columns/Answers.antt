use Rattle.std.proofs.Common.{◌<◌, length, arith}
use Rattle.std.proofs.lemmas.List.Edits.{fill_by_more}
use Rattle.std.proofs.lemmas.List.FromFn.{fill_by_all}
use Rattle.arithmetic.specs.Semiring.{meanings}
use Rattle.matrix.proofs.Meant.{meanings_set, length-meanings}
use Rattle.workings.proofs.work_columns.Goals as goal

pub loop-i-preserved : goal.loop-i-preserved
loop-i-preserved g c =
    let a = g.F.Arithmetic.figures in
    let out = c.loop-i.out in
    let low : c.loop-i.i < length (meanings a out) = simp length-meanings (omega arith) in
    simp (meanings_set a out c.loop-i.i c.work_column.result, c.work_column.ensures) (fill_by_more _ (meanings a out) c.loop-i.i a.ring.zero low c.loop-i.invariant)

pub returns : goal.returns
returns g c =
    let a = g.F.Arithmetic.figures in
    fill_by_all _ (meanings a c.loop-i.out) c.args.sheet.now.order a.ring.zero (simp length-meanings (omega arith)) (λ k h. c.loop-i.invariant k (omega arith))
