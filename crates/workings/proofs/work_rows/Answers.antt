use Rattle.std.proofs.Common.{◌≡◌, sym, arith}
use Rattle.std.proofs.lemmas.List.FromFn.{fill_by_all}
use Rattle.arithmetic.specs.Semiring.{meanings}
use Rattle.matrix.specs.Vectors.{figure_at}
use Rattle.matrix.proofs.Meant.{read_means, length-meanings}
use Rattle.sheet.proofs.Known.{sheet_sound}
use Rattle.workings.proofs.Scatters.{spread_more, spread_all}
use Rattle.workings.proofs.work_rows.Goals as goal

pub loop-i-preserved : goal.loop-i-preserved
loop-i-preserved g c =
    let a = g.F.Arithmetic.figures in
    let sheet = c.args.sheet.now in
    let y = read_means a c.args.y.now c.loop-i.i _ a.ring.zero (omega arith) c.index-y-i.is in
    spread_more a.ring sheet.order sheet.words.now (meanings a sheet.figures.now) (figure_at a.ring (meanings a c.args.y.now)) (meanings a c.loop-i.out) (meanings a c.scatter_row.new.out) c.loop-i.i c.loop-i.invariant (simp (sym y) c.scatter_row.ensures)

pub returns : goal.returns
returns g c =
    let a = g.F.Arithmetic.figures in
    let sheet = c.args.sheet.now in
    let sound = sheet_sound sheet in
    let order : c.loop-i.i ≡ sheet.order = omega arith in
    fill_by_all _ (meanings a c.loop-i.out) sheet.order a.ring.zero (simp length-meanings (omega arith)) (spread_all a.ring sheet.order _ _ _ sound _ (rw order at c.loop-i.invariant))
