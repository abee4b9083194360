use Rattle.std.proofs.Common.{◌<◌, length, ◌∙◌, ap₂, arith}
use Rattle.std.proofs.lemmas.List.Edits.{fill_by_more}
use Rattle.arithmetic.specs.Semiring.{meanings}
use Rattle.matrix.proofs.Meant.{read_means, at_means, meanings_set, length-meanings}
use Rattle.sheet.proofs.Known.{sheet_sound}
use Rattle.workings.proofs.work_diagonal.Goals as goal

pub loop-j-preserved : goal.loop-j-preserved
loop-j-preserved g c =
    let a = g.F.Arithmetic.figures in
    let sheet = c.args.sheet.now in
    let sound = sheet_sound sheet in
    let room = sound.room in
    let out = c.loop-j.out in
    let j = c.loop-j.j in
    let low : j < length (meanings a out) = simp length-meanings (omega arith) in
    let y = read_means a c.args.y.now j _ a.ring.zero (omega arith) c.index-y-j.is in
    let f = at_means a sheet.figures.now j _ a.ring.zero (omega arith) in
    let product = c.multiply.ensures ∙ ap₂ a.ring.mul y f in
    simp (meanings_set a out j c.multiply.result, product) (fill_by_more _ (meanings a out) j a.ring.zero low c.loop-j.invariant)
