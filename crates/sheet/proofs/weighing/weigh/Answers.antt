use Rattle.std.proofs.Common.{◌≡◌, ◌+◌, ◌∷◌, [], ◌++◌, length, ap, ◌∙◌, ap₂, rules}
use Rattle.std.proofs.lemmas.List.{length_push}
use Rattle.std.proofs.lemmas.Slice.Zip.{zip_turn}
use Rattle.matrix.proofs.Sums.{sum_more}
use Rattle.matrix.proofs.Meant.{at_means}
use Rattle.sheet.proofs.weighing.weigh.Goals as goal

pub loop-x-preserved : goal.loop-x-preserved
loop-x-preserved g c =
    let a = g.F.Arithmetic.figures in
    let k = length c.loop-x.yielded in
    let turn = zip_turn c.args.first.now c.args.second.now c.loop-x.yielded c.into_iter-x-iterator.result c.loop-x.x-iterator c.next.new.self c.next.result (search rules) (search rules) c.loop-x.yielded_by (c.in-Some.x, c.in-Some.y) c.in-Some.is c.next.ensures.steps in
    let x = ap a.meaning (turn.2 c.in-Some.x.now) ∙ at_means a c.args.first.now k c.in-Some.x.now a.ring.zero turn.0 in
    let y = ap a.meaning (turn.3 c.in-Some.y.now) ∙ at_means a c.args.second.now k c.in-Some.y.now a.ring.zero turn.1 in
    let next : length (c.loop-x.yielded ++ (c.in-Some.x, c.in-Some.y) ∷ []) ≡ k + 1 = length_push c.loop-x.yielded (c.in-Some.x, c.in-Some.y) in
    rw (next, sum_more) (c.add-total.ensures ∙ ap₂ a.ring.add c.loop-x.invariant (c.multiply.ensures ∙ ap₂ a.ring.mul x y))
