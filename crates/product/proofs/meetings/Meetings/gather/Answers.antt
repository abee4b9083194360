use Rattle.std.proofs.Common.{◌<◌, ap, ◌∙◌, ap₂, arith}
use Rattle.arithmetic.specs.Semiring.{meanings}
use Rattle.matrix.proofs.Meant.{at_means}
use Rattle.product.specs.Meetings.{meeting_in, list_sum}
use Rattle.product.proofs.Chains.{walk_more}
use Rattle.product.proofs.meetings.Meetings.gather.Goals as goal

pub loop-m-preserved : goal.loop-m-preserved
loop-m-preserved g c =
    let a = g.F.Arithmetic.figures in
    let m = c.loop-m.m in
    let self = c.args.self.now in
    let pos : 0 < m = omega arith in
    let linked = c.requires.0 in
    let few = c.loop-m.invariant.0 in
    let less = linked.down m pos few in
    let pair = c.args.pair.now in
    let fs = meanings a pair.first.figures.now in
    let gs = meanings a pair.second.figures.now in
    let x = at_means a pair.first.figures.now (meeting_in self.meetings m).left _ a.ring.zero (linked.left_within m pos few) in
    let y = at_means a pair.second.figures.now (meeting_in self.meetings m).right _ a.ring.zero (linked.right_within m pos few) in
    (omega arith, walk_more a.ring fs gs self _ _ linked m pos few (a.meaning c.loop-m.total) (a.meaning c.add-total.result) (list_sum a.ring fs gs self c.args.start) (c.add-total.ensures ∙ ap (a.ring.add _) (c.multiply.ensures ∙ ap₂ a.ring.mul x y)) c.loop-m.invariant.1)
