use Rattle.std.proofs.Common.{◌+◌, ◌-◌, get_or, ap, ◌∙◌, arith}
use Rattle.sheet.proofs.Found.{cell_at}
use Rattle.product.specs.declared.meetings.Meetings.{Meetings}
use Rattle.product.specs.Meetings.{pushed}
use Rattle.sheet.proofs.Pairs.{second_sound}
use Rattle.product.proofs.Chains.{pushed_more}
use Rattle.product.proofs.meetings.Meetings.push_row.Goals as goal

pub push-requires-in-loop-q : goal.push-requires-in-loop-q
push-requires-in-loop-q g c =
    let pair = c.args.pair.now in
    let order = pair.one_order in
    let first = ap (λ (m : Meetings). m.count) c.push.ensures in
    let inv = c.loop-q.invariant.1 in
    let below = (cell_at _ _ _ _ (second_sound pair) c.args.k (omega arith) c.loop-q.q (omega arith) (omega arith)).0 in
    (omega (arith, pair.small_order), (omega arith, (omega (arith, pair.small_first), omega (arith, pair.small_second))))

pub loop-q-preserved : goal.loop-q-preserved
loop-q-preserved g c =
    let words = c.args.pair.now.second.words.now in
    let end = get_or words (c.args.k + 1) 0 in
    let is = c.push-in-loop-q.ensures in
    let count = ap (λ (m : Meetings). m.count) is in
    let inv = c.loop-q.invariant in
    (ap (pushed words c.args.left (c.loop-q.q + 1) (end - (c.loop-q.q + 1))) is ∙ (pushed_more words c.args.left c.loop-q.q end c.loop-q.self (omega arith) ∙ inv.0), omega arith)
