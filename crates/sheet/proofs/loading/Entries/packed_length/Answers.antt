use Rattle.std.proofs.Common.{arith}
use Rattle.std.proofs.lemmas.List.{get_or_default}
use Rattle.sheet.proofs.Lists.{counted_small, counted_next, counted_all}
use Rattle.sheet.proofs.loading.Entries.packed_length.Goals as goal

pub overflow_add-length-in-loop-k : goal.overflow_add-length-in-loop-k
overflow_add-length-in-loop-k g c =
    let small = counted_small g.F.Arithmetic.figures _ _ _ _ c.args.self.now.a_column_each c.args.self.now.a_figure_each c.requires.placed (omega arith) _ _ c.loop-k.invariant in
    omega (arith, c.places-length.ensures.small)

pub loop-k-preserved : goal.loop-k-preserved
loop-k-preserved g c = counted_next g.F.Arithmetic.figures c.args.order c.args.self.now.rows.now c.args.self.now.columns.now c.args.self.now.figures.now c.args.self.now.a_column_each c.args.self.now.a_figure_each c.requires.placed c.loop-k.k (omega arith) c.loop-k.length c.loop-k.invariant _ (get_or_default c.args.self.now.figures.now c.loop-k.k c.index-self-k.result _ (omega arith)) c.places-length.result c.places-length.ensures.count

pub returns : goal.returns
returns g c = counted_all g.F.Arithmetic.figures _ _ _ _ c.args.self.now.a_column_each c.args.self.now.a_figure_each c.requires.placed c.loop-k.k (omega arith) _ c.loop-k.invariant
