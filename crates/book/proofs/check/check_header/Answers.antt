use Rattle.std.proofs.Common.{refl, below_more}
use Rattle.book.proofs.check.check_header.Goals as goal

pub loop-w-preserved : goal.loop-w-preserved
loop-w-preserved g c = below_more _ _ c.loop-w.invariant (c.if-not-word_keeps.ensures.0 refl)
