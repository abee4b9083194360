use Rattle.std.proofs.Common.{◌-◌}
use Rattle.product.specs.Meetings.{Idle}
use Rattle.product.proofs.Multiplies.{Laid, Multiplying}
use Rattle.product.proofs.multiplying.write_product.Given as goal

abbrev pub invariant-loop-row : goal.invariant-loop-row
invariant-loop-row g l = Laid l.pair l.fn.index l.fn.figures l.row 0 l.index l.figures l.at × Idle l.pair.first.order l.meetings

abbrev pub invariant-loop-cell : goal.invariant-loop-cell
invariant-loop-cell g l = Multiplying l.pair l.fn.index l.fn.figures l.row l.meetings l.index l.figures l.at

abbrev pub decreases-loop-cell : goal.decreases-loop-cell
decreases-loop-cell g l = l.pair.first.order - l.meetings.from
