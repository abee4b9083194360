use Rattle.std.proofs.Common.{◌-◌, length}
use Rattle.sheet.proofs.Loads.{Loading}
use Rattle.sheet.proofs.loading.Entries.write.Given as goal

abbrev pub invariant-loop-row : goal.invariant-loop-row
invariant-loop-row g l = Loading g.F.Arithmetic.figures l.order l.self.rows.now l.self.columns.now l.self.figures.now l.fn.index l.fn.figures l.k l.row l.index l.figures l.at

abbrev pub invariant-loop-index : goal.invariant-loop-index
invariant-loop-index g l = Loading g.F.Arithmetic.figures l.order l.self.rows.now l.self.columns.now l.self.figures.now l.fn.index l.fn.figures l.k l.row l.index l.figures l.at

abbrev pub decreases-loop-index : goal.decreases-loop-index
decreases-loop-index g l = length l.self.rows.now - l.k
