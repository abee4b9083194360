use Rattle.std.proofs.Common.{arith}
use Rattle.sheet.proofs.Diagonals.{unit_start, unit_row, unit_all}
use Rattle.sheet.proofs.units.write_unit.Goals as goal

pub loop-row-init : goal.loop-row-init
loop-row-init g c = unit_start g.F.Arithmetic.figures c.args.order c.args.index.now c.args.figures.now (omega arith) (omega arith) c.start_row.new.index c.start_row.new.figures c.start_row.ensures

pub loop-row-preserved : goal.loop-row-preserved
loop-row-preserved g c = unit_row g.F.Arithmetic.figures c.args.order c.args.index.now c.args.figures.now (omega arith) (omega arith) c.loop-row.row (omega arith) c.loop-row.index c.loop-row.figures c.loop-row.invariant c.unit.result c.unit.ensures c.start_row-in-loop-row.new.index c.start_row-in-loop-row.new.figures c.start_row-in-loop-row.ensures

pub returns : goal.returns
returns g c = unit_all g.F.Arithmetic.figures c.args.order c.args.index.now c.args.figures.now (omega arith) (omega arith) c.loop-row.row (omega arith) c.loop-row.index c.loop-row.figures c.loop-row.invariant
