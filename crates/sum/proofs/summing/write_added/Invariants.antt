use Rattle.std.proofs.Common.{◌≡◌, ◌-◌}
use Rattle.sheet.proofs.Laying.{Laying}
use Rattle.sum.specs.Merging.{pair_sum}
use Rattle.sum.proofs.summing.write_added.Given as goal

abbrev pub invariant-loop-row : goal.invariant-loop-row
invariant-loop-row g l =
    let a = g.F.Arithmetic.figures in
    record {
      pair : l.merge.pair.now ≡ l.pair;
      row : l.merge.row ≡ l.row;
      from : l.merge.from ≡ 0;
      laying : Laying a l.pair.first.order (pair_sum l.pair) l.fn.index l.fn.figures l.row 0 l.index l.figures l.at;
    }

abbrev pub invariant-loop-cell : goal.invariant-loop-cell
invariant-loop-cell g l =
    let a = g.F.Arithmetic.figures in
    record {
      pair : l.merge.pair.now ≡ l.pair;
      row : l.merge.row ≡ l.row;
      laying : Laying a l.pair.first.order (pair_sum l.pair) l.fn.index l.fn.figures l.row l.merge.from l.index l.figures l.at;
    }

abbrev pub decreases-loop-cell : goal.decreases-loop-cell
decreases-loop-cell g l = l.pair.first.order - l.merge.from
