use Rattle.std.proofs.Common.{◌≡◌, ◌-◌}
use Rattle.sheet.proofs.Laying.{spot}
use Rattle.sum.specs.Merging.{pair_sum}
use Rattle.sum.proofs.summing.added_length.Given as goal

abbrev pub invariant-loop-row : goal.invariant-loop-row
invariant-loop-row g l =
    let a = g.F.Arithmetic.figures in
    record {
      pair : l.merge.pair.now ≡ l.pair;
      row : l.merge.row ≡ l.row;
      from : l.merge.from ≡ 0;
      counted : l.length ≡ spot a.ring l.pair.first.order (pair_sum l.pair) l.row 0;
    }

abbrev pub invariant-loop-cell : goal.invariant-loop-cell
invariant-loop-cell g l =
    let a = g.F.Arithmetic.figures in
    record {
      pair : l.merge.pair.now ≡ l.pair;
      row : l.merge.row ≡ l.row;
      counted : l.length ≡ spot a.ring l.pair.first.order (pair_sum l.pair) l.row l.merge.from;
    }

abbrev pub decreases-loop-cell : goal.decreases-loop-cell
decreases-loop-cell g l = l.pair.first.order - l.merge.from
