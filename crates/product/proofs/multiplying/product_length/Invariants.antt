use Rattle.std.proofs.Common.{◌≡◌, ◌+◌, ◌*◌, ◌≤◌}
use Rattle.sheet.specs.Packed.{row_start}
use Rattle.product.specs.Meetings.{Idle, pair_product}
use Rattle.product.proofs.multiplying.product_length.Given as goal

abbrev pub invariant-loop-i : goal.invariant-loop-i
invariant-loop-i g l =
    let n = l.pair.first.order in
    (l.length ≡ row_start g.F.Arithmetic.figures.ring n (pair_product l.pair) l.i) × (l.length ≤ 1025 + l.i * 1024) × Idle n l.meetings
