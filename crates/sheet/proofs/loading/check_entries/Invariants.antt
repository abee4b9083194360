use Rattle.std.proofs.Common.{ℕ, ◌<◌}
use Rattle.sheet.specs.Loading.{Placed}
use Rattle.sheet.proofs.loading.check_entries.Given as goal

abbrev pub invariant-loop-k : goal.invariant-loop-k
invariant-loop-k l = (k : ℕ) → k < l.k → Placed l.order l.rows l.columns k
