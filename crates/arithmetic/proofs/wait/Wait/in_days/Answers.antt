use Rattle.std.proofs.Common.{arith}
use Rattle.arithmetic.specs.Capped.{same_capped}
use Rattle.arithmetic.proofs.wait.Wait.in_days.Goals as goal

pub returns-then-self-gt-LONGEST : goal.returns-then-self-gt-LONGEST
returns-then-self-gt-LONGEST c = same_capped _ _ (omega arith)
