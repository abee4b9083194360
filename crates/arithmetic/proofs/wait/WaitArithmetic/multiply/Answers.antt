use Rattle.std.proofs.Common.{arith}
use Rattle.arithmetic.specs.Capped.{same_capped}
use Rattle.arithmetic.proofs.wait.WaitArithmetic.multiply.Goals as goal

pub returns : goal.returns
returns c = same_capped _ _ (omega arith)
