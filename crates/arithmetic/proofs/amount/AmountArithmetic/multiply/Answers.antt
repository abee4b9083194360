use Rattle.std.proofs.Common.{min, arith}
use Rattle.arithmetic.specs.Capped.{same_capped}
use Rattle.arithmetic.specs.Amounts.{ceiling, factor, factor_right}
use Rattle.arithmetic.proofs.amount.AmountArithmetic.multiply.Goals as goal

pub returns : goal.returns
returns c =
    let x = c.args.self.value in
    let y = c.args.other.value in
    same_capped _ _ (omega (arith, factor x (min y ceiling), factor_right x y))
