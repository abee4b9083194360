use Rattle.std.proofs.Common.{arith, rules}
use Rattle.spelling.proofs.Cutting.{no_mark}
use Rattle.spelling.proofs.whole_number.Goals as goal

-- a plus is no digit
pub returns-in-43 : goal.returns-in-43
returns-in-43 c =
    λ n writes. no_mark c.args.word.now 43 writes.0.1 (λ digit. omega (arith, digit.0)) 0 writes.0.0 (search rules)
