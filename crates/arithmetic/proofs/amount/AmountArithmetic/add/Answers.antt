use native.Mathlib.Omega.{arith}
use Rattle·arithmetic·specs.Capped.{same-capped}
use Rattle·arithmetic·proofs.amount.AmountArithmetic.add.Needs as need

pub returns : need.returns
returns c = same-capped _ _ (omega arith)
