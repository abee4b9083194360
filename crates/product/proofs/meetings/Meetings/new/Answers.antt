use Rattle.std.proofs.Common.{ℕ}
use lib.ListN.{length-replicate}
use Rattle.product.specs.Meetings.{no_meeting}
use Rattle.product.proofs.Chains.{zeros_at}
use Rattle.product.proofs.meetings.Meetings.new.Goals as goal

pub returns : goal.returns
returns c = λ n. record {
  shaped = record { heads = length-replicate {A = ℕ} 1024 0; words = length-replicate {A = ℕ} 16 0; room = length-replicate 65536 no_meeting };
  none = λ k low. zeros_at 1024 k;
}
