-- What is written of a wait and of an amount. Assumes nothing.
use Rattle.std.proofs.Common.{◌≡◌, ℕ, ◌≤◌, min, codes, decimal, refl, arith}
use Rattle.std.proofs.lemmas.Bool.{ne_eqb}
use Rattle.arithmetic.specs.Waits.{delay, longest, never, written}

pub written_days : (n : ℕ) → n ≤ longest → written (delay n) ≡ decimal n
written_days n low =
    let e : min n never ≡ n = omega arith in
    rw (e, ne_eqb n never (λ h. omega arith)) refl

pub written_never : written (delay never) ≡ codes "never"
written_never = refl
