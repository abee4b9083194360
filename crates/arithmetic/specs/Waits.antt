-- Waits: whole days from 0 to the longest wait, or never. Add takes the shorter wait, multiply puts one wait after the other.
use Rattle.std.specs.Prelude.{◌≡◌, ℕ, suc, ◌+◌, min, true, cond, ◌↔◌, List, codes, decimal, ◌==◌}
use Rattle.std.proofs.Common.{ap, ◌∙◌, le_trans, arith}
use Rattle.std.proofs.Math.Nat.{min-le_left}
use Rattle.std.proofs.lemmas.Bool.{eqb-true, eq-eqb}
use Rattle.arithmetic.specs.Semiring.{Semiring, Figures}
use Rattle.arithmetic.specs.Capped.{Capped, capped, same_capped}
use Rattle.arithmetic.specs.declared.wait.Wait.{Wait}

-- the longest wait, in days
abbrev pub longest : ℕ
longest = 4294967294

-- the number that stands for never: every larger number means never too
abbrev pub never : ℕ
never = suc longest

abbrev pub Delay : Type 0
Delay = Capped never

-- a wait of so many days, or never where that is above the longest wait
abbrev pub delay : ℕ → Delay
delay n = capped never n

abbrev pub shorter : Delay → Delay → Delay
shorter a b = (min a.0 b.0, le_trans (min-le_left a.0 b.0) a.1)

abbrev pub in_turn : Delay → Delay → Delay
in_turn a b = delay (a.0 + b.0)

-- how a wait is written: its days in digits, or the word never
abbrev pub written : Delay → List ℕ
written d = cond (d.0 == never) (codes "never") (decimal d.0)

-- From here on: that these are a semiring, and that it commutes.

pub shorter_assoc : (a b c : Delay) → shorter (shorter a b) c ≡ shorter a (shorter b c)
shorter_assoc a b c = same_capped _ _ (omega arith)

pub shorter_comm : (a b : Delay) → shorter a b ≡ shorter b a
shorter_comm a b = same_capped _ _ (omega arith)

pub never_shorter : (a : Delay) → shorter (delay never) a ≡ a
never_shorter a = same_capped _ _ (omega (arith, a.1))

pub in_turn_assoc : (a b c : Delay) → in_turn (in_turn a b) c ≡ in_turn a (in_turn b c)
in_turn_assoc a b c = same_capped _ _ (omega arith)

pub in_turn_comm : (a b : Delay) → in_turn a b ≡ in_turn b a
in_turn_comm a b = same_capped _ _ (omega arith)

pub none_in_turn : (a : Delay) → in_turn (delay 0) a ≡ a
none_in_turn a = same_capped _ _ (omega (arith, a.1))

pub in_turn_shorter : (a b c : Delay) → in_turn a (shorter b c) ≡ shorter (in_turn a b) (in_turn a c)
in_turn_shorter a b c = same_capped _ _ (omega arith)

pub shorter_in_turn : (a b c : Delay) → in_turn (shorter a b) c ≡ shorter (in_turn a c) (in_turn b c)
shorter_in_turn a b c = same_capped _ _ (omega arith)

pub never_in_turn : (a : Delay) → in_turn (delay never) a ≡ delay never
never_in_turn a = same_capped _ _ (omega arith)

pub never_apart : delay never ≡ delay 0 → ⊥
never_apart e = let z : never ≡ 0 = ap (λ (x : Delay). x.0) e in omega arith

pub never_tested : (a : Delay) → ((a.0 == never) ≡ true) ↔ (a ≡ delay never)
never_tested a = (λ t. same_capped _ _ (eqb-true a.0 never t), λ e. eq-eqb a.0 never (ap (λ (x : Delay). x.0) e))

abbrev pub waits : Semiring Delay
waits = record {
  zero = delay never;
  unit = delay 0;
  add = shorter;
  mul = in_turn;
  is_zero = λ a. (a.0 == never);
  add_assoc = shorter_assoc;
  add_comm = shorter_comm;
  zero-add = never_shorter;
  mul_assoc = in_turn_assoc;
  unit-mul = none_in_turn;
  mul-unit = λ a. in_turn_comm a (delay 0) ∙ none_in_turn a;
  mul-add = in_turn_shorter;
  add-mul = shorter_in_turn;
  zero-mul = never_in_turn;
  mul-zero = λ a. in_turn_comm a (delay never) ∙ never_in_turn a;
  zero_not_unit = never_apart;
  tests_zero = never_tested;
}

-- what a stored wait means: that many days, or never where the stored number is above the longest wait
abbrev pub wait_figures : Figures Wait
wait_figures = record { F = Delay; ring = waits; meaning = λ w. delay w.stored }
