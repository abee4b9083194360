-- Amounts: whole numbers from 0 to a ceiling, with the ordinary sum and product, stopped at the ceiling.
use Rattle.std.specs.Prelude.{◌≡◌, ℕ, zero, suc, ◌+◌, ◌*◌, ◌<◌, ◌≤◌, min, true, ◌↔◌, ◌==◌}
use Rattle.std.proofs.Common.{sym, ap, ap₂, ◌∙◌, ⊎_elim, mul_comm, mul_assoc, mul-le-mul_right, mul-zero, arith}
use Rattle.std.proofs.lemmas.Bool.{cases_lt, eqb-true, eq-eqb}
use Rattle.arithmetic.specs.Semiring.{Semiring, Figures}
use Rattle.arithmetic.specs.Capped.{Capped, capped, same_capped}
use Rattle.arithmetic.specs.declared.amount.Amount.{Amount}

abbrev pub ceiling : ℕ
ceiling = 4294967295

abbrev pub Quantity : Type 0
Quantity = Capped ceiling

abbrev pub quantity : ℕ → Quantity
quantity n = capped ceiling n

abbrev pub plus : Quantity → Quantity → Quantity
plus a b = quantity (a.0 + b.0)

abbrev pub times : Quantity → Quantity → Quantity
times a b = quantity (a.0 * b.0)

-- From here on: that these are a semiring, and that it commutes.

-- a factor may be stopped at the ceiling before it is multiplied
pub factor : (x c : ℕ) → min (min x ceiling * c) ceiling ≡ min (x * c) ceiling
factor x zero = ap (λ n. min n ceiling) (mul-zero (min x ceiling) ∙ sym (mul-zero x))
factor x (suc c) = ⊎_elim
    (λ (h : x < ceiling). ap (λ n. min (n * suc c) ceiling) (omega arith))
    (λ (h : ceiling ≤ x). omega (arith, mul-le-mul_right (suc c) h))
    (cases_lt x ceiling)

pub factor_right : (c x : ℕ) → min (c * min x ceiling) ceiling ≡ min (c * x) ceiling
factor_right c x = rw (mul_comm c (min x ceiling), mul_comm c x) (factor x c)

pub plus_assoc : (a b c : Quantity) → plus (plus a b) c ≡ plus a (plus b c)
plus_assoc a b c = same_capped _ _ (omega arith)

pub plus_comm : (a b : Quantity) → plus a b ≡ plus b a
plus_comm a b = same_capped _ _ (omega arith)

pub zero-plus : (a : Quantity) → plus (quantity 0) a ≡ a
zero-plus a = same_capped _ _ (omega (arith, a.1))

pub times_assoc : (a b c : Quantity) → times (times a b) c ≡ times a (times b c)
times_assoc a b c = same_capped _ _ (factor (a.0 * b.0) c.0 ∙ ap (λ n. min n ceiling) (mul_assoc a.0 b.0 c.0) ∙ sym (factor_right a.0 (b.0 * c.0)))

pub one-times : (a : Quantity) → times (quantity 1) a ≡ a
one-times a = same_capped _ _ (omega (arith, a.1))

pub times_comm : (a b : Quantity) → times a b ≡ times b a
times_comm a b = same_capped _ _ (omega arith)

pub times-plus : (a b c : Quantity) → times a (plus b c) ≡ plus (times a b) (times a c)
times-plus a b c = same_capped _ _ (factor_right a.0 (b.0 + c.0) ∙ omega arith)

pub zero-times : (a : Quantity) → times (quantity 0) a ≡ quantity 0
zero-times a = same_capped _ _ (omega arith)

pub zero_apart : quantity 0 ≡ quantity 1 → ⊥
zero_apart e = let z : ◌≡◌ {A = ℕ} 0 1 = ap (λ (x : Quantity). x.0) e in omega arith

pub zero_tested : (a : Quantity) → ((a.0 == 0) ≡ true) ↔ (a ≡ quantity 0)
zero_tested a = (λ t. same_capped _ _ (eqb-true a.0 0 t), λ e. eq-eqb a.0 0 (ap (λ (x : Quantity). x.0) e))

abbrev pub amounts : Semiring Quantity
amounts = record {
  zero = quantity 0;
  unit = quantity 1;
  add = plus;
  mul = times;
  is_zero = λ a. (a.0 == 0);
  add_assoc = plus_assoc;
  add_comm = plus_comm;
  zero-add = zero-plus;
  mul_assoc = times_assoc;
  unit-mul = one-times;
  mul-unit = λ a. times_comm a (quantity 1) ∙ one-times a;
  mul-add = times-plus;
  add-mul = λ a b c. times_comm (plus a b) c ∙ (times-plus c a b ∙ ap₂ plus (times_comm c a) (times_comm c b));
  zero-mul = zero-times;
  mul-zero = λ a. times_comm a (quantity 0) ∙ zero-times a;
  zero_not_unit = zero_apart;
  tests_zero = zero_tested;
}

-- what a stored amount means: its number
abbrev pub amount_figures : Figures Amount
amount_figures = record { F = Quantity; ring = amounts; meaning = λ a. quantity a.value }
