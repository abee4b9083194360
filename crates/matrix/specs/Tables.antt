-- Sums and square tables over a semiring, cell by cell, as textbook matrix algebra has them.
use Rattle.std.specs.Prelude.{◌≡◌, ℕ, zero, suc, ◌<◌, cond, ◌==◌}
use Rattle.arithmetic.specs.Semiring.{Semiring}

-- a square table: the figure at each row and column; of a table of order n, those below n count
abbrev pub Table : Type 0 → Type 0
Table F = ℕ → ℕ → F

-- two tables of order n that agree cell by cell
abbrev pub Same : {F : Type 0} → ℕ → Table F → Table F → Type 0
Same n a b = (i j : ℕ) → i < n → j < n → a i j ≡ b i j

-- f 0 + f 1 + … + f (n - 1)
abbrev pub sum : {F : Type 0} → Semiring F → ℕ → (ℕ → F) → F
sum s zero f = s.zero
sum s (suc n) f = s.add (sum s n f) (f n)

module _ {F : Type 0} (s : Semiring F) where
  -- unit on the diagonal, zero elsewhere
  abbrev pub unit_table : Table F
  unit_table i j = cond (i == j) s.unit s.zero

  abbrev pub zero_table : Table F
  zero_table i j = s.zero

  abbrev pub added : Table F → Table F → Table F
  added a b i j = s.add (a i j) (b i j)

  -- the sum over k of a(i, k) × b(k, j), factors in that order
  abbrev pub product : ℕ → Table F → Table F → Table F
  product n a b i j = sum s n (λ k. s.mul (a i k) (b k j))

-- the transpose
abbrev pub flipped : {F : Type 0} → Table F → Table F
flipped a i j = a j i
