-- Vectors over a semiring, and what tables make of them.
use Rattle.std.specs.Prelude.{ℕ, List, length, slice_index_or}
use Rattle.arithmetic.specs.Semiring.{Semiring}
use Rattle.matrix.specs.Tables.{Table, sum}

-- the figure at each place; of a vector of length n, those below n count
abbrev pub Vector : Type 0 → Type 0
Vector F = ℕ → F

module _ {F : Type 0} (s : Semiring F) where
  -- the dot product: the sum of y(i) × x(i)
  abbrev pub dot : ℕ → Vector F → Vector F → F
  dot n y x = sum s n (λ i. s.mul (y i) (x i))

  -- the table times a vector: at i the sum over j of t(i, j) × x(j)
  abbrev pub column_worked : ℕ → Table F → Vector F → Vector F
  column_worked n t x i = sum s n (λ j. s.mul (t i j) (x j))

  -- a vector times the table: at j the sum over i of y(i) × t(i, j)
  abbrev pub row_worked : ℕ → Vector F → Table F → Vector F
  row_worked n y t j = sum s n (λ i. s.mul (y i) (t i j))

  -- the sum of y(i) × t(i, j) × x(j) over all rows and columns
  abbrev pub bilinear : ℕ → Vector F → Table F → Vector F → F
  bilinear n y t x = sum s n (λ i. sum s n (λ j. s.mul (s.mul (y i) (t i j)) (x j)))

  -- a list of figures as a vector; past its end there are zeros
  abbrev pub figure_at : List F → Vector F
  figure_at xs i = slice_index_or xs i s.zero

  -- two lists weighed: the first's figure times its partner in the second, summed over the places of the first
  abbrev pub weighed : List F → List F → F
  weighed xs ys = dot (length xs) (figure_at xs) (figure_at ys)
