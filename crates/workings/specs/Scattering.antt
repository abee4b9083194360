-- What the parts of a working leave.
use Rattle.std.specs.Prelude.{◌≡◌, ℕ, ◌+◌, ◌-◌, ◌<◌, List, slice_index}
use Rattle.arithmetic.specs.Semiring.{Semiring}
use Rattle.matrix.specs.Vectors.{Vector, figure_at}
use Rattle.sheet.specs.Packed.{found}

-- what row r of a sheet stores off the diagonal at column c; zero where it stores nothing
abbrev pub off_cell : {F : Type 0} → Semiring F → List ℕ → List F → ℕ → ℕ → F
off_cell s ws fs r c = found s ws fs c (slice_index ws r) (slice_index ws (r + 1) - slice_index ws r)

-- each of the first n figures grew by what v has at its place
abbrev pub Grew : {F : Type 0} → Semiring F → ℕ → Vector F → List F → List F → Type 0
Grew s n v before after = (c : ℕ) → c < n → figure_at s after c ≡ s.add (figure_at s before c) (v c)
