-- The packed form of a square table: a list of index words and a list of figures, of one length.
use Rattle.std.specs.Prelude.{◌≡◌, ℕ, zero, suc, ◌+◌, ◌-◌, ◌<◌, ◌≤◌, Bool, cond, not, ◌&&◌, List, [], ◌∷◌, ◌++◌, map, length, get_or, ◌==◌, slice_index, slice_index_or}
use Rattle.std.specs.List.{range_with_len}
use Rattle.arithmetic.specs.Semiring.{Semiring}
use Rattle.matrix.specs.Tables.{Table}

-- f 0, f 1, … f (n - 1), laid end to end
abbrev pub joined_over : {A : Type 0} → (ℕ → List A) → ℕ → List A
joined_over f zero = []
joined_over f (suc n) = joined_over f n ++ f n

module _ {F : Type 0} (s : Semiring F) (r : ℕ) (v : ℕ → F) where
  -- whether the cell of row r and column c, whose figure is v c, is stored off the diagonal
  abbrev pub stored : ℕ → Bool
  stored c = not (c == r) && not (s.is_zero (v c))

  -- the columns below k of the cells that row r stores off the diagonal
  abbrev pub columns_below : ℕ → List ℕ
  columns_below zero = []
  columns_below (suc k) = columns_below k ++ cond (stored k) (k ∷ []) []

module _ {F : Type 0} (s : Semiring F) (n : ℕ) (t : Table F) where
  abbrev pub row_columns : ℕ → List ℕ
  row_columns r = columns_below s r (t r) n

  -- where row r starts
  abbrev pub row_start : ℕ → ℕ
  row_start zero = n + 1
  row_start (suc r) = row_start r + length (row_columns r)

  abbrev pub packed_length : ℕ
  packed_length = row_start n

  -- the starts of the rows and the end of the last, then the stored columns row by row
  abbrev pub packed_index : List ℕ
  packed_index = map row_start (range_with_len 0 (n + 1)) ++ joined_over row_columns n

  -- the diagonal, a zero, then the figures of the stored cells row by row
  abbrev pub packed_figures : List F
  packed_figures = map (λ r. t r r) (range_with_len 0 n) ++ (s.zero ∷ joined_over (λ r. map (t r) (row_columns r)) n)

-- what a position p ≤ n of a sheet of order n has to keep, where the rows start; its index words are ws, its figures fs
pub record Head {F : Type 0} (s : Semiring F) (n : ℕ) (ws : List ℕ) (fs : List F) (p : ℕ) : Type 0 where
  pub first : p ≡ 0 → slice_index ws p ≡ n + 1
  pub rises : 0 < p → slice_index ws (p - 1) ≤ slice_index ws p
  pub within : 0 < p → slice_index ws p ≤ length ws
  pub last : p ≡ n → slice_index ws p ≡ length ws
  pub spare : p ≡ n → slice_index_or fs p s.zero ≡ s.zero

-- what a position p > n has to keep: a stored cell, in the row that the starts give it
pub record Cell {F : Type 0} (s : Semiring F) (n : ℕ) (ws : List ℕ) (fs : List F) (p : ℕ) : Type 0 where
  pub row : ℕ
  pub row_below : row < n
  pub from : get_or ws row 0 ≤ p
  pub to : p < slice_index ws (row + 1)
  pub column_below : get_or ws p 0 < n
  pub off : get_or ws p 0 ≡ row → ⊥
  pub rises : get_or ws row 0 < p → slice_index ws (p - 1) < slice_index ws p
  pub figure : get_or fs p s.zero ≡ s.zero → ⊥

pub record Rule {F : Type 0} (s : Semiring F) (n : ℕ) (ws : List ℕ) (fs : List F) (p : ℕ) : Type 0 where
  pub head : p ≤ n → Head s n ws fs p
  pub cell : n < p → Cell s n ws fs p

-- the starts of the rows, and the end of the last
abbrev pub Rising : ℕ → List ℕ → Type 0
Rising n ws = (i j : ℕ) → i ≤ j → j ≤ n → slice_index ws i ≤ slice_index ws j

-- a sheet of order n is sound: every position keeps its rule
pub record Sound {F : Type 0} (s : Semiring F) (n : ℕ) (ws : List ℕ) (fs : List F) : Type 0 where
  pub room : n < length ws
  pub rules : (p : ℕ) → p < length ws → Rule s n ws fs p

-- k breaks the rule, and no place before it does
abbrev pub FirstBreak : (ℕ → Type 0) → ℕ → ℕ → Type 0
FirstBreak rule size k = (k < size) × (rule k → ⊥) × ((j : ℕ) → j < k → rule j)

-- the figure beside column c among the k positions from p on; zero where the column is not among them
abbrev pub found : {F : Type 0} → Semiring F → List ℕ → List F → ℕ → ℕ → ℕ → F
found s ws fs c p zero = s.zero
found s ws fs c p (suc k) = cond (slice_index ws p == c) (slice_index_or fs p s.zero) (found s ws fs c (p + 1) k)

-- the table that a sheet stands for
abbrev pub table : {F : Type 0} → Semiring F → List ℕ → List F → Table F
table s ws fs r c = cond (r == c) (slice_index_or fs r s.zero) (found s ws fs c (slice_index ws r) (slice_index ws (r + 1) - slice_index ws r))
