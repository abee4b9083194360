-- A place that goes along a row of a sheet while the columns count up.
use Rattle.std.specs.Prelude.{ℕ, ◌+◌, ◌<◌, ◌≤◌, cond, ◌&&◌, List, ◌==◌, nat_lt, slice_index}

-- p is the first place of row i whose column is not below k
pub record Cursor (ws : List ℕ) (i k p : ℕ) : Type 0 where
  pub from : slice_index ws i ≤ p
  pub to : p ≤ slice_index ws (i + 1)
  pub behind : (q : ℕ) → slice_index ws i ≤ q → q < p → slice_index ws q < k
  pub ahead : (q : ℕ) → p ≤ q → q < slice_index ws (i + 1) → k ≤ slice_index ws q

-- where the cell of row i and column k stands, if p is the first place of the row whose column is not below k; the place n,
-- whose figure is zero, where there is none
abbrev pub spot_of : List ℕ → ℕ → ℕ → ℕ → ℕ → ℕ
spot_of ws n i k p = cond (k == i) i (cond (nat_lt p (slice_index ws (i + 1)) && slice_index ws p == k) p n)

-- the column at place p of row i; n past the row's end
abbrev pub column_of : List ℕ → ℕ → ℕ → ℕ → ℕ
column_of ws n i p = cond (nat_lt p (slice_index ws (i + 1))) (slice_index ws p) n
