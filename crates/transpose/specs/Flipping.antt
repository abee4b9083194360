-- A sheet that is being flipped: how often each column stands in it, and the head of the flipped sheet.
use Rattle.std.specs.Prelude.{◌≡◌, ℕ, zero, suc, ◌+◌, ◌<◌, ◌≤◌, cond, List, length, get_or, ◌==◌, slice_index, slice_index_or}
use Rattle.arithmetic.specs.Semiring.{Figures, meanings}
use Rattle.matrix.specs.Tables.{Table}
use Rattle.sheet.specs.Packed.{row_start, packed_length}

-- how many of the m places from q on hold the word c
abbrev pub hits : List ℕ → ℕ → ℕ → ℕ → ℕ
hits ws c q zero = 0
hits ws c q (suc m) = hits ws c q m + cond (slice_index ws (q + m) == c) 1 0

-- the packed form of t is being written: its head is there, and no place past its length was touched
pub record HeadLaid {S : Type 0} (a : Figures S) (n : ℕ) (t : Table a.F) (ws : List ℕ) (fs : List S) (ws' : List ℕ) (fs' : List S) : Type 0 where
  pub starts : (r : ℕ) → r ≤ n → slice_index ws' r ≡ row_start a.ring n t r
  pub diagonal : (r : ℕ) → r < n → slice_index_or (meanings a fs') r a.ring.zero ≡ t r r
  pub spare : get_or (meanings a fs') n a.ring.zero ≡ a.ring.zero
  pub words_long : length ws' ≡ length ws
  pub figures_long : length fs' ≡ length fs
  pub words_stay : (k : ℕ) → packed_length a.ring n t ≤ k → slice_index ws' k ≡ slice_index ws k
  pub figures_stay : (k : ℕ) (d : S) → packed_length a.ring n t ≤ k → slice_index_or fs' k d ≡ slice_index_or fs k d
