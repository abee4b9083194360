-- A sheet that is flipped, and the two arrays that it is written to.
use Rattle.std.proofs.Common.{◌≡◌, ℕ, ◌≤◌, List, length, arith}
use Rattle.arithmetic.specs.Semiring.{Figures, meanings}
use Rattle.matrix.specs.Tables.{Table, flipped}
use Rattle.sheet.specs.Packed.{Sound, packed_length, table}
use Rattle.transpose.proofs.Hits.{flipped_length}

-- the table of a sheet, flipped
abbrev pub flipped_table : {S : Type 0} (a : Figures S) → List ℕ → List S → Table a.F
flipped_table a ws fs = flipped (table a.ring ws (meanings a fs))

-- a sheet of order n, ws and fs, and two arrays, d and e, that have room for it
pub record Flip {S : Type 0} (a : Figures S) (n : ℕ) (ws : List ℕ) (fs : List S) (d : List ℕ) (e : List S) : Type 0 where
  pub sound : Sound a.ring n ws (meanings a fs)
  pub small : n ≤ 1024
  pub room : length ws ≤ length d
  pub even : length e ≡ length d

module _ {S : Type 0} {a : Figures S} {n : ℕ} {ws : List ℕ} {fs : List S} {d : List ℕ} {e : List S} (flip : Flip a n ws fs d e) where
  pub long : packed_length a.ring n (flipped_table a ws fs) ≡ length ws
  long = flipped_length a.ring n ws (meanings a fs) flip.sound

  pub fits : packed_length a.ring n (flipped_table a ws fs) ≤ length d
  fits = omega (arith, long, flip.room)
