-- Worked examples, as one list that is proved whole.
use Rattle.std.specs.Prelude.{◌≡◌, ℕ, List, [], ◌∷◌, map}
use Rattle.std.specs.List.{range_with_len}
use Rattle.arithmetic.specs.Amounts.{Quantity, quantity, amounts, ceiling}
use Rattle.arithmetic.specs.Waits.{delay, waits, never}
use Rattle.arithmetic.specs.Squares.{Square, square_ring}
use Rattle.matrix.specs.Tables.{Table, added, product, flipped}
use Rattle.matrix.specs.Vectors.{Vector, column_worked, row_worked, figure_at, weighed}
use Rattle.sheet.specs.Packed.{packed_index, packed_figures}
use Rattle.sheet.specs.Loading.{Entry, loaded}

-- the block (p q; r s) of amounts
abbrev pub block : ℕ → ℕ → ℕ → ℕ → Square Quantity
block p q r s = record { p = quantity p; q = quantity q; r = quantity r; s = quantity s }

-- the entry of this amount at (row, column)
abbrev pub entry : ℕ → ℕ → ℕ → Entry Quantity
entry row column figure = record { row = row; column = column; figure = quantity figure }

-- the tables P and Q, of order 3, of amounts
abbrev pub P : Table Quantity
P = loaded amounts (entry 0 0 2 ∷ (entry 0 2 5 ∷ (entry 1 0 4 ∷ (entry 2 2 1 ∷ []))))

abbrev pub Q : Table Quantity
Q = loaded amounts (entry 0 1 3 ∷ (entry 1 1 1 ∷ (entry 2 0 6 ∷ [])))

-- these are the index words and the figures of the packed form of t
pub record PacksTo (t : Table Quantity) (words figures : List ℕ) : Type 0 where
  pub index : packed_index amounts 3 t ≡ words
  pub amounts_are : packed_figures amounts 3 t ≡ map quantity figures

-- three amounts
abbrev pub three : ℕ → ℕ → ℕ → List Quantity
three x y z = map quantity (x ∷ (y ∷ (z ∷ [])))

-- the first three figures of a vector
abbrev pub first_three : Vector Quantity → List Quantity
first_three v = map v (range_with_len 0 3)

pub record Worked : Type 0 where
  -- the packed forms of P, of P flipped and of Q
  pub P_packed : PacksTo P (4 ∷ (5 ∷ (6 ∷ (6 ∷ (2 ∷ (0 ∷ [])))))) (2 ∷ (0 ∷ (1 ∷ (0 ∷ (5 ∷ (4 ∷ []))))))
  pub P_flipped : PacksTo (flipped P) (4 ∷ (5 ∷ (5 ∷ (6 ∷ (1 ∷ (0 ∷ [])))))) (2 ∷ (0 ∷ (1 ∷ (0 ∷ (4 ∷ (5 ∷ []))))))
  pub Q_packed : PacksTo Q (4 ∷ (5 ∷ (5 ∷ (6 ∷ (1 ∷ (0 ∷ [])))))) (0 ∷ (1 ∷ (0 ∷ (0 ∷ (3 ∷ (6 ∷ []))))))
  -- those of P × Q and P + Q
  pub P_times_Q : PacksTo (product amounts 3 P Q) (4 ∷ (5 ∷ (5 ∷ (6 ∷ (1 ∷ (0 ∷ [])))))) (30 ∷ (12 ∷ (0 ∷ (0 ∷ (6 ∷ (6 ∷ []))))))
  pub P_plus_Q : PacksTo (added amounts P Q) (4 ∷ (6 ∷ (7 ∷ (8 ∷ (1 ∷ (2 ∷ (0 ∷ (0 ∷ [])))))))) (2 ∷ (1 ∷ (1 ∷ (0 ∷ (3 ∷ (5 ∷ (4 ∷ (6 ∷ []))))))))
  -- P on (1, 2, 3) by columns, and (1, 1, 2) on P by rows
  pub by_columns : first_three (column_worked amounts 3 P (figure_at amounts (three 1 2 3))) ≡ three 17 4 3
  pub by_rows : first_three (row_worked amounts 3 (figure_at amounts (three 1 1 2)) P) ≡ three 6 0 7
  -- weighed either way, one total
  pub weighed_back : weighed amounts (three 1 1 2) (three 17 4 3) ≡ quantity 27
  pub weighed_forward : weighed amounts (three 6 0 7) (three 1 2 3) ≡ quantity 27
  -- 65,536 × 65,536 is the ceiling, 65,535 × 65,536 is not
  pub at_ceiling : amounts.mul (quantity 65536) (quantity 65536) ≡ quantity ceiling
  pub below_ceiling : amounts.mul (quantity 65535) (quantity 65536) ≡ quantity 4294901760
  -- 4,294,967,290 days and then 4 are the longest wait; and then 5 are never
  pub longest_wait : waits.mul (delay 4294967290) (delay 4) ≡ delay 4294967294
  pub past_longest : waits.mul (delay 4294967290) (delay 5) ≡ delay never
  -- two blocks of amounts, multiplied either way round
  pub blocks : (square_ring amounts).mul (block 1 1 0 1) (block 1 0 1 1) ≡ block 2 1 1 1
  pub blocks_back : (square_ring amounts).mul (block 1 0 1 1) (block 1 1 0 1) ≡ block 1 1 1 2
