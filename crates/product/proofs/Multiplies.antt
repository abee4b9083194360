-- The product of two sheets, written row by row.
use Rattle.std.proofs.Common.{◌≡◌, ℕ, ◌+◌, ◌<◌, ◌≤◌, List, length, Some, None, refl, arith}
use Rattle.arithmetic.specs.declared.Arithmetic.{Ghosts}
use Rattle.sheet.specs.declared.sound.Pair.{Pair}
use Rattle.sheet.specs.Packed.{packed_length}
use Rattle.sheet.specs.Writing.{RowStarted, EntryWritten}
use Rattle.sheet.proofs.Laying.{Laying, head_room, spot_within, laying_entry, laying_room, laying_row, laying_skip}
use Rattle.product.specs.declared.meetings.Meetings.{Meetings}
use Rattle.sheet.specs.declared.sound.RowCell.{RowCell}
use Rattle.product.specs.Meetings.{NextCell, pair_product}
use Rattle.product.proofs.Resting.{Rest, from_is, cell_from, cell_below, cell_gap, cell_is, rest_more, end_gap}

module _ {S : Type 0} {g : Ghosts S} (pair : Pair S g) (ws : List ℕ) (fs : List S) where
  abbrev n : ℕ
  n = pair.first.order

  -- the cells before a row and a column are written
  abbrev pub Laid : ℕ → ℕ → List ℕ → List S → ℕ → Type 0
  Laid = Laying g.figures n (pair_product pair) ws fs

  -- the cells before those whose lists are left are written
  pub record Multiplying (row : ℕ) (m : Meetings) (ws' : List ℕ) (fs' : List S) (at : ℕ) : Type 0 where
    pub laid : Laid row m.from ws' fs' at
    pub rest : Rest pair row m

  module _ (room : packed_length g.figures.ring n (pair_product pair) ≤ length ws) (level : length fs ≡ length ws) where
    pub heads_fit : n + 1 ≤ length ws
    heads_fit = head_room g.figures n (pair_product pair) ws fs room level

    module _ (row : ℕ) (low : row < n) {m : Meetings} {ws' : List ℕ} {fs' : List S} {at : ℕ} (l : Multiplying row m ws' fs' at) where
      module _ (cell : RowCell S) (m' : Meetings) (next : NextCell g.figures n pair.first.figures.now pair.second.figures.now m (Some cell) m') where
        reached : Laid row cell.column ws' fs' at
        reached = laying_skip g.figures n (pair_product pair) ws fs room level row m.from cell.column low (cell_from pair row l.rest cell m' next) ws' fs' at (cell_gap pair row l.rest cell m' next) l.laid

        pub cell_room : (cell.column ≡ row → ⊥) → (g.figures.meaning cell.figure ≡ g.figures.ring.zero → ⊥) → at < length ws
        cell_room = laying_room g.figures n (pair_product pair) ws fs room level row cell.column low ws' fs' at reached (cell_below pair row l.rest cell m' next) cell.figure (cell_is pair row l.rest cell m' next)

        pub multiplying_more : (ws'' : List ℕ) (fs'' : List S) (at' : ℕ) → EntryWritten g.figures row cell.column cell.figure at ws' fs' ws'' fs'' at' → Multiplying row m' ws'' fs'' at'
        multiplying_more ws'' fs'' at' w = record {
          laid = rw (from_is pair row l.rest cell m' next) (laying_entry g.figures n (pair_product pair) ws fs room level row cell.column low ws' fs' at reached (cell_below pair row l.rest cell m' next) cell.figure (cell_is pair row l.rest cell m' next) ws'' fs'' at' w);
          rest = rest_more pair row l.rest cell m' next;
        }

      module _ (m' : Meetings) (next : NextCell g.figures n pair.first.figures.now pair.second.figures.now m None m') where
        over : Laid row n ws' fs' at
        over = laying_skip g.figures n (pair_product pair) ws fs room level row m.from n low l.rest.high ws' fs' at (end_gap pair row l.rest m' next) l.laid

        -- where the row ends
        pub row_end : at ≤ length ws
        row_end =
            let here = over.at_is in
            let fits = spot_within g.figures.ring n (pair_product pair) row n low (omega arith) in
            omega arith

        pub row_laid : (ws'' : List ℕ) (fs'' : List S) → RowStarted g.figures (row + 1) at ws' fs' ws'' fs'' → Laid (row + 1) 0 ws'' fs'' at
        row_laid ws'' fs'' w = laying_row g.figures n (pair_product pair) ws fs room level row n low ws' fs' at over refl ws'' fs'' w
