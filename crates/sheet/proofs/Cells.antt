-- A row of a sheet, walked by its columns and its figures together.
use Rattle.std.proofs.Common.{◌≡◌, ℕ, ◌+◌, ◌-◌, ◌<◌, ◌≤◌, List, [], ◌∷◌, ◌++◌, length, get_or, drop, Option, Some, None, Bor, Iter, ap, ◌∙◌, arith}
use Rattle.std.proofs.lemmas.List.{length_push, get_or-take, get_or-drop, length-take, length-drop}
use Rattle.std.proofs.lemmas.Slice.Zip.{zip_turn, zip_end}
use Rattle.std.proofs.lemmas.Iterator.{zips}
use Rattle.std.proofs.iter.Yields.{fronts}
use Rattle.std.specs.Iterator.{Yields}
use Rattle.std.specs.declared.iter.Zip.{Zip}
use Rattle.std.specs.Iterator.Adapters.{zip_first, zip_second}
use Rattle.std.specs.Slice.Iter.{iter_rest}
use Rattle.arithmetic.specs.Semiring.{Figures, meanings}
use Rattle.arithmetic.specs.declared.Arithmetic.{Ghosts}
use Rattle.matrix.proofs.Meant.{at_means}
use Rattle.sheet.specs.declared.sound.Sheet.{Sheet}
use Rattle.sheet.specs.Writing.{part}
use Rattle.sheet.proofs.Found.{sound_rises, row_within, cell_at}
use Rattle.sheet.proofs.Known.{sheet_sound}

-- what stands at a place of a part of a list
pub part_at : {A : Type 0} (xs : List A) (from to k : ℕ) (d : A) → k < to - from → get_or (part xs from to) k d ≡ get_or xs (from + k) d
part_at xs from to k d h = get_or-take (to - from) (drop from xs) k d h ∙ get_or-drop from xs k d

-- how long a part of a list is
pub part_long : {A : Type 0} (xs : List A) (from to : ℕ) → to ≤ length xs → length (part xs from to) ≡ to - from
part_long xs from to h = simp (length-take, length-drop) (omega arith)

-- the column and the figure of a pair are those of the stored cell of row i that comes after k others
pub record Turn {S : Type 0} (a : Figures S) (n : ℕ) (ws : List ℕ) (fs : List S) (i k : ℕ) (pair : Bor ℕ × Bor S) : Type 0 where
  pub within : get_or ws i 0 + k < get_or ws (i + 1) 0
  pub column : pair.0.now ≡ get_or ws (get_or ws i 0 + k) 0
  pub below : get_or ws (get_or ws i 0 + k) 0 < n
  pub figure : a.meaning pair.1.now ≡ get_or (meanings a fs) (get_or ws i 0 + k) a.ring.zero

-- after one more pair, the place in the row is one further
pub next_place : {P : Type 0} (p : ℕ) (ps : List P) (pair : P) → p + length (ps ++ pair ∷ []) ≡ p + length ps + 1
next_place p ps pair = omega (arith, length_push ps pair)

module _ {S : Type 0} {g : Ghosts S} (sheet : Sheet S g) (i : ℕ) (low : i < sheet.order) (ps : List (Bor ℕ × Bor S)) (s t u : Zip (Iter ℕ) (Iter S)) (r : Option (Bor ℕ × Bor S)) (columns : iter_rest (zip_first s) ≡ part sheet.words.now (get_or sheet.words.now i 0) (get_or sheet.words.now (i + 1) 0)) (figures : iter_rest (zip_second s) ≡ part sheet.figures.now (get_or sheet.words.now i 0) (get_or sheet.words.now (i + 1) 0)) (yielded : Yields (zips fronts fronts) s ps t) (step : zips fronts fronts t r u) where
  pub cells_turn : (pair : Bor ℕ × Bor S) → r ≡ Some pair → Turn g.figures sheet.order sheet.words.now sheet.figures.now i (length ps) pair
  cells_turn pair is =
      let ws = sheet.words.now in
      let fs = sheet.figures.now in
      let sound = sheet_sound sheet in
      let end = row_within _ _ _ _ sound (i + 1) (omega arith) in
      let turn = zip_turn (part ws (get_or ws i 0) (get_or ws (i + 1) 0)) (part fs (get_or ws i 0) (get_or ws (i + 1) 0)) ps s t u r columns figures yielded pair is step in
      let here : length ps < get_or ws (i + 1) 0 - get_or ws i 0 = omega (arith, turn.0, part_long ws (get_or ws i 0) (get_or ws (i + 1) 0) end) in
      let p = get_or ws i 0 + length ps in
      record {
        within = omega arith;
        column = turn.2 0 ∙ part_at ws (get_or ws i 0) (get_or ws (i + 1) 0) (length ps) 0 here;
        below = (cell_at _ _ _ _ sound i low p (omega arith) (omega arith)).0;
        figure = ap g.figures.meaning (turn.3 pair.1.now ∙ part_at fs (get_or ws i 0) (get_or ws (i + 1) 0) (length ps) pair.1.now here) ∙ at_means g.figures fs p pair.1.now g.figures.ring.zero (omega (arith, sheet.paired));
      }

  -- past the last pair, the row is walked
  pub cells_end : r ≡ None → get_or sheet.words.now i 0 + length ps ≡ get_or sheet.words.now (i + 1) 0
  cells_end is =
      let ws = sheet.words.now in
      let sound = sheet_sound sheet in
      let end = row_within _ _ _ _ sound (i + 1) (omega arith) in
      let up = sound_rises _ _ _ _ sound i (i + 1) (omega arith) (omega arith) in
      omega (arith, zip_end (part ws (get_or ws i 0) (get_or ws (i + 1) 0)) (part sheet.figures.now (get_or ws i 0) (get_or ws (i + 1) 0)) ps s t u r columns figures yielded is step, part_long ws (get_or ws i 0) (get_or ws (i + 1) 0) end, part_long sheet.figures.now (get_or ws i 0) (get_or ws (i + 1) 0) (omega (arith, sheet.paired)))
