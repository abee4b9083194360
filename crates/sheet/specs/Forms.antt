-- The packed forms of a table, and what holds of them.
use Rattle.std.specs.Prelude.{◌≡◌, ℕ, List, length}
use Rattle.arithmetic.specs.Semiring.{Semiring}
use Rattle.matrix.specs.Tables.{Table, Same}
use Rattle.sheet.specs.Packed.{packed_index, packed_figures, Sound, table}

module _ {F : Type 0} (s : Semiring F) where
  -- ws and fs are a packed form of the table t of order n: a sound sheet, index and figures of one length, that reads back as t
  abbrev pub Packs : ℕ → Table F → List ℕ → List F → Type 0
  Packs n t ws fs = Sound s n ws fs × (length fs ≡ length ws) × Same n (table s ws fs) t

  -- every table, of any order, has a packed form
  abbrev pub PackedFormExists : Type 0
  PackedFormExists = (n : ℕ) (t : Table F) → Packs n t (packed_index s n t) (packed_figures s n t)

  -- and no other: two packed forms of one table are the same word for word and figure for figure
  abbrev pub PackedFormIsUnique : Type 0
  PackedFormIsUnique = (n : ℕ) (t : Table F) (ws : List ℕ) (fs : List F) → Packs n t ws fs → (ws ≡ packed_index s n t) × (fs ≡ packed_figures s n t)

  -- a sound sheet is the packed form of the table that it stands for, and of no other table
  abbrev pub SoundSheetIsPacked : Type 0
  SoundSheetIsPacked =
      (n : ℕ) (ws : List ℕ) (fs : List F) →
      Sound s n ws fs →
      length fs ≡ length ws →
      (ws ≡ packed_index s n (table s ws fs)) × (fs ≡ packed_figures s n (table s ws fs)) × ((t : Table F) → ws ≡ packed_index s n t → fs ≡ packed_figures s n t → Same n t (table s ws fs))
