-- The starts of the sheets of a book whose header is sound.
use Rattle.std.proofs.Common.{◌≡◌, ℕ, zero, suc, ◌+◌, ◌-◌, ◌<◌, ◌≤◌, List, length, get_or, refl, ⊎_elim, arith}
use Rattle.std.proofs.lemmas.Bool.{cases_lt, cases_order}
use Rattle.arithmetic.specs.Semiring.{Figures}
use Rattle.sheet.specs.Packed.{Rule, FirstBreak}
use Rattle.sheet.proofs.Cells.{part_long}
use Rattle.book.specs.Book.{Arrays, HeaderRule, PositionRule, order_of, sheets_of, start_of, last_end, sheet_index, sheet_figures}
use Rattle.book.specs.Checked.{Headed}

-- sheet j lies within the arrays and has room for its head
pub record Lies (header : List ℕ) (capacity j : ℕ) : Type 0 where
  pub room : get_or header (2 + j) 0 + (get_or header 0 0 + 1) ≤ get_or header (3 + j) 0
  pub within : get_or header (3 + j) 0 ≤ capacity

pub lies : (header : List ℕ) (capacity : ℕ) → ((w : ℕ) → w < 19 → HeaderRule header capacity w) → (j : ℕ) → j < get_or header 1 0 → Lies header capacity j
lies header capacity keep j low =
    let few = (keep 1 (omega arith)).sheets refl in
    let e : 3 + j - 1 ≡ 2 + j = omega arith in
    let ends = (keep (3 + j) (omega arith)).end (omega arith) (omega arith) in
    record { room = rw e at ends.0; within = ends.1 }

pub few : (header : List ℕ) (capacity : ℕ) → ((w : ℕ) → w < 19 → HeaderRule header capacity w) → get_or header 1 0 ≤ 16
few header capacity keep = (keep 1 (omega arith)).sheets refl

-- every position of the first k sheets keeps its rule
abbrev pub SheetsKeep : {S : Type 0} → Figures S → Arrays S → ℕ → Type 0
SheetsKeep a b k = (j : ℕ) → j < k → (p : ℕ) → p < length (sheet_index b j) → Rule a.ring (order_of b) (sheet_index b j) (sheet_figures a b j) p

pub none_keep : {S : Type 0} (a : Figures S) (b : Arrays S) → SheetsKeep a b 0
none_keep a b j low = absurd (omega arith)

module _ {S : Type 0} (a : Figures S) (b : Arrays S) (h : Headed b) where
  pub starts_rise : (i j : ℕ) → i ≤ j → j ≤ sheets_of b → start_of b i ≤ start_of b j
  starts_rise i zero low high = let e : i ≡ 0 = omega arith in rw e (omega arith)
  starts_rise i (suc j) low high = ⊎_elim
      (λ (less : i < suc j).
      let e : 2 + suc j ≡ 3 + j = omega arith in
      let before = starts_rise i j (omega arith) (omega arith) in
      let step = (lies b.header (length b.index) h j (omega arith)).room in
      rw e (omega arith))
      (λ (less : suc j ≤ i). let e : i ≡ suc j = omega arith in rw e (omega arith))
      (cases_lt i (suc j))

  pub sheet_long : (j : ℕ) → j < sheets_of b → length (sheet_index b j) ≡ start_of b (j + 1) - start_of b j
  sheet_long j low =
      let e : 2 + (j + 1) ≡ 3 + j = omega arith in
      let fits = (lies b.header (length b.index) h j low).within in
      let within : start_of b (j + 1) ≤ length b.index = rw e fits in
      part_long b.index (start_of b j) (start_of b (j + 1)) within

  pub all_keep : SheetsKeep a b (sheets_of b) → (q : ℕ) → PositionRule a b q
  all_keep keep q k low from to = keep k low (q - start_of b k) (rw (sheet_long k low) (omega arith))

  pub first_break : (k p : ℕ) → k < sheets_of b → SheetsKeep a b k → FirstBreak (Rule a.ring (order_of b) (sheet_index b k) (sheet_figures a b k)) (length (sheet_index b k)) p → FirstBreak (PositionRule a b) (last_end b) (start_of b k + p)
  first_break k p low keep broken =
      let short : p < start_of b (k + 1) - start_of b k = rw (sheet_long k low) at broken.0 in
      let end = starts_rise (k + 1) (sheets_of b) (omega arith) (omega arith) in
      let e : start_of b k + p - start_of b k ≡ p = omega arith in (
        omega arith,
        (λ rule. broken.1 (rw e at (rule k low (omega arith) (omega arith)))),
        λ j before k' low' from to. ⊎_elim
            (λ (same : k' ≡ k). let from' : start_of b k ≤ j = rw same at from in rw same (broken.2 (j - start_of b k) (omega arith)))
            (⊎_elim
            (λ (less : k' < k). keep k' less (j - start_of b k') (rw (sheet_long k' low') (omega arith)))
            (λ (more : k < k'). let past = starts_rise (k + 1) k' (omega arith) (omega arith) in absurd (omega arith)))
            (cases_order k' k),
      )
