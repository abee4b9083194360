-- The last end of a book, and one more sheet after it.
use Rattle.std.proofs.Common.{◌≡◌, ℕ, zero, suc, ◌+◌, ◌<◌, ◌≤◌, List, [], ◌∷◌, ◌++◌, length, take, drop, set, sym, refl, ap, ap₂, ◌∙◌, inl, inr, ⊎_elim, arith}
use Rattle.std.proofs.lemmas.Bool.{cases_lt, cases_eq}
use Rattle.std.proofs.lemmas.List.{drop-drop}
use Rattle.arithmetic.specs.Semiring.{Figures}
use Rattle.matrix.specs.Tables.{Table}
use Rattle.matrix.proofs.Meant.{length-meanings}
use Rattle.sheet.specs.Packed.{packed_length, packed_index}
use Rattle.sheet.specs.Writing.{Written}
use Rattle.sheet.proofs.Same.{index_long, figures_long_too}
use Rattle.book.specs.Book.{Arrays, OneMore, order_of, sheets_of, capacity, last_end}
use Rattle.sheet.specs.declared.refusal.Refusal.TheVariants.{Lengths, Sheet, Full, Room}
use Rattle.book.specs.Lines.{Passes, FirstMissing, line, list_lengths, full, room}
use Rattle.book.specs.Checked.{Headed}
use Rattle.book.proofs.Starts.{lies}

-- the last end lies within the arrays
pub end_within : {S : Type 0} (b : Arrays S) → Headed b → last_end b ≤ capacity b
end_within b headed = go (sheets_of b) refl
  where
    go : (k : ℕ) → sheets_of b ≡ k → last_end b ≤ capacity b
    go zero none = let start = (headed 2 (omega arith)).start refl in rw none (omega arith)
    go (suc k) some =
        let last = (lies b.header (capacity b) headed k (omega arith)).within in
        let e : 2 + suc k ≡ 3 + k = omega arith in
        rw (some, e) last

-- one more sheet, written at the start of what the sheets before it leave
module _ {S : Type 0} (a : Figures S) (b : Arrays S) (t : Table a.F) (used free : List ℕ) (used' free' : List S) where
  pub one_more : used ≡ take (last_end b) b.index → free ≡ drop (last_end b) b.index → used' ≡ take (last_end b) b.figures → free' ≡ drop (last_end b) b.figures → (header' ws : List ℕ) (fs : List S) → Written a (order_of b) t free free' ws fs → header' ≡ set (set b.header 1 (sheets_of b + 1)) (3 + sheets_of b) (last_end b + packed_length a.ring (order_of b) t) → OneMore a b t (record { header = header'; index = used ++ ws; figures = used' ++ fs })
  one_more ue fe ue' fe' header' ws fs p words =
      let wide : length p.stored ≡ packed_length a.ring (order_of b) t = sym (length-meanings a p.stored) ∙ (ap length p.means ∙ figures_long_too a.ring (order_of b) t) in
      record {
        header = words;
        index = ap₂ ◌++◌ ue (p.index ∙ ap (λ z. packed_index a.ring (order_of b) t ++ z) (ap₂ drop (index_long a.ring (order_of b) t) fe ∙ drop-drop (packed_length a.ring (order_of b) t) (last_end b) b.index));
        stored = p.stored;
        means = p.means;
        figures = ap₂ ◌++◌ ue' (p.figures ∙ ap (λ z. p.stored ++ z) (ap₂ drop wide fe' ∙ drop-drop (packed_length a.ring (order_of b) t) (last_end b) b.figures));
      }

-- what it means that a sheet fits, that it is there, and that there is a number for it
pub fits_from : (size left : ℕ) → Passes (room size left) → size ≤ left
fits_from size left pass = ⊎_elim
    (λ (h : left < size). absurd (pass (Room size) (size, refl, (refl, h))))
    (λ (h : size ≤ left). h)
    (cases_lt left size)

pub there_from : (sheets k : ℕ) → Passes (line Sheet (FirstMissing sheets (k ∷ []))) → k < sheets
there_from sheets k pass = ⊎_elim
    (λ (h : k < sheets). h)
    (λ (h : sheets ≤ k). absurd (pass (Sheet k) (k, refl, inl (h, refl))))
    (cases_lt k sheets)

pub few_from : (sheets : ℕ) → sheets ≤ 16 → Passes (full sheets) → sheets < 16
few_from sheets few pass = ⊎_elim
    (λ (e : sheets ≡ 16). absurd (pass (Full 16) (16, refl, (refl, e))))
    (λ (ne : sheets ≡ 16 → ⊥). omega (arith, ne))
    (cases_eq sheets 16)

pub lists_even : {S : Type 0} (rows columns : List ℕ) (figs : List S) → Passes (list_lengths rows columns figs) → (length columns ≡ length rows) × (length figs ≡ length rows)
lists_even rows columns figs pass = ⊎_elim
    (λ (e : length columns ≡ length rows). ⊎_elim
    (λ (d : length figs ≡ length rows). (e, d))
    (λ (ne : length figs ≡ length rows → ⊥). absurd (pass (Lengths 2) (2, refl, inr (refl, e, ne))))
    (cases_eq (length figs) (length rows)))
    (λ (ne : length columns ≡ length rows → ⊥). absurd (pass (Lengths 1) (1, refl, inl (refl, ne))))
    (cases_eq (length columns) (length rows))
