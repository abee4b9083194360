-- Two outcomes of one call are the same.
use Rattle.std.proofs.Common.{◌≡◌, ℕ, ◌+◌, List, [], ◌∷◌, ◌++◌, take, drop, Ok, Err, sym, ap, ◌∙◌}
use Rattle.std.proofs.lemmas.List.{map-append}
use Rattle.arithmetic.specs.Semiring.{Figures, meanings}
use Rattle.matrix.specs.Tables.{Table}
use Rattle.sheet.specs.Packed.{packed_length, packed_figures}
use Rattle.book.specs.Book.{Arrays, OneMore, OneLess, order_of, last_end}
use Rattle.book.specs.Calls.{Call, Open, Unit', Load, Add, Multiply, Flip, Strike, lines, Effect}
use Rattle.book.specs.Single.{Alike, WritesNone, OutcomeIsSingle, CellIsSingle, RowIsSingle, ColumnsAreSingle, FiguresAreSingle}
use Rattle.book.specs.Lookups.{cell_lines, row_lines}
use Rattle.book.proofs.Singles.{EachSingle, sent_single, not_both, layout_single, order_single, header_single, lengths_single, missing_single, none_single, full_single, outside_single, outside_row_single, misplaced_single, position_single, room_single}

pub same_arrays : {S : Type 0} (x y : Arrays S) → x.header ≡ y.header → x.index ≡ y.index → x.figures ≡ y.figures → x ≡ y
same_arrays x y e f g = λ i. record { header = e i; index = f i; figures = g i }

pub same_alike : {S : Type 0} (a : Figures S) (x y : Arrays S) → x ≡ y → Alike a x y
same_alike a x y e = record { header = ap (λ (z : Arrays _). z.header) e; index = ap (λ (z : Arrays _). z.index) e; figures = ap (λ (z : Arrays _). meanings a z.figures) e }

module _ {S : Type 0} (a : Figures S) (b : Arrays S) where
  -- what the figures mean after one more sheet
  more_means : (t : Table a.F) (after : Arrays S) → OneMore a b t after → meanings a after.figures ≡ meanings a (take (last_end b) b.figures) ++ (packed_figures a.ring (order_of b) t ++ meanings a (drop (last_end b + packed_length a.ring (order_of b) t) b.figures))
  more_means t after m =
      ap (meanings a) m.figures
      ∙ (map-append a.meaning (take (last_end b) b.figures) _
      ∙ ap (λ (xs : List a.F). meanings a (take (last_end b) b.figures) ++ xs) (map-append a.meaning m.stored _ ∙ ap (λ (xs : List a.F). xs ++ meanings a (drop (last_end b + packed_length a.ring (order_of b) t) b.figures)) m.means))

  pub more_alike : (t : Table a.F) (x y : Arrays S) → OneMore a b t x → OneMore a b t y → Alike a x y
  more_alike t x y m n = record { header = m.header ∙ sym n.header; index = m.index ∙ sym n.index; figures = more_means t x m ∙ sym (more_means t y n) }

  pub less_same : (x y : Arrays S) → OneLess b x → OneLess b y → x ≡ y
  less_same x y m n = same_arrays x y (m.header ∙ sym n.header) (m.index ∙ sym n.index) (m.figures ∙ sym n.figures)

  lines_single : (call : Call S) → EachSingle (lines a b call)
  lines_single (Open n) = (layout_single b, (order_single b n, tt))
  lines_single Unit' = (layout_single b, (header_single b, (position_single a b, (full_single _, (room_single _ _, tt)))))
  lines_single (Load rs cs fs) = (layout_single b, (header_single b, (position_single a b, (lengths_single rs cs fs, (full_single _, (misplaced_single _ rs cs, (room_single _ _, tt)))))))
  lines_single (Add i j) = (layout_single b, (header_single b, (position_single a b, (missing_single b (i ∷ (j ∷ [])), (full_single _, (room_single _ _, tt))))))
  lines_single (Multiply i j) = (layout_single b, (header_single b, (position_single a b, (missing_single b (i ∷ (j ∷ [])), (full_single _, (room_single _ _, tt))))))
  lines_single (Flip i) = (layout_single b, (header_single b, (position_single a b, (missing_single b (i ∷ []), (full_single _, (room_single _ _, tt))))))
  lines_single Strike = (layout_single b, (header_single b, (position_single a b, (none_single b, tt))))

  -- what a granted call leaves
  left_single : (call : Call S) (n m : ℕ) (x y : Arrays S) → Effect a b call n x → Effect a b call m y → (n ≡ m) × Alike a x y × (WritesNone call (Ok n) → x ≡ y)
  left_single (Open order) n m x y e f =
      let same = same_arrays x y (e.1 ∙ sym f.1) (e.2 ∙ sym f.2) (e.3 ∙ sym f.3) in
      (e.0 ∙ sym f.0, same_alike a x y same, λ none. same)
  left_single Unit' n m x y e f = (e.0 ∙ sym f.0, more_alike _ x y e.1 f.1, λ none. absurd none)
  left_single (Load rs cs fs) n m x y e f = (e.0 ∙ sym f.0, more_alike _ x y e.1 f.1, λ none. absurd none)
  left_single (Add i j) n m x y e f = (e.0 ∙ sym f.0, more_alike _ x y e.1 f.1, λ none. absurd none)
  left_single (Multiply i j) n m x y e f = (e.0 ∙ sym f.0, more_alike _ x y e.1 f.1, λ none. absurd none)
  left_single (Flip i) n m x y e f = (e.0 ∙ sym f.0, more_alike _ x y e.1 f.1, λ none. absurd none)
  left_single Strike n m x y e f =
      let same = less_same x y e.1 f.1 in
      (e.0 ∙ sym f.0, same_alike a x y same, λ none. same)

pub outcome_is_single_lem : {S : Type 0} (a : Figures S) → OutcomeIsSingle a
outcome_is_single_lem a b call (Ok n) (Ok m) x y o p = let e = left_single a b call n m x y o.1 p.1 in (ap Ok e.0, e.1, e.2)
outcome_is_single_lem a b call (Ok n) (Err why) x y o p = absurd (not_both (lines a b call) why o.0 p.0)
outcome_is_single_lem a b call (Err why) (Ok m) x y o p = absurd (not_both (lines a b call) why p.0 o.0)
outcome_is_single_lem a b call (Err why) (Err why') x y o p =
    let same = o.1 ∙ sym p.1 in
    (ap Err (sent_single (lines a b call) (lines_single a b call) why why' o.0 p.0), same_alike a x y same, λ none. same)

module _ {S : Type 0} (a : Figures S) where
  cell_each : (b : Arrays S) (k row column : ℕ) → EachSingle (cell_lines a b k row column)
  cell_each b k row column = (layout_single b, (header_single b, (position_single a b, (missing_single b (k ∷ []), (outside_single b row column, tt)))))

  row_each : (b : Arrays S) (k row : ℕ) → EachSingle (row_lines a b k row)
  row_each b k row = (layout_single b, (header_single b, (position_single a b, (missing_single b (k ∷ []), (outside_row_single b row, tt)))))

  pub cell_is_single : CellIsSingle a
  cell_is_single b k row column (Ok x) (Ok y) o p = ap Ok (o.1 ∙ sym p.1)
  cell_is_single b k row column (Ok x) (Err why) o p = absurd (not_both (cell_lines a b k row column) why o.0 p)
  cell_is_single b k row column (Err why) (Ok y) o p = absurd (not_both (cell_lines a b k row column) why p.0 o)
  cell_is_single b k row column (Err why) (Err why') o p = ap Err (sent_single (cell_lines a b k row column) (cell_each b k row column) why why' o p)

  pub row_is_single : RowIsSingle a
  row_is_single b k row (Ok x) (Ok y) o p = let e = o.1 ∙ sym p.1 in let f = o.2 ∙ sym p.2 in λ i. Ok (e i, f i)
  row_is_single b k row (Ok x) (Err why) o p = absurd (not_both (row_lines a b k row) why o.0 p)
  row_is_single b k row (Err why) (Ok y) o p = absurd (not_both (row_lines a b k row) why p.0 o)
  row_is_single b k row (Err why) (Err why') o p = ap Err (sent_single (row_lines a b k row) (row_each b k row) why why' o p)

  pub columns_are_single : ColumnsAreSingle a
  columns_are_single b k row (Ok x) (Ok y) o p = ap Ok (o.1 ∙ sym p.1)
  columns_are_single b k row (Ok x) (Err why) o p = absurd (not_both (row_lines a b k row) why o.0 p)
  columns_are_single b k row (Err why) (Ok y) o p = absurd (not_both (row_lines a b k row) why p.0 o)
  columns_are_single b k row (Err why) (Err why') o p = ap Err (sent_single (row_lines a b k row) (row_each b k row) why why' o p)

  pub figures_are_single : FiguresAreSingle a
  figures_are_single b k row (Ok x) (Ok y) o p = ap Ok (o.1 ∙ sym p.1)
  figures_are_single b k row (Ok x) (Err why) o p = absurd (not_both (row_lines a b k row) why o.0 p)
  figures_are_single b k row (Err why) (Ok y) o p = absurd (not_both (row_lines a b k row) why p.0 o)
  figures_are_single b k row (Err why) (Err why') o p = ap Err (sent_single (row_lines a b k row) (row_each b k row) why why' o p)
