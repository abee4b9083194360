use Rattle.std.proofs.Common.{List, [], ◌∷◌, map}
use Rattle.book.specs.Book.{Arrays, order_of}
use Rattle.book.specs.Lines.{missing}
use Rattle.book.proofs.Early.{early}
use Rattle.clerks.specs.LineTotals.{uneven}
use Rattle.clerks.proofs.Lines.{line_checked}
use Rattle.clerks.proofs.line.check_line.Goals as goal

pub returns-in_err-check_book : goal.returns-in_err-check_book
returns-in_err-check_book g c =
    let b : Arrays g.row.F.Denot = record { header = c.args.header.now; index = c.args.index.now; figures = c.args.figures.now } in
    let vectors : List (List g.row.F.Denot) = map (λ v. v.now) c.args.vectors.now in
    let p = early g.F.Arithmetic.figures b (uneven (order_of b) vectors ∷ (missing b c.args.line.now ∷ [])) c.from_residual.result c.in_err-check_book.field-0.0 c.from_residual.ensures.1 c.in_err-check_book.ensures in
    rw p.1 p.2

pub returns : goal.returns
returns g c =
    let b : Arrays g.row.F.Denot = record { header = c.args.header.now; index = c.args.index.now; figures = c.args.figures.now } in
    line_checked g.F.Arithmetic.figures b c.args.line.now c.in_ok-check_book.ensures _ (rw c.order.ensures at c.in_ok-check_lengths.ensures) _ (rw c.sheets.ensures at c.check_sheets.ensures)
