use Rattle.std.proofs.Common.{[], ◌∷◌, refl, arith}
use Rattle.book.specs.Book.{Arrays}
use Rattle.book.specs.Lines.{none_to_strike}
use Rattle.book.proofs.Early.{early}
use Rattle.book.proofs.Starts.{few}
use Rattle.book.proofs.striking.strike.Goals as goal

pub returns-in_err-check_book : goal.returns-in_err-check_book
returns-in_err-check_book g c =
    let b : Arrays g.row.F.Denot = record { header = c.args.header.now; index = c.args.index.now; figures = c.args.figures.now } in
    let p = early g.F.Arithmetic.figures b (none_to_strike b ∷ []) c.from_residual.result c.in_err-check_book.field-0.0 c.from_residual.ensures.1 c.in_err-check_book.ensures in
    rw p.1 (p.2, refl)

pub bounds-header-sheets : goal.bounds-header-sheets
bounds-header-sheets g c =
    let sound = c.in_ok-check_book.ensures in
    omega (arith, few _ _ sound.header_rules, sound.words)
