use Rattle.std.proofs.Common.{[], ◌∷◌, ◌∙◌, arith}
use Rattle.book.specs.Book.{Arrays}
use Rattle.book.specs.Lines.{vector_lengths, missing}
use Rattle.book.proofs.Early.{early}
use Rattle.book.proofs.Ends.{there_from}
use Rattle.book.proofs.Starts.{few}
use Rattle.book.proofs.Sheets.{sheet_lies}
use Rattle.book.proofs.Pairs.{lying, lying_table}
use Rattle.book.proofs.Worked.{working_granted}
use Rattle.book.proofs.working.find_working.Goals as goal

pub returns-in_err-check_book : goal.returns-in_err-check_book
returns-in_err-check_book g c =
    let b : Arrays g.row.F.Denot = record { header = c.args.header.now; index = c.args.index.now; figures = c.args.figures.now } in
    let p = early g.F.Arithmetic.figures b (vector_lengths b c.args.given.now c.args.out.now ∷ (missing b (c.args.sheet ∷ []) ∷ [])) c.from_residual.result c.in_err-check_book.field-0.0 c.from_residual.ensures.1 c.in_err-check_book.ensures in
    rw p.1 p.2

pub place_of-requires : goal.place_of-requires
place_of-requires g c = omega (arith, few _ _ c.in_ok-check_book.ensures.header_rules, there_from _ _ c.in_ok-check_there.ensures)

pub sheet_at-requires : goal.sheet_at-requires
sheet_at-requires g c =
    let b : Arrays g.row.F.Denot = record { header = c.args.header.now; index = c.args.index.now; figures = c.args.figures.now } in
    let lies = sheet_lies g.F.Arithmetic.figures b c.in_ok-check_book.ensures c.args.sheet (there_from _ _ c.in_ok-check_there.ensures) in
    rw (c.order-order.ensures, c.place_of.ensures) (lying g.F.Arithmetic.figures b c.args.sheet _ lies)

pub returns : goal.returns
returns g c =
    let a = g.F.Arithmetic.figures in
    let b : Arrays g.row.F.Denot = record { header = c.args.header.now; index = c.args.index.now; figures = c.args.figures.now } in
    let there = there_from _ _ c.in_ok-check_there.ensures in
    let lies = sheet_lies a b c.in_ok-check_book.ensures c.args.sheet there in
    let sheet = c.sheet_at.ensures in
    (working_granted a b c.args.sheet c.args.given.now c.args.out.now c.in_ok-check_book.ensures there (omega arith) (omega arith), sheet.order ∙ c.order-order.ensures, rw (sheet.words, sheet.figures, c.place_of.ensures) (lying_table a b c.args.sheet _ lies), omega arith, omega arith)
