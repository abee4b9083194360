use Rattle.std.proofs.Common.{[], ◌∷◌, inl, inr, arith}
use Rattle.book.specs.Book.{Arrays, sheets_of}
use Rattle.book.specs.Lines.{missing, full}
use Rattle.book.proofs.Early.{early, late}
use Rattle.book.proofs.Ends.{there_from, few_from}
use Rattle.book.proofs.Passing.{pair_passes}
use Rattle.book.proofs.Starts.{few}
use Rattle.book.proofs.Sheets.{sheet_lies}
use Rattle.book.proofs.adding.find_pair.Goals as goal

pub returns-in_err-check_book : goal.returns-in_err-check_book
returns-in_err-check_book g c =
    let b : Arrays g.row.F.Denot = record { header = c.args.header.now; index = c.args.index.now; figures = c.args.figures.now } in
    let p = early g.F.Arithmetic.figures b (missing b (c.args.first ∷ (c.args.second ∷ [])) ∷ (full (sheets_of b) ∷ [])) c.from_residual.result c.in_err-check_book.field-0.0 c.from_residual.ensures.1 c.in_err-check_book.ensures in
    rw p.1 p.2

pub returns-in_err-check_there-2 : goal.returns-in_err-check_there-2
returns-in_err-check_there-2 g c =
    let b : Arrays g.row.F.Denot = record { header = c.args.header.now; index = c.args.index.now; figures = c.args.figures.now } in
    let told = c.in_err-check_there-2.ensures in
    let p = late g.F.Arithmetic.figures b c.in_ok-check_book.ensures (missing b (c.args.first ∷ (c.args.second ∷ [])) ∷ (full (sheets_of b) ∷ [])) c.from_residual-in_err-check_there-2.result c.in_err-check_there-2.field-0.0 c.from_residual-in_err-check_there-2.ensures.1 (inl (told.0, told.1, inr (there_from _ _ c.in_ok-check_there.ensures, told.2))) in
    rw p.1 p.2

pub returns-in_err-check_full : goal.returns-in_err-check_full
returns-in_err-check_full g c =
    let b : Arrays g.row.F.Denot = record { header = c.args.header.now; index = c.args.index.now; figures = c.args.figures.now } in
    let both = pair_passes b c.args.first c.args.second (there_from _ _ c.in_ok-check_there.ensures) (there_from _ _ c.in_ok-check_there-2.ensures) in
    let p = late g.F.Arithmetic.figures b c.in_ok-check_book.ensures (missing b (c.args.first ∷ (c.args.second ∷ [])) ∷ (full (sheets_of b) ∷ [])) c.from_residual-in_err-check_full.result c.in_err-check_full.field-0.0 c.from_residual-in_err-check_full.ensures.1 (inr (both, inl (rw c.sheets.ensures at c.in_err-check_full.ensures))) in
    rw p.1 p.2

pub place_of-requires : goal.place_of-requires
place_of-requires g c = omega (arith, few _ _ c.in_ok-check_book.ensures.header_rules, there_from _ _ c.in_ok-check_there.ensures)

pub place_of-requires-2 : goal.place_of-requires-2
place_of-requires-2 g c = omega (arith, few _ _ c.in_ok-check_book.ensures.header_rules, there_from _ _ c.in_ok-check_there-2.ensures)

pub returns : goal.returns
returns g c =
    let a = g.F.Arithmetic.figures in
    let b : Arrays g.row.F.Denot = record { header = c.args.header.now; index = c.args.index.now; figures = c.args.figures.now } in
    let sound = c.in_ok-check_book.ensures in
    (rw c.place_of.ensures (sheet_lies a b sound c.args.first (there_from _ _ c.in_ok-check_there.ensures)), rw c.place_of-2.ensures (sheet_lies a b sound c.args.second (there_from _ _ c.in_ok-check_there-2.ensures)), few_from (sheets_of b) (few _ _ sound.header_rules) (rw c.sheets.ensures at c.in_ok-check_full.ensures))
