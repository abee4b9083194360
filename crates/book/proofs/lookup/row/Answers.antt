use Rattle.std.proofs.Common.{[], ◌∷◌}
use Rattle.book.specs.Book.{Arrays}
use Rattle.book.specs.Lines.{outside_row}
use Rattle.book.specs.Checked.{sheet_guard}
use Rattle.book.proofs.Early.{early_by}
use Rattle.book.proofs.Pairs.{lying}
use Rattle.book.proofs.lookup.row.Goals as goal

pub returns-in_err-place : goal.returns-in_err-place
returns-in_err-place g c =
    let b : Arrays g.row.F.Denot = record { header = c.args.header.now; index = c.args.index.now; figures = c.args.figures.now } in
    let p = early_by (sheet_guard g.F.Arithmetic.figures b c.args.sheet) (outside_row b c.args.row ∷ []) c.from_residual.result c.in_err-place.field-0.0 c.from_residual.ensures.1 c.in_err-place.ensures in
    rw p.1 (record { is = p.2; within = tt })

pub sheet_at-requires : goal.sheet_at-requires
sheet_at-requires g c =
    let b : Arrays g.row.F.Denot = record { header = c.args.header.now; index = c.args.index.now; figures = c.args.figures.now } in
    rw c.order-order.ensures (lying g.F.Arithmetic.figures b c.args.sheet c.in_ok-place.place c.in_ok-place.ensures)
