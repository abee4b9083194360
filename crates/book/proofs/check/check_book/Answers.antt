use Rattle.std.proofs.Common.{◌≡◌, get_or, inl, inr, arith, below_more}
use Rattle.std.proofs.lemmas.Result.{err_from_is_err_and}
use Rattle.book.specs.Book.{Arrays}
use Rattle.book.proofs.Passing.{layout_passes, header_passes}
use Rattle.book.proofs.Starts.{lies, few, none_keep, all_keep, first_break}
use Rattle.book.proofs.check.check_book.Goals as goal

pub loop-k-init : goal.loop-k-init
loop-k-init g c =
    let headed = c.in_ok-check_header.ensures in
    (few _ _ headed, lies _ _ headed, none_keep _ _)

pub returns-in_err-check_sheet : goal.returns-in_err-check_sheet
returns-in_err-check_sheet g c =
    let a = g.F.Arithmetic.figures in
    let p = err_from_is_err_and c.from_residual-in_err-check_sheet.result c.from_residual-in_err-check_sheet.ensures.1 in
    let b : Arrays g.row.F.Denot = record { header = c.args.header.now; index = c.args.index.now; figures = c.args.figures.now } in
    let headed = c.in_ok-check_header.ensures in
    let broken = rw (c.place_of-from.ensures, c.order-order.ensures) at c.in_err-check_sheet.ensures in
    rw (p.1, p.2) (inr (layout_passes b c.in_ok-check_layout.ensures, inr (header_passes b headed, inl (_, broken.1, first_break a b headed c.loop-k.k broken.0 (omega arith) c.loop-k.invariant.2 broken.2))))

pub loop-k-preserved : goal.loop-k-preserved
loop-k-preserved g c =
    let sound = rw (c.place_of-from.ensures, c.order-order.ensures) at c.in_ok-check_sheet.ensures in
    (c.loop-k.invariant.0, c.loop-k.invariant.1, below_more _ _ c.loop-k.invariant.2 sound.rules)

pub returns : goal.returns
returns g c =
    let a = g.F.Arithmetic.figures in
    let b : Arrays g.row.F.Denot = record { header = c.args.header.now; index = c.args.index.now; figures = c.args.figures.now } in
    let laid = c.in_ok-check_layout.ensures in
    let headed = c.in_ok-check_header.ensures in
    let all : c.loop-k.k ≡ get_or c.args.header.now 1 0 = omega arith in
    record { words = laid.words; lengths = laid.lengths; small = laid.small; header_rules = headed; positions = λ q h. all_keep a b headed (rw all at c.loop-k.invariant.2) q }
