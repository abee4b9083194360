use Rattle.std.proofs.Common.{List, [], ◌∷◌, refl}
use Rattle.std.proofs.lemmas.Result.{err_from_is_err_and}
use Rattle.book.specs.Book.{Arrays}
use Rattle.clerks.proofs.Lines.{line_granted, line_weighed}
use Rattle.clerks.proofs.line.line_totals.Goals as goal

pub returns-in_err-check_line : goal.returns-in_err-check_line
returns-in_err-check_line g c =
    let p = err_from_is_err_and c.from_residual.result c.from_residual.ensures.1 in
    rw (p.1, p.2) (c.in_err-check_line.ensures, refl)

pub returns : goal.returns
returns g c =
    let a = g.F.Arithmetic.figures in
    let b : Arrays g.row.F.Denot = record { header = c.args.header.now; index = c.args.index.now; figures = c.args.figures.now } in
    let checked = c.in_ok-check_line.ensures in
    let even = checked.1 in
    let vectors : List (List g.row.F.Denot) = c.args.x.now ∷ (c.args.y.now ∷ (c.args.back.now ∷ (c.args.forward.now ∷ (c.args.spare.now ∷ [])))) in (
      line_granted a b c.args.line.now checked.0 vectors even,
      line_weighed a b c.args.line.now c.args.x.now c.args.y.now c.carry_back.new.out c.carry_forward.new.out _ _ _ even.0 even.1.0 c.in_ok-carry_back.ensures c.in_ok-carry_forward.ensures c.copy_from_slice.ensures.after c.in_ok-first.ensures c.in_ok-second.ensures,
    )
