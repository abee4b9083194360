use Rattle.clerks.proofs.Desks.{desk_granted, desk_worked, never_halted, second_halted, both_worked, both_outcome}
use Rattle.clerks.proofs.both.work_both.Goals as goal

pub returns-in_err-map_err-2 : goal.returns-in_err-map_err-2
returns-in_err-map_err-2 g c =
    let a = g.F.Arithmetic.figures in
    let granted = desk_granted a c.args.order c.args.calls.now _ _ c.check_desk.ensures c.in_ok-map_err.ensures.variant in
    second_halted a c.args.order c.args.calls.now c.args.calls2.now c.args.line.now c.args.x.now c.args.y.now _ granted _ c.check_desk-2.ensures _ c.in_err-map_err-2.ensures.cases _ c.from_residual-in_err-map_err-2.ensures.1

pub returns-in_err-map_err-4 : goal.returns-in_err-map_err-4
returns-in_err-map_err-4 g c =
    let granted = desk_granted g.F.Arithmetic.figures c.args.order c.args.calls2.now _ _ c.check_desk-2.ensures c.in_ok-map_err-2.ensures.variant in
    absurd (never_halted g.F.Arithmetic.figures c.args.order c.args.calls2.now _ _ _ granted c.work_book-2.ensures c.in_err-map_err-4.ensures.variant)

pub returns : goal.returns
returns g c =
    let a = g.F.Arithmetic.figures in
    let first = desk_worked a c.args.order c.args.calls.now _ _ _ c.work_book.ensures c.in_ok-map_err-3.ensures.variant in
    let second = desk_worked a c.args.order c.args.calls2.now _ _ _ c.work_book-2.ensures c.in_ok-map_err-4.ensures.variant in
    both_outcome a c.args.order c.args.calls.now c.args.calls2.now c.args.line.now c.args.x.now c.args.y.now _ _ (both_worked a c.args.order c.args.calls.now c.args.calls2.now _ _ first second) _ c.line_totals.ensures _ c.map_err-5.ensures.cases
