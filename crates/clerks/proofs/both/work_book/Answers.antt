use Rattle.clerks.proofs.Desks.{book_worked}
use Rattle.clerks.proofs.both.work_book.Goals as goal

pub returns : goal.returns
returns g c = book_worked g.F.Arithmetic.figures c.args.order c.args.calls.now _ _ _ _ _ c.in_ok-check_desk.ensures c.in_ok-open.ensures c.carry_out_all.ensures
