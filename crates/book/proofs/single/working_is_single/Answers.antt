use Rattle.book.proofs.Worked.{working_is_single_lem}
use Rattle.book.proofs.single.working_is_single.Goals as goal

pub returns : goal.returns
returns g c = working_is_single_lem g.F.Arithmetic.figures
