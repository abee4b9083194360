use Rattle.book.proofs.Outcomes.{cell_is_single, row_is_single, columns_are_single, figures_are_single}
use Rattle.book.proofs.single.lookup_is_single.Goals as goal

pub returns : goal.returns
returns g c =
    let a = g.F.Arithmetic.figures in
    record { cell = cell_is_single a; row = row_is_single a; columns = columns_are_single a; figures = figures_are_single a }
