use Rattle.sheet.proofs.Unique.{packed_form_exists_lem}
use Rattle.sheet.proofs.packed.packed_form_exists.Goals as goal

pub returns : goal.returns
returns g c = packed_form_exists_lem g.F.Arithmetic.figures.ring
