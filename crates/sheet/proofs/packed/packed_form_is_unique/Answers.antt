use Rattle.sheet.proofs.Unique.{packed_form_is_unique_lem}
use Rattle.sheet.proofs.packed.packed_form_is_unique.Goals as goal

pub returns : goal.returns
returns g c = packed_form_is_unique_lem g.F.Arithmetic.figures.ring
