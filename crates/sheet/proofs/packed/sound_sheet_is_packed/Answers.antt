use Rattle.sheet.proofs.Unique.{sound_sheet_is_packed_lem}
use Rattle.sheet.proofs.packed.sound_sheet_is_packed.Goals as goal

pub returns : goal.returns
returns g c = sound_sheet_is_packed_lem g.F.Arithmetic.figures.ring
