-- What the type of a pair of sheets says of them.
use Rattle.std.proofs.Common.{◌≡◌, ◌∙◌, length}
use Rattle.arithmetic.specs.Semiring.{meanings}
use Rattle.arithmetic.specs.declared.Arithmetic.{Ghosts}
use Rattle.matrix.proofs.Meant.{length-meanings}
use Rattle.sheet.specs.Packed.{Sound}
use Rattle.sheet.specs.declared.sound.Pair.{Pair}
use Rattle.sheet.proofs.Known.{sheet_sound}

module _ {S : Type 0} {g : Ghosts S} (pair : Pair S g) where
  pub first_sound : Sound g.figures.ring pair.first.order pair.first.words.now (meanings g.figures pair.first.figures.now)
  first_sound = sheet_sound pair.first

  pub second_sound : Sound g.figures.ring pair.first.order pair.second.words.now (meanings g.figures pair.second.figures.now)
  second_sound = rw pair.one_order at (sheet_sound pair.second)

  pub first_paired : length (meanings g.figures pair.first.figures.now) ≡ length pair.first.words.now
  first_paired = length-meanings g.figures pair.first.figures.now ∙ pair.first.paired

  pub second_paired : length (meanings g.figures pair.second.figures.now) ≡ length pair.second.words.now
  second_paired = length-meanings g.figures pair.second.figures.now ∙ pair.second.paired
