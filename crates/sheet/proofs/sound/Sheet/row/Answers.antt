use Rattle.std.proofs.Common.{◌+◌, arith}
use Rattle.sheet.proofs.Found.{sound_rises, row_past, row_within}
use Rattle.sheet.proofs.Known.{sheet_sound}
use Rattle.sheet.proofs.sound.Sheet.row.Goals as goal

pub returns-clause-past : goal.returns-clause-past
returns-clause-past g c = row_past _ _ _ _ (sheet_sound c.args.self.now) c.args.i (omega arith)

pub returns-clause-up : goal.returns-clause-up
returns-clause-up g c = sound_rises _ _ _ _ (sheet_sound c.args.self.now) c.args.i (c.args.i + 1) (omega arith) (omega arith)

pub returns-clause-within : goal.returns-clause-within
returns-clause-within g c = row_within _ _ _ _ (sheet_sound c.args.self.now) (c.args.i + 1) (omega arith)
