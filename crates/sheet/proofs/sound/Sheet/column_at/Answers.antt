use Rattle.std.proofs.Common.{◌+◌, arith}
use Rattle.sheet.proofs.Found.{row_within}
use Rattle.sheet.proofs.Known.{sheet_sound}
use Rattle.sheet.proofs.sound.Sheet.column_at.Goals as goal

pub column_at-requires : goal.column_at-requires
column_at-requires g c =
    let sheet = c.args.self.now in
    let sound = sheet_sound sheet in
    let room = sound.room in
    (c.requires, (room, row_within _ _ _ _ sound (c.args.i + 1) (omega arith)))
