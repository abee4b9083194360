use Rattle.std.proofs.Common.{◌+◌, arith}
use Rattle.sheet.proofs.Found.{row_within}
use Rattle.sheet.proofs.Known.{sheet_sound}
use Rattle.sheet.proofs.sound.Sheet.spot.Goals as goal

pub spot-requires : goal.spot-requires
spot-requires g c =
    let sheet = c.args.self.now in
    let sound = sheet_sound sheet in
    let room = sound.room in
    (c.requires, (room, row_within _ _ _ _ sound (c.args.i + 1) (omega arith)))
