use Rattle.std.proofs.Common.{◌+◌, ◌<◌, ◌≤◌, Ok, Err, get_or, sym, ◌∙◌, ⊎_elim, arith}
use Rattle.std.proofs.lemmas.Bool.{cases_lt}
use Rattle.std.proofs.lemmas.List.Sorted.{searched}
use Rattle.arithmetic.specs.Semiring.{meanings}
use Rattle.sheet.specs.Writing.{part}
use Rattle.matrix.proofs.Meant.{at_means}
use Rattle.sheet.proofs.Known.{sheet_sound}
use Rattle.sheet.proofs.Sought.{part_rises, sought_within, sought_there, sought_nowhere}
use Rattle.sheet.proofs.sound.Sheet.cell.Goals as goal

pub returns-in-Ok : goal.returns-in-Ok
returns-in-Ok g c =
    let a = g.F.Arithmetic.figures in
    let sheet = c.args.self.now in
    let sound = sheet_sound sheet in
    let at_row = c.row-from.ensures in
    let found = searched (part sheet.words.now (get_or sheet.words.now c.args.row 0) (get_or sheet.words.now (c.args.row + 1) 0)) c.args.column (Ok c.in-Ok.place) (rw (at_row.from, at_row.to) at c.in-Ok.ensures.position) (part_rises a.ring sheet.order sheet.words.now (meanings a sheet.figures.now) sound c.args.row c.args.column (omega arith) (λ e. omega arith)) in
    let there = sought_there a.ring sheet.order sheet.words.now (meanings a sheet.figures.now) sound c.args.row c.args.column (omega arith) (λ e. omega arith) c.in-Ok.place found.0 found.1 in
    rw at_row.from (at_means a sheet.figures.now (get_or sheet.words.now c.args.row 0 + c.in-Ok.place) _ a.ring.zero (omega (arith, sought_within a.ring sheet.order sheet.words.now (meanings a sheet.figures.now) sound c.args.row c.args.column (omega arith) (λ e. omega arith) c.in-Ok.place found.0, sheet.paired)) ∙ sym there)

pub returns-in-Err : goal.returns-in-Err
returns-in-Err g c =
    let a = g.F.Arithmetic.figures in
    let sheet = c.args.self.now in
    let sound = sheet_sound sheet in
    let at_row = c.row-from.ensures in
    let none = searched (part sheet.words.now (get_or sheet.words.now c.args.row 0) (get_or sheet.words.now (c.args.row + 1) 0)) c.args.column (Err c.in-Err.field-0) (rw (at_row.from, at_row.to) at c.in-Err.ensures.position) (part_rises a.ring sheet.order sheet.words.now (meanings a sheet.figures.now) sound c.args.row c.args.column (omega arith) (λ e. omega arith)) in
    c.zero.ensures ∙ sym (sought_nowhere a.ring sheet.order sheet.words.now (meanings a sheet.figures.now) sound c.args.row c.args.column (omega arith) (λ e. omega arith) (λ k h is. ⊎_elim (λ (low : k < c.in-Err.field-0). let less = none.1 k low in omega arith) (λ (high : c.in-Err.field-0 ≤ k). let more = none.2 k high h in omega arith) (cases_lt k c.in-Err.field-0)))
