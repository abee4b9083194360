use Rattle.std.proofs.Common.{◌+◌, [], ◌∷◌, ◌++◌, sym, refl, arith}
use Rattle.matrix.specs.Tables.{unit_table}
use Rattle.sheet.proofs.Diagonals.{unit_length}
use Rattle.book.specs.Book.{Arrays, sheets_of}
use Rattle.book.specs.Lines.{guard, full}
use Rattle.book.specs.Calls.{no_room}
use Rattle.book.proofs.Early.{early}
use Rattle.book.proofs.Passing.{guard_passes, granted_both}
use Rattle.book.proofs.Ends.{end_within, few_from}
use Rattle.book.proofs.Starts.{few}
use Rattle.book.proofs.Rooms.{Making, making_arrays, making_sent, making_room, making_end, making_done}
use Rattle.book.proofs.units.unit.Given.{Over}
use Rattle.book.proofs.units.unit.Goals.{After-split_at_mut-free_figures}
use Rattle.book.proofs.units.unit.Goals as goal

-- what the call knows of the new sheet once the arrays are split
made : (g : Over) (c : After-split_at_mut-free_figures g) →
    let a = g.F.Arithmetic.figures in
    let b : Arrays g.row.F.Denot = record { header = c.args.header.now; index = c.args.index.now; figures = c.args.figures.now } in
    let free = c.split_at_mut-free.result in
    let free' = c.split_at_mut-free_figures.result in
    Making a b (guard a b ++ (full (sheets_of b) ∷ [])) (unit_table a.ring) free.0.now free.1.now free'.0.now free'.1.now c.order-order.result (unit_table a.ring) (c.order-order.result + 1)
made g c =
    let a = g.F.Arithmetic.figures in
    let b : Arrays g.row.F.Denot = record { header = c.args.header.now; index = c.args.index.now; figures = c.args.figures.now } in
    let sound = c.in_ok-check_book.ensures in
    let free = rw c.last_end-end.ensures at c.split_at_mut-free.ensures in
    let free' = rw c.last_end-end.ensures at c.split_at_mut-free_figures.ensures in
    record {
      sound = sound;
      split = record { used_is = free.front; free_is = free.back; whole = free.value; used_is' = free'.front; free_is' = free'.back; whole' = free'.value };
      pass = granted_both (guard a b) (full (sheets_of b) ∷ []) (guard_passes b a sound) ((rw c.sheets.ensures at c.in_ok-check_full.ensures), tt);
      order = c.order-order.ensures;
      same = refl;
      size_is = sym (unit_length a.ring c.order-order.result);
    }

pub returns-in_err-check_book : goal.returns-in_err-check_book
returns-in_err-check_book g c =
    let a = g.F.Arithmetic.figures in
    let b : Arrays g.row.F.Denot = record { header = c.args.header.now; index = c.args.index.now; figures = c.args.figures.now } in
    let p = early a b (full (sheets_of b) ∷ (no_room a b (unit_table a.ring) ∷ [])) c.from_residual.result c.in_err-check_book.field-0.0 c.from_residual.ensures.1 c.in_err-check_book.ensures in
    rw p.1 (p.2, refl)

pub last_end-end-requires : goal.last_end-end-requires
last_end-end-requires g c = few _ _ c.in_ok-check_book.ensures.header_rules

pub split_at_mut-free-requires : goal.split_at_mut-free-requires
split_at_mut-free-requires g c =
    let b : Arrays g.row.F.Denot = record { header = c.args.header.now; index = c.args.index.now; figures = c.args.figures.now } in
    rw c.last_end-end.ensures (end_within b c.in_ok-check_book.ensures.header_rules)

pub returns-in_err-check_room : goal.returns-in_err-check_room
returns-in_err-check_room g c =
    let p = making_sent (made g (goal.at.returns-in_err-check_room g c).After-split_at_mut-free_figures) c.from_residual-in_err-check_room.result c.in_err-check_room.field-0.0 c.from_residual-in_err-check_room.ensures.1 c.in_err-check_room.ensures in
    rw p.1 p.2

pub write_unit-requires : goal.write_unit-requires
write_unit-requires g c =
    let m = made g (goal.at.write_unit-requires g c).After-split_at_mut-free_figures in
    let fits = making_room m c.in_ok-check_room.ensures in
    record { arrays = making_arrays m; room = omega (arith, fits, unit_length g.F.Arithmetic.figures.ring c.order-order.result) }

pub enter_sheet-requires : goal.enter_sheet-requires
enter_sheet-requires g c =
    let m = made g (goal.at.enter_sheet-requires g c).After-split_at_mut-free_figures in
    (m.sound.words, (few_from _ (few _ _ m.sound.header_rules) (rw c.sheets.ensures at c.in_ok-check_full.ensures), rw c.last_end-end.ensures (making_end m c.in_ok-check_room.ensures)))

pub returns : goal.returns
returns g c =
    let done = making_done (made g (goal.at.returns g c).After-split_at_mut-free_figures) c.in_ok-check_room.ensures c.enter_sheet.new.header c.write_unit.new.index c.write_unit.new.figures c.write_unit.ensures (rw c.last_end-end.ensures at c.enter_sheet.ensures.words) in
    (done.0, (c.enter_sheet.ensures.number, done.1))
