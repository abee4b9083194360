use Rattle.std.proofs.Common.{◌≤◌, [], ◌∷◌, ◌++◌, length, sym, refl, ap, ◌∙◌, arith}
use Rattle.matrix.specs.Tables.{flipped}
use Rattle.sheet.specs.Sheets.{table_of}
use Rattle.sheet.proofs.Known.{sheet_sound}
use Rattle.transpose.proofs.Hits.{flipped_length}
use Rattle.book.specs.Book.{Arrays, sheets_of, sheet_table}
use Rattle.book.specs.Lines.{guard, missing, full}
use Rattle.book.specs.Calls.{no_room}
use Rattle.book.specs.Checked.{sheet_guard}
use Rattle.book.proofs.Early.{early_by}
use Rattle.book.proofs.Ends.{end_within, few_from}
use Rattle.book.proofs.Starts.{few}
use Rattle.book.proofs.Sheets.{order_most, sheets_few}
use Rattle.book.proofs.Pairs.{lying_used, used_table, flip_granted}
use Rattle.book.proofs.Rooms.{Making, making_arrays, making_sent, making_room, making_end, making_done}
use Rattle.book.proofs.flipping.flip.Given.{Over}
use Rattle.book.proofs.flipping.flip.Goals.{After-sheet_at-sheet}
use Rattle.book.proofs.flipping.flip.Goals as goal

-- what the call knows of the new sheet once it has the old one
made : (g : Over) (c : After-sheet_at-sheet g) →
    let a = g.F.Arithmetic.figures in
    let b : Arrays g.row.F.Denot = record { header = c.args.header.now; index = c.args.index.now; figures = c.args.figures.now } in
    let k = c.args.sheet in
    let sheet = c.sheet_at-sheet.result in
    let used = c.split_at_mut-used.result in
    let used' = c.split_at_mut-used_figures.result in
    Making a b (guard a b ++ (missing b (k ∷ []) ∷ (full (sheets_of b) ∷ []))) (flipped (sheet_table a b k)) used.0.now used.1.now used'.0.now used'.1.now sheet.order (flipped (table_of sheet)) (length sheet.words.now)
made g c =
    let a = g.F.Arithmetic.figures in
    let b : Arrays g.row.F.Denot = record { header = c.args.header.now; index = c.args.index.now; figures = c.args.figures.now } in
    let k = c.args.sheet in
    let found = c.in_ok-place.ensures in
    let used = rw c.last_end-end.ensures at c.split_at_mut-used.ensures in
    let used' = rw c.last_end-end.ensures at c.split_at_mut-used_figures.ensures in
    let few = few_from (sheets_of b) (sheets_few a b found.sound) (rw c.sheets.ensures at c.in_ok-check_full.ensures) in
    let is = c.sheet_at-sheet.ensures in
    record {
      sound = found.sound;
      split = record { used_is = used.front; free_is = used.back; whole = used.value; used_is' = used'.front; free_is' = used'.back; whole' = used'.value };
      pass = flip_granted a b k found.sound found.there few;
      order = is.order ∙ c.order-order.ensures;
      same = ap flipped (used_table a b k _ found _ _ used.front used'.front _ _ is.words is.figures);
      size_is = sym (flipped_length a.ring _ _ _ (sheet_sound c.sheet_at-sheet.result));
    }

pub returns-in_err-place : goal.returns-in_err-place
returns-in_err-place g c =
    let a = g.F.Arithmetic.figures in
    let b : Arrays g.row.F.Denot = record { header = c.args.header.now; index = c.args.index.now; figures = c.args.figures.now } in
    let k = c.args.sheet in
    let p = early_by (sheet_guard a b k) (full (sheets_of b) ∷ (no_room a b (flipped (sheet_table a b k)) ∷ [])) c.from_residual.result c.in_err-place.field-0.0 c.from_residual.ensures.1 c.in_err-place.ensures in
    rw p.1 (p.2, refl)

pub last_end-end-requires : goal.last_end-end-requires
last_end-end-requires g c = few _ _ c.in_ok-place.ensures.sound.header_rules

pub split_at_mut-used-requires : goal.split_at_mut-used-requires
split_at_mut-used-requires g c =
    let b : Arrays g.row.F.Denot = record { header = c.args.header.now; index = c.args.index.now; figures = c.args.figures.now } in
    rw c.last_end-end.ensures (end_within b c.in_ok-place.ensures.sound.header_rules)

pub sheet_at-sheet-requires : goal.sheet_at-sheet-requires
sheet_at-sheet-requires g c =
    let a = g.F.Arithmetic.figures in
    let b : Arrays g.row.F.Denot = record { header = c.args.header.now; index = c.args.index.now; figures = c.args.figures.now } in
    rw c.order-order.ensures (lying_used a b c.args.sheet _ c.in_ok-place.ensures _ _ (rw c.last_end-end.ensures at c.split_at_mut-used.ensures.front) (rw c.last_end-end.ensures at c.split_at_mut-used_figures.ensures.front))

pub returns-in_err-check_room : goal.returns-in_err-check_room
returns-in_err-check_room g c =
    let p = making_sent (made g (goal.at.returns-in_err-check_room g c).After-sheet_at-sheet) c.from_residual-in_err-check_room.result c.in_err-check_room.field-0.0 c.from_residual-in_err-check_room.ensures.1 c.in_err-check_room.ensures in
    rw p.1 p.2

pub write_flipped-requires : goal.write_flipped-requires
write_flipped-requires g c =
    let a = g.F.Arithmetic.figures in
    let b : Arrays g.row.F.Denot = record { header = c.args.header.now; index = c.args.index.now; figures = c.args.figures.now } in
    let m = made g (goal.at.write_flipped-requires g c).After-sheet_at-sheet in
    let arrays = making_arrays m in
    let fits : length c.sheet_at-sheet.result.words.now ≤ length c.split_at_mut-used.result.1.now = rw m.size_is (making_room m c.in_ok-check_room.ensures) in
    let low : c.sheet_at-sheet.result.order ≤ 1024 = rw m.order (order_most a b m.sound) in
    record { small = (low, omega arith); arrays = arrays; room = fits }

pub enter_sheet-requires : goal.enter_sheet-requires
enter_sheet-requires g c =
    let a = g.F.Arithmetic.figures in
    let b : Arrays g.row.F.Denot = record { header = c.args.header.now; index = c.args.index.now; figures = c.args.figures.now } in
    let m = made g (goal.at.enter_sheet-requires g c).After-sheet_at-sheet in
    (m.sound.words, (few_from (sheets_of b) (sheets_few a b m.sound) (rw c.sheets.ensures at c.in_ok-check_full.ensures), rw c.last_end-end.ensures (making_end m c.in_ok-check_room.ensures)))

pub returns : goal.returns
returns g c =
    let done = making_done (made g (goal.at.returns g c).After-sheet_at-sheet) c.in_ok-check_room.ensures c.enter_sheet.new.header c.write_flipped.new.index c.write_flipped.new.figures c.write_flipped.ensures (rw c.last_end-end.ensures at c.enter_sheet.ensures.words) in
    (done.0, (c.enter_sheet.ensures.number, done.1))
