use Rattle.std.proofs.Common.{[], ◌∷◌, refl, ◌∙◌, arith}
use Rattle.matrix.specs.Tables.{added}
use Rattle.sheet.specs.Sheets.{table_of}
use Rattle.book.specs.Book.{Arrays, sheet_table}
use Rattle.book.specs.Lines.{pair_guard}
use Rattle.book.specs.Calls.{no_room}
use Rattle.book.proofs.Early.{early_by}
use Rattle.book.proofs.Ends.{end_within}
use Rattle.book.proofs.Sheets.{order_most}
use Rattle.book.proofs.Pairs.{lying_used, pair_making}
use Rattle.book.proofs.Rooms.{Making, making_arrays, making_sent, making_room, making_end, making_done}
use Rattle.book.proofs.adding.add.Given.{Over}
use Rattle.book.proofs.adding.add.Goals.{After-added_length-size}
use Rattle.book.proofs.adding.add.Goals as goal

-- what the call knows of the new sheet once it has its length
made : (g : Over) (c : After-added_length-size g) →
    let a = g.F.Arithmetic.figures in
    let b : Arrays g.row.F.Denot = record { header = c.args.header.now; index = c.args.index.now; figures = c.args.figures.now } in
    let t = sheet_table a b c.args.first in
    let u = sheet_table a b c.args.second in
    let pair = c.pair_at-pair.result in
    let used = c.split_at_mut-used.result in
    let used' = c.split_at_mut-used_figures.result in
    Making a b (pair_guard a b c.args.first c.args.second) (added a.ring t u) used.0.now used.1.now used'.0.now used'.1.now pair.first.order (added a.ring (table_of pair.first) (table_of pair.second)) c.added_length-size.result
made g c =
    let a = g.F.Arithmetic.figures in
    let b : Arrays g.row.F.Denot = record { header = c.args.header.now; index = c.args.index.now; figures = c.args.figures.now } in
    let used = rw c.last_end-end.ensures at c.split_at_mut-used.ensures in
    let used' = rw c.last_end-end.ensures at c.split_at_mut-used_figures.ensures in
    let pair = c.pair_at-pair.ensures in
    pair_making a b c.args.first c.args.second _ _ c.in_ok-one.ensures (record { used_is = used.front; free_is = used.back; whole = used.value; used_is' = used'.front; free_is' = used'.back; whole' = used'.value }) (λ n. added a.ring) _ _ _ _ _ _ (pair.order ∙ c.order-order.ensures) pair.first_words pair.first_figures pair.second_words pair.second_figures c.added_length-size.ensures

pub returns-in_err-one : goal.returns-in_err-one
returns-in_err-one g c =
    let a = g.F.Arithmetic.figures in
    let b : Arrays g.row.F.Denot = record { header = c.args.header.now; index = c.args.index.now; figures = c.args.figures.now } in
    let p = early_by (pair_guard a b c.args.first c.args.second) (no_room a b (added a.ring (sheet_table a b c.args.first) (sheet_table a b c.args.second)) ∷ []) c.from_residual.result c.in_err-one.field-0.0 c.from_residual.ensures.1 c.in_err-one.ensures in
    rw p.1 (p.2, refl)

pub split_at_mut-used-requires : goal.split_at_mut-used-requires
split_at_mut-used-requires g c =
    let b : Arrays g.row.F.Denot = record { header = c.args.header.now; index = c.args.index.now; figures = c.args.figures.now } in
    rw c.last_end-end.ensures (end_within b c.in_ok-one.ensures.0.sound.header_rules)

pub pair_at-pair-requires : goal.pair_at-pair-requires
pair_at-pair-requires g c =
    let a = g.F.Arithmetic.figures in
    let b : Arrays g.row.F.Denot = record { header = c.args.header.now; index = c.args.index.now; figures = c.args.figures.now } in
    let found = c.in_ok-one.ensures in
    let used = rw c.last_end-end.ensures at c.split_at_mut-used.ensures in
    let used' = rw c.last_end-end.ensures at c.split_at_mut-used_figures.ensures in
    record {
      first = rw c.order-order.ensures (lying_used a b c.args.first _ found.0 _ _ used.front used'.front);
      second = rw c.order-order.ensures (lying_used a b c.args.second _ found.1 _ _ used.front used'.front);
      small = (rw c.order-order.ensures (order_most a b found.0.sound), omega (arith, found.0.sound.small, used.back_len));
    }

pub returns-in_err-check_room : goal.returns-in_err-check_room
returns-in_err-check_room g c =
    let p = making_sent (made g (goal.at.returns-in_err-check_room g c).After-added_length-size) c.from_residual-in_err-check_room.result c.in_err-check_room.field-0.0 c.from_residual-in_err-check_room.ensures.1 c.in_err-check_room.ensures in
    rw p.1 p.2

pub write_added-requires : goal.write_added-requires
write_added-requires g c =
    let m = made g (goal.at.write_added-requires g c).After-added_length-size in
    record { arrays = making_arrays m; room = making_room m c.in_ok-check_room.ensures }

pub overflow_add-end : goal.overflow_add-end
overflow_add-end g c = omega (arith, making_end (made g (goal.at.overflow_add-end g c).After-added_length-size) c.in_ok-check_room.ensures)

pub enter_sheet-requires : goal.enter_sheet-requires
enter_sheet-requires g c =
    let m = made g (goal.at.enter_sheet-requires g c).After-added_length-size in
    (m.sound.words, (c.in_ok-one.ensures.2, rw c.last_end-end.ensures (making_end m c.in_ok-check_room.ensures)))

pub returns : goal.returns
returns g c =
    let done = making_done (made g (goal.at.returns g c).After-added_length-size) c.in_ok-check_room.ensures c.enter_sheet.new.header c.write_added.new.index c.write_added.new.figures c.write_added.ensures (rw c.last_end-end.ensures at c.enter_sheet.ensures.words) in
    (done.0, (c.enter_sheet.ensures.number, done.1))
