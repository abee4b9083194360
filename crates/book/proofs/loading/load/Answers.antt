use Rattle.std.proofs.Common.{[], ◌∷◌, ◌++◌, refl, inl, inr, arith}
use Rattle.sheet.specs.Loading.{entries, loaded}
use Rattle.sheet.proofs.Lists.{listed}
use Rattle.book.specs.Book.{Arrays, order_of, sheets_of}
use Rattle.book.specs.Lines.{guard, full, list_lengths, misplaced}
use Rattle.book.proofs.Passing.{guard_passes, granted_both, no_break}
use Rattle.book.specs.Calls.{no_room}
use Rattle.book.proofs.Early.{early, late}
use Rattle.book.proofs.Ends.{end_within, few_from, lists_even}
use Rattle.book.proofs.Starts.{few}
use Rattle.book.proofs.Rooms.{Making, making_arrays, making_sent, making_room, making_end, making_done}
use Rattle.book.proofs.loading.load.Given.{Over}
use Rattle.book.proofs.loading.load.Goals.{After-split_at_mut-free_figures}
use Rattle.book.proofs.loading.load.Goals as goal

-- what the call knows of the new sheet once the arrays are split
made : (g : Over) (c : After-split_at_mut-free_figures g) →
    let a = g.F.Arithmetic.figures in
    let b : Arrays g.row.F.Denot = record { header = c.args.header.now; index = c.args.index.now; figures = c.args.figures.now } in
    let rows = c.args.rows.now in
    let columns = c.args.columns.now in
    let values = c.args.values.now in
    let free = c.split_at_mut-free.result in
    let free' = c.split_at_mut-free_figures.result in
    Making a b (guard a b ++ (list_lengths rows columns values ∷ (full (sheets_of b) ∷ (misplaced (order_of b) rows columns ∷ [])))) (listed a rows columns values) free.0.now free.1.now free'.0.now free'.1.now c.order-order.result (listed a rows columns values) c.packed_length-size.result
made g c =
    let a = g.F.Arithmetic.figures in
    let b : Arrays g.row.F.Denot = record { header = c.args.header.now; index = c.args.index.now; figures = c.args.figures.now } in
    let rows = c.args.rows.now in
    let columns = c.args.columns.now in
    let sound = c.in_ok-check_book.ensures in
    let free = rw c.last_end-end.ensures at c.split_at_mut-free.ensures in
    let free' = rw c.last_end-end.ensures at c.split_at_mut-free_figures.ensures in
    record {
      sound = sound;
      split = record { used_is = free.front; free_is = free.back; whole = free.value; used_is' = free'.front; free_is' = free'.back; whole' = free'.value };
      pass = granted_both (guard a b) (list_lengths rows columns c.args.values.now ∷ (full (sheets_of b) ∷ (misplaced (order_of b) rows columns ∷ []))) (guard_passes b a sound) (c.in_ok-check_lists.ensures, ((rw c.sheets.ensures at c.in_ok-check_full.ensures), ((λ why told. no_break _ _ told.0 (rw c.order-order.ensures at c.in_ok-check_entries.ensures) told.2), tt)));
      order = c.order-order.ensures;
      same = refl;
      size_is = c.packed_length-size.ensures;
    }

pub returns-in_err-check_book : goal.returns-in_err-check_book
returns-in_err-check_book g c =
    let a = g.F.Arithmetic.figures in
    let b : Arrays g.row.F.Denot = record { header = c.args.header.now; index = c.args.index.now; figures = c.args.figures.now } in
    let rows = c.args.rows.now in
    let columns = c.args.columns.now in
    let values = c.args.values.now in
    let p = early a b (list_lengths rows columns values ∷ (full (sheets_of b) ∷ (misplaced (order_of b) rows columns ∷ (no_room a b (loaded a.ring (entries a rows columns values)) ∷ [])))) c.from_residual.result c.in_err-check_book.field-0.0 c.from_residual.ensures.1 c.in_err-check_book.ensures in
    rw p.1 (p.2, refl)

pub check_entries-requires : goal.check_entries-requires
check_entries-requires g c = (lists_even c.args.rows.now c.args.columns.now c.args.values.now c.in_ok-check_lists.ensures).0

pub returns-in_err-check_entries : goal.returns-in_err-check_entries
returns-in_err-check_entries g c =
    let a = g.F.Arithmetic.figures in
    let b : Arrays g.row.F.Denot = record { header = c.args.header.now; index = c.args.index.now; figures = c.args.figures.now } in
    let rows = c.args.rows.now in
    let columns = c.args.columns.now in
    let values = c.args.values.now in
    let more = list_lengths rows columns values ∷ (full (sheets_of b) ∷ (misplaced (order_of b) rows columns ∷ (no_room a b (listed a rows columns values) ∷ []))) in
    let p = late a b c.in_ok-check_book.ensures more c.from_residual-in_err-check_entries.result c.in_err-check_entries.field-0.0 c.from_residual-in_err-check_entries.ensures.1 (inr (c.in_ok-check_lists.ensures, inr (rw c.sheets.ensures at c.in_ok-check_full.ensures, inl (rw c.order-order.ensures at c.in_err-check_entries.ensures)))) in
    rw p.1 (p.2, refl)

pub invariant_of-entries : goal.invariant_of-entries
invariant_of-entries g c =
    let even = lists_even c.args.rows.now c.args.columns.now c.args.values.now c.in_ok-check_lists.ensures in
    record { a_column_each = even.0; a_figure_each = even.1 }

pub packed_length-size-requires : goal.packed_length-size-requires
packed_length-size-requires g c =
    let sound = c.in_ok-check_book.ensures in
    record { order = rw c.order-order.ensures ((sound.header_rules 0 (omega arith)).order refl); placed = c.in_ok-check_entries.ensures }

pub last_end-end-requires : goal.last_end-end-requires
last_end-end-requires g c = few _ _ c.in_ok-check_book.ensures.header_rules

pub split_at_mut-free-requires : goal.split_at_mut-free-requires
split_at_mut-free-requires g c =
    let b : Arrays g.row.F.Denot = record { header = c.args.header.now; index = c.args.index.now; figures = c.args.figures.now } in
    rw c.last_end-end.ensures (end_within b c.in_ok-check_book.ensures.header_rules)

pub returns-in_err-check_room : goal.returns-in_err-check_room
returns-in_err-check_room g c =
    let p = making_sent (made g (goal.at.returns-in_err-check_room g c).After-split_at_mut-free_figures) c.from_residual-in_err-check_room.result c.in_err-check_room.field-0.0 c.from_residual-in_err-check_room.ensures.1 c.in_err-check_room.ensures in
    rw p.1 p.2

pub write-requires : goal.write-requires
write-requires g c =
    let m = made g (goal.at.write-requires g c).After-split_at_mut-free_figures in
    record { order = rw c.order-order.ensures ((m.sound.header_rules 0 (omega arith)).order refl); arrays = making_arrays m; room = making_room m c.in_ok-check_room.ensures; placed = c.in_ok-check_entries.ensures }

pub overflow_add-end : goal.overflow_add-end
overflow_add-end g c = omega (arith, making_end (made g (goal.at.overflow_add-end g c).After-split_at_mut-free_figures) c.in_ok-check_room.ensures)

pub enter_sheet-requires : goal.enter_sheet-requires
enter_sheet-requires g c =
    let m = made g (goal.at.enter_sheet-requires g c).After-split_at_mut-free_figures in
    (m.sound.words, (few_from _ (few _ _ m.sound.header_rules) (rw c.sheets.ensures at c.in_ok-check_full.ensures), rw c.last_end-end.ensures (making_end m c.in_ok-check_room.ensures)))

pub returns : goal.returns
returns g c =
    let done = making_done (made g (goal.at.returns g c).After-split_at_mut-free_figures) c.in_ok-check_room.ensures c.enter_sheet.new.header c.write.new.index c.write.new.figures c.write.ensures (rw c.last_end-end.ensures at c.enter_sheet.ensures.words) in
    (done.0, (c.enter_sheet.ensures.number, done.1))
