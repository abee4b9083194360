use Rattle.std.proofs.Common.{◌≡◌, ◌<◌, length, get_or, sym, refl, ◌∙◌, arith}
use Rattle.std.proofs.lemmas.List.{get_or_default}
use Rattle.std.proofs.lemmas.Bool.{iff_false}
use Rattle.sheet.proofs.Lists.{listed}
use Rattle.sheet.proofs.Laying.{head_room}
use Rattle.sheet.proofs.Loads.{loading_start, loading_entry, entry_room, loading_row, row_room, loading_all}
use Rattle.sheet.proofs.loading.Entries.write.Goals as goal

pub start_row-requires : goal.start_row-requires
start_row-requires g c =
    let a = g.F.Arithmetic.figures in
    let e = c.args.self.now in
    let head = head_room a c.args.order (listed a e.rows.now e.columns.now e.figures.now) c.args.index.now c.args.figures.now c.requires.room (omega arith) in
    (omega arith, (omega arith, omega arith))

pub loop-row-init : goal.loop-row-init
loop-row-init g c =
    let a = g.F.Arithmetic.figures in
    let e = c.args.self.now in
    loading_start a c.args.order e.rows.now e.columns.now e.figures.now e.a_column_each e.a_figure_each c.requires.placed c.args.index.now c.args.figures.now c.requires.room (omega arith) (omega arith) c.start_row.new.index c.start_row.new.figures c.start_row.ensures

pub write_entry-at-requires : goal.write_entry-at-requires
write_entry-at-requires g c =
    let a = g.F.Arithmetic.figures in
    let e = c.args.self.now in
    let here = c.loop-index-test.ensures.0 refl in
    record {
      arrays = (omega arith, omega arith);
      row = omega (arith, here.1, head_room a c.args.order (listed a e.rows.now e.columns.now e.figures.now) c.args.index.now c.args.figures.now c.requires.room (omega arith));
      room = λ off some. let low = entry_room a c.args.order e.rows.now e.columns.now e.figures.now e.a_column_each e.a_figure_each c.requires.placed c.args.index.now c.args.figures.now c.requires.room (omega arith) c.loop-index.k c.loop-row.row here.0 here.1 (omega arith) c.loop-index.index c.loop-index.figures c.loop-index.at c.loop-index.invariant _ (get_or_default e.figures.now c.loop-index.k c.index-self-k.result _ (omega (arith, here.0))) (λ z. off (z ∙ sym here.1)) some in omega arith;
    }

pub loop-index-preserved : goal.loop-index-preserved
loop-index-preserved g c =
    let a = g.F.Arithmetic.figures in
    let e = c.args.self.now in
    let here = c.loop-index-test.ensures.0 refl in
    loading_entry a c.args.order e.rows.now e.columns.now e.figures.now e.a_column_each e.a_figure_each c.requires.placed c.args.index.now c.args.figures.now c.requires.room (omega arith) c.loop-index.k c.loop-row.row here.0 here.1 (omega arith) c.loop-index.index c.loop-index.figures c.loop-index.at c.loop-index.invariant _ (get_or_default e.figures.now c.loop-index.k c.index-self-k.result _ (omega (arith, here.0))) c.write_entry-at.new.index c.write_entry-at.new.figures c.write_entry-at.result c.write_entry-at.ensures

pub start_row-requires-in-loop-row : goal.start_row-requires-in-loop-row
start_row-requires-in-loop-row g c =
    let a = g.F.Arithmetic.figures in
    let e = c.args.self.now in
    let over : (c.loop-index.k < length e.rows.now) × (get_or e.rows.now c.loop-index.k 0 ≡ c.loop-row.row) → ⊥ = iff_false c.loop-index-test.ensures refl in
    let end = row_room a c.args.order e.rows.now e.columns.now e.figures.now e.a_column_each e.a_figure_each c.requires.placed c.args.index.now c.args.figures.now c.requires.room (omega arith) c.loop-index.k c.loop-row.row (omega arith) c.loop-index.index c.loop-index.figures c.loop-index.at c.loop-index.invariant over in
    let head = head_room a c.args.order (listed a e.rows.now e.columns.now e.figures.now) c.args.index.now c.args.figures.now c.requires.room (omega arith) in
    (omega arith, (omega arith, omega arith))

pub loop-row-preserved : goal.loop-row-preserved
loop-row-preserved g c =
    let a = g.F.Arithmetic.figures in
    let e = c.args.self.now in
    let over : (c.loop-index.k < length e.rows.now) × (get_or e.rows.now c.loop-index.k 0 ≡ c.loop-row.row) → ⊥ = iff_false c.loop-index-test.ensures refl in
    loading_row a c.args.order e.rows.now e.columns.now e.figures.now e.a_column_each e.a_figure_each c.requires.placed c.args.index.now c.args.figures.now c.requires.room (omega arith) c.loop-index.k c.loop-row.row (omega arith) c.loop-index.index c.loop-index.figures c.loop-index.at c.loop-index.invariant over c.start_row-in-loop-row.new.index c.start_row-in-loop-row.new.figures c.start_row-in-loop-row.ensures

pub returns : goal.returns
returns g c =
    let a = g.F.Arithmetic.figures in
    let e = c.args.self.now in
    loading_all a c.args.order e.rows.now e.columns.now e.figures.now e.a_column_each e.a_figure_each c.requires.placed c.args.index.now c.args.figures.now c.requires.room (omega arith) c.loop-row.k c.loop-row.row (omega arith) c.loop-row.index c.loop-row.figures c.loop-row.at c.loop-row.invariant
