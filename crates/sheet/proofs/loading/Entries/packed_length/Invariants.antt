use Rattle.sheet.proofs.Lists.{Counted}
use Rattle.sheet.proofs.loading.Entries.packed_length.Given as goal

abbrev pub invariant-loop-k : goal.invariant-loop-k
invariant-loop-k g l = Counted g.F.Arithmetic.figures l.order l.self.rows.now l.self.columns.now l.self.figures.now l.k l.length
