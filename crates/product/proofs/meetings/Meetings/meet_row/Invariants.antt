use Rattle.product.proofs.Linking.{Linking}
use Rattle.product.proofs.meetings.Meetings.meet_row.Given as goal

abbrev pub invariant-loop-p : goal.invariant-loop-p
invariant-loop-p g l = Linking l.pair l.i l.p l.self
