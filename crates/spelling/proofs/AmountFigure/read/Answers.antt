use Rattle.spelling.proofs.AmountFigure.read.Goals as goal

pub returns-in_err-whole_number : goal.returns-in_err-whole_number
returns-in_err-whole_number c = rw c.from_residual.ensures (λ a s. c.in_err-whole_number.ensures s.0 s.1)
