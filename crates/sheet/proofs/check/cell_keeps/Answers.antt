use Rattle.std.proofs.Common.{sym, ◌∙◌, ⊎_elim, arith, rules}
use Rattle.std.proofs.lemmas.Bool.{cases_Bool, not-true, not_from_false, both_ways}
use Rattle.matrix.proofs.Meant.{read_means}
use Rattle.sheet.proofs.check.cell_keeps.Goals as goal

pub returns : goal.returns
returns g c =
    let a = g.F.Arithmetic.figures in
    let read = read_means a c.args.figures.now c.args.p _ a.ring.zero (omega arith) c.index-figures-p.is in (
      λ t. record {
        head = λ h. absurd (omega arith);
        cell = λ h. record {
          row = c.args.row;
          row_below = omega arith;
          from = omega arith;
          to = omega arith;
          column_below = omega arith;
          off = omega arith;
          rises = search rules;
          figure = λ z. both_ways _ (not-true _ t) (c.is_zero.ensures ∙ (a.ring.tests_zero _).1 (read ∙ z));
        };
      },
      λ rule. ⊎_elim
          (λ t. absurd ((rule.cell (omega arith)).figure (sym read ∙ (a.ring.tests_zero _).0 (sym c.is_zero.ensures ∙ t))))
          (λ f. not_from_false _ f)
          (cases_Bool c.is_zero.result),
    )
