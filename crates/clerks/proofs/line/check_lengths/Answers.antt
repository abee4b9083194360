use Rattle.std.proofs.Common.{◌≡◌, rules, refl, sym, ◌∙◌, not, nat_eq, length}
use Rattle.std.specs.List.{position_from}
use Rattle.std.proofs.lemmas.Iterator.{YieldsList-from_slice}
use Rattle.std.proofs.lemmas.Iterator.Adapters.{position_from-zero}
use Rattle.std.proofs.lemmas.Iterator.Search.{position_from_yields_List}
use borrow.Author.Tests.{tests}
use Rattle.clerks.proofs.Lines.{first_uneven, all_even}
use Rattle.clerks.proofs.line.check_lengths.Given.{Over}
use Rattle.clerks.proofs.line.check_lengths.Goals.{After-position}
use Rattle.clerks.proofs.line.check_lengths.Goals as goal

-- what the search for the first uneven vector answers
found : (g : Over) (c : After-position g) → position_from (λ v. not (nat_eq (length v.now) c.args.order)) 0 c.args.vectors.now ≡ c.position.result
found g c = sym (position_from_yields_List (λ v. not (nat_eq (length v.now) c.args.order)) _ _ c.position.result c.position.ensures.ran (YieldsList-from_slice c.args.vectors.now cc) (λ x b q k. search (rules, tests)) ∙ position_from-zero _ c.args.vectors.now)

pub returns-in-Some : goal.returns-in-Some
returns-in-Some g c =
    (_, refl, first_uneven (λ v. v.now) c.args.order 0 _ c.args.vectors.now (found g (goal.at.returns-in-Some g c).After-position ∙ c.in-Some.is))

pub returns-in-None : goal.returns-in-None
returns-in-None g c =
    all_even (λ v. v.now) c.args.order 0 c.args.vectors.now (found g (goal.at.returns-in-None g c).After-position ∙ c.in-None.is)
