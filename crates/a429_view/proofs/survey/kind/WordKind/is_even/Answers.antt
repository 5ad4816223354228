use Rattle.std.proofs.Common.{◌∙◌, sym, ap}
use Rattle.a429_view.proofs.SurveyFacts.{even_by_kind, is_of_parity}
use Rattle.a429_view.proofs.survey.kind.WordKind.is_even.Goals as goal

pub returns-in-FreeParity : goal.returns-in-FreeParity
returns-in-FreeParity c = λ codes x is. sym (ap is_of_parity c.in-FreeParity.is) ∙ even_by_kind codes x c.args.self is
