use Rattle.std.proofs.Common.{Some, ◌∷◌, ◌∙◌, sym}
use Rattle.std.proofs.lemmas.Result.{IfErr-weaker, IfOk-weaker}
use Rattle.a429_cert.specs.Passing.{Lists, RefusesFirst}
use Rattle.a429_cert.proofs.ReadingFacts.{moved-only}
use Rattle.a429_cert.proofs.PassingText.{no_move}
use Rattle.a429_cert.proofs.passing.read_moved.Goals as goal

pub returns-in-Some-clause-listed : goal.returns-in-Some-clause-listed
returns-in-Some-clause-listed c =
    let says = moved-only c.args.letter c.args.text.now c.in-Some.line (sym c.moved_of.ensures ∙ c.in-Some.is) in
    IfOk-weaker c.allow_line.result _ (λ x. Lists c.args.link.now.profile (Some (c.args.letter ∷ c.args.text.now)) x c.args.link.now.state)
    (λ x h. h (Some (c.args.letter ∷ c.args.text.now)) says) c.allow_line.ensures.listed

pub returns-in-Some-clause-refused : goal.returns-in-Some-clause-refused
returns-in-Some-clause-refused c =
    let says = moved-only c.args.letter c.args.text.now c.in-Some.line (sym c.moved_of.ensures ∙ c.in-Some.is) in
    IfErr-weaker c.allow_line.result _
    (RefusesFirst c.args.link.now.profile (Some (c.args.letter ∷ c.args.text.now)) c.args.n c.args.link.now.state)
    (λ f h. h (Some (c.args.letter ∷ c.args.text.now)) says) c.allow_line.ensures.refused

pub returns-in-None-clause-refused : goal.returns-in-None-clause-refused
returns-in-None-clause-refused c = λ at here z.
    (sym here, λ l is says. no_move c.args.letter c.args.text.now l c.requires (sym c.moved_of.ensures ∙ c.in-None.is) is says)
