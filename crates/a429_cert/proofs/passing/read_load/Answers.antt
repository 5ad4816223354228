use Rattle.std.proofs.Common.{◌≡◌, ◌∷◌, Some, None, sym}
use Rattle.std.proofs.lemmas.Result.{IfOk-weaker, IfErr-weaker}
use Rattle.a429_link.specs.State.{State}
use Rattle.a429_cert.specs.declared.at.At.{At}
use Rattle.a429_cert.specs.declared.line.CertLine.TheVariants.{Load}
use Rattle.a429_cert.specs.Line.{SpellsLine}
use Rattle.a429_cert.specs.Reading.{load_in}
use Rattle.a429_cert.specs.Passing.{IsReady, IsStepOfLine, Lists, RefusesLine, RefusesFirst}
use Rattle.a429_cert.proofs.ReadingFacts.{load-only}
use Rattle.a429_cert.proofs.PassingText.{no_load, fault-read}
use Rattle.a429_cert.proofs.passing.read_load.Goals as goal

pub read_unit-requires-clause-range : goal.read_unit-requires-clause-range
read_unit-requires-clause-range c =
    let read : Some c.in-Ok-Some.line ≡ load_in c.args.text.now = rw c.in-Ok-Some.field-0-is at c.in-Ok-Some.ensures in
    (load-only c.args.text.now c.in-Ok-Some.line (sym read)).line

-- the text spells the line that was read
spells : (c : goal.After-read_unit) → SpellsLine (76 ∷ c.args.text.now) (Load c.in-Ok-Some.line)
spells c =
    let read : Some c.in-Ok-Some.line ≡ load_in c.args.text.now = rw c.in-Ok-Some.field-0-is at c.in-Ok-Some.ensures in
    load-only c.args.text.now c.in-Ok-Some.line (sym read)

pub returns-in-Ok-Some-clause-listed : goal.returns-in-Ok-Some-clause-listed
returns-in-Ok-Some-clause-listed c =
    IfOk-weaker c.read_unit.result
    (λ x. IsStepOfLine x (Load c.in-Ok-Some.line) × ((s : State) → IsReady c.args.profile.now x s))
    (λ x. (s : State) → Lists c.args.profile.now (Some (76 ∷ c.args.text.now)) x s)
    (λ x h s. (Load c.in-Ok-Some.line, spells c, h.0, h.1 s)) c.read_unit.ensures.listed

pub returns-in-Ok-Some-clause-refused : goal.returns-in-Ok-Some-clause-refused
returns-in-Ok-Some-clause-refused c =
    IfErr-weaker c.read_unit.result
    (λ f. (at : At) → at.line ≡ c.args.n → (s : State) → RefusesLine c.args.profile.now (Load c.in-Ok-Some.line) at s f)
    (λ f. (s : State) → RefusesFirst c.args.profile.now (Some (76 ∷ c.args.text.now)) c.args.n s f)
    (λ f h s at here z. fault-read c.args.profile.now s at.next at.line at.entry (76 ∷ c.args.text.now) (Load c.in-Ok-Some.line) f
    (spells c) tt (h at here s z)) c.read_unit.ensures.refused

pub returns-in-Ok-None-clause-refused : goal.returns-in-Ok-None-clause-refused
returns-in-Ok-None-clause-refused c = λ s at here z.
    let none : None ≡ load_in c.args.text.now = rw c.in-Ok-None.field-0-is at c.in-Ok-None.ensures in
    (sym here, λ l is says. no_load c.args.text.now l (sym none) says)
