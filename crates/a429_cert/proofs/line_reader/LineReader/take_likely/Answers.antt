use Rattle.std.proofs.Common.{◌∙◌, ◌∷◌, ◌++◌, ℕ, List, length, Some, Option, IfSome, ap, arith, append_assoc, subst, refl}
use Rattle.std.proofs.lemmas.List.{length-append}
use Rattle.a429_cert.specs.LineReader.{bytes_ahead}
use Rattle.a429_cert.specs.Lines.{certificate_lines}
use Rattle.a429_cert.specs.declared.likely.LikelyLine.{LikelyLine}
use Rattle.a429_cert.specs.declared.line.CertLine.TheVariants.{Moved}
use Rattle.a429_cert.specs.LikelyLine.{text_in, IsLikelyLine}
use Rattle.a429_cert.proofs.CutFacts.{says-uncut}
use Rattle.a429_cert.proofs.line_reader.LineReader.take_likely.Goals as goal

pub returns-in-Some-clause-line : goal.returns-in-Some-clause-line
returns-in-Some-clause-line c = λ _.
    let line = c.in-Some.likely in
    let likely : IsLikelyLine line = subst (λ (o : Option LikelyLine). IfSome o IsLikelyLine) c.in-Some.is c.requires in
    rw c.if-take_text.ensures.line (refl, says-uncut (Some (text_in line)) (Moved line.line) likely.spells)

pub returns-in-Some-clause-yes : goal.returns-in-Some-clause-yes
returns-in-Some-clause-yes c = λ _ more.
    let line = c.in-Some.likely in
    let likely : IsLikelyLine line = subst (λ (o : Option LikelyLine). IfSome o IsLikelyLine) c.in-Some.is c.requires in
    let new = bytes_ahead c.take_text.new.self in
    rw (c.if-take_text.ensures.line refl, c.if-take_text.ensures.yes refl)
    (ap certificate_lines (append_assoc (text_in line) (10 ∷ new) more) ∙ likely.ends (new ++ more))

pub returns-in-Some-clause-short : goal.returns-in-Some-clause-short
returns-in-Some-clause-short c = λ _.
    let text = text_in c.in-Some.likely in
    let rest : List ℕ = 10 ∷ bytes_ahead c.take_text.new.self in
    omega (arith, ap (λ (l : List ℕ). length l) (c.if-take_text.ensures.yes refl), length-append text rest)

pub returns-in-Some-clause-known : goal.returns-in-Some-clause-known
returns-in-Some-clause-known c = λ v.
    let line = c.in-Some.likely in
    let likely : IsLikelyLine line = subst (λ (o : Option LikelyLine). IfSome o IsLikelyLine) c.in-Some.is c.requires in
    rw (c.if-take_text.ensures.line refl) (likely.says v)

pub returns-in_default-clause-yes : goal.returns-in_default-clause-yes
returns-in_default-clause-yes c = λ e. absurd (cc e)

pub returns-in_default-clause-short : goal.returns-in_default-clause-short
returns-in_default-clause-short c = λ e. absurd (cc e)

pub returns-in_default-clause-line : goal.returns-in_default-clause-line
returns-in_default-clause-line c = λ e. absurd (cc e)

pub returns-in_default-clause-no : goal.returns-in_default-clause-no
returns-in_default-clause-no c = c.if-take_text.ensures.no refl
