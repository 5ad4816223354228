use Rattle.std.proofs.Common.{rules}
use Rattle.a429_cert.specs.Explained.{items_of, IsExplained}
use Rattle.a429_cert.proofs.ExplainedFacts.{in_some_run}
use Rattle.a429_explain.proofs.checking.check.Goals as goal

pub returns-in-Err-clause-doubted : goal.returns-in-Err-clause-doubted
returns-in-Err-clause-doubted c = search rules

pub returns-in-Err-clause-first : goal.returns-in-Err-clause-first
returns-in-Err-clause-first c = search rules

pub returns-in-Err-clause-no_form : goal.returns-in-Err-clause-no_form
returns-in-Err-clause-no_form c = λ _. tt

pub returns-in-Ok-explain-clause-some_run : goal.returns-in-Ok-explain-clause-some_run
returns-in-Ok-explain-clause-some_run c =
    let p = c.args.profile.now in
    let items = items_of c.args.entries.now in
    let explained : IsExplained p c.in-Ok-explain.field-0.certificate items c.in-Ok-explain.field-0.files = search rules in
    in_some_run p c.in-Ok-explain.field-0.certificate items c.in-Ok-explain.field-0.files explained
