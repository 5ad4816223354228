use Rattle.std.proofs.Common.{subst}
use Rattle.a429_cert.specs.Explained.{items_of}
use Rattle.a429_explain.specs.declared.verdict.Doubt.{Doubt}
use Rattle.a429_explain.specs.declared.verdict.Verdict.{Verdict}
use Rattle.a429_explain.specs.declared.verdict.Verdict.TheVariants.{Unexplained}
use Rattle.a429_explain.specs.Verdict.{IsOfSomeRun}
use Rattle.a429_search.specs.Deciding.{IsExactly}
use Rattle.a429_search.proofs.DecidingFacts.{some_begins}
use Rattle.a429_search.proofs.deciding.begins_a_run.Goals as goal

pub returns-in-Explained : goal.returns-in-Explained
returns-in-Explained c = λ is.
    let p = c.args.profile.now in
    let items = items_of c.args.entries.now in
    some_begins p items _ (subst (λ (v : Verdict). IsOfSomeRun p items v) c.in-Explained.is c.in_ok-decide.ensures.some_run)

pub returns-in-NotReplayed : goal.returns-in-NotReplayed
returns-in-NotReplayed c = λ is.
    let p = c.args.profile.now in
    let items = items_of c.args.entries.now in
    let cut = c.in_ok-decide.field-0.cut in
    let at = c.in-Unexplained in
    let exact = subst (λ (v : Verdict). IsExactly p items cut v) at.is c.in_ok-decide.ensures.exact.verdict in
    subst (λ (d : Doubt). IsExactly p items cut (Unexplained at.entry d)) c.in-NotReplayed.is exact
