use Rattle.std.proofs.Common.{◌≡◌, ◌+◌, ◌∙◌, ap, refl, rules}
use Rattle.a429_sink.proofs.SummaryFacts.{told_end}
use Rattle.a429_sink.proofs.summary.Summaries.end.Goals as goal

pub returns : goal.returns
returns c = λ said s is says.
    let next : c.in-Some.next ≡ c.args.self.now.from + c.args.end.entries = search rules in
    told_end said s c.args.self.now _ c.args.end c.in_ok-stop.stop _ is says c.in_ok-stop.ensures c.replace-from.ensures.value refl refl
    refl (ap (λ v. v.items) c.replace-files.ensures.value) refl c.in_ok-push.ensures.items (c.replace-from.ensures.after ∙ next)
    (ap (λ v. v.items) c.replace-files.ensures.after ∙ c.new.ensures.items)
