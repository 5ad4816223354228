use Rattle.std.proofs.Common.{sym, subst}
use Rattle.a429_cert.specs.Explained.{IsExplained, AreInEveryRun}
use Rattle.a429_cert.proofs.NoFault.{no_fault}
use Rattle.a429_cert.proofs.ExplainedFacts.{in_every_run}
use Rattle.a429_explain.proofs.ScribeFacts.{certificate_written, version_written}
use Rattle.a429_explain.proofs.explanation.explanation_of.Goals as goal

pub returns : goal.returns
returns c = λ first items is h.
    let s = c.args.scribe in
    let p = s.link.profile in
    let r = c.into_parts-certificate.result in
    let text = c.into_parts-certificate.ensures.text in
    let here : IsExplained p r.0 items r.1.items =
    rw (text, c.into_parts-certificate.ensures.files) (certificate_written items first s.lines s.gave_up s.link h) in
    record {
      explained = rw (c.new.ensures) here;
      every = subst (AreInEveryRun p items) (sym c.new.ensures) (in_every_run p is r.0 items r.1.items here);
      accepted = λ f k. no_fault p r.0 items here.first here.steps f here.explains k;
      version = rw text (version_written items first s.lines s.gave_up s.link h);
    }
