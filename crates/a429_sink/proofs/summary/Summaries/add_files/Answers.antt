use Rattle.std.proofs.Common.{refl}
use Rattle.std.proofs.lemmas.Result.{IfOk-weaker}
use Rattle.a429_sink.proofs.SummaryFacts.{told_files}
use Rattle.a429_sink.proofs.summary.Summaries.add_files.Goals as goal

pub returns : goal.returns
returns c =
    IfOk-weaker c.add_sizes.result _ _
    (λ u sizes said before is. told_files said before c.args.files.now c.args.self.now _ is refl refl sizes) c.add_sizes.ensures
