use Rattle.std.proofs.Common.{◌≡◌, false}
use Rattle.a429_commands.proofs.SeriesVerdictFacts.{SoFar}
use Rattle.a429_commands.proofs.engines.series.judge_parts.Given as goal

abbrev pub invariant-parts : goal.invariant-parts
invariant-parts g l = record {
  same : g.P.PartSource.part l.parts ≡ g.P.PartSource.part l.fn.parts;
  works : g.P.Failing.failed l.fn.parts ≡ false → g.P.Failing.failed l.parts ≡ false;
  so_far : SoFar l.profile (g.P.PartSource.part l.fn.parts) l.counts l.count-index l.series;
  place : l.place ≡ l.count-index;
}
