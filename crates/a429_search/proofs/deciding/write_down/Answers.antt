use Rattle.std.proofs.Common.{subst}
use Rattle.a429_cert.specs.Explained.{items_of}
use Rattle.a429_search.specs.declared.deciding.Judged.{Judged}
use Rattle.a429_search.specs.Deciding.{IsJudged}
use Rattle.a429_search.proofs.deciding.write_down.Goals as goal

pub returns-in-NoRun : goal.returns-in-NoRun
returns-in-NoRun c = subst (λ (j : Judged). IsJudged c.args.profile.now (items_of c.args.entries.now) j) c.in-NoRun.is c.in_ok-found.ensures
