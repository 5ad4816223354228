use Rattle.std.proofs.Common.{◌∙◌, ap, fold, replicate}
use Rattle.a429_profile.specs.CheckTables.{fed_down}
use Rattle.a429_profile.proofs.check_tables.after_zero_byte.Goals as goal

pub returns : goal.returns
returns c = c.after_four.ensures ∙ ap (λ r. fold (fed_down c.args.poly) r (replicate 4 0)) c.after_four-halfway.ensures
