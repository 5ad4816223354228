use Rattle.std.proofs.Common.{◌-◌, sym, ap, ◌∙◌, arith}
use Rattle.std.proofs.lemmas.Option.{slice_get-get_or}
use Rattle.a429_explain.specs.Groups.{ends_its_group}
use Rattle.a429_explain.proofs.groups.is_settled.Goals as goal

pub returns : goal.returns
returns c = c.settles.ensures ∙ ap ends_its_group
    (sym (slice_get-get_or c.args.roles.now (c.args.group.to - 1) _ (omega (arith, c.requires.some, c.requires.inside))))
