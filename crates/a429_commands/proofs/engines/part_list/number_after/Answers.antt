use Rattle.std.proofs.Common.{◌∙◌, sym}
use Rattle.std.proofs.lemmas.List.{append_cancel_left}
use Rattle.a429_commands.proofs.engines.part_list.number_after.Goals as goal

pub returns-in-Some-clause-none : goal.returns-in-Some-clause-none
returns-in-Some-clause-none c =
    λ e n rest small none eq.
    c.number_at.ensures.none e n rest small none (append_cancel_left c.args.word.now _ _ (sym c.in-Some.ensures ∙ eq))
