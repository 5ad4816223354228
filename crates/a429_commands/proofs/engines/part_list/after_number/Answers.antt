use Rattle.std.proofs.Common.{◌∙◌, refl, sym, arith}
use Rattle.std.proofs.lemmas.List.{append_cancel_left}
use Rattle.a429_commands.proofs.PartListFacts.{one_number}
use Rattle.a429_commands.proofs.engines.part_list.after_number.Goals as goal
use Rattle.a429_commands.proofs.engines.part_list.after_number.Goals.{in_default-via-in-Some+else-found-number, in_default-via-in_default}

pub returns-in_default-clause-none : goal.returns-in_default-clause-none
returns-in_default-clause-none c = λ e rest none eq.
    elim c.in_default.branch [
      | in_default-via-in-Some+else-found-number w ↦
          let some = w.in-Some.ensures.some in
          let same =
          one_number w.in-Some.found c.args.number w.in-Some.rest.now rest some.1 c.requires some.2 none
          (append_cancel_left c.args.word.now _ _ (sym some.0 ∙ eq)) in
          absurd (omega (arith, same.0, w.if-found-number.false))
      | in_default-via-in_default w ↦ w.in_default.ensures.none refl c.args.number rest c.requires none eq
    ]
