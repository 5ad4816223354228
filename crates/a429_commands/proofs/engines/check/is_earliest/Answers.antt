use Rattle.std.proofs.Common.{subst, sym}
use Rattle.std.proofs.lemmas.List.{take-map}
use Rattle.a429_link.specs.Run.{BeginsARun}
use Rattle.a429_cert.specs.Explained.{items_of, seen_of}
use Rattle.a429_commands.specs.Check.{IsEarliest}
use Rattle.a429_commands.proofs.engines.check.is_earliest.Goals as goal

pub returns-in-Impossible-clause-earliest : goal.returns-in-Impossible-clause-earliest
returns-in-Impossible-clause-earliest c = λ is.
    let p = c.args.profile.now in
    let es = c.args.entries.now in
    subst (IsEarliest p (items_of es)) (sym c.in-Impossible.is)
    (subst (BeginsARun p) (sym (take-map seen_of c.in-Impossible.entry es)) (c.begins_a_run.ensures is))
