use Rattle.std.proofs.Common.{◌∙◌, ℕ, List, subst, sym, ap}
use Rattle.a429_ldu.specs.Ldu.{IsFirstLduFault}
use Rattle.a429_cert.specs.Passing.{no_unit}
use Rattle.a429_cert.proofs.PassingStep.{unit_refused}
use Rattle.a429_cert.proofs.passing.read_unit.Goals as goal

pub new-requires-clause-gfi : goal.new-requires-clause-gfi
new-requires-clause-gfi c = c.requires.range.0

pub new-requires-clause-flags : goal.new-requires-clause-flags
new-requires-clause-flags c = c.requires.range.1

pub returns-clause-refused : goal.returns-clause-refused
returns-clause-refused c = λ at here s.
    unit_refused c.args.profile.now c.requires.sound s at c.args.line c.in-Err.fault c.no_unit.result
    (c.no_unit.ensures ∙ ap (no_unit c.in-Err.fault) (sym here))
    (λ h. subst (λ (ws : List ℕ). IsFirstLduFault c.args.profile.now c.args.line.check ws c.in-Err.fault) c.as_slice.ensures
    (c.in-Err.ensures.err h))
