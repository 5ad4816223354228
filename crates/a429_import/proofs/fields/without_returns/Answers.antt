use Rattle.std.proofs.Common.{◌∙◌, sym, arith}
use Rattle.a429_import.specs.Fields.{is_return}
use Rattle.a429_import.proofs.FieldsFacts.{end_goes, end_stays}
use Rattle.a429_import.proofs.fields.without_returns.Goals as goal

pub returns-then-not-is_return : goal.returns-then-not-is_return
returns-then-not-is_return c =
    sym (end_stays is_return c.args.line.now c.returns.end (omega arith) c.returns.invariant.inside
    (sym c.is_return.ensures ∙ c.if-not-is_return.true))
    ∙ c.returns.invariant.same

pub returns-preserved : goal.returns-preserved
returns-preserved c = record {
  same =
      sym (end_goes is_return c.args.line.now c.returns.end (omega arith) c.returns.invariant.inside
      (sym c.is_return.ensures ∙ c.if-not-is_return.false))
      ∙ c.returns.invariant.same;
  inside = omega (arith, c.returns.invariant.inside);
}
