use Rattle.std.proofs.Common.{◌∙◌, sym, arith}
use Rattle.a429_import.specs.Fields.{is_blank}
use Rattle.a429_import.proofs.FieldsFacts.{end_goes, end_stays}
use Rattle.a429_import.proofs.fields.without_last_blanks.Goals as goal

pub returns-then-not-is_blank : goal.returns-then-not-is_blank
returns-then-not-is_blank c =
    sym (end_stays is_blank c.args.text.now c.blanks.end (omega arith) c.blanks.invariant.inside
    (sym c.is_blank.ensures ∙ c.if-not-is_blank.true))
    ∙ c.blanks.invariant.same

pub blanks-preserved : goal.blanks-preserved
blanks-preserved c = record {
  same =
      sym (end_goes is_blank c.args.text.now c.blanks.end (omega arith) c.blanks.invariant.inside
      (sym c.is_blank.ensures ∙ c.if-not-is_blank.false))
      ∙ c.blanks.invariant.same;
  inside = omega (arith, c.blanks.invariant.inside);
}
