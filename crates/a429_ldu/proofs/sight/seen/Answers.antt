use Rattle.std.proofs.Common.{rules, None, sym, ap, ◌∙◌}
use Rattle.a429_ldu.specs.declared.sight.Sight.TheVariants as sight
use Rattle.a429_ldu.specs.Sight.{sight_of}
use Rattle.a429_ldu.proofs.SightFacts.{seen_full_a, seen_full_b, seen_form, seen_free, seen_told, ignored_free}
use Rattle.a429_ldu.proofs.sight.seen.Goals as goal

pub returns-in-A-clause-sight : goal.returns-in-A-clause-sight
returns-in-A-clause-sight c =
    let parts = c.parts_of-parts.ensures in
    let at = c.is_addressed.ensures.0 c.if-not-is_addressed.false in
    ap sight.Form c.full_form.ensures ∙ seen_full_a c.args.profile.now c.codes-codes.result.now c.args.bus c.args.word _ (record {
      profile = c.codes-codes.ensures.sound;
      codes = c.codes-codes.ensures.codes;
      parity = at.0;
      label = at.1;
      word = parts.word;
      fields = parts.fields;
      kind = c.if-parts-codes.true;
    }) c.in-A.is

pub returns-in-B-clause-sight : goal.returns-in-B-clause-sight
returns-in-B-clause-sight c =
    let parts = c.parts_of-parts.ensures in
    let at = c.is_addressed.ensures.0 c.if-not-is_addressed.false in
    seen_full_b c.args.profile.now c.codes-codes.result.now c.args.bus c.args.word _ (record {
      profile = c.codes-codes.ensures.sound;
      codes = c.codes-codes.ensures.codes;
      parity = at.0;
      label = at.1;
      word = parts.word;
      fields = parts.fields;
      kind = c.if-parts-codes.true;
    }) c.in-B.is

pub returns-in-Some-clause-sight : goal.returns-in-Some-clause-sight
returns-in-Some-clause-sight c =
    let parts = c.parts_of-parts.ensures in
    let at = c.is_addressed.ensures.0 c.if-not-is_addressed.false in
    let codes = c.codes-codes.result.now in
    seen_form c.args.profile.now c.codes-codes.ensures.sound codes c.codes-codes.ensures.codes c.args.bus c.args.word _
    c.in-Some.form at parts.word parts.fields (sym (sym c.in-Some.is ∙ c.form_on.ensures))
    ∙ ap (λ d. sight_of d c.args.bus c.args.word) c.codes-codes.ensures.codes

pub returns-in-None-clause-sight : goal.returns-in-None-clause-sight
returns-in-None-clause-sight c =
    let parts = c.parts_of-parts.ensures in
    let at = c.is_addressed.ensures.0 c.if-not-is_addressed.false in
    let codes = c.codes-codes.result.now in
    seen_free codes c.args.bus c.args.word _ c.is_ignored.result parts.word parts.fields
    (ignored_free codes c.args.bus c.args.word _ c.is_ignored.result at parts.fields c.is_ignored.ensures) c.if-is_ignored.true
    ∙ ap (λ d. sight_of d c.args.bus c.args.word) c.codes-codes.ensures.codes

pub returns-in-None-2-clause-sight : goal.returns-in-None-2-clause-sight
returns-in-None-2-clause-sight c =
    let parts = c.parts_of-parts.ensures in
    let at = c.is_addressed.ensures.0 c.if-not-is_addressed.false in
    let codes = c.codes-codes.result.now in
    seen_told codes c.args.bus c.args.word _ c.is_ignored.result None parts.word parts.fields
    (ignored_free codes c.args.bus c.args.word _ c.is_ignored.result at parts.fields c.is_ignored.ensures) c.if-is_ignored.false
    (sym c.in-None-2.is ∙ c.form_on.ensures)
    ∙ ap (λ d. sight_of d c.args.bus c.args.word) c.codes-codes.ensures.codes

pub returns-then-not-is_addressed-clause-sight : goal.returns-then-not-is_addressed-clause-sight
returns-then-not-is_addressed-clause-sight c = search rules
