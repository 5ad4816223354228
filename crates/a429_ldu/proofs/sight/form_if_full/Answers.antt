use Rattle.std.proofs.Common.{Some, ap, sym, ◌∙◌, rules}
use Rattle.a429_ldu.specs.Form.{Fields}
use Rattle.a429_ldu.proofs.FullFacts.{full_word, of_bus_a, other_word}
use Rattle.a429_ldu.proofs.sight.form_if_full.Goals as goal

pub returns-then-parts-codes : goal.returns-then-parts-codes
returns-then-parts-codes c =
    let fields = c.parts_of-parts.ensures.fields in
    other_word c.args.profile.now c.codes-codes.ensures.sound c.codes-codes.result.now c.codes-codes.ensures.codes c.args.bus c.args.word
    (λ is. c.if-parts-codes.true (sym (ap (λ (f : Fields). f.kind) fields) ∙ is.1))

pub returns : goal.returns
returns c =
    let parts = c.parts_of-parts.ensures in
    let at = c.is_addressed.ensures.0 c.if-not-is_addressed.false in
    ap Some c.full_form.ensures
    ∙ full_word c.args.profile.now c.codes-codes.result.now c.args.bus c.args.word _ (record {
      profile = c.codes-codes.ensures.sound;
      codes = c.codes-codes.ensures.codes;
      parity = at.0;
      label = at.1;
      word = parts.word;
      fields = parts.fields;
      kind = c.if-parts-codes.false;
    })
    (of_bus_a c.args.bus (search rules))
