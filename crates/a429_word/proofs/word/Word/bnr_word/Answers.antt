use Rattle.std.proofs.Common.{◌≡◌, ◌*◌, ◌^◌, ◌-◌, arith, ◌∙◌, w32}
use mir.Val.{SFits}
use Rattle.std.proofs.lemmas.Int.{to_z-of_z}
use Rattle.a429_word.specs.Word.{field_of}
use Rattle.a429_word.proofs.BnrEncoded.{IsTwosComplement, raw-made, code-room}
use Rattle.a429_word.proofs.word.Word.bnr_word.Goals as goal

pub with_parity-requires-clause-field : goal.with_parity-requires-clause-field
with_parity-requires-clause-field c =
    let r = code-room c.args.s c.twos_complement.result c.requires.most c.twos_complement.ensures.within in omega arith

pub returns : goal.returns
returns c =
    let s = c.args.s in
    let code = c.twos_complement.result in
    let fits : SFits w32 c.args.raw = c.ranges.raw in
    let is : IsTwosComplement (2 ^ s) code c.args.raw =
    record { within = c.twos_complement.ensures.within; value = simp to_z-of_z at c.twos_complement.ensures.value } in
    let field : field_of c.with_parity.result ≡ code * 2 ^ (18 - s) =
    c.with_parity.ensures.field ∙ (code-room s code c.requires.most is.within).1 in
    let made = raw-made c.with_parity.result s code c.args.raw c.requires.least c.requires.most is field in
    record {
      label = c.with_parity.ensures.label;
      sdi = c.with_parity.ensures.sdi;
      raw = made.0;
      unused = made.1;
      ssm = c.with_parity.ensures.ssm;
      parity = c.with_parity.ensures.parity;
    }
