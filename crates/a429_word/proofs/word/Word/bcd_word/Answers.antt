use Rattle.std.proofs.Common.{◌≡◌, ◌∙◌, ◌*◌, ◌^◌, ◌-◌}
use Rattle.a429_word.specs.Word.{field_of}
use Rattle.a429_word.proofs.BcdPacked.{IsPacked, bcd-made, bcd-room}
use Rattle.a429_word.proofs.word.Word.bcd_word.Goals as goal

pub with_parity-requires-clause-field : goal.with_parity-requires-clause-field
with_parity-requires-clause-field c =
    let packed : IsPacked c.packed_digits.result c.args.k c.args.value =
    record { within = c.packed_digits.ensures.within; digits = c.packed_digits.ensures.digits } in
    let room = bcd-room c.args.k c.args.value c.packed_digits.result c.requires.least c.requires.most c.requires.value packed in
    rw room.1 room.0

pub returns : goal.returns
returns c =
    let k = c.args.k in
    let packed : IsPacked c.packed_digits.result k c.args.value =
    record { within = c.packed_digits.ensures.within; digits = c.packed_digits.ensures.digits } in
    let room = bcd-room k c.args.value c.packed_digits.result c.requires.least c.requires.most c.requires.value packed in
    let field : field_of c.with_parity.result ≡ c.packed_digits.result * 2 ^ (20 - 4 * k) = c.with_parity.ensures.field ∙ room.1 in
    let made =
    bcd-made c.with_parity.result k c.args.value c.packed_digits.result c.requires.least c.requires.most c.requires.value packed field in
    record {
      label = c.with_parity.ensures.label;
      sdi = c.with_parity.ensures.sdi;
      digits = made.digits;
      value = made.value;
      unused = made.unused;
      ssm = c.with_parity.ensures.ssm;
      parity = c.with_parity.ensures.parity;
    }
