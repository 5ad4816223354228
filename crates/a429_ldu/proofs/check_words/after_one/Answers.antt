use Rattle.std.proofs.Common.{◌∙◌, ℕ, ap, arith, bit_xor, sym}
use Rattle.a429_profile.specs.CheckTables.{after_zeros}
use Rattle.a429_ldu.proofs.CheckWordDown.{byte_in}
use Rattle.a429_ldu.proofs.check_words.after_one.Goals as goal

pub returns : goal.returns
returns c =
    let p = c.args.poly in
    let r = c.args.register in
    c.after_zero_byte.ensures ∙ ap (λ (v : ℕ). after_zeros p 1 (bit_xor r v)) c.from.ensures ∙ sym (byte_in p r c.args.byte (omega arith))
