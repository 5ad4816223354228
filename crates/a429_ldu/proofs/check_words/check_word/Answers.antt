use Rattle.std.proofs.Common.{◌≡◌, ◌∙◌, ap, arith, fold}
use Rattle.std.specs.List.{flat_map}
use Rattle.a429_profile.specs.CheckTables.{turned, fed_down}
use Rattle.a429_ldu.specs.CheckWord.{fed_bits}
use Rattle.a429_ldu.proofs.CheckWordFacts.{by_down}
use Rattle.a429_ldu.proofs.check_words.check_word.Goals as goal

pub returns : goal.returns
returns c =
    let k = c.args.check.now in
    let bits = flat_map (fed_bits k.low_first) c.args.bytes.now in
    let same : c.after_each-register.result ≡ fold (fed_down (turned k.poly)) (turned k.init) bits =
    c.after_each-register.ensures ∙ ap (λ p. fold (fed_down p) c.reverse_bits-start.result bits) c.reverse_bits.ensures
    ∙ ap (λ s. fold (fed_down (turned k.poly)) s bits) c.reverse_bits-start.ensures in
    by_down k c.after_each-register.result c.finished.result c.args.bytes.now (omega arith) (omega arith) same c.finished.ensures
