use Rattle.std.proofs.Common.{◌≡◌, ◌∙◌, ap, sym, arith, fold}
use Rattle.std.specs.List.{flat_map}
use Rattle.a429_profile.specs.CheckTables.{turned, fed_down}
use Rattle.a429_ldu.specs.CheckWord.{fed_bits, check_of}
use Rattle.a429_ldu.proofs.CheckWordFacts.{by_down}
use Rattle.a429_ldu.proofs.check_words.check_word_by.Goals as goal

pub returns : goal.returns
returns c =
    let k = c.rule-rule.result in
    let bytes = c.args.bytes.now in
    let bits = flat_map (fed_bits k.low_first) bytes in
    let register = c.after_bytes-register.result in
    let same : register ≡ fold (fed_down (turned k.poly)) (turned k.init) bits =
    c.after_bytes-register.ensures ∙ ap (λ r. fold (fed_down (turned r.poly)) c.reverse_bits-start.result bits) (sym c.rule-rule.ensures)
    ∙ ap (λ s. fold (fed_down (turned k.poly)) s bits) c.reverse_bits-start.ensures in
    by_down k register c.finished.result bytes (omega arith) (omega arith) same c.finished.ensures
    ∙ ap (λ r. check_of r bytes) c.rule-rule.ensures
