use Rattle.std.proofs.Common.{arith, ap, ◌∙◌, fold, true}
use Rattle.std.specs.List.{flat_map}
use Rattle.std.proofs.lemmas.List.{take_all}
use Rattle.a429_profile.specs.CheckTables.{fed_down}
use Rattle.a429_ldu.specs.CheckWord.{fed_bits}
use Rattle.a429_ldu.proofs.CheckWordFacts.{byte_more}
use Rattle.a429_ldu.proofs.check_words.after_each.Goals as goal

pub loop-byte-preserved : goal.loop-byte-preserved
loop-byte-preserved c =
    byte_more (fed_down c.args.poly) c.args.start c.loop-byte.register c.after_one-register.result c.loop-byte.byte-index c.args.low_first
    c.args.bytes.now (fed_bits true c.ordered.result) (omega arith) c.loop-byte.invariant c.ordered.ensures
    c.after_one-register.ensures

pub returns : goal.returns
returns c = c.loop-byte.invariant ∙ ap (λ bs. fold (fed_down c.args.poly) c.args.start (flat_map (fed_bits c.args.low_first) bs))
    (take_all c.loop-byte.byte-index c.args.bytes.now (omega arith))
