use Rattle.std.proofs.Common.{◌∙◌, arith}
use Rattle.a429_word.proofs.WordMade.{made, parts_joined, parts_below}
use Rattle.a429_word.proofs.word.Word.with_parity.Goals as goal

pub with_odd_parity-requires : goal.with_odd_parity-requires
with_odd_parity-requires c =
    let n =
    parts_joined c.args.label c.args.sdi c.args.field c.args.ssm c.from.result c.from-2.result c.from-3.result c.requires.sdi
    c.requires.field c.requires.ssm c.from.ensures c.from-2.ensures (c.from-3.ensures ∙ c.reversed.ensures) in
    parts_below c.args.label c.args.sdi c.args.field c.args.ssm _ c.requires.sdi c.requires.field c.requires.ssm n

pub returns : goal.returns
returns c =
    let n =
    parts_joined c.args.label c.args.sdi c.args.field c.args.ssm c.from.result c.from-2.result c.from-3.result c.requires.sdi
    c.requires.field c.requires.ssm c.from.ensures c.from-2.ensures (c.from-3.ensures ∙ c.reversed.ensures) in
    let m =
    made c.args.label c.args.sdi c.args.field c.args.ssm _ c.with_odd_parity.result
    (omega arith) c.requires.sdi c.requires.field c.requires.ssm n c.with_odd_parity.ensures.value in
    record { label = m.label; sdi = m.sdi; field = m.field; ssm = m.ssm; parity = m.parity }
