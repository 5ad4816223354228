use Rattle.std.proofs.Common.{◌∙◌, ap}
use Rattle.a429_word.specs.Digits.{hex_text}
use Rattle.a429_explain.proofs.NoteFacts.{head_is}
use Rattle.a429_explain.proofs.note.put_load.Goals as goal

pub returns : goal.returns
returns g c =
    let text = head_is c.args.gfi c.args.flags c.args.check c.hex-gfi.result c.hex-flags.result c.hex-check.result
    (c.hex-gfi.ensures ∙ ap hex_text (c.from_u32.ensures ∙ c.from.ensures))
    (c.hex-flags.ensures ∙ ap hex_text (c.from_u32-2.ensures ∙ c.from-2.ensures))
    (c.hex-check.ensures ∙ ap hex_text c.from_u32-3.ensures) in
    rw text at c.put.ensures
