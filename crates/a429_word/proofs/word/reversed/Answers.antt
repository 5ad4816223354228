use Rattle.std.proofs.Common.{◌<◌, arith, ap, ◌∙◌}
use Rattle.a429_word.proofs.WordBits.{reversed, reversed-is}
use Rattle.a429_word.proofs.Tables.{tabulated-at}
use Rattle.a429_word.proofs.word.reversed.Goals as goal

pub returns : goal.returns
returns c =
    let inside : c.from.result < 256 = omega arith in
    tabulated-at reversed 256 c.from.result inside ∙ ap reversed c.from.ensures ∙ reversed-is c.args.byte
