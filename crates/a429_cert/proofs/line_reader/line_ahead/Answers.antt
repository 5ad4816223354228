use Rattle.std.proofs.Common.{rules, ◌∙◌, ◌-◌, length, drop, sym, arith}
use Rattle.std.proofs.lemmas.List.{length-drop, take_all}
use Rattle.a429_cert.proofs.LikelyFacts.{line_pieces}
use Rattle.a429_cert.proofs.line_reader.line_ahead.Goals as goal

pub returns-clause-text : goal.returns-clause-text
returns-clause-text c =
    let bytes = c.args.bytes.now in
    let states = sym (take_all (length bytes - 1) (drop 1 bytes) (omega (arith, length-drop 1 bytes))) ∙ c.in_ok-ways.ensures in
    line_pieces bytes c.in_ok-ways.ways.now c.in_ok-rest.rest.now c.args.likely.source.now c.args.likely.ways.now c.args.likely.letter
    (search rules) (search rules) states (search rules) (search rules) (search rules)
