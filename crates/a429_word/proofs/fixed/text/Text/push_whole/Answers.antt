use Rattle.std.proofs.Common.{ap, ◌∙◌, ◌++◌, arith, rules, length, length-append, length-drop}
use Rattle.std.specs.Fmt.{decimal}
use Rattle.a429_word.proofs.FixedDecimals.{decimal-moves, length-decimal, room}
use Rattle.a429_word.proofs.fixed.text.Text.push_whole.Goals as goal

pub push_last_digit-rest-requires : goal.push_last_digit-rest-requires
push_last_digit-rest-requires c =
    let l = c.loop-rest in
    omega (arith, room c.args.number l.rest l.self c.args.self.now (omega arith) l.invariant.1 c.requires l.invariant.0)

pub loop-rest-preserved : goal.loop-rest-preserved
loop-rest-preserved c =
    let l = c.loop-rest in
    let pushed = c.push_last_digit-rest.ensures in
    (rw (pushed.text, pushed.rest) (decimal-moves l.rest l.self (omega arith) (omega arith) ∙ l.invariant.0), omega (arith, pushed.rest))

pub write_digits-self-inside-requires : goal.write_digits-self-inside-requires
write_digits-self-inside-requires c =
    let l = c.loop-rest in
    let fits = room c.args.number l.rest l.self c.args.self.now (omega arith) l.invariant.1 c.requires l.invariant.0 in
    (omega (arith, fits, ap length c.self.view_is, length-drop c.self.inside.start c.self.inside.bytes), search rules)

pub returns-clause-len : goal.returns-clause-len
returns-clause-len c =
    let l = c.loop-rest in
    let text = c.write_digits-self-inside.ensures.written ∙ ap (λ t. decimal l.rest ++ t) c.self.view_is ∙ l.invariant.0 in
    omega (arith, ap length text, length-decimal c.args.number (omega arith), length-append (decimal c.args.number) c.args.self.now)
