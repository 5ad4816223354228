use Rattle.std.proofs.Common.{◌<◌, refl, arith}
use Rattle.a429_explain.proofs.LossesFacts.{closes_with_rest, rest_fits, rest_written}
use Rattle.a429_explain.proofs.scribe.Scribe.lose_rest.Goals as goal

pub overflow_add-sent-2 : goal.overflow_add-sent-2
overflow_add-sent-2 c =
    let some : 0 < c.lose_rest-words.result = omega (arith, c.if-words-eq0.false) in
    let words = c.lose_rest-words.ensures in
    omega (
      arith,
      rest_fits c.args.self.now.link c.states-before.result c.in-Sending.sent c.lose_rest-words.result c.states-before.ensures.states
          c.in-Sending.is words.count some words.bounds,
    )

pub returns-in-Ok-clause-written : goal.returns-in-Ok-clause-written
returns-in-Ok-clause-written c =
    let some : 0 < c.lose_rest-words.result = omega (arith, c.if-words-eq0.false) in
    let words = c.lose_rest-words.ensures in
    rest_written c.args.self.now (record (c.args.self.now) { link = c.lose_rest-words.new.self; lines = c.put_losses.new.self })
    c.states-before.result c.in-Sending.sent c.lose_rest-words.result c.states-before.ensures.states c.in-Sending.is words.count some
    words.bounds words.done refl c.in-Ok.ensures.held c.in-Ok.ensures.ok

pub returns-in-Ok-clause-closed : goal.returns-in-Ok-clause-closed
returns-in-Ok-clause-closed c =
    closes_with_rest c.args.self.now.link c.lose_rest-words.new.self c.lose_rest-words.result c.lose_rest-words.ensures.done
