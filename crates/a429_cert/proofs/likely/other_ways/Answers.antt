use Rattle.std.proofs.Common.{arith}
use Rattle.a429_link.specs.declared.state.SinkState.TheVariants as sink
use Rattle.a429_cert.proofs.LikelyFacts.{other_ways}
use Rattle.a429_cert.proofs.likely.other_ways.Goals as goal

pub returns-in-Quiet-eq0-eq0 : goal.returns-in-Quiet-eq0-eq0
returns-in-Quiet-eq0-eq0 c =
    other_ways c.args.states sink.Quiet 0 0 c.as_slice.result.now c.in-Quiet-eq0-eq0.is-0 c.in-Quiet-eq0-eq0.is-1 c.in-Quiet-eq0-eq0.is-2 tt
    (omega arith) (omega arith) c.as_slice.ensures

pub returns-in-Quiet-eq0-eq1 : goal.returns-in-Quiet-eq0-eq1
returns-in-Quiet-eq0-eq1 c =
    other_ways c.args.states sink.Quiet 0 1 c.as_slice-in-Quiet-eq0-eq1.result.now c.in-Quiet-eq0-eq1.is-0 c.in-Quiet-eq0-eq1.is-1
    c.in-Quiet-eq0-eq1.is-2 tt (omega arith) (omega arith) c.as_slice-in-Quiet-eq0-eq1.ensures

pub returns-in-Quiet-eq1-eq0 : goal.returns-in-Quiet-eq1-eq0
returns-in-Quiet-eq1-eq0 c =
    other_ways c.args.states sink.Quiet 1 0 c.as_slice-in-Quiet-eq1-eq0.result.now c.in-Quiet-eq1-eq0.is-0 c.in-Quiet-eq1-eq0.is-1
    c.in-Quiet-eq1-eq0.is-2 tt (omega arith) (omega arith) c.as_slice-in-Quiet-eq1-eq0.ensures

pub returns-in-OwesClear-eq0-eq0 : goal.returns-in-OwesClear-eq0-eq0
returns-in-OwesClear-eq0-eq0 c =
    other_ways c.args.states sink.OwesClear 0 0 c.as_slice-in-OwesClear-eq0-eq0.result.now c.in-OwesClear-eq0-eq0.is-0
    c.in-OwesClear-eq0-eq0.is-1 c.in-OwesClear-eq0-eq0.is-2 tt (omega arith) (omega arith) c.as_slice-in-OwesClear-eq0-eq0.ensures

pub returns-in-Granted-eq0-eq1 : goal.returns-in-Granted-eq0-eq1
returns-in-Granted-eq0-eq1 c =
    other_ways c.args.states sink.Granted 0 1 c.as_slice-in-Granted-eq0-eq1.result.now c.in-Granted-eq0-eq1.is-0 c.in-Granted-eq0-eq1.is-1
    c.in-Granted-eq0-eq1.is-2 tt (omega arith) (omega arith) c.as_slice-in-Granted-eq0-eq1.ensures

pub returns-in-OwesAck-eq0-eq0 : goal.returns-in-OwesAck-eq0-eq0
returns-in-OwesAck-eq0-eq0 c =
    other_ways c.args.states sink.OwesAck 0 0 c.as_slice-in-OwesAck-eq0-eq0.result.now c.in-OwesAck-eq0-eq0.is-0 c.in-OwesAck-eq0-eq0.is-1
    c.in-OwesAck-eq0-eq0.is-2 tt (omega arith) (omega arith) c.as_slice-in-OwesAck-eq0-eq0.ensures

pub returns-in-OwesNak-eq0-eq0 : goal.returns-in-OwesNak-eq0-eq0
returns-in-OwesNak-eq0-eq0 c =
    other_ways c.args.states sink.OwesNak 0 0 c.as_slice-in-OwesNak-eq0-eq0.result.now c.in-OwesNak-eq0-eq0.is-0 c.in-OwesNak-eq0-eq0.is-1
    c.in-OwesNak-eq0-eq0.is-2 tt (omega arith) (omega arith) c.as_slice-in-OwesNak-eq0-eq0.ensures
