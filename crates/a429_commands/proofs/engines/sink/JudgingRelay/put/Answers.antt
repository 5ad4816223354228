use Rattle.std.proofs.Common.{[], Err, Ok, refl}
use Rattle.a429_word.proofs.SheetFacts.{says_nothing}
use Rattle.a429_parts.specs.Keeping.{taken}
use Rattle.a429_view.specs.Sink.{sink_text}
use Rattle.a429_commands.proofs.SinkFacts.{judges_none}
use Rattle.a429_commands.proofs.engines.sink.JudgingRelay.put.Goals as goal

pub returns-in-Ok-clause-first : goal.returns-in-Ok-clause-first
returns-in-Ok-clause-first g c =
    let v = c.in-Ok.verdict in (
      sink_text v,
      (Ok c.status_of.result, record { verdict = v; is = c.in-Ok.ensures.verdict; status_is = c.status_of.ensures; text_is = refl }),
      c.put_sink.ensures,
    )

pub returns-in-Err-clause-first : goal.returns-in-Err-clause-first
returns-in-Err-clause-first g c =
    let t = taken c.args.rec.now c.judge_sink.new.rec in (
      [],
      (
        Err c.fault_of.result,
        rw c.fault_of.ensures
            (judges_none c.args.profile.now t c.in-Err.fault [] (record { came = c.in-Err.ensures.fault; text_is = refl })),
      ),
      says_nothing g.W.Write.contents c.args.sheet.now,
    )

pub returns-in-Err-clause-all : goal.returns-in-Err-clause-all
returns-in-Err-clause-all g c = λ works.
    let t = taken c.args.rec.now c.judge_sink.new.rec in (
      [],
      rw c.fault_of.ensures (judges_none c.args.profile.now t c.in-Err.fault [] (record { came = c.in-Err.ensures.fault; text_is = refl })),
      says_nothing g.W.Write.contents c.args.sheet.now,
    )
