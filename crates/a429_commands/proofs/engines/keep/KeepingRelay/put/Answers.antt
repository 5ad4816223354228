use Rattle.std.proofs.Common.{inl, inr, refl}
use Rattle.a429_parts.specs.Keeping.{taken}
use Rattle.a429_commands.proofs.KeepFacts.{begins, before_fault}
use Rattle.a429_commands.proofs.engines.keep.KeepingRelay.put.Goals as goal

pub returns-in-Ok-clause-first : goal.returns-in-Ok-clause-first
returns-in-Ok-clause-first g c =
    let all = c.in-Ok.ensures.all in
    (_, record { entries = all.entries; first = all.first; text_is = inl refl }, all.says)

pub returns-in-Ok-clause-all : goal.returns-in-Ok-clause-all
returns-in-Ok-clause-all g c = λ works.
    let all = c.in-Ok.ensures.all in
    (_, record { entries = all.entries; came = all.came works; all = all.all works; status_is = refl; text_is = refl }, all.says)

pub returns-in-Err-clause-first : goal.returns-in-Err-clause-first
returns-in-Err-clause-first g c =
    let until = c.in-Err.ensures.until in (
      _,
      record {
        entries = until.entries;
        first = begins c.args.rec.now.to_come until.entries c.in-Err.fault until.stops;
        text_is = inr refl;
      },
      until.says,
    )

pub returns-in-Err-clause-all : goal.returns-in-Err-clause-all
returns-in-Err-clause-all g c = λ works.
    let until = c.in-Err.ensures.until in
    let t = taken c.args.rec.now c.put_kept.new.rec in (
      _,
      rw c.fault_of.ensures
          (before_fault c.args.profile.now t c.in-Err.fault _
          (record { entries = until.entries; came = until.came; stops = until.stops; text_is = refl })),
      until.says,
    )
