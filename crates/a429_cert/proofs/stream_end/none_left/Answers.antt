use Rattle.std.proofs.Common.{rules, ◌≡◌, ◌∙◌, Option, Ok, refl, ap, subst, inl, inr}
use Rattle.a429_record.specs.declared.entry.Entry.{Entry}
use Rattle.a429_record.specs.declared.fault.ReadFault.TheVariants as read
use Rattle.a429_record.specs.Rows.{GivesNext}
use Rattle.a429_cert.proofs.StreamReplay.{read_no_device, read_device}
use Rattle.a429_cert.proofs.stream_end.none_left.Goals as goal

pub returns-in-Ok-None-clause-ok : goal.returns-in-Ok-None-clause-ok
returns-in-Ok-None-clause-ok g c =
    subst (GivesNext c.args.rec.now.to_come c.next.new.self.to_come)
    (c.in-Ok-None.is ∙ ap (λ (o : Option Entry). Ok o) c.in-Ok-None.field-0-is) c.next.ensures.gives

pub returns-in-Ok-Some-clause-err : goal.returns-in-Ok-Some-clause-err
returns-in-Ok-Some-clause-err g c =
    inl (
      c.in-Ok-Some.field-0-0,
      subst (GivesNext c.args.rec.now.to_come c.next.new.self.to_come)
          (c.in-Ok-Some.is ∙ ap (λ (o : Option Entry). Ok o) c.in-Ok-Some.field-0-is) c.next.ensures.gives,
      refl,
    )

pub returns-in-Err-clause-err : goal.returns-in-Err-clause-err
returns-in-Err-clause-err g c =
    inr
    (c.in-Err.fault, subst (GivesNext c.args.rec.now.to_come c.next.new.self.to_come) c.in-Err.is c.next.ensures.gives, c.of_read.ensures)

pub returns-in-Err-clause-device : goal.returns-in-Err-clause-device
returns-in-Err-clause-device g c = λ e. read_no_device c.in-Err.fault (cc (c.of_read.ensures, e))

pub returns-in-Err-clause-read : goal.returns-in-Err-clause-read
returns-in-Err-clause-read g c = λ e.
    let same : c.in-Err.fault ≡ read.Device = read_device c.in-Err.fault (cc (c.of_read.ensures, e)) in
    (c.in-Err.ensures.device.0 (cc same)).1

pub returns-in-Ok-Some-clause-ok : goal.returns-in-Ok-Some-clause-ok
returns-in-Ok-Some-clause-ok g c = search rules
