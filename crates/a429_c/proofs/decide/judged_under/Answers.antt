use Rattle.std.proofs.Common.{List, subst}
use Rattle.a429_record.specs.declared.entry.Entry.{Entry}
use Rattle.a429_cert.specs.Explained.{items_of}
use Rattle.a429_c.specs.Verdict.{IsDecided}
use Rattle.a429_c.proofs.decide.judged_under.Goals as goal

pub returns-in-Ok : goal.returns-in-Ok
returns-in-Ok c =
    let e = c.in-Ok.ensures in (
      c.in_ok-entries.entries.items,
      c.in_ok-entries.ensures,
      subst (λ (es : List Entry). IsDecided c.args.profile.now (items_of es) c.in-Ok.decision.verdict) c.as_slice.ensures.value
          (record {
            sound = e.explained;
            accepted = e.accepted;
            version = e.version;
            impossible = e.impossible;
            doubted = e.doubted;
            of_check = e.of_check;
            cut = c.in-Ok.decision.cut;
            exact = e.exact;
          }),
    )
