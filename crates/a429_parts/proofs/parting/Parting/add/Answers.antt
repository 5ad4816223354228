use Rattle.std.proofs.Common.{◌++◌, ◌∷◌, [], arith, false, inr, length-append, refl}
use Rattle.a429_record.specs.declared.fault.ReadFault.TheVariants as read
use Rattle.a429_word.proofs.SheetFacts.{says_nothing}
use Rattle.a429_parts.proofs.PartsFacts.{few_wait, same_parts, stopped, trouble_reason}
use Rattle.a429_parts.proofs.parting.Parting.add.Goals as goal

pub returns-in-Err-clause-err : goal.returns-in-Err-clause-err
returns-in-Err-clause-err g c most known first es h current =
    let waiting = c.args.self.now.cutter.waiting in
    record {
      parts = h.parts;
      rest = waiting ++ c.args.entry.now ∷ [];
      few = omega (arith, few_wait c.args.self.now h.holds current, length-append waiting (c.args.entry.now ∷ []));
      are = h.holds.are (c.args.entry.now ∷ []) tt;
      puts = h.puts;
      reason = λ more left. trouble_reason c.args.profile.now most _ _ _ c.in-Err.fault (inr c.in-Err.ensures.err);
    }

pub returns-in-Err-put_complete-clause-err : goal.returns-in-Err-put_complete-clause-err
returns-in-Err-put_complete-clause-err g c most known first es h current =
    c.in-Err-put_complete.ensures.err c.args.profile.now most known first (es ++ c.args.entry.now ∷ [])
    (omega (arith, few_wait c.args.self.now h.holds current, c.in-Ok.ensures.waits))
    (record { parts = h.parts; holds = c.in-Ok.ensures.ok most h.parts es h.holds current; puts = h.puts })

pub returns-then-failed-clause-err : goal.returns-then-failed-clause-err
returns-then-failed-clause-err g c most known first es h current =
    let p = c.args.profile.now in
    let now = es ++ c.args.entry.now ∷ [] in
    let ended = c.put_complete.new in
    let holds = c.in-Ok.ensures.ok most h.parts es h.holds current in
    let all = c.in-Ok-put_complete.ensures.ok p most known first now (record { parts = h.parts; holds = holds; puts = h.puts }) in
    stopped g.W.Write.contents p most known first now false (g.P.Parts.known ended.parts)
    (g.P.Parts.known ended.parts) ended.sheet ended.sheet ended.self read.Device all
    (omega (arith, few_wait ended.self all.holds (c.in-Ok-put_complete.ensures.current refl holds.reach)))
    (same_parts (g.P.Parts.known ended.parts)) (says_nothing g.W.Write.contents ended.sheet) (λ more left. tt)

pub returns-clause-ok : goal.returns-clause-ok
returns-clause-ok g c most known first es h current =
    let holds = c.in-Ok.ensures.ok most h.parts es h.holds current in (
      c.in-Ok-put_complete.ensures.ok c.args.profile.now most known first (es ++ c.args.entry.now ∷ [])
          (record { parts = h.parts; holds = holds; puts = h.puts }),
      c.in-Ok-put_complete.ensures.current refl holds.reach,
    )
