use Rattle.std.proofs.Common.{◌≡◌, ◌+◌, ◌++◌, false, ◌∷◌, [], arith, length-append}
use Rattle.a429_word.proofs.Outcomes.{if_ok_map, if_err_map}
use Rattle.a429_parts.proofs.KeepingFacts.{came_first, came_more}
use Rattle.a429_parts.proofs.PartsFacts.{cuts_all, cuts_before, cuts_until, cuts_until_end, few_wait, held_count, puts_nothing}
use Rattle.a429_parts.specs.Keeping.{taken}
use Rattle.a429_parts.specs.Parting.{outputs}
use Rattle.a429_parts.proofs.parting.put_parts.Goals as goal

pub entries-init : goal.entries-init
entries-init g c = record {
  entries = [];
  progress = record {
    parts = [];
    holds = c.new-parting.ensures.holds c.args.profile.now;
    puts = puts_nothing g.W.Write.contents c.args.profile.now c.args.most (g.P.Parts.known c.args.parts.now) c.args.sheet.now [];
  };
  came = came_first c.args.rec.now.to_come;
  current = c.new-parting.ensures.current;
  count = omega arith;
}

pub add-requires-clause-room : goal.add-requires-clause-room
add-requires-clause-room g c =
    let i = c.entries.invariant in
    let one : c.next_of.new.rec.count ≡ c.entries.rec.count + 1 = rw c.in-Some.is at c.in-Ok.ensures.counts in
    omega (
      arith,
      held_count c.args.profile.now c.args.most false i.progress.parts i.entries c.entries.parting i.progress.holds,
      i.count,
      one,
      rw c.in-Some.is at c.in-Ok.ensures.few,
    )

pub entries-preserved : goal.entries-preserved
entries-preserved g c =
    let i = c.entries.invariant in
    let e = c.in-Some.entry in
    let one : c.next_of.new.rec.count ≡ c.entries.rec.count + 1 = rw c.in-Some.is at c.in-Ok.ensures.counts in
    let both = c.in-Ok-add.ensures.ok c.args.most (g.P.Parts.known c.args.parts.now) c.args.sheet.now i.entries i.progress i.current in
    record {
      entries = i.entries ++ e ∷ [];
      progress = both.0;
      came =
          came_more c.args.rec.now.to_come c.entries.rec.to_come c.next_of.new.rec.to_come i.entries e
          (rw c.in-Some.is at c.in-Ok.ensures.gives) i.came;
      current = both.1;
      count = omega (arith, i.count, one, length-append i.entries (e ∷ []));
    }

pub returns-in-Err-add-clause-until : goal.returns-in-Err-add-clause-until
returns-in-Err-add-clause-until g c =
    let i = c.entries.invariant in
    let e = c.in-Some.entry in
    let one : c.next_of.new.rec.count ≡ c.entries.rec.count + 1 = rw c.in-Some.is at c.in-Ok.ensures.counts in
    cuts_until c.args.profile.now c.args.most
    (outputs g.W.Write.contents (g.P.Parts.known c.args.parts.now) (g.P.Parts.known c.add.new.parts) c.args.sheet.now c.add.new.sheet)
    (taken c.args.rec.now c.next_of.new.rec) c.next_of.new.rec.to_come (i.entries ++ e ∷ []) c.in-Err-add.fault
    (came_more c.args.rec.now.to_come c.entries.rec.to_come c.next_of.new.rec.to_come i.entries e
    (rw c.in-Some.is at c.in-Ok.ensures.gives) i.came)
    (omega (arith, i.count, one, length-append i.entries (e ∷ [])))
    (c.in-Err-add.ensures.err c.args.most (g.P.Parts.known c.args.parts.now) c.args.sheet.now i.entries i.progress i.current)

pub returns-in_default-clause-all : goal.returns-in_default-clause-all
returns-in_default-clause-all g c =
    let i = c.entries.invariant in
    let none : c.next_of.new.rec.count ≡ c.entries.rec.count + 0 = rw c.in_default.is at c.in-Ok.ensures.counts in
    if_ok_map c.finish.result c.finish.ensures.ok (λ list done.
    cuts_all c.args.profile.now c.args.most
    (outputs g.W.Write.contents (g.P.Parts.known c.args.parts.now) (g.P.Parts.known c.finish.new.parts) c.args.sheet.now c.finish.new.sheet)
    (taken c.args.rec.now c.next_of.new.rec) c.entries.rec.to_come c.next_of.new.rec.to_come i.entries list.items i.came
    (omega (arith, i.count, none))
    (rw c.in_default.is at c.in-Ok.ensures.gives)
    (done c.args.profile.now c.args.most (g.P.Parts.known c.args.parts.now) c.args.sheet.now i.entries i.progress))

pub returns-in_default-clause-until : goal.returns-in_default-clause-until
returns-in_default-clause-until g c =
    let i = c.entries.invariant in
    let none : c.next_of.new.rec.count ≡ c.entries.rec.count + 0 = rw c.in_default.is at c.in-Ok.ensures.counts in
    if_err_map c.finish.result c.finish.ensures.err (λ fault ended.
    cuts_until_end c.args.profile.now c.args.most
    (outputs g.W.Write.contents (g.P.Parts.known c.args.parts.now) (g.P.Parts.known c.finish.new.parts) c.args.sheet.now c.finish.new.sheet)
    (taken c.args.rec.now c.next_of.new.rec) c.entries.rec.to_come c.next_of.new.rec.to_come i.entries fault i.came
    (omega (arith, i.count, none))
    (rw c.in_default.is at c.in-Ok.ensures.gives)
    (ended c.args.profile.now c.args.most (g.P.Parts.known c.args.parts.now) c.args.sheet.now i.entries
    (omega (arith, few_wait c.entries.parting i.progress.holds i.current)) i.progress))

pub returns-in-Err-clause-until : goal.returns-in-Err-clause-until
returns-in-Err-clause-until g c =
    let i = c.entries.invariant in
    let none : c.next_of.new.rec.count ≡ c.entries.rec.count + 0 = c.in-Err.ensures.counts in
    cuts_before c.args.profile.now c.args.most
    (outputs g.W.Write.contents (g.P.Parts.known c.args.parts.now) (g.P.Parts.known c.entries.parts) c.args.sheet.now c.entries.sheet)
    (taken c.args.rec.now c.next_of.new.rec) c.entries.rec.to_come c.next_of.new.rec.to_come i.entries c.entries.parting c.in-Err.fault
    i.came (omega (arith, i.count, none))
    c.in-Err.ensures.gives i.progress i.current
