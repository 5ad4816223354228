use Rattle.a429_sink.proofs.SplittingFacts.{at_entry, past_entries, replay_more, replayed}
use Rattle.a429_sink.proofs.splitting.Splitting.see_again.Goals as goal

pub returns-in_default : goal.returns-in_default
returns-in_default c = λ at_end first now es is.
    let none = rw c.in_default.is at c.get.ensures.lookup in
    replayed c.args.profile.now at_end first now es c.entries.next c.entries.self
    (past_entries c.deref.result.now c.entries.self.held.items c.entries.next c.deref.ensures.value none.3)
    (c.entries.invariant at_end first now es is)

pub entries-preserved : goal.entries-preserved
entries-preserved c = λ at_end first now es is.
    let e = c.in-Some.entry.now in
    let here = rw c.in-Some.is at c.get.ensures.lookup in
    replay_more c.args.profile.now at_end first now es c.entries.next e c.entries.self c.see.new.self
    (at_entry c.deref.result.now c.entries.self.held.items c.entries.next e c.deref.ensures.value here.3.0 here.1)
    c.in-Ok.ensures.sees c.in-Ok.ensures.same.0 c.in-Ok.ensures.same.1 c.in-Ok.ensures.same.2 (c.entries.invariant at_end first now es is)
