use Rattle.std.proofs.Common.{◌≡◌, ◌≤◌, ◌+◌, Option, option_map, refl, subst, sym}
use Rattle.std.proofs.lemmas.Result.{IfOk-weaker, IfErr-weaker}
use Rattle.a429_link.specs.declared.seen.Seen.{Seen}
use Rattle.a429_record.specs.declared.fault.ReadFault.TheVariants as read
use Rattle.a429_cert.specs.declared.listed.Listed.{Listed}
use Rattle.a429_cert.specs.declared.listed.Listed.TheVariants as listed
use Rattle.a429_cert.specs.Explained.{seen_of}
use Rattle.a429_cert.specs.Passing.{PassesListed, uses_listed}
use Rattle.a429_cert.specs.Stream.{ReplaysNext, EndsNext, IsNotTaken, GivesAtFault}
use Rattle.a429_cert.proofs.StreamFacts.{passes_next, few_used, used_given, most_given, none_given, not_taken_given}
use Rattle.a429_cert.proofs.ReportFacts.{ends_next, not_read}
use Rattle.a429_cert.proofs.StreamReplay.{read_device, read_no_device}
use Rattle.a429_cert.proofs.ReplayKept.{read_unreported}
use Rattle.a429_cert.proofs.TriesFacts.{tries_none}
use Rattle.a429_cert.proofs.replay.step_and_report.Goals as goal
use Rattle.a429_cert.specs.Change.{change}

pub returns-in-Load-clause-passed : goal.returns-in-Load-clause-passed
returns-in-Load-clause-passed g c =
    let replay = c.args.replay.now in
    let p = replay.link.profile in
    let t = c.load_and_report.new.replay.link.state in
    let next = option_map seen_of c.in-Ok.next in
    IfOk-weaker c.load_and_report.result (λ used. (o : Option Seen)
    → PassesListed p (listed.Load c.in-Load.unit) o (change replay.link.state t) used)
    (ReplaysNext (change replay c.load_and_report.new.replay) c.args.listed (change c.args.rec.now.to_come c.entry_for.new.rec.to_come))
    (λ used h.
    passes_next p c.args.listed replay.link.state t c.args.rec.now.to_come c.entry_for.new.rec.to_come next used c.in-Ok.ensures.taken
    (subst (λ (x : Listed). PassesListed p x next (change replay.link.state t) used) (sym c.in-Load.is) (h next)))
    c.load_and_report.ensures.passed

pub returns-in-Load-clause-few : goal.returns-in-Load-clause-few
returns-in-Load-clause-few g c =
    let replay = c.args.replay.now in
    let p = replay.link.profile in
    let t = c.load_and_report.new.replay.link.state in
    let next = option_map seen_of c.in-Ok.next in
    IfOk-weaker c.load_and_report.result (λ used. (o : Option Seen)
    → PassesListed p (listed.Load c.in-Load.unit) o (change replay.link.state t) used) (λ used. used ≤ 1)
    (λ used h. few_used p (listed.Load c.in-Load.unit) next replay.link.state t used (h next))
    c.load_and_report.ensures.passed

pub returns-in-Load-clause-refused : goal.returns-in-Load-clause-refused
returns-in-Load-clause-refused g c =
    let replay = c.args.replay.now in
    let next = option_map seen_of c.in-Ok.next in
    IfErr-weaker c.load_and_report.result (λ f. (o : Option Seen)
    → IsNotTaken replay (listed.Load c.in-Load.unit) o f) (EndsNext replay c.args.listed c.args.rec.now.to_come)
    (λ f h. ends_next replay c.args.listed c.args.rec.now.to_come c.entry_for.new.rec.to_come next f c.in-Ok.ensures.taken
    (subst (λ (x : Listed). IsNotTaken replay x next f) (sym c.in-Load.is) (h next)))
    c.load_and_report.ensures.refused

pub returns-in-Load-clause-read : goal.returns-in-Load-clause-read
returns-in-Load-clause-read g c =
    λ e.
    absurd (not_read c.args.replay.now
    (listed.Load c.in-Load.unit) c.load_and_report.result read.Device c.load_and_report.ensures.refused e)

pub returns-in-Moved-clause-passed : goal.returns-in-Moved-clause-passed
returns-in-Moved-clause-passed g c =
    let replay = c.args.replay.now in
    let p = replay.link.profile in
    let t = c.move_and_report.new.replay.link.state in
    let next = option_map seen_of c.in-Ok.next in
    IfOk-weaker c.move_and_report.result (PassesListed p (listed.Moved c.in-Moved.line) next (change replay.link.state t))
    (ReplaysNext (change replay c.move_and_report.new.replay) c.args.listed (change c.args.rec.now.to_come c.entry_for.new.rec.to_come))
    (λ used h.
    passes_next p c.args.listed replay.link.state t c.args.rec.now.to_come c.entry_for.new.rec.to_come next used c.in-Ok.ensures.taken
    (subst (λ (x : Listed). PassesListed p x next (change replay.link.state t) used) (sym c.in-Moved.is) h))
    c.move_and_report.ensures.passed

pub returns-in-Moved-clause-few : goal.returns-in-Moved-clause-few
returns-in-Moved-clause-few g c =
    let replay = c.args.replay.now in
    let p = replay.link.profile in
    let t = c.move_and_report.new.replay.link.state in
    let next = option_map seen_of c.in-Ok.next in
    IfOk-weaker c.move_and_report.result (PassesListed p (listed.Moved c.in-Moved.line) next (change replay.link.state t))
    (λ used. used ≤ 1)
    (few_used p (listed.Moved c.in-Moved.line) next replay.link.state t)
    c.move_and_report.ensures.passed

pub returns-in-Moved-clause-refused : goal.returns-in-Moved-clause-refused
returns-in-Moved-clause-refused g c =
    let replay = c.args.replay.now in
    let next = option_map seen_of c.in-Ok.next in
    IfErr-weaker c.move_and_report.result (IsNotTaken replay (listed.Moved c.in-Moved.line) next)
    (EndsNext replay c.args.listed c.args.rec.now.to_come)
    (λ f h. ends_next replay c.args.listed c.args.rec.now.to_come c.entry_for.new.rec.to_come next f c.in-Ok.ensures.taken
    (subst (λ (x : Listed). IsNotTaken replay x next f) (sym c.in-Moved.is) h))
    c.move_and_report.ensures.refused

pub returns-in-Err-clause-given : goal.returns-in-Err-clause-given
returns-in-Err-clause-given g c =
    let old = c.args.rec.now.count in
    let new = c.entry_for.new.rec.count in
    subst (λ f. GivesAtFault (uses_listed c.args.listed ≡ 1) f old new) (sym c.of_read.ensures)
    (none_given (uses_listed c.args.listed ≡ 1) c.in-Err.fault old new c.in-Err.ensures.none)

pub returns-in-Load-clause-counts : goal.returns-in-Load-clause-counts
returns-in-Load-clause-counts g c =
    let replay = c.args.replay.now in
    let p = replay.link.profile in
    let t = c.load_and_report.new.replay.link.state in
    let next = option_map seen_of c.in-Ok.next in
    IfOk-weaker c.load_and_report.result (λ used. (o : Option Seen)
    → PassesListed p (listed.Load c.in-Load.unit) o (change replay.link.state t) used)
    (λ used. c.entry_for.new.rec.count ≡ c.args.rec.now.count + used)
    (λ used h.
    used_given p c.args.listed c.in-Ok.next replay.link.state t used c.args.rec.now.count c.entry_for.new.rec.count c.in-Ok.ensures.given
    (subst (λ (x : Listed). PassesListed p x next (change replay.link.state t) used) (sym c.in-Load.is) (h next)))
    c.load_and_report.ensures.passed

pub returns-in-Load-clause-given : goal.returns-in-Load-clause-given
returns-in-Load-clause-given g c =
    let replay = c.args.replay.now in
    let old = c.args.rec.now.count in
    let new = c.entry_for.new.rec.count in
    let next = option_map seen_of c.in-Ok.next in
    IfErr-weaker c.load_and_report.result (λ f. (o : Option Seen)
    → IsNotTaken replay (listed.Load c.in-Load.unit) o f) (λ f. GivesAtFault (uses_listed c.args.listed ≡ 1) f old new)
    (λ f h. not_taken_given replay (listed.Load c.in-Load.unit) next (uses_listed c.args.listed ≡ 1) f old new (h next)
    (most_given (uses_listed c.args.listed) c.in-Ok.next old new c.in-Ok.ensures.given))
    c.load_and_report.ensures.refused

pub returns-in-Moved-clause-counts : goal.returns-in-Moved-clause-counts
returns-in-Moved-clause-counts g c =
    let replay = c.args.replay.now in
    let p = replay.link.profile in
    let t = c.move_and_report.new.replay.link.state in
    let next = option_map seen_of c.in-Ok.next in
    IfOk-weaker c.move_and_report.result (PassesListed p (listed.Moved c.in-Moved.line) next (change replay.link.state t))
    (λ used. c.entry_for.new.rec.count ≡ c.args.rec.now.count + used)
    (λ used h.
    used_given p c.args.listed c.in-Ok.next replay.link.state t used c.args.rec.now.count c.entry_for.new.rec.count c.in-Ok.ensures.given
    (subst (λ (x : Listed). PassesListed p x next (change replay.link.state t) used) (sym c.in-Moved.is) h))
    c.move_and_report.ensures.passed

pub returns-in-Moved-clause-given : goal.returns-in-Moved-clause-given
returns-in-Moved-clause-given g c =
    let replay = c.args.replay.now in
    let old = c.args.rec.now.count in
    let new = c.entry_for.new.rec.count in
    let next = option_map seen_of c.in-Ok.next in
    IfErr-weaker c.move_and_report.result (IsNotTaken replay (listed.Moved c.in-Moved.line) next)
    (λ f. GivesAtFault (uses_listed c.args.listed ≡ 1) f old new)
    (λ f h. not_taken_given replay (listed.Moved c.in-Moved.line) next (uses_listed c.args.listed ≡ 1) f old new h
    (most_given (uses_listed c.args.listed) c.in-Ok.next old new c.in-Ok.ensures.given))
    c.move_and_report.ensures.refused

pub returns-in-Err-clause-unreported : goal.returns-in-Err-clause-unreported
returns-in-Err-clause-unreported g c = rw c.of_read.ensures (read_unreported c.args.listener.now c.in-Err.fault)

pub returns-in-Err-clause-device : goal.returns-in-Err-clause-device
returns-in-Err-clause-device g c = λ e. absurd (read_no_device c.in-Err.fault (cc (e, c.of_read.ensures)))

pub returns-in-Err-clause-read : goal.returns-in-Err-clause-read
returns-in-Err-clause-read g c = λ e. c.in-Err.ensures.device (cc (read_device c.in-Err.fault (cc (e, c.of_read.ensures))))

pub returns-in-Err-clause-kept : goal.returns-in-Err-clause-kept
returns-in-Err-clause-kept g c = refl

pub returns-in-Err-clause-profile : goal.returns-in-Err-clause-profile
returns-in-Err-clause-profile g c = refl

pub returns-in-Load-clause-unreported : goal.returns-in-Load-clause-unreported
returns-in-Load-clause-unreported g c = c.load_and_report.ensures.unreported

pub returns-in-Load-clause-device : goal.returns-in-Load-clause-device
returns-in-Load-clause-device g c = c.load_and_report.ensures.device

pub returns-in-Load-clause-kept : goal.returns-in-Load-clause-kept
returns-in-Load-clause-kept g c = c.load_and_report.ensures.kept

pub returns-in-Load-clause-profile : goal.returns-in-Load-clause-profile
returns-in-Load-clause-profile g c = c.load_and_report.ensures.profile

pub returns-in-Moved-clause-unreported : goal.returns-in-Moved-clause-unreported
returns-in-Moved-clause-unreported g c = c.move_and_report.ensures.unreported

pub returns-in-Moved-clause-device : goal.returns-in-Moved-clause-device
returns-in-Moved-clause-device g c = c.move_and_report.ensures.device

pub returns-in-Moved-clause-kept : goal.returns-in-Moved-clause-kept
returns-in-Moved-clause-kept g c = c.move_and_report.ensures.kept

pub returns-in-Moved-clause-profile : goal.returns-in-Moved-clause-profile
returns-in-Moved-clause-profile g c = c.move_and_report.ensures.profile

pub returns-in-Err-clause-tried : goal.returns-in-Err-clause-tried
returns-in-Err-clause-tried g c = tries_none g.T.Listener.tries c.args.replay.now.profile.now c.args.listener.now

pub returns-in-Load-clause-tried : goal.returns-in-Load-clause-tried
returns-in-Load-clause-tried g c = c.load_and_report.ensures.tried

pub returns-in-Moved-clause-tried : goal.returns-in-Moved-clause-tried
returns-in-Moved-clause-tried g c = c.move_and_report.ensures.tried
