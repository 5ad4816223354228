use Rattle.std.proofs.Common.{◌≡◌, ◌∙◌, inl, refl, rules, subst, sym}
use Rattle.std.proofs.lemmas.Option.{IfSome_then}
use Rattle.std.proofs.lemmas.Result.{IfErr-weaker, on_ok_weaker}
use Rattle.a429_cert.specs.Lines.{line_bytes}
use Rattle.a429_cert.specs.Version.{read_as}
use Rattle.a429_cert.specs.Passing.{uses_listed}
use Rattle.a429_cert.specs.Stream.{RefusesNext, RefusesOver, GivesAtFault, WantsEntry}
use Rattle.a429_cert.proofs.StreamFacts.{refused_text, refused_first, cert_given, line_given}
use Rattle.a429_cert.proofs.ReportFacts.{hears_text}
use Rattle.a429_cert.proofs.ReplayKept.{cert_unreported, cert_no_device, cert_no_read, says_ended}
use Rattle.a429_record.specs.declared.fault.ReadFault.TheVariants as read
use Rattle.a429_cert.proofs.TriesFacts.{tries_none}
use Rattle.a429_cert.proofs.replay.replay_and_report.Goals as goal
use Rattle.a429_cert.specs.Report.{position}

pub returns-in-Ok-clause-refused : goal.returns-in-Ok-clause-refused
returns-in-Ok-clause-refused g c =
    let p = c.args.replay.now.profile.now in
    let s = c.args.replay.now.link.state in
    IfErr-weaker c.step_and_report.result
    (RefusesNext p c.in-Ok.listed (position s c.args.rec.now.to_come c.args.replay.now.used) c.args.replay.now.lines)
    (RefusesOver p (read_as c.args.replay.now.version (line_bytes c.args.line))
    (position s c.args.rec.now.to_come c.args.replay.now.used) c.args.replay.now.lines)
    (λ f h. refused_text p (read_as c.args.replay.now.version (line_bytes c.args.line)) c.in-Ok.listed s c.args.rec.now.to_come
    c.args.replay.now.lines c.args.replay.now.used f (rw c.read-text.ensures at c.in-Ok.ensures.listed) h)
    (rw c.requires.profile at c.step_and_report.ensures.refused)

pub returns-in-Ok-clause-heard : goal.returns-in-Ok-clause-heard
returns-in-Ok-clause-heard g c =
    let p = c.args.replay.now.profile.now in
    on_ok_weaker c.step_and_report.result
    (λ h. hears_text g.T.Listener.hears p (read_as c.args.replay.now.version (line_bytes c.args.line)) c.in-Ok.listed
    c.args.replay.now.link.state c.args.rec.now.to_come c.args.replay.now.used c.args.listener.now c.step_and_report.new.listener
    (rw c.read-text.ensures at c.in-Ok.ensures.listed) h)
    c.step_and_report.ensures.heard

pub returns-in-Err-clause-refused : goal.returns-in-Err-clause-refused
returns-in-Err-clause-refused g c =
    let p = c.args.replay.now.profile.now in
    let s = c.args.replay.now.link.state in
    subst (RefusesOver p (read_as c.args.replay.now.version (line_bytes c.args.line))
    (position s c.args.rec.now.to_come c.args.replay.now.used) c.args.replay.now.lines)
    (sym c.of_cert.ensures)
    (refused_first p (read_as c.args.replay.now.version (line_bytes c.args.line)) s c.args.rec.now.to_come c.args.replay.now.lines
    c.args.replay.now.used c.in-Err.fault (rw c.read-text.ensures at c.in-Err.ensures.refused))

pub returns-in-Ok-clause-passed : goal.returns-in-Ok-clause-passed
returns-in-Ok-clause-passed g c = search rules

pub returns-in-Ok-clause-given : goal.returns-in-Ok-clause-given
returns-in-Ok-clause-given g c =
    let p = c.args.replay.now.profile.now in
    let s = c.args.replay.now.link.state in
    let text = read_as c.args.replay.now.version (line_bytes c.args.line) in
    let old = c.args.rec.now.count in
    let new = c.step_and_report.new.rec.count in
    IfErr-weaker c.step_and_report.result (λ f. GivesAtFault (uses_listed c.in-Ok.listed ≡ 1) f old new)
    (λ f. GivesAtFault (WantsEntry p text s) f old new)
    (λ f h. line_given p text c.in-Ok.listed s f old new (rw c.read-text.ensures at c.in-Ok.ensures.listed) h)
    c.step_and_report.ensures.given

pub returns-in-Err-clause-given : goal.returns-in-Err-clause-given
returns-in-Err-clause-given g c =
    let n = c.args.rec.now.count in
    let Wants =
    WantsEntry c.args.replay.now.profile.now (read_as c.args.replay.now.version (line_bytes c.args.line)) c.args.replay.now.link.state in
    subst (λ f. GivesAtFault Wants f n n) (sym c.of_cert.ensures) (cert_given Wants c.in-Err.fault n n (inl refl))

pub read_step-requires : goal.read_step-requires
read_step-requires g c = record {
  sound = c.requires.sound;
  profile = c.requires.profile;
  known = rw c.read-text.ensures (IfSome_then c.args.known c.requires.known (λ m h. h c.args.replay.now.version));
}

pub step_and_report-requires : goal.step_and_report-requires
step_and_report-requires g c = rw c.requires.profile c.in-Ok.ensures.listed.3

pub returns-in-Ok-clause-ended : goal.returns-in-Ok-clause-ended
returns-in-Ok-clause-ended g c =
    let listed = rw c.read-text.ensures at c.in-Ok.ensures.listed in
    on_ok_weaker c.step_and_report.result
    (λ _. says_ended c.args.replay.now.version (line_bytes c.args.line) listed.0 listed.1) c.step_and_report.ensures.heard

pub returns-in-Ok-clause-few : goal.returns-in-Ok-clause-few
returns-in-Ok-clause-few g c = c.step_and_report.ensures.few

pub returns-in-Ok-clause-counts : goal.returns-in-Ok-clause-counts
returns-in-Ok-clause-counts g c = c.step_and_report.ensures.counts

pub returns-in-Ok-clause-unreported : goal.returns-in-Ok-clause-unreported
returns-in-Ok-clause-unreported g c = c.step_and_report.ensures.unreported

pub returns-in-Ok-clause-device : goal.returns-in-Ok-clause-device
returns-in-Ok-clause-device g c = c.step_and_report.ensures.device

pub returns-in-Ok-clause-read : goal.returns-in-Ok-clause-read
returns-in-Ok-clause-read g c = c.step_and_report.ensures.read

pub returns-in-Ok-clause-kept : goal.returns-in-Ok-clause-kept
returns-in-Ok-clause-kept g c = c.step_and_report.ensures.kept

pub returns-in-Ok-clause-profile : goal.returns-in-Ok-clause-profile
returns-in-Ok-clause-profile g c = c.step_and_report.ensures.profile ∙ c.requires.profile

pub returns-in-Err-clause-unreported : goal.returns-in-Err-clause-unreported
returns-in-Err-clause-unreported g c = rw c.of_cert.ensures (cert_unreported c.args.listener.now c.in-Err.fault)

pub returns-in-Err-clause-device : goal.returns-in-Err-clause-device
returns-in-Err-clause-device g c = λ e. absurd (cert_no_device c.in-Err.fault (cc (e, c.of_cert.ensures)))

pub returns-in-Err-clause-read : goal.returns-in-Err-clause-read
returns-in-Err-clause-read g c = λ e. absurd (cert_no_read c.in-Err.fault read.Device (cc (e, c.of_cert.ensures)))

pub returns-in-Err-clause-kept : goal.returns-in-Err-clause-kept
returns-in-Err-clause-kept g c = refl

pub returns-in-Err-clause-profile : goal.returns-in-Err-clause-profile
returns-in-Err-clause-profile g c = c.requires.profile

pub returns-in-Err-clause-tried : goal.returns-in-Err-clause-tried
returns-in-Err-clause-tried g c = tries_none g.T.Listener.tries c.args.replay.now.profile.now c.args.listener.now

pub returns-in-Ok-clause-tried : goal.returns-in-Ok-clause-tried
returns-in-Ok-clause-tried g c = c.step_and_report.ensures.tried
