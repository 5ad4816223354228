use Rattle.std.proofs.Common.{◌≡◌, ℕ, refl, sym, subst}
use Rattle.a429_cert.specs.Explained.{seen_of}
use Rattle.a429_cert.specs.Likely.{sent_text}
use Rattle.a429_cert.specs.Stream.{GivesAtFault, RefusesOver, WantsEntry}
use Rattle.a429_cert.specs.Report.{position}
use Rattle.a429_cert.specs.Version.{read_as}
use Rattle.a429_cert.specs.declared.stream_fault.StreamFault.TheVariants as stream
use Rattle.a429_cert.specs.declared.fault.CertFault.TheVariants as of
use Rattle.std.proofs.Common.{Some, option_map, ◌+◌}
use Rattle.a429_cert.proofs.PairFacts.{sent_differs, sent_given, sent_stops, trouble_given}
use Rattle.a429_cert.proofs.StreamFacts.{most_given, none_given}
use Rattle.a429_record.specs.declared.fault.ReadFault.TheVariants as read
use Rattle.a429_cert.proofs.StreamReplay.{read_device, read_no_device}
use Rattle.a429_cert.proofs.ReplayKept.{read_unreported, trouble_device, trouble_no_read, trouble_refuses, trouble_unreported}
use Rattle.a429_cert.proofs.TriesFacts.{tries_none}
use Rattle.a429_cert.proofs.pair.carry_and_report.Goals as goal

pub returns-in-Err-clause-refused : goal.returns-in-Err-clause-refused
returns-in-Err-clause-refused g c =
    let w = c.args.replay.now in
    let text = read_as w.version (Some (sent_text c.args.next.place)) in
    subst (RefusesOver w.profile.now text (position w.link.state c.args.rec.now.to_come w.used) (w.lines + 1)) (sym c.of_read.ensures)
    (sent_stops w.version c.args.next w.profile.now w.link.state w.used
    (w.lines + 1) c.args.rec.now.to_come c.in-Err.fault c.requires.word.1 c.requires.word.0 c.in-Err.ensures.fault)

pub returns-then-not-is_word-clause-refused : goal.returns-then-not-is_word-clause-refused
returns-then-not-is_word-clause-refused g c =
    let w = c.args.replay.now in
    sent_differs w.version c.args.next w.profile.now w.link.state w.used (w.lines + 1) c.args.rec.now.to_come c.next_entry.new.rec.to_come
    (option_map seen_of c.in-Ok.entry) c.requires.word.1 c.requires.word.0
    c.in-Ok.ensures.taken (λ e. absurd (cc (c.is_word.ensures.1 e, c.if-not-is_word.true)))

pub returns-then-not-is_word-clause-given : goal.returns-then-not-is_word-clause-given
returns-then-not-is_word-clause-given g c =
    let w = c.args.replay.now in
    sent_given w.version c.args.next w.profile.now w.link.state
    (stream.Cert (of.WordDiffers (w.lines + 1) w.used)) c.args.rec.now.count c.next_entry.new.rec.count c.requires.word.1 c.requires.word.0
    (most_given 1 c.in-Ok.entry c.args.rec.now.count c.next_entry.new.rec.count c.in-Ok.ensures.given)

pub returns-in-Err-report_both-clause-given : goal.returns-in-Err-report_both-clause-given
returns-in-Err-report_both-clause-given g c =
    let w = c.args.replay.now in
    let old = c.args.rec.now.count in
    let new = c.next_entry.new.rec.count in
    sent_given w.version c.args.next w.profile.now w.link.state c.of_trouble.result old new c.requires.word.1 c.requires.word.0
    (subst (λ f. GivesAtFault (◌≡◌ {A = ℕ} 1 1) f old new) (sym c.of_trouble.ensures)
    (trouble_given (◌≡◌ {A = ℕ} 1 1) c.in-Err-report_both.trouble old new (most_given 1 c.in-Ok.entry old new c.in-Ok.ensures.given)))

pub returns-in-Err-clause-given : goal.returns-in-Err-clause-given
returns-in-Err-clause-given g c =
    subst (λ f.
    GivesAtFault (WantsEntry c.args.replay.now.profile.now (read_as c.args.replay.now.version (Some (sent_text c.args.next.place)))
    c.args.replay.now.link.state) f c.args.rec.now.count c.next_entry.new.rec.count)
    (sym c.of_read.ensures)
    (none_given (WantsEntry c.args.replay.now.profile.now (read_as c.args.replay.now.version (Some (sent_text c.args.next.place)))
    c.args.replay.now.link.state) c.in-Err.fault c.args.rec.now.count c.next_entry.new.rec.count c.in-Err.ensures.none)

pub returns-in-Err-clause-unreported : goal.returns-in-Err-clause-unreported
returns-in-Err-clause-unreported g c = rw c.of_read.ensures (read_unreported c.args.listener.now c.in-Err.fault)

pub returns-in-Err-clause-device : goal.returns-in-Err-clause-device
returns-in-Err-clause-device g c = λ e. absurd (read_no_device c.in-Err.fault (cc (e, c.of_read.ensures)))

pub returns-in-Err-clause-read : goal.returns-in-Err-clause-read
returns-in-Err-clause-read g c = λ e. c.in-Err.ensures.device (cc (read_device c.in-Err.fault (cc (e, c.of_read.ensures))))

pub returns-then-not-is_word-clause-unreported : goal.returns-then-not-is_word-clause-unreported
returns-then-not-is_word-clause-unreported g c = refl

pub returns-then-not-is_word-clause-device : goal.returns-then-not-is_word-clause-device
returns-then-not-is_word-clause-device g c = λ e. absurd (cc e)

pub returns-then-not-is_word-clause-read : goal.returns-then-not-is_word-clause-read
returns-then-not-is_word-clause-read g c = λ e. absurd (cc e)

pub returns-in-Err-report_both-clause-refused : goal.returns-in-Err-report_both-clause-refused
returns-in-Err-report_both-clause-refused g c =
    let w = c.args.replay.now in
    let text = read_as w.version (Some (sent_text c.args.next.place)) in
    let at = position w.link.state c.args.rec.now.to_come w.used in
    subst (RefusesOver w.profile.now text at (w.lines + 1)) (sym c.of_trouble.ensures)
    (trouble_refuses w.profile.now text at (w.lines + 1) c.in-Err-report_both.trouble)

pub returns-in-Err-report_both-clause-unreported : goal.returns-in-Err-report_both-clause-unreported
returns-in-Err-report_both-clause-unreported g c =
    rw c.of_trouble.ensures (trouble_unreported c.args.listener.now c.report_both.new.listener c.in-Err-report_both.trouble)

pub returns-in-Err-report_both-clause-device : goal.returns-in-Err-report_both-clause-device
returns-in-Err-report_both-clause-device g c =
    λ e. c.in-Err-report_both.ensures.device (cc (trouble_device c.in-Err-report_both.trouble (cc (e, c.of_trouble.ensures))))

pub returns-in-Err-report_both-clause-read : goal.returns-in-Err-report_both-clause-read
returns-in-Err-report_both-clause-read g c =
    λ e. absurd (trouble_no_read c.in-Err-report_both.trouble read.Device (cc (e, c.of_trouble.ensures)))

pub returns-in-Err-clause-tried : goal.returns-in-Err-clause-tried
returns-in-Err-clause-tried g c = tries_none g.T.Listener.tries c.args.replay.now.profile.now c.args.listener.now

pub returns-then-not-is_word-clause-tried : goal.returns-then-not-is_word-clause-tried
returns-then-not-is_word-clause-tried g c = tries_none g.T.Listener.tries c.args.replay.now.profile.now c.args.listener.now

pub returns-in-Err-report_both-clause-tried : goal.returns-in-Err-report_both-clause-tried
returns-in-Err-report_both-clause-tried g c = c.report_both.ensures.tried

pub returns-clause-tried : goal.returns-clause-tried
returns-clause-tried g c = c.report_both.ensures.tried
