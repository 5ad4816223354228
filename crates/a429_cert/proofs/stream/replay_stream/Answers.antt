use Rattle.std.proofs.Common.{◌≡◌, ◌∙◌, inl, ℕ, List, [], true, length, ap, refl, subst, sym, arith}
use Rattle.a429_cert.specs.StreamNext.{progress, unread_of}
use Rattle.a429_cert.proofs.StreamNextFacts.{ended_walks, stop_place, stop_refuses, stop_unreported, walks_some}
use Rattle.a429_cert.proofs.StreamRefused.{head_both_known}
use Rattle.a429_link.specs.State.{State, start}
use Rattle.a429_link.specs.Link.{LinkValue}
use Rattle.a429_cert.specs.LineReader.{bytes_ahead, to_come}
use Rattle.a429_cert.proofs.StreamFacts.{gains_none}
use Rattle.a429_word.specs.Tally.{has_failed, unread}
use Rattle.a429_cert.proofs.BreakOffFacts.{head_breaks, late_breaks}
use Rattle.a429_cert.proofs.StreamReplay.{init_both_known, yes_both_known, fresh}
use Rattle.a429_cert.proofs.ReportFacts.{hears_init, hears_all}
use Rattle.a429_cert.proofs.ReportsOfRefused.{heard_head}
use Rattle.a429_cert.specs.declared.stream_fault.StreamFault.TheVariants as stream
use Rattle.a429_cert.proofs.LikelyFacts.{nothing_read}
use Rattle.a429_cert.proofs.StreamEndFacts.{late_both_known, heard_late}
use Rattle.a429_profile.specs.Profile.{IsProfile}
use Rattle.a429_record.specs.declared.fault.ReadFault.TheVariants as read
use Rattle.a429_cert.proofs.ReplayKept.{head_not_read}
use Rattle.a429_profile.specs.Profile.{Contents}
use Rattle.a429_cert.specs.Report.{listening, TriesSome}
use Rattle.a429_cert.proofs.TriesFacts.{tries_none, tries_both}
use Rattle.a429_cert.proofs.stream.replay_stream.Goals as goal

pub lines-init : goal.lines-init
lines-init g c =
    let known = unread g.C.Read.remaining c.args.cert.now in
    let old = to_come g.C.Read.remaining c.new-lines.result c.args.cert.now in
    let state : c.start-replay.result.link.state ≡ start c.args.profile.now c.in-Ok-begin.head.first =
    ap (λ (l : LinkValue). l.state) c.start-replay.ensures.link in
    let none : length (bytes_ahead c.new-lines.result) ≡ 0 = ap (λ (l : List ℕ). length l) c.new-lines.ensures.ahead in
    let lines = c.start-replay.ensures.lines in
    let used = c.start-replay.ensures.used in
    record {
      head = c.in-Ok-begin.head;
      walks = record {
        k = 0;
        taken = [];
        number = lines;
        reports = rw used
            (init_both_known c.args.profile.now c.in-Ok-begin.head c.start-replay.result.link.state known old
            (to_come g.C.Read.remaining c.begin.new.lines c.begin.new.cert) c.args.rec.now.to_come
            (fresh (bytes_ahead c.new-lines.result) known c.new-lines.ensures.ahead) c.in-Ok-begin.ensures.ok state);
        heard =
            rw used
            (hears_init g.T.Listener.hears c.args.profile.now c.in-Ok-begin.head c.start-replay.result.link.state c.args.listener.now known
            c.args.rec.now.to_come state);
        none_left = ap (λ (t : State). t.sink.received.files) state;
        put = gains_none (g.S.Shelf.files c.args.shelf.now) 1;
        noted = c.start-replay.ensures.files;
        few = omega (arith, lines, used);
        counted = omega (arith, used);
        link = ap (λ (l : LinkValue). l.profile) c.start-replay.ensures.link;
        profile = c.start-replay.ensures.profile;
        version = c.start-replay.ensures.version;
      };
      tried = tries_none g.T.Listener.tries c.args.profile.now c.args.listener.now;
      room = omega (arith, c.in-Ok-begin.ensures.room, none, lines);
    }

pub returns-in-Err-clause-err : goal.returns-in-Err-clause-err
returns-in-Err-clause-err g c =
    let known = unread g.C.Read.remaining c.args.cert.now in
    record {
      files = [];
      fault = head_both_known c.args.profile.now known known c.args.rec.now.to_come stream.OutOfMemory refl tt;
      put = gains_none (g.S.Shelf.files c.args.shelf.now) 1;
    }

pub returns-in-Err-clause-reports : goal.returns-in-Err-clause-reports
returns-in-Err-clause-reports g c =
    let known = unread g.C.Read.remaining c.args.cert.now in
    heard_head g.T.Listener.hears c.args.profile.now known known c.args.rec.now.to_come stream.OutOfMemory c.args.listener.now refl tt

pub returns-in-Err-clause-place : goal.returns-in-Err-clause-place
returns-in-Err-clause-place g c =
    let known = unread g.C.Read.remaining c.args.cert.now in
    record {
      files = [];
      place =
          head_breaks c.args.profile.now known known known (has_failed c.args.cert.now) (g.S.Failing.failed c.args.shelf.now)
          (g.T.Failing.failed c.args.listener.now) c.args.rec.now c.args.rec.now stream.OutOfMemory
          refl (nothing_read known) tt refl (λ e. absurd (cc e));
      put = gains_none (g.S.Shelf.files c.args.shelf.now) 1;
    }

pub returns-in-Err-begin-clause-err : goal.returns-in-Err-begin-clause-err
returns-in-Err-begin-clause-err g c =
    let known = unread g.C.Read.remaining c.args.cert.now in
    let old = to_come g.C.Read.remaining c.new-lines.result c.args.cert.now in
    record {
      files = [];
      fault =
          head_both_known c.args.profile.now known old c.args.rec.now.to_come c.in-Err-begin.fault
          (fresh (bytes_ahead c.new-lines.result) known c.new-lines.ensures.ahead) c.in-Err-begin.ensures.err;
      put = gains_none (g.S.Shelf.files c.args.shelf.now) 1;
    }

pub returns-in-Err-begin-clause-reports : goal.returns-in-Err-begin-clause-reports
returns-in-Err-begin-clause-reports g c =
    let known = unread g.C.Read.remaining c.args.cert.now in
    let old = to_come g.C.Read.remaining c.new-lines.result c.args.cert.now in
    heard_head g.T.Listener.hears c.args.profile.now known old c.args.rec.now.to_come c.in-Err-begin.fault c.args.listener.now
    (fresh (bytes_ahead c.new-lines.result) known c.new-lines.ensures.ahead) c.in-Err-begin.ensures.err

pub returns-in-Err-begin-clause-place : goal.returns-in-Err-begin-clause-place
returns-in-Err-begin-clause-place g c =
    let known = unread g.C.Read.remaining c.args.cert.now in
    let old = to_come g.C.Read.remaining c.new-lines.result c.args.cert.now in
    let left = unread g.C.Read.remaining c.begin.new.cert in
    record {
      files = [];
      place =
          head_breaks c.args.profile.now known old left (has_failed c.begin.new.cert) (g.S.Failing.failed c.args.shelf.now)
          (g.T.Failing.failed c.args.listener.now) c.args.rec.now c.args.rec.now c.in-Err-begin.fault
          (fresh (bytes_ahead c.new-lines.result) known c.new-lines.ensures.ahead) c.in-Err-begin.ensures.read c.in-Err-begin.ensures.err
          refl (λ e. c.in-Err-begin.ensures.device (cc e));
      put = gains_none (g.S.Shelf.files c.args.shelf.now) 1;
    }

pub take_next-requires-clause-room : goal.take_next-requires-clause-room
take_next-requires-clause-room g c = omega (arith, c.lines.invariant.room, c.left-most.ensures, c.left-most.type_inv)

pub returns-in-Err-take_next-clause-err : goal.returns-in-Err-take_next-clause-err
returns-in-Err-take_next-clause-err g c =
    let v = c.lines.invariant in
    let known = unread g.C.Read.remaining c.args.cert.now in
    stop_refuses g.S.Shelf.files g.T.Listener.hears g.S.Failing.failed g.T.Failing.failed c.args.profile.now
    (record { known = known; recording = c.args.rec.now; shelf = c.args.shelf.now; listener = c.args.listener.now }) v.head
    (unread_of (unread g.C.Read.remaining c.take_next.new.cert) (has_failed c.take_next.new.cert))
    (progress c.lines.replay (to_come g.C.Read.remaining c.lines.lines c.lines.cert) c.lines.rec c.lines.shelf c.lines.listener)
    (progress c.take_next.new.replay (to_come g.C.Read.remaining c.take_next.new.lines c.take_next.new.cert) c.take_next.new.rec
    c.take_next.new.shelf c.take_next.new.listener) c.in-Err-take_next.fault v.walks c.in-Err-take_next.ensures.halted.stops

pub returns-in-Err-take_next-clause-reports : goal.returns-in-Err-take_next-clause-reports
returns-in-Err-take_next-clause-reports g c =
    let v = c.lines.invariant in
    let known = unread g.C.Read.remaining c.args.cert.now in
    stop_unreported g.S.Shelf.files g.T.Listener.hears g.S.Failing.failed g.T.Failing.failed c.args.profile.now
    (record { known = known; recording = c.args.rec.now; shelf = c.args.shelf.now; listener = c.args.listener.now }) v.head
    (unread_of (unread g.C.Read.remaining c.take_next.new.cert) (has_failed c.take_next.new.cert))
    (progress c.lines.replay (to_come g.C.Read.remaining c.lines.lines c.lines.cert) c.lines.rec c.lines.shelf c.lines.listener)
    (progress c.take_next.new.replay (to_come g.C.Read.remaining c.take_next.new.lines c.take_next.new.cert) c.take_next.new.rec
    c.take_next.new.shelf c.take_next.new.listener) c.in-Err-take_next.fault v.walks c.in-Err-take_next.ensures.halted.stops

pub returns-in-Err-take_next-clause-place : goal.returns-in-Err-take_next-clause-place
returns-in-Err-take_next-clause-place g c =
    let v = c.lines.invariant in
    let known = unread g.C.Read.remaining c.args.cert.now in
    stop_place g.S.Shelf.files g.T.Listener.hears g.S.Failing.failed g.T.Failing.failed c.args.profile.now
    (record { known = known; recording = c.args.rec.now; shelf = c.args.shelf.now; listener = c.args.listener.now }) v.head
    (unread_of (unread g.C.Read.remaining c.take_next.new.cert) (has_failed c.take_next.new.cert))
    (progress c.lines.replay (to_come g.C.Read.remaining c.lines.lines c.lines.cert) c.lines.rec c.lines.shelf c.lines.listener)
    (progress c.take_next.new.replay (to_come g.C.Read.remaining c.take_next.new.lines c.take_next.new.cert) c.take_next.new.rec
    c.take_next.new.shelf c.take_next.new.listener) c.in-Err-take_next.fault v.walks c.in-Err-take_next.ensures.halted.stops

pub lines-preserved : goal.lines-preserved
lines-preserved g c =
    let v = c.lines.invariant in
    let known = unread g.C.Read.remaining c.args.cert.now in
    let found : c.in-Ok-take_next.found ≡ true = c.if-not-found.false in
    record {
      head = v.head;
      walks =
          walks_some g.S.Shelf.files g.T.Listener.hears c.args.profile.now
          (record { known = known; recording = c.args.rec.now; shelf = c.args.shelf.now; listener = c.args.listener.now }) v.head
          (progress c.lines.replay (to_come g.C.Read.remaining c.lines.lines c.lines.cert) c.lines.rec c.lines.shelf c.lines.listener)
          (progress c.take_next.new.replay (to_come g.C.Read.remaining c.take_next.new.lines c.take_next.new.cert) c.take_next.new.rec
          c.take_next.new.shelf c.take_next.new.listener)
          v.walks (c.in-Ok-take_next.ensures.further found).takes;
      tried = tries_both g.T.Listener.tries c.args.profile.now c.args.listener.now c.lines.listener c.take_next.new.listener v.tried
          (subst (λ (q : Contents). TriesSome (listening g.T.Listener.tries c.lines.listener c.take_next.new.listener) q) v.walks.profile
          c.take_next.ensures.tried);
      room = omega (arith, (c.in-Ok-take_next.ensures.further found).lines, v.room);
    }

pub returns-in-Ok-none_left-clause-ok : goal.returns-in-Ok-none_left-clause-ok
returns-in-Ok-none_left-clause-ok g c =
    let h = c.lines.invariant in
    let known = unread g.C.Read.remaining c.args.cert.now in
    let left = to_come g.C.Read.remaining c.lines.lines c.lines.cert in
    let more = to_come g.C.Read.remaining c.take_next.new.lines c.take_next.new.cert in
    let none = (c.in-Ok-take_next.ensures.at_end c.if-not-found.true).none in
    let v =
    ended_walks g.S.Shelf.files g.T.Listener.hears c.args.profile.now
    (record { known = known; recording = c.args.rec.now; shelf = c.args.shelf.now; listener = c.args.listener.now }) h.head
    (progress c.lines.replay (to_come g.C.Read.remaining c.lines.lines c.lines.cert) c.lines.rec c.lines.shelf c.lines.listener)
    (progress c.take_next.new.replay (to_come g.C.Read.remaining c.take_next.new.lines c.take_next.new.cert) c.take_next.new.rec
    c.take_next.new.shelf c.take_next.new.listener) h.walks none in
    record {
      files = v.taken;
      yes =
          yes_both_known c.args.profile.now h.head v.k c.take_next.new.replay.used v.taken c.take_next.new.replay.link.state none.line left
          more known c.args.rec.now.to_come c.take_next.new.rec.to_come c.none_left.new.rec.to_come c.start-replay.ensures.sound v.none_left
          none.given c.in-Ok-none_left.ensures.ok v.reports;
      put = v.put;
      answered = v.noted;
    }

pub returns-in-Ok-none_left-clause-heard : goal.returns-in-Ok-none_left-clause-heard
returns-in-Ok-none_left-clause-heard g c =
    let h = c.lines.invariant in
    let known = unread g.C.Read.remaining c.args.cert.now in
    let left = to_come g.C.Read.remaining c.lines.lines c.lines.cert in
    let more = to_come g.C.Read.remaining c.take_next.new.lines c.take_next.new.cert in
    let none = (c.in-Ok-take_next.ensures.at_end c.if-not-found.true).none in
    let v =
    ended_walks g.S.Shelf.files g.T.Listener.hears c.args.profile.now
    (record { known = known; recording = c.args.rec.now; shelf = c.args.shelf.now; listener = c.args.listener.now }) h.head
    (progress c.lines.replay (to_come g.C.Read.remaining c.lines.lines c.lines.cert) c.lines.rec c.lines.shelf c.lines.listener)
    (progress c.take_next.new.replay (to_come g.C.Read.remaining c.take_next.new.lines c.take_next.new.cert) c.take_next.new.rec
    c.take_next.new.shelf c.take_next.new.listener) h.walks none in
    hears_all g.T.Listener.hears c.args.profile.now h.head v.k c.take_next.new.replay.used v.taken c.take_next.new.replay.link.state
    none.line known left more c.args.rec.now.to_come c.take_next.new.rec.to_come c.none_left.new.rec.to_come c.args.listener.now
    c.take_next.new.listener none.given c.in-Ok-none_left.ensures.ok v.reports v.heard

pub returns-in-Ok-none_left-clause-works : goal.returns-in-Ok-none_left-clause-works
returns-in-Ok-none_left-clause-works g c = (c.in-Ok-take_next.ensures.at_end c.if-not-found.true).works

pub returns-clause-err : goal.returns-clause-err
returns-clause-err g c =
    let h = c.lines.invariant in
    let known = unread g.C.Read.remaining c.args.cert.now in
    let left = to_come g.C.Read.remaining c.lines.lines c.lines.cert in
    let more = to_come g.C.Read.remaining c.take_next.new.lines c.take_next.new.cert in
    let none = (c.in-Ok-take_next.ensures.at_end c.if-not-found.true).none in
    let v =
    ended_walks g.S.Shelf.files g.T.Listener.hears c.args.profile.now
    (record { known = known; recording = c.args.rec.now; shelf = c.args.shelf.now; listener = c.args.listener.now }) h.head
    (progress c.lines.replay (to_come g.C.Read.remaining c.lines.lines c.lines.cert) c.lines.rec c.lines.shelf c.lines.listener)
    (progress c.take_next.new.replay (to_come g.C.Read.remaining c.take_next.new.lines c.take_next.new.cert) c.take_next.new.rec
    c.take_next.new.shelf c.take_next.new.listener) h.walks none in
    record {
      files = v.taken;
      fault =
          late_both_known c.args.profile.now h.head v.k c.take_next.new.replay.used v.taken c.take_next.new.replay.link.state none.line
          known left more c.args.rec.now.to_come c.take_next.new.rec.to_come c.none_left.new.rec.to_come c.in-Err-none_left.fault
          v.none_left none.given c.in-Err-none_left.ensures.err v.reports;
      put = v.put;
    }

pub returns-clause-reports : goal.returns-clause-reports
returns-clause-reports g c =
    let h = c.lines.invariant in
    let known = unread g.C.Read.remaining c.args.cert.now in
    let left = to_come g.C.Read.remaining c.lines.lines c.lines.cert in
    let more = to_come g.C.Read.remaining c.take_next.new.lines c.take_next.new.cert in
    let none = (c.in-Ok-take_next.ensures.at_end c.if-not-found.true).none in
    let v =
    ended_walks g.S.Shelf.files g.T.Listener.hears c.args.profile.now
    (record { known = known; recording = c.args.rec.now; shelf = c.args.shelf.now; listener = c.args.listener.now }) h.head
    (progress c.lines.replay (to_come g.C.Read.remaining c.lines.lines c.lines.cert) c.lines.rec c.lines.shelf c.lines.listener)
    (progress c.take_next.new.replay (to_come g.C.Read.remaining c.take_next.new.lines c.take_next.new.cert) c.take_next.new.rec
    c.take_next.new.shelf c.take_next.new.listener) h.walks none in
    heard_late c.args.profile.now h.head v.k c.take_next.new.replay.used v.taken c.take_next.new.replay.link.state none.line known left more
    c.args.rec.now.to_come c.take_next.new.rec.to_come c.none_left.new.rec.to_come c.in-Err-none_left.fault g.T.Listener.hears
    c.args.listener.now c.take_next.new.listener v.none_left none.given c.in-Err-none_left.ensures.err v.reports v.heard

pub returns-clause-place : goal.returns-clause-place
returns-clause-place g c =
    let h = c.lines.invariant in
    let known = unread g.C.Read.remaining c.args.cert.now in
    let old = to_come g.C.Read.remaining c.lines.lines c.lines.cert in
    let left = unread g.C.Read.remaining c.take_next.new.cert in
    let none = (c.in-Ok-take_next.ensures.at_end c.if-not-found.true).none in
    let v =
    ended_walks g.S.Shelf.files g.T.Listener.hears c.args.profile.now
    (record { known = known; recording = c.args.rec.now; shelf = c.args.shelf.now; listener = c.args.listener.now }) h.head
    (progress c.lines.replay (to_come g.C.Read.remaining c.lines.lines c.lines.cert) c.lines.rec c.lines.shelf c.lines.listener)
    (progress c.take_next.new.replay (to_come g.C.Read.remaining c.take_next.new.lines c.take_next.new.cert) c.take_next.new.rec
    c.take_next.new.shelf c.take_next.new.listener) h.walks none in
    record {
      files = v.taken;
      place =
          late_breaks c.args.profile.now h.head v.k c.take_next.new.replay.used v.taken c.take_next.new.replay.link.state known old left
          (has_failed c.take_next.new.cert) (g.S.Failing.failed c.take_next.new.shelf) (g.T.Failing.failed c.take_next.new.listener)
          (bytes_ahead c.take_next.new.lines) c.args.rec.now c.take_next.new.rec c.none_left.new.rec none.line c.none_left.new.rec.to_come
          c.in-Err-none_left.fault v.none_left (c.in-Ok-take_next.ensures.at_end c.if-not-found.true).few none.given none.kept v.counted
          c.in-Err-none_left.ensures.err c.in-Err-none_left.ensures.given v.reports;
      put = v.put;
    }

pub take_next-requires-clause-sound : goal.take_next-requires-clause-sound
take_next-requires-clause-sound g c = subst IsProfile (sym c.lines.invariant.walks.profile) c.start-replay.ensures.sound

pub take_next-requires-clause-profile : goal.take_next-requires-clause-profile
take_next-requires-clause-profile g c = c.lines.invariant.walks.link ∙ sym c.lines.invariant.walks.profile

pub take_next-requires-clause-none_left : goal.take_next-requires-clause-none_left
take_next-requires-clause-none_left g c = c.lines.invariant.walks.none_left

pub take_next-requires-clause-few : goal.take_next-requires-clause-few
take_next-requires-clause-few g c = c.lines.invariant.walks.few

pub lines-smaller : goal.lines-smaller
lines-smaller g c = (c.in-Ok-take_next.ensures.further c.if-not-found.false).shorter

pub returns-in-Err-clause-device : goal.returns-in-Err-clause-device
returns-in-Err-clause-device g c = λ e. absurd (cc e)

pub returns-in-Err-clause-read : goal.returns-in-Err-clause-read
returns-in-Err-clause-read g c = λ e. absurd (cc e)

pub returns-in-Err-begin-clause-read : goal.returns-in-Err-begin-clause-read
returns-in-Err-begin-clause-read g c =
    λ e.
    absurd (head_not_read _
    (to_come g.C.Read.remaining c.new-lines.result c.args.cert.now) c.in-Err-begin.fault read.Device c.in-Err-begin.ensures.err (cc e))

pub returns-in-Err-take_next-clause-read : goal.returns-in-Err-take_next-clause-read
returns-in-Err-take_next-clause-read g c = λ e. c.in-Err-take_next.ensures.halted.read (cc e)

pub returns-clause-device : goal.returns-clause-device
returns-clause-device g c = λ e. absurd (c.in-Err-none_left.ensures.device (cc e))

pub returns-clause-read : goal.returns-clause-read
returns-clause-read g c = λ e. c.in-Err-none_left.ensures.read (cc e)

pub returns-in-Err-begin-clause-device : goal.returns-in-Err-begin-clause-device
returns-in-Err-begin-clause-device g c = λ e. inl (c.in-Err-begin.ensures.device (cc e))

pub returns-in-Err-take_next-clause-device : goal.returns-in-Err-take_next-clause-device
returns-in-Err-take_next-clause-device g c = λ e. c.in-Err-take_next.ensures.halted.device (cc e)

pub returns-in-Err-clause-tried : goal.returns-in-Err-clause-tried
returns-in-Err-clause-tried g c = tries_none g.T.Listener.tries c.args.profile.now c.args.listener.now

pub returns-in-Err-begin-clause-tried : goal.returns-in-Err-begin-clause-tried
returns-in-Err-begin-clause-tried g c = tries_none g.T.Listener.tries c.args.profile.now c.args.listener.now

pub returns-in-Err-take_next-clause-tried : goal.returns-in-Err-take_next-clause-tried
returns-in-Err-take_next-clause-tried g c =
    let p = c.args.profile.now in
    tries_both g.T.Listener.tries p c.args.listener.now c.lines.listener c.take_next.new.listener c.lines.invariant.tried
    (subst (λ (q : Contents). TriesSome (listening g.T.Listener.tries c.lines.listener c.take_next.new.listener) q)
    c.lines.invariant.walks.profile c.take_next.ensures.tried)

pub returns-clause-tried : goal.returns-clause-tried
returns-clause-tried g c =
    let p = c.args.profile.now in
    tries_both g.T.Listener.tries p c.args.listener.now c.lines.listener c.take_next.new.listener c.lines.invariant.tried
    (subst (λ (q : Contents). TriesSome (listening g.T.Listener.tries c.lines.listener c.take_next.new.listener) q)
    c.lines.invariant.walks.profile c.take_next.ensures.tried)
