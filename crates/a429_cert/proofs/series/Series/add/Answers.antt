use Rattle.std.proofs.Common.{◌≡◌, ◌∙◌, inr, ℕ, List, [], true, length, ap, refl, sym, subst, arith, append-nil}
use Rattle.a429_word.specs.Tally.{unread}
use Rattle.a429_link.specs.Link.{LinkValue}
use Rattle.a429_link.specs.State.{State}
use Rattle.a429_cert.specs.declared.stream_fault.StreamFault.TheVariants as stream
use Rattle.a429_cert.specs.LineReader.{bytes_ahead, to_come}
use Rattle.a429_cert.specs.Series.{SeriesValue, begun}
use Rattle.a429_cert.proofs.SeriesFacts.{begun_no_files, part_init, part_late, part_fits, part_head, part_stopped}
use Rattle.a429_cert.proofs.StreamNextFacts.{ended_part, part_at_next, part_some}
use Rattle.a429_cert.proofs.StreamReplay.{fresh}
use Rattle.a429_profile.specs.Profile.{IsProfile}
use Rattle.a429_record.specs.declared.fault.ReadFault.TheVariants as read
use Rattle.a429_cert.proofs.ReplayKept.{head_not_read, only_reader}
use Rattle.a429_cert.proofs.series.Series.add.Goals as goal

pub returns-in-Err-clause-err : goal.returns-in-Err-clause-err
returns-in-Err-clause-err g c =
    part_stopped c.args.self (unread g.C.Read.remaining c.args.cert.now) c.args.rec.now.to_come stream.OutOfMemory (inr refl)

pub returns-in-Err-begin-clause-err : goal.returns-in-Err-begin-clause-err
returns-in-Err-begin-clause-err g c =
    let known = unread g.C.Read.remaining c.args.cert.now in
    part_head c.args.self known (to_come g.C.Read.remaining c.new-lines.result c.args.cert.now) c.args.rec.now.to_come c.in-Err-begin.fault
    (fresh (bytes_ahead c.new-lines.result) known c.new-lines.ensures.ahead) c.in-Err-begin.ensures.err

pub lines-init : goal.lines-init
lines-init g c =
    let old = c.args.self in
    let head = c.in-Ok-begin.head in
    let known = unread g.C.Read.remaining c.args.cert.now in
    let before = to_come g.C.Read.remaining c.new-lines.result c.args.cert.now in
    let e = c.begin_part-replay.ensures in
    let state : c.begin_part-replay.result.link.state ≡ begun old.profile old.state head.first = ap (λ (l : LinkValue). l.state) e.link in
    let none : length (bytes_ahead c.new-lines.result) ≡ 0 = ap (λ (l : List ℕ). length l) c.new-lines.ensures.ahead in
    let delivered =
    subst (λ (q : SeriesValue). (begun q.profile q.state head.first).sink.received.files ≡ []) c.self.view_is
    (begun_no_files c.self.inside.profile.now c.self.inside.link head.first c.self.invariant) in
    record {
      head = head;
      walks = record {
        k = 0;
        taken = [];
        number = e.lines;
        reports = rw e.used
            (part_init old head c.begin_part-replay.result.link.state known before
            (to_come g.C.Read.remaining c.begin.new.lines c.begin.new.cert) c.args.rec.now.to_come
            (fresh (bytes_ahead c.new-lines.result) known c.new-lines.ensures.ahead) c.in-Ok-begin.ensures.ok state);
        none_left = ap (λ (t : State). t.sink.received.files) state ∙ delivered;
        noted = e.files ∙ sym (append-nil old.files);
        few = omega (arith, e.lines, e.used);
        link = ap (λ (l : LinkValue). l.profile) e.link;
        profile = e.profile;
        version = e.version;
      };
      room = omega (arith, c.in-Ok-begin.ensures.room, none, e.lines);
    }

pub take_next-requires-clause-room : goal.take_next-requires-clause-room
take_next-requires-clause-room g c = omega (arith, c.lines.invariant.room, c.left-most.ensures, c.left-most.type_inv)

pub lines-preserved : goal.lines-preserved
lines-preserved g c =
    let v = c.lines.invariant in
    let found : c.in-Ok-take_next.found ≡ true = c.if-not-found.false in
    record {
      head = v.head;
      walks =
          part_some _ _ c.args.self (unread g.C.Read.remaining c.args.cert.now) c.args.rec.now.to_come v.head _ _ v.walks
          (c.in-Ok-take_next.ensures.further found).takes;
      room = omega (arith, (c.in-Ok-take_next.ensures.further found).lines, v.room);
    }

pub returns-in-Err-take_next-clause-err : goal.returns-in-Err-take_next-clause-err
returns-in-Err-take_next-clause-err g c =
    let v = c.lines.invariant in
    part_at_next _ _ _ c.args.self (unread g.C.Read.remaining c.args.cert.now) c.args.rec.now.to_come v.head _ _ _ c.in-Err-take_next.fault
    v.walks c.in-Err-take_next.ensures.halted.stops

pub returns-in-Ok-none_left-clause-ok : goal.returns-in-Ok-none_left-clause-ok
returns-in-Ok-none_left-clause-ok g c =
    let h = c.lines.invariant in
    let known = unread g.C.Read.remaining c.args.cert.now in
    let left = to_come g.C.Read.remaining c.lines.lines c.lines.cert in
    let more = to_come g.C.Read.remaining c.take_next.new.lines c.take_next.new.cert in
    let none = (c.in-Ok-take_next.ensures.at_end c.if-not-found.true).none in
    let v = ended_part c.args.self known c.args.rec.now.to_come h.head _ _ h.walks none in
    record {
      files = v.taken;
      fits =
          part_fits c.args.self h.head v.k c.take_next.new.replay.used v.taken c.take_next.new.replay.link.state known left more none.line
          c.args.rec.now.to_come c.take_next.new.rec.to_come c.none_left.new.rec.to_come c.past.result
          v.none_left none.given c.in-Ok-none_left.ensures.ok (ap (λ (q : SeriesValue). q.state) c.past.ensures)
          (ap (λ (q : SeriesValue). q.entries) c.past.ensures) v.reports;
      more = ap (λ (q : SeriesValue). q.files) c.past.ensures ∙ v.noted;
      profile = ap (λ (q : SeriesValue). q.profile) c.past.ensures ∙ v.profile;
    }

pub returns-in-Ok-none_left-clause-works : goal.returns-in-Ok-none_left-clause-works
returns-in-Ok-none_left-clause-works g c = (c.in-Ok-take_next.ensures.at_end c.if-not-found.true).works

pub returns-clause-err : goal.returns-clause-err
returns-clause-err g c =
    let h = c.lines.invariant in
    let known = unread g.C.Read.remaining c.args.cert.now in
    let left = to_come g.C.Read.remaining c.lines.lines c.lines.cert in
    let more = to_come g.C.Read.remaining c.take_next.new.lines c.take_next.new.cert in
    let none = (c.in-Ok-take_next.ensures.at_end c.if-not-found.true).none in
    let v = ended_part c.args.self known c.args.rec.now.to_come h.head _ _ h.walks none in
    part_late c.args.self h.head v.k c.take_next.new.replay.used v.taken c.take_next.new.replay.link.state known left more none.line
    c.args.rec.now.to_come c.take_next.new.rec.to_come c.none_left.new.rec.to_come c.in-Err-none_left.fault
    none.given c.in-Err-none_left.ensures.err v.reports

pub take_next-requires-clause-sound : goal.take_next-requires-clause-sound
take_next-requires-clause-sound g c = subst IsProfile (sym c.lines.invariant.walks.profile) c.begin_part-replay.ensures.sound

pub take_next-requires-clause-profile : goal.take_next-requires-clause-profile
take_next-requires-clause-profile g c = c.lines.invariant.walks.link ∙ sym c.lines.invariant.walks.profile

pub take_next-requires-clause-none_left : goal.take_next-requires-clause-none_left
take_next-requires-clause-none_left g c = c.lines.invariant.walks.none_left

pub take_next-requires-clause-few : goal.take_next-requires-clause-few
take_next-requires-clause-few g c = c.lines.invariant.walks.few

pub lines-smaller : goal.lines-smaller
lines-smaller g c = (c.in-Ok-take_next.ensures.further c.if-not-found.false).shorter

pub returns-in-Err-clause-device : goal.returns-in-Err-clause-device
returns-in-Err-clause-device g c = λ e. absurd (cc e)

pub returns-in-Err-clause-read : goal.returns-in-Err-clause-read
returns-in-Err-clause-read g c = λ e. absurd (cc e)

pub returns-in-Err-begin-clause-read : goal.returns-in-Err-begin-clause-read
returns-in-Err-begin-clause-read g c =
    λ e.
    absurd (head_not_read _
    (to_come g.C.Read.remaining c.new-lines.result c.args.cert.now) c.in-Err-begin.fault read.Device c.in-Err-begin.ensures.err (cc e))

pub returns-in-Err-take_next-clause-read : goal.returns-in-Err-take_next-clause-read
returns-in-Err-take_next-clause-read g c = λ e. c.in-Err-take_next.ensures.halted.read (cc e)

pub returns-clause-device : goal.returns-clause-device
returns-clause-device g c = λ e. absurd (c.in-Err-none_left.ensures.device (cc e))

pub returns-clause-read : goal.returns-clause-read
returns-clause-read g c = λ e. c.in-Err-none_left.ensures.read (cc e)

pub returns-in-Err-begin-clause-device : goal.returns-in-Err-begin-clause-device
returns-in-Err-begin-clause-device g c = λ e. c.in-Err-begin.ensures.device (cc e)

pub returns-in-Err-take_next-clause-device : goal.returns-in-Err-take_next-clause-device
returns-in-Err-take_next-clause-device g c = λ e. only_reader _ (c.in-Err-take_next.ensures.halted.device (cc e))

pub past-requires-clause-profile : goal.past-requires-clause-profile
past-requires-clause-profile g c =
    rw (c.in-Ok-take_next.ensures.at_end c.if-not-found.true).none.replay
    (c.lines.invariant.walks.link ∙ sym c.lines.invariant.walks.profile)

pub past-requires-clause-files : goal.past-requires-clause-files
past-requires-clause-files g c = rw (c.in-Ok-take_next.ensures.at_end c.if-not-found.true).none.replay c.lines.invariant.walks.none_left
