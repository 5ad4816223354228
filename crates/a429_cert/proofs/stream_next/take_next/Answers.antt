use Rattle.std.proofs.Common.{◌++◌, inl, inr, ℕ, List, true, Some, ap, refl, sym, subst, arith}
use Rattle.std.proofs.lemmas.Result.{IfOk-weaker}
use Rattle.std.specs.Io.KnownBytes.{prepend_known}
use Rattle.a429_word.specs.Tally.{unread}
use Rattle.a429_profile.specs.Profile.{Contents}
use Rattle.a429_link.specs.Carry.{IsAtWord}
use Rattle.a429_cert.specs.CutLines.{GivesLine}
use Rattle.a429_cert.specs.Likely.{pair_text, sent_text}
use Rattle.a429_cert.specs.LineReader.{bytes_ahead}
use Rattle.a429_cert.specs.StreamNext.{progress, TakesSome}
use Rattle.a429_cert.specs.declared.replay.Replay.{Replay}
use Rattle.a429_cert.proofs.PairFacts.{ended, fewer, gives_sent, least_place, takes_both}
use Rattle.a429_cert.proofs.ReplayKept.{two_ahead}
use Rattle.a429_cert.proofs.stream_next.take_next.Goals as goal

pub returns-in-Ok-clause-further : goal.returns-in-Ok-clause-further
returns-in-Ok-clause-further g c = λ _.
    let w = c.args.replay.now in
    let rest = unread g.C.Read.remaining c.args.cert.now in
    let ahead = bytes_ahead c.next_pair.new.lines in
    let next = c.in-Some.next in
    let at = subst (λ (p : Contents). IsAtWord p next w.link.state) c.requires.profile c.in-Some.ensures.word.0 in
    let two = two_ahead c.in-Some.next.place (bytes_ahead c.next_pair.new.lines) (bytes_ahead c.args.lines.now) c.in-Some.ensures.lines in
    let both =
    takes_both g.S.Shelf.files g.T.Listener.hears next w ahead rest c.args.rec.now c.carry_and_report.new.rec c.args.shelf.now
    c.args.listener.now c.carry_and_report.new.listener c.requires.profile at c.in-Some.ensures.word.1
    c.requires.none_left c.in-Ok.ensures.entry c.in-Ok.ensures.counts c.in-Ok.ensures.heard in
    record {
      takes =
          subst (λ (b : List ℕ). TakesSome g.S.Shelf.files g.T.Listener.hears
          (progress w (prepend_known b rest) c.args.rec.now c.args.shelf.now c.args.listener.now)
          (progress c.carry_and_report.new.replay
          (prepend_known ahead rest) c.carry_and_report.new.rec c.args.shelf.now c.carry_and_report.new.listener))
          (sym c.in-Some.ensures.lines)
          (subst (λ (v : Replay). TakesSome g.S.Shelf.files g.T.Listener.hears
          (progress w (prepend_known (pair_text next.place ++ ahead) rest) c.args.rec.now c.args.shelf.now c.args.listener.now)
          (progress v (prepend_known ahead rest) c.carry_and_report.new.rec c.args.shelf.now c.carry_and_report.new.listener))
          (sym c.in-Ok.ensures.taken) both);
      shorter = omega (arith, two);
      lines = omega (arith, ap (λ (w : Replay). w.lines) c.in-Ok.ensures.taken, two);
    }

pub returns-in-Err-clause-halted : goal.returns-in-Err-clause-halted
returns-in-Err-clause-halted g c =
    let w = c.args.replay.now in
    let rest = unread g.C.Read.remaining c.args.cert.now in
    let ahead = bytes_ahead c.next_pair.new.lines in
    let k = c.in-Some.next.place in
    let most = c.in-Some.ensures.word.1 in
    let least = least_place _ c.in-Some.next w.link.state c.in-Some.ensures.word.0 in
    record {
      stops =
          inr
          (record {
            line = Some (sent_text k);
            ahead = ended k ++ ahead;
            few = fewer (sent_text k) (ended k) ahead (bytes_ahead c.args.lines.now) 2288 c.in-Some.ensures.lines c.next_pair.ensures.few;
            given =
                subst (λ (b : List ℕ). GivesLine (prepend_known b rest) (prepend_known (ended k ++ ahead) rest) (Some (sent_text k)) true)
                (sym c.in-Some.ensures.lines) (gives_sent k ahead rest least most);
            stopped =
                inl
                (record {
                  ends = c.in-Err.ensures.refused;
                  given = c.in-Err.ensures.given;
                  put = refl;
                  device = λ e. c.in-Err.ensures.device (cc e);
                });
            unreported = c.in-Err.ensures.unreported;
          });
      device = λ e. inr (inr (c.in-Err.ensures.device (cc e)));
      read = λ e. c.in-Err.ensures.read (cc e);
    }

pub returns-in-Ok-clause-at_end : goal.returns-in-Ok-clause-at_end
returns-in-Ok-clause-at_end g c = λ e. absurd (cc e)

pub carry_and_report-requires : goal.carry_and_report-requires
carry_and_report-requires g c = record {
  profile = c.requires.profile;
  word = rw (sym c.requires.profile) c.in-Some.ensures.word;
  few = c.requires.few;
  room = omega (
    arith,
    c.requires.room,
    two_ahead c.in-Some.next.place (bytes_ahead c.next_pair.new.lines) (bytes_ahead c.args.lines.now) c.in-Some.ensures.lines,
  );
}

pub take_one-requires : goal.take_one-requires
take_one-requires g c = record {
  sound = c.requires.sound;
  profile = c.requires.profile;
  few = c.requires.few;
  room = rw c.in_default.ensures.none c.requires.room;
}

-- the next line alone
pub returns-in_default : goal.returns-in_default
returns-in_default g c =
    rw (sym c.in_default.ensures.none)
    (record {
      further =
          IfOk-weaker c.take_one.result _ _
          (λ _ h e. record { takes = inl (h e).takes; shorter = (h e).shorter; lines = (h e).lines }) c.take_one.ensures.further;
      at_end = c.take_one.ensures.at_end;
      halted = c.take_one.ensures.halted;
      tried = c.take_one.ensures.tried;
    })

pub returns-in-Ok-clause-tried : goal.returns-in-Ok-clause-tried
returns-in-Ok-clause-tried g c = c.carry_and_report.ensures.tried

pub returns-in-Err-clause-tried : goal.returns-in-Err-clause-tried
returns-in-Err-clause-tried g c = c.carry_and_report.ensures.tried
