use Rattle.std.proofs.Common.{◌≡◌, ◌+◌, inl, inr, ℕ, List, true, false, Option, IsSome, ap, refl, sym, subst, arith}
use Rattle.std.proofs.lemmas.Bool.{not-false, not-true}
use Rattle.a429_cert.specs.declared.replay.Replay.{Replay}
use Rattle.a429_cert.specs.CutLines.{GivesLine}
use Rattle.a429_cert.specs.LineReader.{bytes_ahead, held_line, to_come}
use Rattle.a429_cert.specs.Lines.{line_bytes}
use Rattle.a429_cert.proofs.TriesFacts.{tries_none}
use Rattle.a429_cert.proofs.stream_next.take_one.Goals as goal

pub overflow_add-replay : goal.overflow_add-replay
overflow_add-replay g c =
    let found : c.in-Ok.next.found ≡ true = not-false c.in-Ok.next.found c.if-not-next.false in
    omega (arith, c.requires.room, c.in-Ok.ensures.room found)

pub overflow_add-replay-in-Ok-replay_and_put : goal.overflow_add-replay-in-Ok-replay_and_put
overflow_add-replay-in-Ok-replay_and_put g c =
    let used : c.replay_and_put.new.replay.used ≡ c.args.replay.now.used = ap (λ (w : Replay). w.used) c.replay_and_put.ensures.kept in
    let found : c.in-Ok.next.found ≡ true = not-false c.in-Ok.next.found c.if-not-next.false in
    omega (arith, used, c.in-Ok-replay_and_put.ensures.ok.few, c.requires.few, c.requires.room, c.in-Ok.ensures.room found)

pub returns-in-Ok-replay_and_put-clause-further : goal.returns-in-Ok-replay_and_put-clause-further
returns-in-Ok-replay_and_put-clause-further g c = λ _.
    let found : c.in-Ok.next.found ≡ true = not-false c.in-Ok.next.found c.if-not-next.false in
    let left = to_come g.C.Read.remaining c.args.lines.now c.args.cert.now in
    let more = to_come g.C.Read.remaining c.next_near.new.self c.next_near.new.cert in
    let ok = c.in-Ok-replay_and_put.ensures.ok in
    let lines : c.replay_and_put.new.replay.lines ≡ c.args.replay.now.lines + 1 =
    ap (λ (w : Replay). w.lines) c.replay_and_put.ensures.kept in
    let shorter = c.in-Ok.ensures.shorter (subst (λ (o : Option (List ℕ)). IsSome o) c.line.ensures ok.ended) in
    record {
      takes = record {
        line = line_bytes c.line.result;
        used = c.in-Ok-replay_and_put.used;
        given =
            subst (λ (o : Option (List ℕ)). GivesLine left more o true) (sym c.line.ensures)
            (subst (GivesLine left more (held_line c.next_near.new.self)) found c.in-Ok.ensures.given);
        goes_on = record {
          state = ok.goes_on.state;
          passed = ok.goes_on.passed;
          put = ok.goes_on.put;
          noted = ok.goes_on.noted;
          given = ok.goes_on.given;
        };
        heard = ok.heard;
        few = ok.few;
        counts = ok.counts;
        kept = ap (λ (w : Replay). record w { used = w.used + c.in-Ok-replay_and_put.used }) c.replay_and_put.ensures.kept;
        profile = c.replay_and_put.ensures.profile;
      };
      shorter = shorter;
      lines = omega (arith, lines, shorter);
    }

pub returns-then-not-next-clause-at_end : goal.returns-then-not-next-clause-at_end
returns-then-not-next-clause-at_end g c = λ _.
    let found : c.in-Ok.next.found ≡ false = not-true c.in-Ok.next.found c.if-not-next.true in
    let left = to_come g.C.Read.remaining c.args.lines.now c.args.cert.now in
    let more = to_come g.C.Read.remaining c.next_near.new.self c.next_near.new.cert in
    record {
      none = record {
        line = held_line c.next_near.new.self;
        given = subst (GivesLine left more (held_line c.next_near.new.self)) found c.in-Ok.ensures.given;
        kept = c.in-Ok.ensures.ended found;
        replay = refl;
        recording = refl;
        shelf = refl;
        listener = refl;
      };
      few = c.next_near.ensures.few;
      works = c.in-Ok.ensures.works found;
    }

pub returns-in_default-clause-halted : goal.returns-in_default-clause-halted
returns-in_default-clause-halted g c = record {
  stops =
      inl
      (record {
        fault = refl;
        failed = c.in_default.ensures.device refl;
        ahead = bytes_ahead c.next_near.new.self;
        part = c.in_default.ensures.part refl;
        kept = c.in_default.ensures.kept refl;
        recording = refl;
        shelf = refl;
      });
  device = λ _. inl (c.in_default.ensures.device refl);
  read = λ e. absurd (cc e);
}

pub returns-in-Err-clause-halted : goal.returns-in-Err-clause-halted
returns-in-Err-clause-halted g c =
    let found : c.in-Ok.next.found ≡ true = not-false c.in-Ok.next.found c.if-not-next.false in
    let left = to_come g.C.Read.remaining c.args.lines.now c.args.cert.now in
    let more = to_come g.C.Read.remaining c.next_near.new.self c.next_near.new.cert in
    let err = c.in-Err.ensures.err in
    record {
      stops =
          inr
          (record {
            line = line_bytes c.line.result;
            ahead = bytes_ahead c.next_near.new.self;
            few = c.next_near.ensures.few;
            given =
                subst (λ (o : Option (List ℕ)). GivesLine left more o true) (sym c.line.ensures)
                (subst (GivesLine left more (held_line c.next_near.new.self)) found c.in-Ok.ensures.given);
            stopped = err.stopped;
            unreported = err.unreported;
          });
      device = λ e. inr (err.device (cc e));
      read = λ e. err.read (cc e);
    }

pub returns-then-not-next-clause-further : goal.returns-then-not-next-clause-further
returns-then-not-next-clause-further g c = λ e. absurd (cc e)

pub returns-in-Ok-replay_and_put-clause-at_end : goal.returns-in-Ok-replay_and_put-clause-at_end
returns-in-Ok-replay_and_put-clause-at_end g c = λ e. absurd (cc e)

pub next_near-requires : goal.next_near-requires
next_near-requires g c = c.likely_line-likely.ensures

pub replay_and_put-requires : goal.replay_and_put-requires
replay_and_put-requires g c =
    record { sound = c.requires.sound; profile = c.requires.profile; known = rw c.line.ensures c.in-Ok.ensures.known }

pub returns-in_default-clause-tried : goal.returns-in_default-clause-tried
returns-in_default-clause-tried g c = tries_none g.T.Listener.tries c.args.replay.now.profile.now c.args.listener.now

pub returns-then-not-next-clause-tried : goal.returns-then-not-next-clause-tried
returns-then-not-next-clause-tried g c = tries_none g.T.Listener.tries c.args.replay.now.profile.now c.args.listener.now

pub returns-in-Ok-replay_and_put-clause-tried : goal.returns-in-Ok-replay_and_put-clause-tried
returns-in-Ok-replay_and_put-clause-tried g c = c.replay_and_put.ensures.tried

pub returns-in-Err-clause-tried : goal.returns-in-Err-clause-tried
returns-in-Err-clause-tried g c = c.replay_and_put.ensures.tried

pub returns-in_default-clause-ahead : goal.returns-in_default-clause-ahead
returns-in_default-clause-ahead g c = c.next_near.ensures.few

pub returns-then-not-next-clause-ahead : goal.returns-then-not-next-clause-ahead
returns-then-not-next-clause-ahead g c = c.next_near.ensures.few

pub returns-in-Ok-replay_and_put-clause-ahead : goal.returns-in-Ok-replay_and_put-clause-ahead
returns-in-Ok-replay_and_put-clause-ahead g c = c.next_near.ensures.few

pub returns-in-Err-clause-ahead : goal.returns-in-Err-clause-ahead
returns-in-Err-clause-ahead g c = c.next_near.ensures.few
