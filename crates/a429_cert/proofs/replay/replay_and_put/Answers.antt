use Rattle.std.proofs.Common.{◌∙◌, ◌++◌, ℕ, List, ap, inl, inr, refl, subst}
use Rattle.a429_record.specs.declared.fault.ReadFault.TheVariants as read
use Rattle.a429_cert.specs.Stream.{PutsFiles, PutsFirstFiles, sizes}
use Rattle.a429_cert.specs.declared.replay.Replay.{Replay}
use Rattle.a429_cert.proofs.ReplayKept.{kept_one, kept_both, none_reported, not_of_read}
use Rattle.a429_cert.proofs.replay.replay_and_put.Goals as goal

pub replay_and_report-requires : goal.replay_and_report-requires
replay_and_report-requires g c = record { sound = c.requires.sound; profile = c.requires.profile; known = c.requires.known }

pub returns-in-Ok-put_delivered-clause-ok : goal.returns-in-Ok-put_delivered-clause-ok
returns-in-Ok-put_delivered-clause-ok g c =
    let state = c.replay_and_report.new.replay.link.state in
    let notes = ap (λ (w : Replay). w.files.items) c.in-Ok.ensures.kept in
    record {
      goes_on = record {
        state = state;
        passed = c.in-Ok.ensures.passed;
        put =
            subst (λ (n : List (ℕ × ℕ)). PutsFiles g.S.Shelf.files c.args.shelf.now c.put_delivered.new.shelf n state.sink.received.files)
            notes c.in-Ok-put_delivered.ensures.ok;
        noted = c.in-Ok-put_delivered.ensures.noted ∙ ap (λ (n : List (ℕ × ℕ)). n ++ sizes state.sink.received.files) notes;
        given = ap (λ (w : Replay). w.link.state) c.put_delivered.ensures.kept;
      };
      heard = c.in-Ok.ensures.heard;
      ended = c.in-Ok.ensures.ended;
      few = c.in-Ok.ensures.few;
      counts = c.in-Ok.ensures.counts;
    }

pub returns-in-Ok-put_delivered-clause-kept : goal.returns-in-Ok-put_delivered-clause-kept
returns-in-Ok-put_delivered-clause-kept g c =
    kept_both c.args.replay.now c.replay_and_report.new.replay c.put_delivered.new.replay c.in-Ok.ensures.kept c.put_delivered.ensures.kept

pub returns-in-Ok-put_delivered-clause-profile : goal.returns-in-Ok-put_delivered-clause-profile
returns-in-Ok-put_delivered-clause-profile g c = ap (λ (w : Replay). w.link.profile) c.put_delivered.ensures.kept ∙ c.in-Ok.ensures.profile

pub returns-in-Err-put_delivered-clause-kept : goal.returns-in-Err-put_delivered-clause-kept
returns-in-Err-put_delivered-clause-kept g c =
    kept_both c.args.replay.now c.replay_and_report.new.replay c.put_delivered.new.replay c.in-Ok.ensures.kept c.put_delivered.ensures.kept

pub returns-in-Err-put_delivered-clause-profile : goal.returns-in-Err-put_delivered-clause-profile
returns-in-Err-put_delivered-clause-profile g c = ap (λ (w : Replay). w.link.profile) c.put_delivered.ensures.kept ∙ c.in-Ok.ensures.profile

pub returns-in-Err-clause-kept : goal.returns-in-Err-clause-kept
returns-in-Err-clause-kept g c = kept_one c.args.replay.now c.replay_and_report.new.replay c.in-Err.ensures.kept

pub returns-in-Err-clause-profile : goal.returns-in-Err-clause-profile
returns-in-Err-clause-profile g c = c.in-Err.ensures.profile

pub returns-in-Err-put_delivered-clause-err : goal.returns-in-Err-put_delivered-clause-err
returns-in-Err-put_delivered-clause-err g c =
    let state = c.replay_and_report.new.replay.link.state in
    let notes = ap (λ (w : Replay). w.files.items) c.in-Ok.ensures.kept in
    record {
      stopped =
          inr
          (record {
            state = state;
            used = c.in-Ok.used;
            passed = c.in-Ok.ensures.passed;
            given = c.in-Ok.ensures.counts;
            put =
                subst (λ (n : List (ℕ × ℕ)).
                PutsFirstFiles g.S.Shelf.files c.args.shelf.now c.put_delivered.new.shelf n state.sink.received.files)
                notes c.in-Err-put_delivered.ensures.err;
            fault = c.in-Err-put_delivered.ensures.fault;
            device = λ e. c.in-Err-put_delivered.ensures.device (cc e);
          });
      unreported =
          none_reported c.args.listener.now c.replay_and_report.new.listener c.in-Err-put_delivered.fault
          c.in-Err-put_delivered.ensures.fault;
      device = λ e. inl (c.in-Err-put_delivered.ensures.device (cc e));
      read = λ e. absurd (not_of_read c.in-Err-put_delivered.fault read.Device c.in-Err-put_delivered.ensures.fault (cc e));
    }

pub returns-in-Err-clause-err : goal.returns-in-Err-clause-err
returns-in-Err-clause-err g c = record {
  stopped =
      inl
      (record {
        ends = c.in-Err.ensures.refused;
        given = c.in-Err.ensures.given;
        put = refl;
        device = λ e. c.in-Err.ensures.device (cc e);
      });
  unreported = c.in-Err.ensures.unreported;
  device = λ e. inr (c.in-Err.ensures.device (cc e));
  read = λ e. c.in-Err.ensures.read (cc e);
}

pub returns-in-Ok-put_delivered-clause-tried : goal.returns-in-Ok-put_delivered-clause-tried
returns-in-Ok-put_delivered-clause-tried g c = c.replay_and_report.ensures.tried

pub returns-in-Err-put_delivered-clause-tried : goal.returns-in-Err-put_delivered-clause-tried
returns-in-Err-put_delivered-clause-tried g c = c.replay_and_report.ensures.tried

pub returns-in-Err-clause-tried : goal.returns-in-Err-clause-tried
returns-in-Err-clause-tried g c = c.replay_and_report.ensures.tried
