-- Examples: the definitions compute, under a sample profile, a run that carries the one byte 41, hexadecimal, and one that gives a
-- file up after its first link data unit, and carries the byte in the next file.
use Rattle.std.proofs.Common.{◌≡◌, ◌≤◌, ℕ, true, List, [], ◌∷◌, ◌++◌, length, refl, lit≤}
use Rattle.a429_word.specs.Word.{sum_below}
use Rattle.a429_word.specs.declared.bus.Bus.TheVariants as bus
use Rattle.a429_profile.specs.Profile.{Contents}
use Rattle.a429_ldu.specs.Ldu.{LduValue, IsLdu}
use Rattle.a429_link.specs.declared.state.SourceState.{SourceState}
use Rattle.a429_link.specs.declared.state.SourceState.TheVariants as source
use Rattle.a429_link.specs.declared.state.SinkState.{SinkState}
use Rattle.a429_link.specs.declared.state.SinkState.TheVariants as sink
use Rattle.a429_link.specs.declared.seen.Seen.{Seen}
use Rattle.a429_link.specs.declared.step.Step.{Step}
use Rattle.a429_link.specs.declared.step.Step.TheVariants.{Load, Sent, SinkTakes, Answered, TakeAnswer, GiveUp}
use Rattle.a429_link.specs.Step.{after}
use Rattle.a429_link.specs.State.{start, State, sink_state_of}
use Rattle.a429_link.specs.Run.{IsRun, trace, delivered, offered, settled}

abbrev pub sample : Contents
sample = record {
  codes = record {
    to_sink = 196;
    to_source = 197;
    destination = 65;
    first_ldu = 1;
    final_bit = 25;
    full = 0;
    partial = 1;
    protocol = 4;
    sot = 6;
    eot = 7;
    rts = 1;
    cts = 2;
    ack = 5;
    nak = 6;
    ignored_types = 5 ∷ [];
    ignored_codes = 3 ∷ [];
    partial_codes = 1 ∷ 2 ∷ 3 ∷ 4 ∷ [];
  };
  check = record { poly = 0x1021; init = 0xffff; xor = 0xffff; low_first = true; compare = true };
  labels = [];
}

abbrev rts : Seen
rts = record { bus = bus.A; word = 0x41410323 }

abbrev cts : Seen
cts = record { bus = bus.B; word = 0xc24103a3 }

abbrev sot : Seen
sot = record { bus = bus.A; word = 0x60010123 }

abbrev part : Seen
part = record { bus = bus.A; word = 0x12004123 }

abbrev eot : Seen
eot = record { bus = bus.A; word = 0x71a3f523 }

abbrev ack : Seen
ack = record { bus = bus.B; word = 0x450101a3 }

abbrev unit : ℕ → LduValue
unit flags = record { gfi = 0; flags = flags; check = 0xa3f5; words = 0x12004123 ∷ [] }

-- the link data unit crosses, with this start word, end word and acknowledgement
abbrev crosses : ℕ → Seen → Seen → Seen → List Step
crosses flags s e a =
    Load (unit flags) ∷ (Sent rts ∷ (SinkTakes ∷ (Answered cts
    ∷ (TakeAnswer ∷ (Sent s ∷ (SinkTakes ∷ (Sent part ∷ (SinkTakes ∷ (Sent e ∷ (SinkTakes ∷ (Answered a ∷ (TakeAnswer ∷ []))))))))))))

abbrev steps : List Step
steps = crosses 1 sot eot ack

-- the phases and the lengths of the lists
pub record Line : Type 0 where
  pub source : SourceState
  pub sink : SinkState
  pub to_sink : ℕ
  pub to_source : ℕ

abbrev line_of : State → Line
line_of s =
    record { source = s.source.phase; sink = sink_state_of s.sink.phase; to_sink = length s.to_sink; to_source = length s.to_source }

abbrev lines : List Step → State → List Line
lines [] s = []
lines (a ∷ acts) s = line_of (after sample a s) ∷ lines acts (after sample a s)

abbrev line : SourceState → SinkState → ℕ → ℕ → Line
line a b m n = record { source = a; sink = b; to_sink = m; to_source = n }

-- the states on the way of one link data unit
abbrev crossing : List Line
crossing =
    line source.Idle sink.Quiet 0 0 ∷ (line source.Awaiting sink.Quiet 1 0 ∷ (line source.Awaiting sink.OwesClear 0 0
    ∷ (line source.Awaiting sink.Granted 0 1 ∷ (line (source.Sending 0) sink.Granted 0 0 ∷ (line (source.Sending 1) sink.Granted 1 0
    ∷ (line (source.Sending 1) (sink.InBlock 1) 0 0 ∷ (line (source.Sending 2) (sink.InBlock 1) 1 0
    ∷ (line (source.Sending 2) (sink.InBlock 2) 0 0 ∷ (line source.Waiting (sink.InBlock 2) 1 0
    ∷ (line source.Waiting sink.OwesAck 0 0 ∷ (line source.Waiting sink.Quiet 0 1 ∷ (line source.Idle sink.Quiet 0 0 ∷ []))))))))))))

-- each state is the one that a certificate writes
pub states : lines steps (start sample 1) ≡ crossing
unfolding sum_below
states = refl

-- the file is offered, delivered and settled
pub files : delivered sample 1 steps ≡ record { number = 1; bytes = 0x41 ∷ [] } ∷ []
unfolding sum_below
files = refl

pub files_offered : offered sample 1 steps ≡ record { number = 1; bytes = 0x41 ∷ [] } ∷ []
unfolding sum_below
files_offered = refl

pub files_settled : settled sample 1 steps ≡ record { number = 1; bytes = 0x41 ∷ [] } ∷ []
unfolding sum_below
files_settled = refl

pub words : trace steps ≡ rts ∷ (cts ∷ (sot ∷ (part ∷ (eot ∷ (ack ∷ [])))))
words = refl

is_ldu : (flags : ℕ) → flags ≤ 15 → IsLdu sample (unit flags)
unfolding sum_below
is_ldu flags l = record {
  gfi = lit≤ tt;
  flags = l;
  check = lit≤ tt;
  length = (lit≤ tt, lit≤ tt);
  bytes = 0x41 ∷ [];
  carries = refl;
  checked = λ e. refl;
}

pub is_run : IsRun sample steps (start sample 1)
unfolding sum_below
is_run = (
  (tt, refl, lit≤ tt, is_ldu 1 (lit≤ tt)),
  (
    (refl, refl),
    (
      (tt, tt),
      (
        (refl, refl),
        (tt, ((refl, refl), ((tt, tt), ((refl, refl), ((tt, tt), ((refl, refl), ((tt, tt), ((refl, (refl, refl)), (tt, tt))))))))),
      ),
    ),
  ),
)

-- ---- a file is given up

-- the end word of a link data unit that does not end its file
abbrev open_eot : Seen
open_eot = record { bus = bus.A; word = 0xf0a3f523 }

abbrev sot_two : Seen
sot_two = record { bus = bus.A; word = 0x60020123 }

abbrev ack_two : Seen
ack_two = record { bus = bus.B; word = 0x450201a3 }

abbrev give_up_steps : List Step
give_up_steps = crosses 0 sot open_eot ack ++ GiveUp ∷ crosses 1 sot_two eot ack_two

pub give_up_states : lines give_up_steps (start sample 1) ≡ crossing ++ line source.Idle sink.Quiet 0 0 ∷ crossing
unfolding sum_below
give_up_states = refl

-- what crossed of the first file is dropped; the second is offered, delivered and settled
pub give_up_files : delivered sample 1 give_up_steps ≡ record { number = 2; bytes = 0x41 ∷ [] } ∷ []
unfolding sum_below
give_up_files = refl

pub give_up_offered : offered sample 1 give_up_steps ≡ record { number = 2; bytes = 0x41 ∷ [] } ∷ []
unfolding sum_below
give_up_offered = refl

pub give_up_settled : settled sample 1 give_up_steps ≡ record { number = 2; bytes = 0x41 ∷ [] } ∷ []
unfolding sum_below
give_up_settled = refl

pub give_up_words : trace give_up_steps ≡ rts
    ∷ (cts ∷ (sot ∷ (part ∷ (open_eot ∷ (ack ∷ (rts ∷ (cts ∷ (sot_two ∷ (part ∷ (eot ∷ (ack_two ∷ [])))))))))))
give_up_words = refl

pub give_up_is_run : IsRun sample give_up_steps (start sample 1)
unfolding sum_below
give_up_is_run = (
  (tt, refl, lit≤ tt, is_ldu 0 (lit≤ tt)),
  (
    (refl, refl),
    (
      (tt, tt),
      (
        (refl, refl),
        (
          tt,
          (
            (refl, refl),
            (
              (tt, tt),
              (
                (refl, refl),
                (
                  (tt, tt),
                  (
                    (refl, refl),
                    (
                      (tt, tt),
                      (
                        (refl, (refl, refl)),
                        (
                          tt,
                          (
                            (tt, lit≤ tt),
                            (
                              (tt, refl, lit≤ tt, is_ldu 1 (lit≤ tt)),
                              (
                                (refl, refl),
                                (
                                  (tt, tt),
                                  (
                                    (refl, refl),
                                    (
                                      tt,
                                      (
                                        (refl, refl),
                                        (
                                          (tt, tt),
                                          ((refl, refl), ((tt, tt), ((refl, refl), ((tt, tt), ((refl, (refl, refl)), (tt, tt)))))),
                                        ),
                                      ),
                                    ),
                                  ),
                                ),
                              ),
                            ),
                          ),
                        ),
                      ),
                    ),
                  ),
                ),
              ),
            ),
          ),
        ),
      ),
    ),
  ),
)
