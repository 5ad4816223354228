-- Two lines of a certificate at once: a data word of a block is sent, and then taken (profile).
use Rattle.std.specs.Prelude.{◌≡◌, ◌+◌, ℕ, Option, Some, None, slice_get, IfSome}
use Rattle.a429_profile.specs.Profile.{Contents}
use Rattle.a429_link.specs.Carry.{on_a, after_both}
use Rattle.a429_record.specs.declared.entry.Entry.{Entry}
use Rattle.a429_record.specs.Recording.{Recording}
use Rattle.a429_cert.specs.declared.act.Act.TheVariants.{Sent, SinkTakes}
use Rattle.a429_cert.specs.declared.replay.Replay.{Replay}
use Rattle.a429_cert.specs.Stream.{left_after, next_of}
use Rattle.a429_cert.specs.Report.{Listening, Makes, with_number}

-- the entry that comes next is this word on bus A, and it is taken
abbrev pub IsEntry : ℕ → Option Recording → Option Recording → Type 0
IsEntry word old new = IfSome old (λ r. (next_of r ≡ Some (on_a word)) × (new ≡ Some (left_after 1 r)))

-- a listener hears of both steps, of the first with the entry that comes next, which has this number
pub record HearsBoth {T : Type 0} (l : Listening T) (p : Contents) (i : ℕ) (rec : Option Recording) : Type 0 where
  pub mid : T
  pub sent : IfSome rec (λ r. l.hears p l.old (Makes Sent (with_number i (slice_get r.entries 0))) mid)
  pub taken : l.hears p mid (Makes SinkTakes None) l.new

-- the same with this entry
pub record HearsMade {T : Type 0} (l : Listening T) (p : Contents) (i : ℕ) (entry : Option Entry) : Type 0 where
  pub mid : T
  pub sent : l.hears p l.old (Makes Sent (with_number i entry)) mid
  pub taken : l.hears p mid (Makes SinkTakes None) l.new

-- a replay after both lines
abbrev pub replay_taken : ℕ → Replay → Replay
replay_taken word replay = record replay { link = record (replay.link) { state = after_both replay.profile.now word replay.link.state }; lines = replay.lines + 2; used = replay.used + 1 }
