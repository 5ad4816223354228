-- What the words of a piece say, up to the one at which it stops (profile).
use Rattle.std.specs.Prelude.{ℕ, ◌≡◌, ◌⊎◌, ◌≤◌, suc, List, [], ◌∷◌, ◌++◌, length, take, Option, Some, None, IfSome, slice_get}
use Rattle.a429_profile.specs.Profile.{Contents}
use Rattle.a429_link.specs.declared.file.FileBytes.{FileBytes}
use Rattle.a429_link.specs.declared.seen.Seen.{Seen}
use Rattle.a429_sink.specs.declared.stopping_trace.Stop.{Stop}
use Rattle.a429_sink.specs.declared.stopping_trace.StoppingTrace.{StoppingTrace}
use Rattle.a429_sink.specs.Anywhere.{sure_files}
use Rattle.a429_sink.specs.GlimpsedTrace.{IsGlimpsedTrace}
use Rattle.a429_sink.specs.History.{IsStop, sound_words}

-- where a piece stops
abbrev pub place_in : Option Stop → Option ℕ
place_in None = None
place_in (Some s) = Some s.place

-- the words before that
abbrev pub sound_in : List Seen → StoppingTrace → List Seen
sound_in items t = sound_words items (place_in t.stop)

-- the files that are sure of them
abbrev pub sure_in : Contents → List Seen → StoppingTrace → List FileBytes
sure_in p items t = sure_files p (sound_in items t)

-- the trace of these words: it has gone as far as the one at which they stop
pub record IsStoppingTrace (p : Contents) (items : List Seen) (t : StoppingTrace) : Type 0 where
  pub size : t.size ≡ length items
  pub trace : IsGlimpsedTrace p (sound_in items t) t.trace
  pub stops : IsStop p items (place_in t.stop)
  pub word : IfSome t.stop (λ s. slice_get items s.place ≡ Some s.seen)
  pub files : t.files ≡ length (sure_in p items t)

-- by one more word these files are sure
abbrev pub GrowsBy : Contents → List Seen → Seen → StoppingTrace → StoppingTrace → List FileBytes → Type 0
GrowsBy p items i old new files = sure_in p (items ++ i ∷ []) new ≡ sure_in p items old ++ files

-- a word later: where it stops stays, or is this word; units of files that are not under way stay
pub record IsLater (old new : StoppingTrace) : Type 0 where
  pub size : new.size ≡ suc old.size
  pub files : old.files ≤ new.files
  pub stop : (new.stop ≡ old.stop) ⊎ ((old.stop ≡ None) × IfSome new.stop (λ s. s.place ≡ old.size))
  pub units : take (length old.trace.units.earlier.items) new.trace.units.earlier.items ≡ old.trace.units.earlier.items
