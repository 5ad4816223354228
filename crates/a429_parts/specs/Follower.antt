-- What an observer's last words were, as far as a crossing file depends on them (profile).
use Rattle.std.specs.Prelude.{◌≡◌, ℕ, Option, option_map}
use Rattle.a429_link.specs.declared.number.UnitNumber.{UnitNumber}
use Rattle.a429_link.specs.Sink.{SinkPhase, OwesAck}
use Rattle.a429_link.specs.Observer.{Observer}

-- an end word of these flags ended the block for which an acknowledgement is owed
abbrev pub HasEnded : ℕ → SinkPhase → Type 0
HasEnded flags (OwesAck b end) = flags ≡ end
HasEnded flags phase = Unit {0}

-- this is the number of the link data unit accepted last, and these are the flags of the last end word
abbrev pub Remembers : Option UnitNumber → ℕ → Observer → Type 0
Remembers last flags o = (last ≡ option_map (λ n. n.number) o.last) × HasEnded flags o.phase
