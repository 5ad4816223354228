-- Why a block is not good.
use Rattle.std.specs.Prelude.{ℕ, ◌+◌, ◌-◌, ◌%◌, Bool, not, ◌==◌, ◌||◌, nat_lt, if◌then◌else◌, length, Option, Some, None}
use Rattle.a429_profile.specs.Profile.{Contents}
use Rattle.a429_ldu.specs.Carried.{bytes_in, semis_in_words}
use Rattle.a429_ldu.specs.CheckWord.{agrees, check_of}
use Rattle.a429_link.specs.declared.why.Why.{Why}
use Rattle.a429_link.specs.declared.why.Why.TheVariants.{NoStart, OtherCount, HalfBytes, OtherCheck, OutOfSequence}
use Rattle.a429_link.specs.Sink.{Block, Number, SinkPhase, InBlock, may_come, number_of}

-- so many semi-octets are those of no bytes
abbrev pub are_half : ℕ → Bool
are_half semis = semis % 2 == 1 || nat_lt semis 2

-- the first reason that holds; there is no block where no start word was taken
abbrev pub why_bad : Contents → Option Number → ℕ → Option Block → ℕ → Option Why
why_bad p last count None check = Some NoStart
why_bad p last count (Some b) check =
    if not (length b.words + 2 == count) then Some (OtherCount (length b.words) (count - 2))
    else (if are_half (semis_in_words p.codes b.words) then Some (HalfBytes (semis_in_words p.codes b.words))
    else (if not (agrees p.check (bytes_in p.codes b.words) check) then Some (OtherCheck (check_of p.check (bytes_in p.codes b.words)))
    else (if not (may_come p.codes last (number_of b)) then Some OutOfSequence
    else None)))

-- its data words carry no bytes, or with another check word
abbrev pub MakesNoUnit : Option Why → Type 0
MakesNoUnit (Some (HalfBytes semis)) = Unit {0}
MakesNoUnit (Some (OtherCheck check)) = Unit {0}
MakesNoUnit _ = ⊥

-- the block that the sink is in
abbrev pub block_in : SinkPhase → Option Block
block_in (InBlock b) = Some b
block_in _ = None
