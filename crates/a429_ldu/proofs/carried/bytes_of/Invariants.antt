use Rattle.std.proofs.Common.{◌≡◌, ◌<◌, ◌⊎◌, ◌++◌, Some, IfSome}
use Rattle.std.specs.Option.{option_to_list}
use Rattle.std.specs.Slice.Iter.{chunks_rest, chunks_size}
use Rattle.a429_profile.specs.Profile.{IsProfile}
use Rattle.a429_ldu.specs.Semis.{semis_of_bytes}
use Rattle.a429_ldu.specs.Carried.{joined_to, semis_of_words}
use Rattle.a429_ldu.proofs.carried.bytes_of.Given as goal

abbrev pub invariant-loop-piece : goal.invariant-loop-piece
invariant-loop-piece l =
    (goal.iterator-loop-piece).can_next l.piece-iterator
    × (goal.iterator-loop-piece).is_finite l.piece-iterator
    × (chunks_size l.piece-iterator ≡ 252)
    × (joined_to (Some (semis_of_bytes l.bytes.items ++ option_to_list l.low))
    (semis_of_words l.profile.codes (chunks_rest l.piece-iterator)) ≡ semis_of_words l.profile.codes l.words)
    × IfSome l.low (λ digit. digit < 16)
    × ((chunks_rest l.piece-iterator ≡ l.words) ⊎ IsProfile l.profile)
