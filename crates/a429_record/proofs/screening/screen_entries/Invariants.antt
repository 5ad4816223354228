use Rattle.std.proofs.Common.{◌≡◌, length, take, map}
use Rattle.a429_record.proofs.screening.screen_entries.Given as goal

abbrev pub invariant-loop-i : goal.invariant-loop-i
invariant-loop-i l = (length l.words ≡ 256) × (take l.i l.words ≡ map (λ e. e.word) (take l.i l.entries))
