use Rattle.std.proofs.Common.{◌≡◌, take, map}
use Rattle.a429_word.specs.Screening.{screened}
use Rattle.a429_word.proofs.screening.screen.Given as goal

abbrev pub invariant-loop-i : goal.invariant-loop-i
invariant-loop-i l = take l.i l.out ≡ map (screened l.label) (take l.i l.words)
