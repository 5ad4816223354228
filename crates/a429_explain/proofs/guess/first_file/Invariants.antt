use Rattle.std.proofs.Common.{◌≡◌, drop}
use Rattle.a429_explain.specs.Attempts.{next_start}
use Rattle.a429_explain.specs.Decoded.{forms_of}
use Rattle.a429_explain.proofs.guess.first_file.Given as goal

abbrev pub invariant-loop-at : goal.invariant-loop-at
invariant-loop-at l =
    next_start (forms_of l.decoded.profile.codes l.decoded.items)
    ≡ next_start (drop l.at (forms_of l.decoded.profile.codes l.decoded.items))
