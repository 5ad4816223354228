use Rattle.std.proofs.Common.{◌≡◌, ◌+◌, ◌-◌, not}
use Rattle.a429_import.specs.Parts.{first_bit, is_in_part}
use Rattle.a429_import.proofs.parts.first_missing.Given as goal

abbrev pub invariant-loop-bit : goal.invariant-loop-bit
invariant-loop-bit l =
    first_bit (λ n. not (is_in_part l.parts n)) l.bit (l.most + 1 - l.bit) ≡ first_bit (λ n. not (is_in_part l.parts n)) 1 l.most
