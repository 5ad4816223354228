use Rattle.std.proofs.Common.{◌∙◌, sym, arith}
use Rattle.a429_import.proofs.ClockTimeFacts.{few_digits}
use Rattle.a429_import.proofs.clock_time.number_of.Goals as goal

pub small_number-requires-clause-digits : goal.small_number-requires-clause-digits
small_number-requires-clause-digits c =
    few_digits c.args.text.now (omega (arith, c.if-text-most.true, c.requires)) (sym c.are_digits.ensures ∙ c.if-are_digits.true)
