use Rattle.std.proofs.Common.{◌≡◌, ◌<◌, ◌≤◌, ◌+◌, ◌*◌, ◌∙◌, arith, length, take}
use Rattle.std.specs.Str.Parse.{digits_value}
use Rattle.std.proofs.lemmas.Int.Digits.{digits_more}
use Rattle.std.proofs.lemmas.List.{take_all}
use Rattle.std.proofs.lemmas.Bool.Decides.{nat_tests}
use Rattle.a429_import.specs.Base.{radix_of}
use Rattle.a429_import.proofs.BaseFacts.{limit_is, one_more, too_large, number_in-is}
use Rattle.a429_import.proofs.base.Base.number.Goals as goal

pub returns-then-number-limit : goal.returns-then-number-limit
returns-then-number-limit c =
    let i = c.digits.byte-index in
    let text = c.args.digits.now in
    let inside : i < length text = omega arith in
    let radix = c.from.ensures ∙ c.radix-radix.ensures.value in
    let value : c.digits.number * c.from.result + c.from-in-digits.result ≡ digits_value (radix_of c.args.self) (take (i + 1) text) =
    rw radix
    (one_more (radix_of c.args.self) text i c.digits.number c.from-in-digits.result inside c.digits.invariant.number
    (c.from-in-digits.ensures ∙ c.in_ok-digit_of.ensures.some.1)) in
    too_large (radix_of c.args.self) c.args.bits text (i + 1) (omega arith) (omega (arith, limit_is c.args.bits c.requires, value))

pub digits-preserved : goal.digits-preserved
digits-preserved c =
    let i = c.digits.byte-index in
    let text = c.args.digits.now in
    let inside : i < length text = omega arith in
    let digit = c.in_ok-digit_of.ensures.some in
    let radix = c.from.ensures ∙ c.radix-radix.ensures.value in
    record {
      number =
          rw radix
          (one_more (radix_of c.args.self) text i c.digits.number c.from-in-digits.result inside c.digits.invariant.number
          (c.from-in-digits.ensures ∙ digit.1));
      digits =
          digits_more (radix_of c.args.self) text i inside c.digits.invariant.digits
          (rw (← digit.1, ← c.radix-radix.ensures.value) digit.0);
      below = omega (arith, limit_is c.args.bits c.requires);
    }

pub returns : goal.returns
returns c =
    let text = c.args.digits.now in
    let all = take_all c.digits.byte-index text (omega arith) in
    let some : 1 ≤ length text = grind (arith, nat_tests, c.if-is_empty.ensures) in
    number_in-is (radix_of c.args.self) c.args.bits text c.digits.number some (rw all at c.digits.invariant.digits)
    (rw all at c.digits.invariant.number) c.digits.invariant.below
