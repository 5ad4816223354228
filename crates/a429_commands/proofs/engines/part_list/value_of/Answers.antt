use Rattle.std.proofs.Common.{arith, sym, ◌<◌, length, get_or, take}
use Rattle.std.specs.Char.{digit_value}
use Rattle.std.proofs.lemmas.Int.Digits.{digits_value_more, digits_more}
use Rattle.std.proofs.lemmas.List.{length-take}
use Rattle.std.proofs.lemmas.Str.Parse.{digits_value_short}
use Rattle.a429_record.proofs.RowDigits.{room}
use Rattle.a429_import.proofs.TimeFacts.{digit_in}
use Rattle.a429_commands.proofs.PartListFacts.{own}
use Rattle.a429_commands.proofs.engines.part_list.value_of.Goals as goal

pub overflow_mul-number : goal.overflow_mul-number
overflow_mul-number c =
    let v = c.digits.invariant in
    omega (
      arith,
      room c.digits.len c.digits.number c.args.digits.now v.inside (omega (arith, c.digits-test.true, c.requires.few)) v.number v.all,
    )

pub digit_of-requires : goal.digit_of-requires
digit_of-requires c = digit_in c.args.digits.now c.digits.len c.digits-test.true c.requires.digits

pub overflow_add-number : goal.overflow_add-number
overflow_add-number c =
    let v = c.digits.invariant in
    let small = digit_in c.args.digits.now c.digits.len c.digits-test.true c.requires.digits in
    omega (
      arith,
      room c.digits.len c.digits.number c.args.digits.now v.inside (omega (arith, c.digits-test.true, c.requires.few)) v.number v.all,
      small,
      c.digit_of.ensures,
    )

pub digits-preserved : goal.digits-preserved
digits-preserved c =
    let v = c.digits.invariant in
    let i = c.digits.len in
    let ds = c.args.digits.now in
    let inside : i < length ds = c.digits-test.true in
    let small : digit_value (get_or ds i 0) < 10 = digit_in ds i inside c.requires.digits in
    record {
      inside = omega (arith, inside);
      all = digits_more 10 ds i inside v.all small;
      number = rw (c.digit_of.ensures, v.number) (sym (digits_value_more 10 ds i inside));
    }

pub returns-clause-small : goal.returns-clause-small
returns-clause-small c =
    let v = c.digits.invariant in
    let ds = c.args.digits.now in
    omega
    (arith, v.number, digits_value_short own (take c.digits.len ds) 19 v.all (omega (arith, length-take c.digits.len ds, c.requires.few)))
