use Rattle.std.proofs.Common.{◌≡◌, ◌-◌, ◌+◌, ◌≤◌, arith, rules, length, take, drop, length-drop}
use Rattle.std.proofs.lemmas.List.{take_all}
use Rattle.a429_record.proofs.PlainFacts.{is_front}
use Rattle.a429_record.proofs.plain.fields_of.Goals as goal

pub returns-clause-front : goal.returns-clause-front
returns-clause-front c =
    let bytes = c.args.bytes.now in
    let n = c.leading_number-time.result.len in
    let rest : take (length bytes - n) (drop n bytes) ≡ drop n bytes =
    take_all (length bytes - n) (drop n bytes) (simp length-drop (omega arith)) in
    let following = simp (rest, length-drop) at c.if-rest-lt-AFTER_TIME.false in
    let long : n + 11 ≤ length bytes = omega arith in
    let bus = rw (c.in_ok-bus_of.was, rest) at c.bus_of.ensures in
    let first = rw rest at c.if-rest-ne44.false in
    let second = rw rest at c.if-rest-ne44-2.false in
    rw rest (is_front bytes n c.leading_number-time.result.number c.in_ok-bus_of.field-0 (omega arith) (omega arith) (omega arith)
    c.leading_number-time.ensures.digits c.leading_number-time.ensures.number (search rules) first second bus)
