use Rattle.std.proofs.Common.{◌≡◌, ◌-◌, arith, rules, length, take, drop, get_or, length-drop}
use Rattle.std.proofs.lemmas.List.{take_all}
use Rattle.a429_record.proofs.PlainFacts.{no_end, row_alone, with_return, return_line, return_no_end}
use Rattle.a429_record.proofs.line.front_line.Goals as goal

pub returns-in-10-clause-one : goal.returns-in-10-clause-one
returns-in-10-clause-one c = no_end _ _ c.in_ok-row.ensures.1

pub returns-in-10-clause-entry : goal.returns-in-10-clause-entry
returns-in-10-clause-entry c = row_alone _ _ c.in_ok-row.ensures.1

pub returns-in-13-clause-one : goal.returns-in-13-clause-one
returns-in-13-clause-one c =
    let bytes = c.args.bytes.now in
    let n = c.in_ok-row.row.len in
    let rest : take (length bytes - n) (drop n bytes) ≡ drop n bytes =
    take_all (length bytes - n) (drop n bytes) (simp length-drop (omega arith)) in
    let long = simp (rest, length-drop) at c.in-13.len_at_least in
    let back : get_or (take (length bytes - n) (drop n bytes)) 0 0 ≡ 13 = search rules in
    return_no_end bytes n c.in_ok-row.row.entry (with_return bytes n (omega arith) back) c.in_ok-row.ensures.1

pub returns-in-13-clause-entry : goal.returns-in-13-clause-entry
returns-in-13-clause-entry c =
    let bytes = c.args.bytes.now in
    let n = c.in_ok-row.row.len in
    let rest : take (length bytes - n) (drop n bytes) ≡ drop n bytes =
    take_all (length bytes - n) (drop n bytes) (simp length-drop (omega arith)) in
    let long = simp (rest, length-drop) at c.in-13.len_at_least in
    let back : get_or (take (length bytes - n) (drop n bytes)) 0 0 ≡ 13 = search rules in
    return_line bytes n c.in_ok-row.row.entry (with_return bytes n (omega arith) back) c.in_ok-row.ensures.1
