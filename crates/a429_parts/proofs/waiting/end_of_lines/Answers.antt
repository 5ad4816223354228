use Rattle.std.proofs.Common.{◌≤◌, rules, sym, arith}
use Rattle.std.proofs.lemmas.List.{length-take-le}
use Rattle.a429_parts.proofs.WaitingFacts.{are_before, before_end}
use Rattle.a429_parts.proofs.waiting.end_of_lines.Goals as goal

pub slice_bounds-start_of_last-end : goal.slice_bounds-start_of_last-end
slice_bounds-start_of_last-end c =
    sym (length-take-le c.args.noted.bytes c.args.lines.now
    (are_before c.args.lines.now c.args.noted c.requires.written c.requires.noted).within)

pub start_of_last-requires-clause-written : goal.start_of_last-requires-clause-written
start_of_last-requires-clause-written c = (are_before c.args.lines.now c.args.noted c.requires.written c.requires.noted).front.written

pub start_of_last-requires-clause-count : goal.start_of_last-requires-clause-count
start_of_last-requires-clause-count c =
    omega (arith, (are_before c.args.lines.now c.args.noted c.requires.written c.requires.noted).count)

pub returns-then-count-noted : goal.returns-then-count-noted
returns-then-count-noted c =
    let few : c.args.count ≤ c.args.noted.lines = search rules in
    before_end c.args.lines.now c.args.noted c.args.count c.start_of_last.result c.requires.written c.requires.noted few
    c.start_of_last.ensures
