use Rattle.std.proofs.Common.{◌≡◌, ◌<◌, ◌+◌, ◌++◌, ◌∷◌, [], length, refl, rules, sym, subst, arith}
use Rattle.std.proofs.lemmas.List.{nil_from_length}
use Rattle.a429_commands.specs.PartList.{ArePartSizes}
use Rattle.a429_commands.proofs.PartListFacts.{IsReadTo, no_line, no_sizes, read_on, shorter, too_many}
use Rattle.a429_commands.proofs.engines.part_list.read_parts.Goals as goal

pub returns-in_default-clause-none : goal.returns-in_default-clause-none
returns-in_default-clause-none c = λ e all l.
    let some : 0 < length c.lines.rest.now = search rules in
    no_line c.args.text.now c.lines.counts.items c.lines.rest.now c.lines.number c.lines.from c.lines.invariant.read some
    (λ n after few eq. c.in_default.ensures.none refl n after few eq) all l

pub returns-then-from-ge-TOO_LONG-clause-none : goal.returns-then-from-ge-TOO_LONG-clause-none
returns-then-from-ge-TOO_LONG-clause-none c = λ e all l.
    let line = c.in-Some.ensures.some in
    too_many c.args.text.now (c.lines.counts.items ++ (c.in-Some.count ∷ [])) c.in-Some.after.now (c.lines.number + 1)
    (c.lines.from + c.in-Some.count)
    (read_on c.args.text.now c.lines.counts.items c.lines.rest.now c.in-Some.after.now c.lines.number c.lines.from c.in-Some.count
    c.lines.invariant.read line.0 line.1)
    (omega (arith, c.if-from-ge-TOO_LONG.true)) all l

pub lines-preserved : goal.lines-preserved
lines-preserved c =
    let line = c.in-Some.ensures.some in
    let items : c.push.new.self.items ≡ c.lines.counts.items ++ (c.in-Some.count ∷ []) = search rules in
    let less = shorter c.lines.rest.now c.in-Some.after.now c.lines.number c.lines.from c.in-Some.count line.0 in
    record {
      read = subst (λ l. IsReadTo c.args.text.now l c.in-Some.after.now (c.lines.number + 1) (c.lines.from + c.in-Some.count)) (sym items)
          (read_on c.args.text.now c.lines.counts.items c.lines.rest.now c.in-Some.after.now c.lines.number c.lines.from c.in-Some.count
          c.lines.invariant.read line.0 line.1);
      small = omega (arith, c.if-from-ge-TOO_LONG.false);
      room = omega (arith, c.lines.invariant.room, less);
    }

pub returns-else-are_sizes-clause-none : goal.returns-else-are_sizes-clause-none
returns-else-are_sizes-clause-none c = λ e all l.
    let len : length c.lines.rest.now ≡ 0 = search rules in
    let none = nil_from_length c.lines.rest.now len in
    no_sizes c.args.text.now c.lines.counts.items c.lines.rest.now c.lines.number c.lines.from c.lines.invariant.read none
    (λ sizes. absurd (cc (c.are_sizes.ensures.1 (subst ArePartSizes (sym c.as_slice.ensures.value) sizes), c.if-are_sizes.false))) all l
