-- the part that was taken is given behind the parts before it
use Rattle.std.proofs.Common.{◌<◌, ◌++◌, ◌∷◌, [], rules, append_assoc, arith, length, length-append, ap}
use Rattle.std.proofs.lemmas.List.{append-nil}
use Rattle.std.proofs.lemmas.Bool.Decides.{nat_tests}
use Rattle.std.proofs.KnownBytes.{Consumes-kept}
use Rattle.a429_word.specs.Tally.{inner_of}
use Rattle.a429_record.specs.Lines.{ahead_of, pending_of}
use Rattle.a429_record.proofs.LinesFacts.{HasNoEnd-append, given, takes_ended, takes_last}
use Rattle.a429_record.specs.Handed.{OfTaken}
use Rattle.a429_record.specs.Ends.{HasNoEnd}
use Rattle.a429_record.proofs.Handed.{front_lost}
use Rattle.a429_record.proofs.lines.Lines.next_line.Goals as goal

pub returns-then-ended-clause-takes : goal.returns-then-ended-clause-takes
returns-then-ended-clause-takes g c found =
    let part = rw c.if-ended.true at c.in-Ok.ensures.part in
    let before = pending_of g.R.Read.remaining c.args.self.now c.args.rec.now in
    let k = g.R.Read.remaining (inner_of c.parts.rec) in
    let gone =
    rw (← append_assoc) at (given before k (ahead_of c.parts.self) (part.0 ++ (10 ∷ []))
    (ahead_of c.take_part.new.self) c.parts.line.items c.parts.invariant.gone part.3) in
    rw part.2
    (takes_ended before (pending_of g.R.Read.remaining c.take_part.new.self c.parts.rec) (c.parts.line.items ++ part.0)
    (HasNoEnd-append _ _ c.parts.invariant.line part.1) gone)

pub returns-then-not-more-clause-takes : goal.returns-then-not-more-clause-takes
returns-then-not-more-clause-takes g c found =
    let part = rw c.if-ended.false at c.in-Ok.ensures.part in
    let cut = rw append-nil at part.3 in
    let some : 0 < length c.take_part.new.line.items = grind (arith, nat_tests, c.is_empty.ensures) in
    let before = pending_of g.R.Read.remaining c.args.self.now c.args.rec.now in
    let between = pending_of g.R.Read.remaining c.take_part.new.self c.parts.rec in
    let after = pending_of g.R.Read.remaining c.refill.new.self c.refill.new.rec in
    let gone =
    given before (g.R.Read.remaining (inner_of c.parts.rec)) (ahead_of c.parts.self) part.0
    (ahead_of c.take_part.new.self) c.parts.line.items c.parts.invariant.gone cut in
    takes_last before after c.take_part.new.line.items some (rw part.2 (HasNoEnd-append _ _ c.parts.invariant.line part.1))
    (rw part.2 (Consumes-kept before between after (c.parts.line.items ++ part.0) gone c.in-Ok-refill.ensures.keeps))
    (c.in-Ok-refill.ensures.end c.if-not-more.true)

pub parts-preserved : goal.parts-preserved
parts-preserved g c =
    let part = rw c.if-ended.false at c.in-Ok.ensures.part in
    let cut = rw append-nil at part.3 in
    let before = pending_of g.R.Read.remaining c.args.self.now c.args.rec.now in
    let between = pending_of g.R.Read.remaining c.take_part.new.self c.parts.rec in
    let after = pending_of g.R.Read.remaining c.refill.new.self c.refill.new.rec in
    let gone =
    given before (g.R.Read.remaining (inner_of c.parts.rec)) (ahead_of c.parts.self) part.0
    (ahead_of c.take_part.new.self) c.parts.line.items c.parts.invariant.gone cut in
    let size = simp length-append at (ap length cut) in
    record {
      line = rw part.2 (HasNoEnd-append _ _ c.parts.invariant.line part.1);
      gone = rw part.2 (Consumes-kept before between after (c.parts.line.items ++ part.0) gone c.in-Ok-refill.ensures.keeps);
      room = rw part.2 (simp length-append (omega (arith, size, c.in-Ok-refill.ensures.room)));
      works = search rules;
    }

pub returns-in_default-refill-clause-before : goal.returns-in_default-refill-clause-before
returns-in_default-refill-clause-before g c failed =
    let part = rw c.if-ended.false at c.in-Ok.ensures.part in
    let cut = rw append-nil at part.3 in
    let none = c.in-Ok.ensures.ahead c.if-ended.false in
    let before = pending_of g.R.Read.remaining c.args.self.now c.args.rec.now in
    let one = HasNoEnd-append _ _ c.parts.invariant.line part.1 in
    front_lost (OfTaken HasNoEnd) before (g.R.Read.remaining (inner_of c.parts.rec)) (g.R.Read.remaining (inner_of c.refill.new.rec))
    (ahead_of c.parts.self) part.0 c.parts.line.items
    c.parts.invariant.gone (rw none at cut) (λ rest. one) c.in_default-refill.ensures.none

pub returns-in_default-clause-before : goal.returns-in_default-clause-before
returns-in_default-clause-before g c = search rules

pub returns-in_default-clause-device : goal.returns-in_default-clause-device
returns-in_default-clause-device g c = search rules

pub returns-in_default-refill-clause-end : goal.returns-in_default-refill-clause-end
returns-in_default-refill-clause-end g c = tt

pub returns-in_default-refill-clause-device : goal.returns-in_default-refill-clause-device
returns-in_default-refill-clause-device g c = search rules
