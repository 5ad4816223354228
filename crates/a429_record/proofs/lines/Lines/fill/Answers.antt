-- the part that was taken stands behind the parts before it
use borrow.Rule.Slice.PartMut.{put_mid}
use Rattle.a429_record.specs.Handed.{OfTaken}
use Rattle.std.proofs.Common.{◌≡◌, ◌<◌, ◌+◌, ◌-◌, ◌++◌, length, length-append, take, refl, ap, ◌∙◌, arith, rules}
use Rattle.std.proofs.lemmas.Bool.Decides.{nat_tests}
use Rattle.std.proofs.lemmas.List.{length-take-le}
use Rattle.std.proofs.KnownBytes.{Consumes-kept}
use Rattle.a429_word.specs.Tally.{inner_of}
use Rattle.a429_word.proofs.TallySlices.{length-put_mid_within}
use Rattle.a429_record.specs.Lines.{ahead_of, pending_of, IsShort}
use Rattle.a429_record.proofs.LinesFacts.{part_given}
use Rattle.a429_record.proofs.Handed.{front_lost}
use Rattle.a429_record.proofs.lines.Lines.fill.Goals as goal

pub returns-in-Err-clause-before : goal.returns-in-Err-clause-before
returns-in-Err-clause-before g c =
    let n = c.take_bytes-at.result in
    let part = take n c.take_bytes-at.new.bytes in
    let line = take c.parts.at c.parts.bytes in
    let inside =
    length-put_mid_within c.parts.at
    (length c.parts.bytes - c.parts.at) n c.parts.bytes c.take_bytes-at.new.bytes c.parts.invariant.most c.take_bytes-at.ensures.most in
    let size : length (line ++ part) ≡ c.parts.at + n = simp (
      length-append,
      length-take-le c.parts.at c.parts.bytes c.parts.invariant.most,
      length-take-le n c.take_bytes-at.new.bytes c.take_bytes-at.ensures.most,
    ) refl in
    let short : length (line ++ part)
    < length (put_mid c.parts.at (length c.parts.bytes - c.parts.at) c.parts.bytes c.take_bytes-at.new.bytes) =
    grind (arith, nat_tests, size, inside, c.if-at-bytes.false) in
    let less : n < length c.take_bytes-at.new.bytes = grind (arith, nat_tests) in
    front_lost (OfTaken (IsShort _)) (pending_of g.R.Read.remaining c.args.self.now c.args.rec.now)
    (g.R.Read.remaining (inner_of c.parts.rec)) (g.R.Read.remaining (inner_of c.refill.new.rec))
    (ahead_of c.parts.self) part line c.parts.invariant.gone (rw (c.take_bytes-at.ensures.all less) at c.take_bytes-at.ensures.takes)
    (λ rest. short) c.in-Err.ensures.none

pub returns-in-Ok-false-clause-takes : goal.returns-in-Ok-false-clause-takes
returns-in-Ok-false-clause-takes g c =
    let before = pending_of g.R.Read.remaining c.args.self.now c.args.rec.now in
    let between = pending_of g.R.Read.remaining c.take_bytes-at.new.self c.parts.rec in
    let after = pending_of g.R.Read.remaining c.refill.new.self c.refill.new.rec in
    Consumes-kept before between after _
    (part_given before (g.R.Read.remaining (inner_of c.parts.rec)) (ahead_of c.parts.self)
    (ahead_of c.take_bytes-at.new.self) c.parts.bytes c.take_bytes-at.new.bytes c.parts.at
    (length c.parts.bytes - c.parts.at) c.take_bytes-at.result c.parts.invariant.most c.take_bytes-at.ensures.most c.parts.invariant.gone
    c.take_bytes-at.ensures.takes)
    c.in-Ok-false.ensures.keeps

pub parts-preserved : goal.parts-preserved
parts-preserved g c =
    let before = pending_of g.R.Read.remaining c.args.self.now c.args.rec.now in
    let between = pending_of g.R.Read.remaining c.take_bytes-at.new.self c.parts.rec in
    let after = pending_of g.R.Read.remaining c.refill.new.self c.refill.new.rec in
    let size = ap length c.take_bytes-at.ensures.takes in
    record {
      size = search rules;
      most =
          length-put_mid_within c.parts.at (length c.parts.bytes - c.parts.at) c.take_bytes-at.result c.parts.bytes
          c.take_bytes-at.new.bytes c.parts.invariant.most c.take_bytes-at.ensures.most;
      gone = Consumes-kept before between after _
          (part_given before (g.R.Read.remaining (inner_of c.parts.rec)) (ahead_of c.parts.self)
          (ahead_of c.take_bytes-at.new.self) c.parts.bytes c.take_bytes-at.new.bytes c.parts.at
          (length c.parts.bytes - c.parts.at) c.take_bytes-at.result c.parts.invariant.most c.take_bytes-at.ensures.most
          c.parts.invariant.gone c.take_bytes-at.ensures.takes)
          c.in-Ok-true.ensures.keeps;
      room =
          let taken : length (ahead_of c.parts.self) ≡ c.take_bytes-at.result + length (ahead_of c.take_bytes-at.new.self) =
          size ∙ simp (length-append, length-take-le c.take_bytes-at.result c.take_bytes-at.new.bytes c.take_bytes-at.ensures.most) refl in
          omega (arith, taken, c.parts.invariant.room, c.in-Ok-true.ensures.room);
      works = search rules;
    }
