use Rattle.std.proofs.Common.{◌+◌, ◌≤◌, arith, ap, length, length-append, take}
use Rattle.std.specs.Fmt.{decimal}
use Rattle.std.proofs.lemmas.Fmt.{length-decimal-le}
use Rattle.std.proofs.lemmas.List.{length-take-le}
use Rattle.a429_view.proofs.LineFacts.{digits-written}
use Rattle.a429_view.proofs.line.Line.put_number.Goals as goal

pub overflow_add-end : goal.overflow_add-end
overflow_add-end c =
    omega (arith, c.digit_count.ensures, c.self.told, length-decimal-le 20 c.args.number (omega arith) (omega arith) (omega arith))

pub write_digits-requires : goal.write_digits-requires
write_digits-requires c =
    let len = c.self.inside.len in
    let room : len + 20 ≤ 192 =
    omega (arith, c.requires, ap length c.self.view_is, c.self.told, length-take-le len c.self.inside.bytes (omega (arith, c.self.told))) in (
      omega (arith, c.digit_count.ensures),
      omega (arith, room, c.self.told, c.digit_count.ensures, length-decimal-le 20 c.args.number (omega arith) (omega arith) (omega arith)),
    )

pub returns : goal.returns
returns c =
    let len = c.self.inside.len in
    let written = c.write_digits.ensures in
    let text =
    digits-written len c.digit_count.result c.write_digits.result
    (decimal c.args.number) c.self.inside.bytes c.write_digits.new.buf c.digit_count.ensures written.start written.written written.before in
    rw (← c.self.view_is)
    record {
      added = text;
      most = omega (
        arith,
        ap length text,
        length-append (take len c.self.inside.bytes) (decimal c.args.number),
        length-decimal-le 20 c.args.number (omega arith) (omega arith) (omega arith),
      );
    }
