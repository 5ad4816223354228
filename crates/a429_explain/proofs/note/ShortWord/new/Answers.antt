use Rattle.std.proofs.Common.{◌∙◌, ap}
use Rattle.std.specs.Int.{w32, from_le_bytes}
use Rattle.std.proofs.lemmas.Nat.{from_le_bytes-to_le_bytes_4}
use Rattle.a429_explain.specs.Note.{number_in}
use Rattle.a429_explain.proofs.note.ShortWord.new.Goals as goal

pub returns : goal.returns
unfolding number_in
returns c = ap (from_le_bytes w32) c.to_le_bytes.ensures ∙ from_le_bytes-to_le_bytes_4 c.args.number c.ranges.number.fits
