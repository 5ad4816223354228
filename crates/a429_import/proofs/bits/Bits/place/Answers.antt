use Rattle.a429_import.proofs.BitsFacts.{placed-straight, placed-reversed}
use Rattle.a429_import.proofs.bits.Bits.place.Goals as goal
use Rattle.a429_import.proofs.bits.Bits.place.Goals.{then-self, else-self}

pub returns : goal.returns
returns c =
    elim c.if-self.branch [
      | then-self w ↦ rw (w.number-is, w.reverse_bits.ensures) (placed-reversed c.args.self c.args.number w.if-self.true c.requires.bits)
      | else-self w ↦ rw w.number-is (placed-straight c.args.self c.args.number w.if-self.false c.requires.bits c.requires.number)
    ]
