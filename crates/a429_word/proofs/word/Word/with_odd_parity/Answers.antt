use Rattle.a429_word.proofs.WordMade.{odd_topped, odd_made}
use Rattle.a429_word.proofs.word.Word.with_odd_parity.Goals as goal

pub returns : goal.returns
returns c =
    let value = odd_topped c.args.number c.parity_of-parity_bit.result c.requires c.parity_of-parity_bit.ensures in
    record { value = value; parity = odd_made c.args.number _ c.requires value }
