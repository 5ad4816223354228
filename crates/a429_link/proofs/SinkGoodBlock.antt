-- When a block is good.
use Rattle.std.proofs.Common.{◌≡◌, ℕ, ◌+◌, ◌&&◌, List, [], length, Option, Some, is_some, unwrap_or, ap, ◌∙◌, eq-eqb}
use Rattle.a429_ldu.specs.CheckWord.{agrees}
use Rattle.a429_link.specs.Sink.{Block, Number, is_good, may_come, number_of}
use Rattle.a429_profile.specs.Profile.{Contents}
use Rattle.a429_ldu.specs.Carried.{bytes_carried, bytes_in}

-- a block of the right count that carries bytes
pub good_where : (p : Contents) (last : Option Number) (count : ℕ) (b : Block) (check : ℕ) (bytes : List ℕ)
    → length b.words + 2 ≡ count → bytes_carried p.codes b.words ≡ Some bytes
    → is_good p last count b check ≡ (agrees p.check bytes check && may_come p.codes last (number_of b))
good_where p last count b check bytes n e =
    let may = may_come p.codes last (number_of b) in
    ap (λ t. t && (is_some (bytes_carried p.codes b.words) && (agrees p.check (bytes_in p.codes b.words) check && may)))
    (eq-eqb (length b.words + 2) count n)
    ∙ ap (λ (o : Option (List ℕ)). is_some o && (agrees p.check (unwrap_or o []) check && may)) e
