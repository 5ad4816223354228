use Rattle.std.proofs.Common.{◌∙◌, ◌/◌, ◌*◌, ap, arith}
use Rattle.a429_word.proofs.FixedZeros.{upper_parts}
use Rattle.a429_word.proofs.fixed.division.upper_product_wide.Goals as goal

pub returns : goal.returns
returns c =
    let low = c.from-2.ensures ∙ c.upper_product.ensures ∙ ap (λ r. r * c.args.b / 18446744073709551616) c.lowest.ensures in
    rw (c.from.ensures, low) (upper_parts c.args.a c.args.b 18446744073709551616 (omega arith))
