use Rattle.std.proofs.Common.{get_or, refl}
use Rattle.std.specs.Prelude.{filter}
use Rattle.a429_side.specs.declared.lot.Lot.TheVariants.{Elsewhere}
use Rattle.a429_side.specs.Counts.{IsDestinationCount, is_at, no_words}
use Rattle.a429_side.proofs.CountsFacts.{at_few, table_more}
use Rattle.a429_side.proofs.counts.count_word.Goals as goal

pub returns : goal.returns
returns c = λ lots few h.
    let table = c.args.counts.now in
    let code = c.args.destination in
    let lot = Elsewhere code c.args.is_request in
    let old : IsDestinationCount (get_or table c.from-place.result no_words) (filter (is_at code) lots) =
    rw c.from-place.ensures (h.each code c.ranges.destination.fits) in
    rw c.from-place.ensures
    (table_more table lots code c.args.is_request c.and.result c.ranges.destination.fits h
    (c.and.ensures _ lot (at_few code lots few) refl old))
