use Rattle.a429_import.proofs.PlacesFacts.{places-more}
use Rattle.a429_import.proofs.import.Import.add.Goals as goal

pub returns : goal.returns
returns c = λ lots few line h. record {
  counts = c.with-self.ensures lots few h.counts;
  places =
      places-more lots c.args.lot.now c.args.self.now.counts.entries c.args.line c.args.self.now.places.items c.push_places.new.places.items
      h.places h.counts.entries line c.in-Ok.ensures;
}
