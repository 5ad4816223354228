use Rattle.std.proofs.Common.{suc, arith, ap}
use Rattle.a429_parts.specs.Watch.{Watched}
use Rattle.a429_parts.proofs.WatchFacts.{watched_is}
use Rattle.a429_parts.proofs.watch.Watch.take.Goals as goal

pub returns-clause-takes : goal.returns-clause-takes
returns-clause-takes c = record {
  seen = c.see-place.new.self;
  sees = c.see-place.ensures.sees;
  counts =
      watched_is _ (suc c.args.self.now.count) c.see-place.new.self.observer c.see-place.new.self.doubt
      (omega (arith, ap (λ (v : Watched). v.count) c.self.view_is, c.see-place.ensures.counts))
      (ap (λ (v : Watched). v.observer) c.self.view_is) (ap (λ (v : Watched). v.doubt) c.self.view_is);
}
