use Rattle.std.proofs.Common.{◌++◌, ◌∷◌, [], arith, length-append}
use Rattle.a429_parts.specs.Keeping.{taken}
use Rattle.a429_parts.proofs.KeepingFacts.{came_first, came_more}
use Rattle.a429_sink.proofs.SplittingFacts.{splits_until}
use Rattle.a429_sink.proofs.splitting.put_pieces.Goals as goal

pub entries-init : goal.entries-init
entries-init g c = record {
  entries = [];
  splits = c.new-splitting.ensures c.args.profile.now (g.P.Pieces.known c.args.pieces.now) c.requires;
  came = came_first _;
  count = omega arith;
}

pub entries-preserved : goal.entries-preserved
entries-preserved g c =
    let i = c.entries.invariant in
    let e = c.in-Ok-Some.entry in
    let counts = rw c.in-Ok-Some.field-0-is at c.in-Ok-Some.ensures.counts in
    let gives = rw c.in-Ok-Some.field-0-is at c.in-Ok-Some.ensures.gives in record {
      entries = i.entries ++ e ∷ [];
      splits = c.in-Ok.ensures.ok (g.P.Pieces.known c.args.pieces.now) i.entries i.splits;
      came = came_more _ _ _ i.entries e gives i.came;
      count = omega (arith, i.count, counts, length-append i.entries (e ∷ []));
    }

pub returns-in-Err-take-clause-until : goal.returns-in-Err-take-clause-until
returns-in-Err-take-clause-until g c =
    let i = c.entries.invariant in
    let e = c.in-Ok-Some.entry in
    let counts = rw c.in-Ok-Some.field-0-is at c.in-Ok-Some.ensures.counts in
    let gives = rw c.in-Ok-Some.field-0-is at c.in-Ok-Some.ensures.gives in
    splits_until c.args.profile.now (taken c.args.rec.now c.next_of.new.rec) (g.P.Pieces.known c.args.pieces.now)
    (g.P.Pieces.known c.take.new.pieces) c.next_of.new.rec.to_come c.fault_by.result (i.entries ++ e ∷ [])
    (came_more _ _ _ i.entries e gives i.came) (omega (arith, i.count, counts, length-append i.entries (e ∷ []))) c.fault_by.ensures.either
