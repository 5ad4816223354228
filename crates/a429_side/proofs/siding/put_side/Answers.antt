use Rattle.std.proofs.Common.{◌≡◌, ◌∙◌, ◌+◌, ◌<◌, ◌^◌, ◌∷◌, ◌++◌, [], ap, arith, length, length-append, subst, sym, true≢false}
use Rattle.std.proofs.lemmas.Result.{err_from_is_err_and}
use Rattle.a429_word.proofs.SheetFacts.{◌▹◌, says_nothing}
use Rattle.a429_parts.proofs.KeepingFacts.{gave_all, gave_first, gave_more, gave_these, gave_until}
use Rattle.a429_side.specs.Counts.{AreCounts}
use Rattle.a429_side.specs.Side.{lots_of}
use Rattle.a429_side.proofs.SideFacts.{before_is, lot_is, lots_of-long, side_text-more, turn_is, written_is}
use Rattle.a429_side.proofs.siding.put_side.Goals as goal

-- no entry came before the fault
pub returns-in_err-next-clause-until : goal.returns-in_err-next-clause-until
returns-in_err-next-clause-until g c =
    let p = err_from_is_err_and c.from_residual.result c.from_residual.ensures.1 in
    let none : c.next_of.new.rec.count ≡ c.args.rec.now.count + 0 = c.in_err-next.ensures.counts in
    rw (p.1, p.2) (record {
      entries = [];
      came = omega (arith, none);
      says = says_nothing _ c.args.sheet.now;
      stops =
          gave_until c.args.rec.now.to_come c.next_of.new.rec.to_come [] _
          (gave_first c.args.rec.now.to_come c.next_of.new.rec.to_come _ c.in_err-next.ensures.gives);
    })

pub entries-init : goal.entries-init
entries-init g c = record {
  entries = [];
  says = c.put_header.ensures;
  counted = c.new-counts.ensures;
  last = ap (λ codes. codes.destination) c.codes-codes.ensures.codes;
  gave = gave_first c.args.rec.now.to_come c.next_of.new.rec.to_come _ c.in_ok-next.ensures.gives;
  count = omega (arith, c.in_ok-next.ensures.counts);
  few = c.in_ok-next.ensures.few;
  works = c.in_ok-next.ensures.works;
  line = c.in_ok-next.ensures.line;
}

pub returns-in_default-clause-all : goal.returns-in_default-clause-all
returns-in_default-clause-all g c =
    let i = c.entries.invariant in
    let all : c.entries.rec.count ≡ c.args.rec.now.count + length i.entries + 0 = rw c.in_default.is at i.count in
    record {
      entries = i.entries;
      says = i.says;
      counted = i.counted;
      first = gave_these c.args.rec.now.to_come c.entries.rec.to_come i.entries _ i.gave;
      all = λ works. gave_all c.args.rec.now.to_come c.entries.rec.to_come i.entries (rw c.in_default.is at i.gave);
      came = λ works. omega (arith, all);
    }

-- the sheet has failed
pub returns-then-failed-clause-all : goal.returns-then-failed-clause-all
returns-then-failed-clause-all g c =
    let i = c.entries.invariant in
    record {
      entries = i.entries;
      says = i.says;
      counted = i.counted;
      first = gave_these c.args.rec.now.to_come c.entries.rec.to_come i.entries _ i.gave;
      all = λ works. absurd (true≢false (sym c.if-failed.true ∙ (c.failed.ensures ∙ works)));
      came = λ works. absurd (true≢false (sym c.if-failed.true ∙ (c.failed.ensures ∙ works)));
    }

pub returns-in_err-next-2-clause-until : goal.returns-in_err-next-2-clause-until
returns-in_err-next-2-clause-until g c =
    let i = c.entries.invariant in
    let es = i.entries in
    let e = c.in-Some.recorded in
    let codes = c.args.profile.now.codes in
    let side = c.args.side in
    let p = err_from_is_err_and c.from_residual-in_err-next-2.result c.from_residual-in_err-next-2.ensures.1 in
    let before : c.entries.rec.count ≡ c.args.rec.now.count + length es + 1 = rw c.in-Some.is at i.count in
    let none : c.next_of-in-entries.new.rec.count ≡ c.entries.rec.count + 0 = c.in_err-next-2.ensures.counts in
    let written =
    written_is codes c.codes-codes.result.now side es e c.directed-entry.result c.next_lot-lot.result c.entries.last
    c.entry_of-written.result c.entry_of-written.ensures c.codes-codes.ensures.codes c.next_lot-lot.ensures.lot i.last
    c.directed-entry.ensures in
    rw (p.1, p.2) (record {
      entries = es ++ e ∷ [];
      came = omega (arith, before, none, length-append es (e ∷ []));
      says = rw (before_is codes side es e ∙ side_text-more codes side es e) (i.says ▹ (rw written at c.put_written.ensures));
      stops =
          gave_until c.args.rec.now.to_come c.next_of-in-entries.new.rec.to_come (es ++ e ∷ []) _
          (gave_more _ _ _ es e _ (rw c.in-Some.is at i.gave) c.in_err-next-2.ensures.gives);
    })

pub entries-preserved : goal.entries-preserved
entries-preserved g c =
    let i = c.entries.invariant in
    let es = i.entries in
    let e = c.in-Some.recorded in
    let codes = c.args.profile.now.codes in
    let side = c.args.side in
    let before : c.entries.rec.count ≡ c.args.rec.now.count + length es + 1 = rw c.in-Some.is at i.count in
    let below : c.entries.rec.count < 2 ^ 64 = rw c.in-Some.is at i.few in
    let few : length (lots_of codes side es) + 1 < 2 ^ 64 = omega (arith, lots_of-long codes side es, before, below) in
    let lot =
    lot_is codes side es e c.directed-entry.result c.next_lot-lot.result c.entries.last c.next_lot-lot.ensures.lot i.last
    c.directed-entry.ensures in
    let written =
    written_is codes c.codes-codes.result.now side es e c.directed-entry.result c.next_lot-lot.result c.entries.last
    c.entry_of-written.result c.entry_of-written.ensures c.codes-codes.ensures.codes c.next_lot-lot.ensures.lot i.last
    c.directed-entry.ensures in
    record {
      entries = es ++ e ∷ [];
      says = rw (side_text-more codes side es e) (i.says ▹ (rw written at c.put_written.ensures));
      counted = subst (AreCounts c.add.new.self) lot (c.add.ensures (lots_of codes side es) few i.counted);
      last =
          turn_is codes side es e c.directed-entry.result c.next_lot-lot.new.last c.entries.last c.next_lot-lot.ensures.last i.last
          c.directed-entry.ensures;
      gave = gave_more c.args.rec.now.to_come _ _ es e _ (rw c.in-Some.is at i.gave) c.in_ok-next-2.ensures.gives;
      count = omega (arith, before, c.in_ok-next-2.ensures.counts, length-append es (e ∷ []));
      few = c.in_ok-next-2.ensures.few;
      works = c.in_ok-next-2.ensures.works;
      line = c.in_ok-next-2.ensures.line;
    }
