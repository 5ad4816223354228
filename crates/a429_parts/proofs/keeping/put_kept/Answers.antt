use Rattle.std.proofs.Common.{◌≡◌, ◌∙◌, ◌+◌, ◌∷◌, ◌++◌, [], arith, length, length-append, sym, true≢false}
use Rattle.std.proofs.lemmas.Result.{err_from_is_err_and}
use Rattle.a429_word.proofs.SheetFacts.{◌▹◌, says_nothing}
use Rattle.a429_parts.proofs.KeepingFacts.{before_is, gave_all, gave_first, gave_more, gave_these, gave_until, kept_text-push, less_left}
use Rattle.a429_parts.proofs.keeping.put_kept.Goals as goal

-- no entry came before the fault
pub returns-in_err-next-clause-until : goal.returns-in_err-next-clause-until
returns-in_err-next-clause-until g c =
    let p = err_from_is_err_and c.from_residual.result c.from_residual.ensures.1 in
    let none : c.next_of.new.rec.count ≡ c.args.rec.now.count + 0 = c.in_err-next.ensures.counts in
    rw (p.1, p.2) (record {
      entries = [];
      came = omega (arith, none);
      says = says_nothing _ c.args.sheet.now;
      stops =
          gave_until c.args.rec.now.to_come c.next_of.new.rec.to_come [] _
          (gave_first c.args.rec.now.to_come c.next_of.new.rec.to_come _ c.in_err-next.ensures.gives);
    })

pub entries-init : goal.entries-init
entries-init g c = record {
  entries = [];
  says = c.put_header.ensures;
  gave = gave_first c.args.rec.now.to_come c.next_of.new.rec.to_come _ c.in_ok-next.ensures.gives;
  count = omega (arith, c.in_ok-next.ensures.counts);
  works = c.in_ok-next.ensures.works;
  line = c.in_ok-next.ensures.line;
}

pub returns-in_default-clause-all : goal.returns-in_default-clause-all
returns-in_default-clause-all g c =
    let all : c.entries.rec.count ≡ c.args.rec.now.count + length c.entries.invariant.entries + 0 =
    rw c.in_default.is at c.entries.invariant.count in
    record {
      entries = c.entries.invariant.entries;
      says = c.entries.invariant.says;
      first = gave_these c.args.rec.now.to_come c.entries.rec.to_come c.entries.invariant.entries _ c.entries.invariant.gave;
      all =
          λ works. gave_all c.args.rec.now.to_come c.entries.rec.to_come c.entries.invariant.entries
          (rw c.in_default.is at c.entries.invariant.gave);
      came = λ works. omega (arith, all);
    }

-- the sheet has failed
pub returns-then-failed-clause-all : goal.returns-then-failed-clause-all
returns-then-failed-clause-all g c = record {
  entries = c.entries.invariant.entries;
  says = c.entries.invariant.says;
  first = gave_these c.args.rec.now.to_come c.entries.rec.to_come c.entries.invariant.entries _ c.entries.invariant.gave;
  all = λ works. absurd (true≢false (sym c.if-failed.true ∙ (c.failed.ensures ∙ works)));
  came = λ works. absurd (true≢false (sym c.if-failed.true ∙ (c.failed.ensures ∙ works)));
}

pub returns-in_err-next-2-clause-until : goal.returns-in_err-next-2-clause-until
returns-in_err-next-2-clause-until g c =
    let es = c.entries.invariant.entries in
    let e = c.in-Some.entry in
    let codes = c.args.profile.now.codes in
    let p = err_from_is_err_and c.from_residual-in_err-next-2.result c.from_residual-in_err-next-2.ensures.1 in
    let before : c.entries.rec.count ≡ c.args.rec.now.count + length es + 1 = rw c.in-Some.is at c.entries.invariant.count in
    let none : c.next_of-in-entries.new.rec.count ≡ c.entries.rec.count + 0 = c.in_err-next-2.ensures.counts in
    rw (p.1, p.2) (record {
      entries = es ++ e ∷ [];
      came = omega (arith, before, none, length-append es (e ∷ []));
      says = rw (before_is codes es e ∙ kept_text-push codes es e) (c.entries.invariant.says ▹ c.put_if_kept.ensures);
      stops =
          gave_until c.args.rec.now.to_come c.next_of-in-entries.new.rec.to_come (es ++ e ∷ []) _
          (gave_more _ _ _ es e _ (rw c.in-Some.is at c.entries.invariant.gave) c.in_err-next-2.ensures.gives);
    })

pub entries-smaller : goal.entries-smaller
entries-smaller g c = rw c.in-Some.is (less_left c.in_ok-next-2.next _ _ c.in_ok-next-2.ensures.room)

pub entries-preserved : goal.entries-preserved
entries-preserved g c =
    let es = c.entries.invariant.entries in
    let e = c.in-Some.entry in
    let codes = c.args.profile.now.codes in
    let before : c.entries.rec.count ≡ c.args.rec.now.count + length es + 1 = rw c.in-Some.is at c.entries.invariant.count in
    record {
      entries = es ++ e ∷ [];
      count = omega (arith, before, c.in_ok-next-2.ensures.counts, length-append es (e ∷ []));
      says = rw (kept_text-push codes es e) (c.entries.invariant.says ▹ c.put_if_kept.ensures);
      gave = gave_more c.args.rec.now.to_come _ _ es e _ (rw c.in-Some.is at c.entries.invariant.gave) c.in_ok-next-2.ensures.gives;
      works = c.in_ok-next-2.ensures.works;
      line = c.in_ok-next-2.ensures.line;
    }

pub returns-in_default-clause-works : goal.returns-in_default-clause-works
returns-in_default-clause-works g c working = c.entries.invariant.works c.in_default.is

pub put_if_kept-requires : goal.put_if_kept-requires
put_if_kept-requires g c = rw c.in-Some.is at c.entries.invariant.line
