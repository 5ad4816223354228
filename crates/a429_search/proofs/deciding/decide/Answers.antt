use Rattle.std.proofs.Common.{List, length, slice_get, take, Option, Some, sym, subst, inl, inr, arith}
use Rattle.std.proofs.lemmas.List.{take-map}
use Rattle.a429_link.specs.declared.seen.Seen.{Seen}
use Rattle.a429_link.specs.Run.{BeginsARun}
use Rattle.a429_cert.specs.Explained.{items_of, seen_of}
use Rattle.a429_cert.proofs.ExplainedFacts.{in_some_run}
use Rattle.a429_explain.specs.declared.verdict.Verdict.{Verdict}
use Rattle.a429_explain.specs.Verdict.{IsFirst, IsImpossible, IsSoundVerdict}
use Rattle.a429_explain.specs.Walk.{AreAllowedUpTo}
use Rattle.a429_contradiction.specs.declared.contradiction.Contradiction.{Contradiction}
use Rattle.a429_search.specs.declared.deciding.Written.{Written}
use Rattle.a429_contradiction.specs.Contradiction.{ContradictsAt, HasNoContradiction}
use Rattle.a429_search.specs.Deciding.{IsFoundBefore, IsNoRun, IsWritten}
use Rattle.a429_search.specs.Recorded.{IsRequestAt}
use Rattle.a429_search.proofs.DecidingFacts.{allowed_first, at_least, begins_within, doubt_of_check, explained_none, first_by, found_first, first_of_refused, impossible_by, is_reached, no_reason_at_all, none_first, request_inside}
use Rattle.a429_search.proofs.deciding.decide.Goals as goal

pub look_before-requires : goal.look_before-requires
look_before-requires c =
    let p = c.args.profile.now in
    let items = items_of c.args.entries.now in
    let n = c.in-Impossible.entry in
    let refused = subst (λ (v : Verdict). IsFirst p items v) c.in-Impossible.is c.in_ok-certificate.ensures.first in
    subst (λ (xs : List Seen). AreAllowedUpTo p xs (length xs)) (take-map seen_of n c.args.entries.now)
    (allowed_first p items n refused.before)

pub returns-in-Explained-clause-first : goal.returns-in-Explained-clause-first
returns-in-Explained-clause-first c =
    let p = c.args.profile.now in
    let items = items_of c.args.entries.now in
    let sound = subst (λ (v : Verdict). IsSoundVerdict p items v) c.in-Explained.is c.in_ok-certificate.ensures.explained in
    let first = subst (λ (v : Verdict). IsFirst p items v) c.in-Explained.is c.in_ok-certificate.ensures.first in
    explained_none p items _ _ sound.0 first.0 (λ xs k r. c.what_contradicts_has_no_run.ensures p xs k r c.codes-codes.ensures.sound)

-- ---- a word is refused, and an earlier one is found

pub returns-in-Some-clause-exact : goal.returns-in-Some-clause-exact
returns-in-Some-clause-exact c =
    let p = c.args.profile.now in
    let es = c.args.entries.now in
    let items = items_of es in
    let n = c.in-Impossible.entry in
    let found = c.in-Some.field-0 in
    let is = subst (λ (v : Verdict). IsImpossible p items v) c.in-Impossible.is c.in_ok-certificate.ensures.impossible in
    let none =
    subst (λ (o : Option Contradiction).
    IsFoundBefore p (items_of (take c.in-Impossible.entry es)) c.in_ok-found-in-Impossible.field-0.cut o) c.in-Some.is
    c.in_ok-found-in-Impossible.ensures in
    let f =
    found_first p items n found (omega (arith, is.0))
    (subst (λ (xs : List Seen). IsNoRun p xs found) (sym (take-map seen_of n es)) none.0) in
    let within = f.within in
    record {
      verdict = (
        f.inside,
        f.no_run,
        λ uncut. begins_within p es n found.entry (omega (arith, within)) (none.1 uncut),
      );
      reached = is_reached c.in_ok-found-in-Impossible.field-0.cut;
    }

pub returns-in-Some-clause-impossible : goal.returns-in-Some-clause-impossible
returns-in-Some-clause-impossible c =
    let p = c.args.profile.now in
    let es = c.args.entries.now in
    let items = items_of es in
    let n = c.in-Impossible.entry in
    let found = c.in-Some.field-0 in
    let refused = subst (λ (v : Verdict). IsFirst p items v) c.in-Impossible.is c.in_ok-certificate.ensures.first in
    let is = subst (λ (v : Verdict). IsImpossible p items v) c.in-Impossible.is c.in_ok-certificate.ensures.impossible in
    let none =
    subst (λ (o : Option Contradiction).
    IsFoundBefore p (items_of (take c.in-Impossible.entry es)) c.in_ok-found-in-Impossible.field-0.cut o) c.in-Some.is
    c.in_ok-found-in-Impossible.ensures in
    impossible_by p items n found refused.before
    (found_first p items n found (omega (arith, is.0))
    (subst (λ (xs : List Seen). IsNoRun p xs found) (sym (take-map seen_of n es)) none.0))

pub returns-in-Some-clause-first : goal.returns-in-Some-clause-first
returns-in-Some-clause-first c =
    let p = c.args.profile.now in
    let es = c.args.entries.now in
    let items = items_of es in
    let n = c.in-Impossible.entry in
    let found = c.in-Some.field-0 in
    let refused = subst (λ (v : Verdict). IsFirst p items v) c.in-Impossible.is c.in_ok-certificate.ensures.first in
    let is = subst (λ (v : Verdict). IsImpossible p items v) c.in-Impossible.is c.in_ok-certificate.ensures.impossible in
    let none =
    subst (λ (o : Option Contradiction).
    IsFoundBefore p (items_of (take c.in-Impossible.entry es)) c.in_ok-found-in-Impossible.field-0.cut o) c.in-Some.is
    c.in_ok-found-in-Impossible.ensures in
    first_by p items n found refused.before
    (found_first p items n found (omega (arith, is.0))
    (subst (λ (xs : List Seen). IsNoRun p xs found) (sym (take-map seen_of n es)) none.0))

-- ---- a word is refused, and none is found before it

pub returns-in-None-clause-exact : goal.returns-in-None-clause-exact
returns-in-None-clause-exact c =
    let p = c.args.profile.now in
    let es = c.args.entries.now in
    let is = subst (λ (v : Verdict). IsImpossible p (items_of es) v) c.in-Impossible.is c.in_ok-certificate.ensures.impossible in
    let none =
    subst (λ (o : Option Contradiction).
    IsFoundBefore p (items_of (take c.in-Impossible.entry es)) c.in_ok-found-in-Impossible.field-0.cut o) c.in-None.is
    c.in_ok-found-in-Impossible.ensures in
    record {
      verdict = (
        is.0,
        is.2,
        λ uncut. subst (BeginsARun p) (sym (take-map seen_of c.in-Impossible.entry es))
            (none.1 uncut),
      );
      reached = is_reached c.in_ok-found-in-Impossible.field-0.cut;
    }

pub returns-in-None-clause-impossible : goal.returns-in-None-clause-impossible
returns-in-None-clause-impossible c =
    let p = c.args.profile.now in
    let items = items_of c.args.entries.now in
    let n = c.in-Impossible.entry in
    let refused = subst (λ (v : Verdict). IsFirst p items v) c.in-Impossible.is c.in_ok-certificate.ensures.first in
    let is = subst (λ (v : Verdict). IsImpossible p items v) c.in-Impossible.is c.in_ok-certificate.ensures.impossible in (
      is.0,
      inl (
        inl (refused.refused, is.1),
        first_of_refused p.codes (slice_get items n) (ContradictsAt p items n) c.in-Impossible.reason is.1,
      ),
      is.2,
    )

pub returns-in-None-clause-first : goal.returns-in-None-clause-first
returns-in-None-clause-first c =
    let p = c.args.profile.now in
    let es = c.args.entries.now in
    let items = items_of es in
    let n = c.in-Impossible.entry in
    let refused = subst (λ (v : Verdict). IsFirst p items v) c.in-Impossible.is c.in_ok-certificate.ensures.first in
    let is = subst (λ (v : Verdict). IsImpossible p items v) c.in-Impossible.is c.in_ok-certificate.ensures.impossible in
    let none =
    subst (λ (o : Option Contradiction).
    IsFoundBefore p (items_of (take c.in-Impossible.entry es)) c.in_ok-found-in-Impossible.field-0.cut o) c.in-None.is
    c.in_ok-found-in-Impossible.ensures in
    at_least p items n refused.before
    (none_first p items n (omega (arith, is.0))
    (subst (λ (xs : List Seen). HasNoContradiction p xs (length xs)) (sym (take-map seen_of n es)) none.0))

-- ---- `check` has a doubt

pub returns-in-NoRun-clause-exact : goal.returns-in-NoRun-clause-exact
returns-in-NoRun-clause-exact c =
    let p = c.args.profile.now in
    let items = items_of c.args.entries.now in
    let none = subst (λ (w : Written). IsWritten p items w) c.in-NoRun.is c.in_ok-found-in-Unexplained.ensures in
    record {
      verdict = (none.0.inside, none.0.no_run, none.1);
      reached = is_reached c.in-NoRun.cut;
    }

pub returns-in-Run-clause-some_run : goal.returns-in-Run-clause-some_run
returns-in-Run-clause-some_run c =
    let p = c.args.profile.now in
    let items = items_of c.args.entries.now in
    let run = subst (λ (w : Written). IsWritten p items w) c.in-Run.is c.in_ok-found-in-Unexplained.ensures in
    let explained = run.0.explained in
    in_some_run p c.in-Run.field-0.certificate items c.in-Run.field-0.files explained

pub returns-in-Run-clause-of_check : goal.returns-in-Run-clause-of_check
returns-in-Run-clause-of_check c =
    inr (doubt_of_check c.args.profile.now (items_of c.args.entries.now) c.in-Unexplained.entry _
    (subst (λ (v : Verdict). IsFirst c.args.profile.now (items_of c.args.entries.now) v) c.in-Unexplained.is
    c.in_ok-certificate.ensures.first))

pub returns-in-Run-clause-first : goal.returns-in-Run-clause-first
returns-in-Run-clause-first c =
    let p = c.args.profile.now in
    let items = items_of c.args.entries.now in
    let doubt = subst (λ (v : Verdict). IsFirst p items v) c.in-Unexplained.is c.in_ok-certificate.ensures.first in
    let run = subst (λ (w : Written). IsWritten p items w) c.in-Run.is c.in_ok-found-in-Unexplained.ensures in
    no_reason_at_all p items (doubt.0, run.1)

pub returns-in-Begun-clause-first : goal.returns-in-Begun-clause-first
returns-in-Begun-clause-first c =
    let p = c.args.profile.now in
    let items = items_of c.args.entries.now in
    let doubt = subst (λ (v : Verdict). IsFirst p items v) c.in-Unexplained.is c.in_ok-certificate.ensures.first in
    let begun = subst (λ (w : Written). IsWritten p items w) c.in-Begun.is c.in_ok-found-in-Unexplained.ensures in
    no_reason_at_all p items (doubt.0, begun.2)

pub returns-in-CutShort-clause-first : goal.returns-in-CutShort-clause-first
returns-in-CutShort-clause-first c =
    let p = c.args.profile.now in
    let items = items_of c.args.entries.now in
    let doubt = subst (λ (v : Verdict). IsFirst p items v) c.in-Unexplained.is c.in_ok-certificate.ensures.first in
    let cut = subst (λ (w : Written). IsWritten p items w) c.in-CutShort.is c.in_ok-found-in-Unexplained.ensures in
    no_reason_at_all p items (doubt.0, cut.1)

-- it was cut short at a request
request_at : (a : goal.After-entry-entry) → IsRequestAt a.args.profile.now (items_of a.args.entries.now) a.entry-entry.result
request_at a =
    let p = a.args.profile.now in
    let items = items_of a.args.entries.now in
    let cut = subst (λ (w : Written). IsWritten p items w) a.in-CutShort.is a.in_ok-found-in-Unexplained.ensures in
    subst (IsRequestAt p items) (sym a.entry-entry.ensures) cut.0

pub returns-in-CutShort-clause-doubted : goal.returns-in-CutShort-clause-doubted
returns-in-CutShort-clause-doubted c = request_inside c.args.profile.now (items_of c.args.entries.now) c.entry-entry.result (request_at c)

pub returns-in-CutShort-clause-exact : goal.returns-in-CutShort-clause-exact
returns-in-CutShort-clause-exact c = record {
  verdict = (sym c.entry-entry.ensures, request_at c);
  reached = is_reached (Some c.in-CutShort.cut);
}
