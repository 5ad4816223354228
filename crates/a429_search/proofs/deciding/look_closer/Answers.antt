use Rattle.std.proofs.Common.{IfSome, List, Option, arith, inl, length, subst, sym, take}
use Rattle.std.proofs.lemmas.List.{take-map}
use Rattle.a429_link.specs.declared.seen.Seen.{Seen}
use Rattle.a429_link.specs.Run.{BeginsARun}
use Rattle.a429_explain.specs.Walk.{AreAllowedUpTo}
use Rattle.a429_cert.specs.Explained.{items_of, seen_of}
use Rattle.a429_contradiction.specs.declared.contradiction.Contradiction.{Contradiction}
use Rattle.a429_contradiction.specs.Contradiction.{HasNoRun, IsFirstContradiction}
use Rattle.a429_search.specs.Deciding.{IsSearched}
use Rattle.a429_search.proofs.DecidingFacts.{allowed_first, less_allowed, no_run_before}
use Rattle.a429_search.proofs.deciding.look_closer.Goals as goal

pub search_before-requires : goal.search_before-requires
search_before-requires c =
    let p = c.args.profile.now in
    let es = c.args.entries.now in
    let n = c.in-Some.found.entry in
    let found = rw c.in-Ok.ensures.decoded at c.in-Ok-first_contradiction.ensures.first in
    let first = subst (λ (o : Option Contradiction). IfSome o (IsFirstContradiction p (items_of es))) c.in-Some.is found in
    subst (λ (xs : List Seen). AreAllowedUpTo p xs (length xs)) (take-map seen_of n es)
    (allowed_first p (items_of es) n
    (less_allowed p (items_of es) (length (items_of es)) n (omega (arith, first.inside)) c.in-Ok.ensures.allowed))

pub returns-in-Some-found : goal.returns-in-Some-found
returns-in-Some-found c =
    let p = c.args.profile.now in
    let es = c.args.entries.now in
    let n = c.in-Some.found.entry in
    let found = rw c.in-Ok.ensures.decoded at c.in-Ok-first_contradiction.ensures.first in
    let first = subst (λ (o : Option Contradiction). IfSome o (IsFirstContradiction p (items_of es))) c.in-Some.is found in
    no_run_before p es n c.in-Some-found.earlier c.in_ok-before.before.cut (omega (arith, first.inside)) first.before
    (subst (λ (o : Option Contradiction). IsSearched p (items_of (take n es)) c.in_ok-before.before.cut o) c.in-Some-found.is
    c.in_ok-before.ensures)

pub returns-in-None : goal.returns-in-None
returns-in-None c =
    let p = c.args.profile.now in
    let es = c.args.entries.now in
    let n = c.in-Some.found.entry in
    let found = rw c.in-Ok.ensures.decoded at c.in-Ok-first_contradiction.ensures.first in
    let never = rw c.in-Ok.ensures.decoded at c.in-Ok-first_contradiction.ensures.impossible in
    let first = subst (λ (o : Option Contradiction). IfSome o (IsFirstContradiction p (items_of es))) c.in-Some.is found in
    let begins =
    subst (λ (o : Option Contradiction). IsSearched p (items_of (take n es)) c.in_ok-before.before.cut o) c.in-None.is
    c.in_ok-before.ensures in (
      record {
        inside = first.inside;
        how = inl first;
        no_run = subst (λ (o : Option Contradiction). IfSome o (λ x. HasNoRun p (items_of es) x.entry)) c.in-Some.is never;
      },
      λ uncut. subst (BeginsARun p) (sym (take-map seen_of n es)) (begins uncut),
    )
