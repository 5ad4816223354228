use Rattle.std.proofs.lemmas.Option.{slice_get_within}
use Rattle.std.proofs.Common.{◌≡◌, Option, Ok, IfSome, sym, ap, subst}
use Rattle.a429_profile.specs.Profile.{Contents}
use Rattle.a429_link.specs.Observer.{Allows, sees}
use Rattle.a429_explain.specs.declared.verdict.Reason.{Reason}
use Rattle.a429_contradiction.specs.Contradiction.{Contradicts, ContradictsAt, HasNoneBefore}
use Rattle.a429_contradiction.proofs.ContradictionFacts.{IsAt, allowed_at, contradicts_at, is_at, none_before, witnesses_more}
use Rattle.a429_contradiction.proofs.contradiction.first_contradiction.Goals as goal
use Rattle.a429_contradiction.proofs.contradiction.first_contradiction.Goals.{After-look}

-- the word of the entry
word : (a : After-look)
    → IsAt a.args.decoded.now.profile a.args.decoded.now.items a.loop-entry.entry a.seen-seen.result a.word-form.result.form
word a =
    is_at a.args.decoded.now.profile a.args.decoded.now.items a.loop-entry.entry a.seen-seen.result a.word-form.result a.seen-seen.ensures
    a.word-form.ensures.is

pub returns-in-Some-clause-first : goal.returns-in-Some-clause-first
returns-in-Some-clause-first c =
    let a = (goal.at.returns-in-Some-clause-first c).After-look in
    let p = c.args.decoded.now.profile in
    let items = c.args.decoded.now.items in
    let i = c.seen-seen.result in
    let o = c.loop-entry.witness.observer in
    let s = c.loop-entry.witness.so_far in
    let x = c.word-form.result.form in
    let r = c.in-Some.reason in
    let found =
    subst (λ (z : Option Reason). IfSome z (Contradicts c.profile-profile.result.now o s i.bus i.word x)) c.in-Some.is
    c.in_ok-reason.ensures.some in
    let first =
    subst (λ (z : Option Reason). IfSome z (HasNoneBefore (Contradicts c.profile-profile.result.now o s i.bus i.word x))) c.in-Some.is
    c.in_ok-reason.ensures.ranked in
    record {
      inside = slice_get_within items c.loop-entry.entry i c.seen-seen.ensures;
      holds =
          subst (λ (T : Type 0). T)
          (sym (contradicts_at p items c.loop-entry.entry i x o s c.loop-entry.witness.parts r (word a) c.loop-entry.invariant))
          (subst (λ (q : Contents). Contradicts q o s i.bus i.word x r) c.profile-profile.ensures.is found);
      before = c.loop-entry.invariant.none;
      ranked = none_before (ContradictsAt p items c.loop-entry.entry) (Contradicts p o s i.bus i.word x)
          (λ k h. subst (λ (T : Type 0). T)
          (contradicts_at p items c.loop-entry.entry i x o s c.loop-entry.witness.parts k (word a) c.loop-entry.invariant) h) r
          (subst (λ (q : Contents). HasNoneBefore (Contradicts q o s i.bus i.word x) r) c.profile-profile.ensures.is first);
    }

pub returns-in-Some-clause-impossible : goal.returns-in-Some-clause-impossible
returns-in-Some-clause-impossible c =
    c.what_contradicts_has_no_run.ensures c.args.decoded.now.profile c.args.decoded.now.items c.loop-entry.entry c.in-Some.reason
    c.profile-profile.ensures.sound (returns-in-Some-clause-first c).holds

pub loop-entry-preserved : goal.loop-entry-preserved
loop-entry-preserved c =
    let a = (goal.at.loop-entry-preserved c).After-look in
    let p = c.args.decoded.now.profile in
    let items = c.args.decoded.now.items in
    let n = c.loop-entry.entry in
    let i = c.seen-seen.result in
    let o = c.loop-entry.witness.observer in
    let s = c.loop-entry.witness.so_far in
    let x = c.word-form.result.form in
    let none = ap (λ (z : Option Reason). Ok z) c.in_default.is in
    let may = allowed_at p items n i o s c.loop-entry.witness.parts c.seen-seen.ensures c.requires c.loop-entry.invariant in
    witnesses_more p items n i x o c.look.new.self.observer s c.look.new.self.so_far c.loop-entry.witness.parts c.look.new.self.parts
    (word a) c.loop-entry.invariant
    (subst (λ (q : Contents). Allows q o i → c.look.new.self.observer ≡ sees q i o) c.profile-profile.ensures.is
    (c.in_ok-reason.ensures.observer none) may)
    (c.in_ok-reason.ensures.so_far none)
    (c.in_ok-reason.ensures.parts none)
    (subst (λ (q : Contents). (r : Reason)
    → ¬ Contradicts q o s i.bus i.word x r) c.profile-profile.ensures.is (c.in_ok-reason.ensures.none none))
