use Rattle.std.proofs.Common.{◌≡◌, Bool, Ok, Option, length, ap, subst, refl, arith}
use Rattle.a429_word.proofs.Outcomes.{each_some}
use Rattle.a429_profile.specs.Profile.{Contents}
use Rattle.a429_ldu.specs.declared.forms.Form.{Form}
use Rattle.a429_ldu.specs.Form.{form_of}
use Rattle.a429_link.specs.Contradiction.{so_far, so_far_after}
use Rattle.a429_link.specs.Implied.{implied, implied_at_first, implies, observer_of}
use Rattle.a429_link.specs.Observer.{Allows, at_first, observed, sees}
use Rattle.a429_explain.specs.declared.verdict.Reason.{Reason}
use Rattle.a429_contradiction.specs.Against.{AllowsIfForm, HoldsForm, acked_after, known_by}
use Rattle.a429_contradiction.specs.Contradiction.{Contradicts}
use Rattle.a429_contradiction.specs.SoFar.{data_after, unheard}
use Rattle.a429_contradiction.proofs.AgainstFacts.{Watches, holds_after, watches_more}
use Rattle.a429_contradiction.proofs.ContradictionFacts.{allowed_at, witnesses_more}
use Rattle.a429_contradiction.proofs.against.held_after.Goals as goal

pub loop-entry-preserved : goal.loop-entry-preserved
loop-entry-preserved c =
    let p = c.args.before.now.profile in
    let items = c.args.before.now.items in
    let n = c.loop-entry.entry in
    let i = c.seen-seen.result in
    let w = c.loop-entry.watch in
    let o = w.witness.observer in
    let s = w.witness.so_far in
    let v = c.take.new.self in
    let h = c.loop-entry.invariant in
    let x = form_of p.codes i.bus i.word in
    let e = c.in_ok-stops.ensures in
    let no = ap (λ (b : Bool). Ok b) c.if-stops.false in
    let is = c.profile-profile.ensures.is in
    let may = allowed_at p items n i o s w.witness.parts c.seen-seen.ensures c.requires h.known in
    let saw = subst (λ (q : Contents). Allows q o i → v.witness.observer ≡ sees q i o) is (e.observer no) may in
    watches_more p items n i x o v.witness.observer s v.witness.so_far w.witness.parts v.witness.parts w.sink v.sink w.acked v.acked
    c.seen-seen.ensures refl h
    (witnesses_more p items n i x o v.witness.observer s v.witness.so_far w.witness.parts v.witness.parts
    (record { item = c.seen-seen.ensures; form_is = refl }) h.known saw
    (subst (λ (q : Contents). unheard v.witness.so_far ≡ unheard (so_far_after i.bus i.word (form_of q.codes i.bus i.word) s)) is
    (e.so_far no))
    (subst (λ (q : Contents). v.witness.parts ≡ data_after i.bus i.word (form_of q.codes i.bus i.word) w.witness.parts) is (e.parts no))
    (subst (λ (q : Contents). (reason : Reason) → ¬ Contradicts q o s i.bus i.word (form_of q.codes i.bus i.word) reason) is (e.none no)))
    saw
    (subst (λ (q : Contents). AllowsIfForm (observer_of w.sink) i.bus (form_of q.codes i.bus i.word)) is (e.allowed no))
    (subst (λ (q : Contents). v.sink ≡ implies q i w.sink) is (e.sink no))
    (subst (λ (q : Contents). v.acked ≡ acked_after n i.bus (form_of q.codes i.bus i.word) w.acked) is (e.acked no))

pub returns : goal.returns
returns c =
    let p = c.args.before.now.profile in
    let items = c.args.before.now.items in
    let w = c.loop-entry.watch in
    let o = w.witness.observer in
    let s = w.witness.so_far in
    let i = c.args.seen in
    let end : c.loop-entry.entry ≡ length items =
    omega (arith, c.loop-entry-test.false, c.loop-entry.auto.entry-end, c.len-entry-end.ensures) in
    let all = subst (λ m. Watches p items m o s w.witness.parts w.sink w.acked) end c.loop-entry.invariant in
    let form =
    subst (λ (q : Contents). c.form_of-form.result ≡ form_of q.codes i.bus i.word) c.profile-profile.ensures.is c.form_of-form.ensures in
    each_some c.held.result
    (λ a h. (
      h.0,
      subst (λ (x : Option Form).
          HoldsForm p (known_by (implied p items implied_at_first) (observed p items at_first) (so_far p items)) items i.bus i.word x a)
          form
          (holds_after p items o s w.witness.parts w.sink w.acked i.bus i.word c.form_of-form.result a all h.1),
    ))
    c.held.ensures
