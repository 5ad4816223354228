use Rattle.std.proofs.Common.{◌≡◌, ◌∙◌, ◌<◌, refl, ap, subst}
use Rattle.a429_view.specs.Survey.{Numbered, place, place_of, label_in}
use Rattle.a429_view.proofs.SurveyFacts.{bus_more}
use Rattle.a429_view.proofs.survey.counts.BusCount.add.Goals as goal

pub returns : goal.returns
returns c = λ xs few h.
    let x : Numbered = record { number = c.args.number; entry = c.args.entry.now } in
    let kind : c.place-place.result ≡ place_of c.args.profile.now.codes x = c.place-place.ensures.place ∙ ap place c.of-kind.ensures in
    let label : c.from-label.result ≡ label_in x = c.from-label.ensures ∙ c.label.ensures in
    bus_more c.args.profile.now.codes c.args.self.now _ xs x c.place-place.result c.from-label.result c.and.result c.and-2.result few kind
    label
    c.saturating_add-self.ensures refl refl (rw kind at c.place-place.ensures.inside)
    (subst (λ n. n < 256) c.label.ensures c.label.type_inv)
    (λ ys small is. c.and.ensures ys x small refl (rw kind is))
    (λ ys small is. c.and-2.ensures ys x small (c.is_even.ensures c.args.profile.now.codes x c.of-kind.ensures) (rw label is))
    h
