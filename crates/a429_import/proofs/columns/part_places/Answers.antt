use Rattle.std.proofs.Common.{◌∙◌, ◌+◌, ◌≡◌, ◌∷◌, List, ap, sym, drop, Some, Option, ℕ}
use Rattle.std.proofs.lemmas.List.{drop_more, drop_all}
use Rattle.a429_import.specs.declared.part.Part.{Part}
use Rattle.a429_import.specs.Fields.{fields_left}
use Rattle.a429_import.specs.Columns.{part_places, with_place}
use Rattle.a429_import.proofs.ColumnsFacts.{all_before, none_before, one_before, with_places}
use Rattle.a429_import.proofs.columns.part_places.Goals as goal

pub loop-part-init : goal.loop-part-init
loop-part-init c = rw c.new-places.ensures.items (none_before (part_places (fields_left c.args.names) c.args.parts.now))

pub loop-part-preserved : goal.loop-part-preserved
loop-part-preserved c =
    let fields = fields_left c.args.names in
    let parts = c.args.parts.now in
    let i = c.loop-part.part-index in
    let rest = drop (i + 1) parts in
    let here : drop i parts ≡ c.part-item.result ∷ rest =
    drop_more parts i c.part-item.result c.loop-part-test.true ∙ ap (λ (p : Part). p ∷ rest) (sym c.part-item.is) in
    let found : part_places fields (drop i parts) ≡ with_place (Some c.in-Some.place) (part_places fields rest) =
    ap (part_places fields) here ∙ ap (λ (f : Option ℕ). with_place f (part_places fields rest)) (sym c.in-Some.ensures) in
    rw c.in_ok-push.ensures.items (one_before c.loop-part.places.items c.in-Some.place (part_places fields rest)
    ∙ ap (with_places c.loop-part.places.items) (sym found) ∙ c.loop-part.invariant)

pub returns : goal.returns
returns c =
    let fields = fields_left c.args.names in
    let none = drop_all c.loop-part.part-index c.args.parts.now c.loop-part-test.false in
    all_before c.loop-part.places.items ∙ ap (λ (ps : List Part). with_places c.loop-part.places.items (part_places fields ps)) (sym none)
    ∙ c.loop-part.invariant
