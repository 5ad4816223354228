-- The lines of a label table, entry by entry.
use Rattle.std.proofs.Common.{◌≡◌, ℕ, ◌+◌, ◌<◌, List, [], ◌∷◌, ◌++◌, length, take, Some, slice_get, sym, ap, ◌∙◌, append-nil}
use Rattle.std.proofs.lemmas.Grind.{flat_map-append}
use Rattle.std.proofs.lemmas.List.{take_more}
use Rattle.std.proofs.lemmas.Option.{get_or_from_slice_get}
use Rattle.a429_profile.specs.declared.entry.LabelEntry.{LabelEntry}
use Rattle.a429_view.specs.Labels.{label_line, label_lines}

pub label_lines-more : (es : List LabelEntry) (i : ℕ) (e : LabelEntry)
    → i < length es → Some e ≡ slice_get es i → label_lines (take (i + 1) es) ≡ label_lines (take i es) ++ label_line e
label_lines-more es i e h found =
    ap label_lines (take_more es i e h ∙ ap (λ x. take i es ++ x ∷ []) (get_or_from_slice_get es i e e (sym found)))
    ∙ flat_map-append label_line (take i es) (e ∷ []) ∙ ap (λ t. label_lines (take i es) ++ t) (append-nil (label_line e))
