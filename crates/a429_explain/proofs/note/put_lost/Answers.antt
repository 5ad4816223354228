use Rattle.std.proofs.Common.{◌≡◌, ◌∙◌, ℕ, List, [], ◌∷◌, ◌++◌, ap}
use Rattle.a429_link.specs.declared.state.SourceState.TheVariants.{Sending}
use Rattle.a429_word.proofs.SheetFacts.{◌▹◌}
use Rattle.a429_cert.specs.Field.{field}
use Rattle.a429_cert.specs.States.{source_text}
use Rattle.a429_explain.specs.Note.{lost_head}
use Rattle.a429_explain.proofs.note.put_lost.Goals as goal

pub returns : goal.returns
returns g c =
    let begun = c.push-2.ensures.text
    ∙ ap (λ (t : List ℕ). t ++ 108 ∷ []) (c.push.ensures.text ∙ ap (λ (t : List ℕ). t ++ 10 ∷ []) c.new-head.ensures) in
    let head : c.as_slice.result.now ≡ lost_head c.args.sent =
    c.as_slice.ensures ∙ c.push_source.ensures.text ∙ ap (λ (t : List ℕ). t ++ field (source_text (Sending c.args.sent))) begun in
    (rw head at c.put.ensures) ▹ c.put-2.ensures
