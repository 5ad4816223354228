use Rattle.std.proofs.Common.{◌≡◌, ◌∙◌, ◌∷◌, List, ℕ, Bool, Some, [], append-nil, ap, arith, cond, length, refl, slice_get, subst, sym}
use Rattle.std.proofs.lemmas.Option.{slice_get_read}
use Rattle.a429_link.specs.WholeBlock.{data_words}
use Rattle.a429_contradiction.specs.Rival.{Asked}
use Rattle.a429_contradiction.proofs.RivalFacts.{data_more}
use Rattle.a429_contradiction.proofs.rival.Asked.data.Goals as goal
use Rattle.a429_contradiction.proofs.rival.Asked.data.Goals.{then-is_data+in_ok-push, else-is_data}

pub loop-place-preserved : goal.loop-place-preserved
loop-place-preserved c =
    let codes = c.args.profile.now.codes in
    let inside = c.self.inside.words.items in
    let words = c.args.self.now.attempt.words in
    let word = c.index-word.result.now in
    let same : inside ≡ words = ap (λ (a : Asked). a.attempt.words) c.self.view_is in
    let read =
    slice_get_read inside (length inside) c.loop-place.place word refl
    (omega (arith, c.loop-place-test.true, c.len-place-end.ensures)) c.index-word.ensures in
    let at : slice_get words c.loop-place.place ≡ Some word =
    subst (λ (l : List ℕ). slice_get l c.loop-place.place ≡ Some word) same read in
    elim c.if-is_data.branch [
      | then-is_data+in_ok-push w ↦
          let is = subst (λ (b : Bool). data_words codes (word ∷ []) ≡ cond b (word ∷ []) []) w.if-is_data.true c.is_data.ensures in
          ap (λ v. v.items) w.data-is ∙ w.in_ok-push.ensures.items
          ∙ data_more codes words c.loop-place.data.items (word ∷ []) c.loop-place.place word at is c.loop-place.invariant
      | else-is_data w ↦
          let is = subst (λ (b : Bool). data_words codes (word ∷ []) ≡ cond b (word ∷ []) []) w.if-is_data.false c.is_data.ensures in
          ap (λ v. v.items) w.data-is ∙ sym (append-nil c.loop-place.data.items)
          ∙ data_more codes words c.loop-place.data.items [] c.loop-place.place word at is c.loop-place.invariant
    ]
