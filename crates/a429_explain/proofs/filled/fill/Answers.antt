use Rattle.std.proofs.Common.{◌+◌, ◌-◌, ap, sym, ◌∙◌}
use Rattle.std.proofs.lemmas.Option.{same_Some}
use Rattle.a429_ldu.specs.declared.forms.Form.TheVariants.{Part}
use Rattle.a429_ldu.specs.Form.{word_number}
use Rattle.a429_explain.specs.Filled.{zeros}
use Rattle.a429_explain.proofs.FilledFacts.{fillers_next}
use Rattle.a429_explain.proofs.filled.fill.Goals as goal
use Rattle.a429_explain.proofs.filled.fill.Goals.{in-Some+in_ok-push, in_default}

pub loop-at-preserved : goal.loop-at-preserved
loop-at-preserved c = elim c.match-filler_word.branch [
  | in-Some+in_ok-push w ↦
      let same =
      same_Some w.in-Some.word
      (word_number c.args.profile.now.codes (Part (zeros c.args.is_odd (c.saturating_sub-wanted.result - (c.loop-at.at + 1)))))
      (sym w.in-Some.is ∙ c.filler_word.ensures) in
      fillers_next c.args.profile.now.codes c.args.is_odd c.loop-at.at c.saturating_sub-wanted.result c.loop-at.words.items
      c.match-filler_word.words.items w.in-Some.word c.loop-at-test.true same (ap (λ v. v.items) w.words-is ∙ w.in_ok-push.ensures.items)
      ∙ c.loop-at.invariant
  | in_default w ↦ absurd (w.in_default.not-Some _ c.filler_word.ensures)
]
