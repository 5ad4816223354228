use Rattle.std.proofs.Common.{◌+◌, ◌-◌, ◌^◌, min, Some, sym, ap, ◌∙◌, subst}
use Rattle.a429_word.specs.Sheet.{Says}
use Rattle.a429_word.proofs.SheetFacts.{says_nothing}
use Rattle.a429_ldu.specs.declared.sight.Sight.TheVariants as sight
use Rattle.a429_view.specs.declared.blocks.Blocks.{Blocks}
use Rattle.a429_link.specs.declared.doing.Doing.{Doing}
use Rattle.std.specs.Prelude.{option_map}
use Rattle.a429_view.specs.Blocks.{asked_by, moment_at}
use Rattle.a429_view.specs.BlockSteps.{noted, place_next, row_after}
use Rattle.a429_view.proofs.TraceFacts.{by_form_alone, knows}
use Rattle.a429_view.proofs.BlocksFacts.{line_form, line_free, line_other, steps_form, steps_free, steps_other}
use Rattle.a429_view.proofs.blocks.Blocks.go_on.Goals as goal
use Rattle.a429_view.proofs.blocks.Blocks.go_on.Goals.{in-Free, in-Form+else-not-allows+in-Ok}

-- with one more entry
abbrev counted_one : Blocks → Blocks
counted_one b = record b { entries = min (b.entries + 1) (2 ^ 64 - 1) }

pub returns-then-not-has_line-clause-steps : goal.returns-then-not-has_line-clause-steps
returns-then-not-has_line-clause-steps g c =
    let other = sym c.has_line.ensures.value ∙ c.if-not-has_line.true in
    let is = c.count_one.ensures in
    steps_other c.args.profile.now c.args.entry.now c.args.self.now c.count_one.new.self other (ap (λ (b : Blocks). b.entries) is)
    (ap (λ (b : Blocks). b.sink) is) (ap (λ (b : Blocks). b.row) is)

pub returns-then-not-has_line-clause-line : goal.returns-then-not-has_line-clause-line
returns-then-not-has_line-clause-line g c =
    let other = sym c.has_line.ensures.value ∙ c.if-not-has_line.true in
    let sheet = c.args.sheet.now in
    subst (Says g.W.Write.contents sheet sheet) (line_other c.args.profile.now c.args.entry.now c.args.self.now.row other)
    (says_nothing g.W.Write.contents sheet)

pub returns-then-not-allows-clause-stop : goal.returns-then-not-allows-clause-stop
returns-then-not-allows-clause-stop g c =
    let p = c.args.profile.now in
    let e = c.args.entry.now in
    let is = sym c.in-Form.is ∙ c.form.ensures.computed in
    let known = knows p.codes e.bus e.word (sight.Form c.in-Form.form) is in (
      is,
      by_form_alone p e c.args.self.now.sink (Some c.in-Form.form) known.0 known.2
          (λ a. absurd (cc (c.if-not-allows.true, c.allows.ensures.1 a))),
    )

pub returns-in-NoForm-clause-stop : goal.returns-in-NoForm-clause-stop
returns-in-NoForm-clause-stop g c =
    let p = c.args.profile.now in
    let e = c.args.entry.now in
    let is = sym c.in-NoForm.is ∙ c.form.ensures.computed in
    let known = knows p.codes e.bus e.word sight.NoForm is in
    (is, by_form_alone p e c.args.self.now.sink _ known.0 known.2 (λ a. a))

pub returns-clause-steps : goal.returns-clause-steps
returns-clause-steps g c =
    let p = c.args.profile.now in
    let e = c.args.entry.now in
    let old = c.args.self.now in
    let labelled = sym c.has_line.ensures.value ∙ c.if-not-has_line.false in
    let is = c.count_one-2.ensures in
    elim c.match-form.branch [
      | in-Free w ↦
          let known = knows p.codes e.bus e.word sight.Free (sym w.in-Free.is ∙ c.form.ensures.computed) in
          let now = w.self-is ∙ w.pass.ensures in
          let all = is ∙ ap counted_one now in
          steps_free p e old _ labelled known.0 (ap (λ (b : Blocks). b.entries) all) (ap (λ (b : Blocks). b.sink) all)
          (ap (λ (b : Blocks). b.row) all)
      | in-Form+else-not-allows+in-Ok w ↦
          let known = knows p.codes e.bus e.word (sight.Form w.in-Form.form) (sym w.in-Form.is ∙ c.form.ensures.computed) in
          let all = is ∙ ap counted_one (w.self-is ∙ w.note.ensures.row) in
          let does = rw w.seen.ensures at w.in-Ok.ensures.does in
          let taken = rw w.seen.ensures at w.in-Ok.ensures.taken in
          let row = ap (λ (b : Blocks). b.row) all
          ∙ ap (λ (d : Doing). row_after (moment_at (place_next old e)) (asked_by (Some w.in-Form.form))
          (option_map (noted (moment_at (place_next old e)) w.in-Form.form d) old.row)) does in
          steps_form p e w.in-Form.form old _ labelled known.0 known.2 (w.allows.ensures.0 w.if-not-allows.false)
          (ap (λ (b : Blocks). b.entries) all) (ap (λ (b : Blocks). b.sink) all ∙ taken) row
    ]

pub returns-clause-line : goal.returns-clause-line
returns-clause-line g c =
    let p = c.args.profile.now in
    let e = c.args.entry.now in
    let old = c.args.self.now in
    elim c.match-form.branch [
      | in-Free w ↦
          let known = knows p.codes e.bus e.word sight.Free (sym w.in-Free.is ∙ c.form.ensures.computed) in
          rw w.sheet-is
          (subst (Says g.W.Write.contents c.args.sheet.now c.args.sheet.now) (line_free p e old.row known.0)
          (says_nothing g.W.Write.contents c.args.sheet.now))
      | in-Form+else-not-allows+in-Ok w ↦
          let known = knows p.codes e.bus e.word (sight.Form w.in-Form.form) (sym w.in-Form.is ∙ c.form.ensures.computed) in
          rw w.sheet-is
          (subst (Says g.W.Write.contents c.args.sheet.now w.note.new.sheet)
          (line_form p e w.in-Form.form old.row known.2) w.note.ensures.line)
    ]
