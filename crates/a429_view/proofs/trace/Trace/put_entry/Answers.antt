use Rattle.std.proofs.Common.{◌+◌, ◌-◌, ◌^◌, min, ◌++◌, Option, Some, None, sym, ap, ◌∙◌, subst}
use Rattle.a429_word.specs.Sheet.{Says}
use Rattle.a429_word.proofs.SheetFacts.{says_nothing}
use Rattle.a429_view.specs.Forms.{other_text}
use Rattle.a429_ldu.specs.declared.forms.Form.{Form}
use Rattle.a429_ldu.specs.declared.sight.Sight.TheVariants as sight
use Rattle.a429_view.specs.declared.trace.Trace.{Trace}
use Rattle.a429_view.specs.Trace.{line_head, refused_text}
use Rattle.a429_view.proofs.TraceFacts.{allowed_line, by_form_alone, free_line, goes_form, goes_free, knows, no_line}
use Rattle.a429_view.proofs.trace.Trace.put_entry.Goals as goal
use Rattle.a429_view.proofs.trace.Trace.put_entry.Goals.{in-Free, in-Form+else-not-allows+in-Ok}

pub returns-then-not-has_line-clause-line : goal.returns-then-not-has_line-clause-line
returns-then-not-has_line-clause-line g c =
    let without = sym c.has_line.ensures.value ∙ c.if-not-has_line.true in
    rw (no_line c.args.profile.now c.args.self.now.entries c.args.self.now.sink c.args.entry.now without)
    (says_nothing g.W.Write.contents c.args.sheet.now)

pub returns-then-not-allows-clause-stop : goal.returns-then-not-allows-clause-stop
returns-then-not-allows-clause-stop g c =
    let p = c.args.profile.now in
    let e = c.args.entry.now in
    let is = sym c.in-Form.is ∙ c.form.ensures.computed in
    let known = knows p.codes e.bus e.word (sight.Form c.in-Form.form) is in
    rw c.refuse.ensures.stop (
      is,
      by_form_alone p e c.args.self.now.sink (Some c.in-Form.form) known.0 known.2
          (λ a. absurd (cc (c.if-not-allows.true, c.allows.ensures.1 a))),
    )

pub returns-then-not-allows-clause-stop_line : goal.returns-then-not-allows-clause-stop_line
returns-then-not-allows-clause-stop_line g c =
    let p = c.args.profile.now in
    let e = c.args.entry.now in
    let known = knows p.codes e.bus e.word (sight.Form c.in-Form.form) (sym c.in-Form.is ∙ c.form.ensures.computed) in
    rw c.refuse.ensures.stop
    (subst (λ (x : Option Form). Says g.W.Write.contents c.args.sheet.now c.refuse.new.sheet
    (line_head c.args.self.now.entries e ++ refused_text p.codes x (other_text p.codes e.bus e.word) c.args.self.now.sink))
    (sym known.2) c.refuse.ensures.line)

pub returns-in-NoForm-clause-stop : goal.returns-in-NoForm-clause-stop
returns-in-NoForm-clause-stop g c =
    let p = c.args.profile.now in
    let e = c.args.entry.now in
    let is = sym c.in-NoForm.is ∙ c.form.ensures.computed in
    let known = knows p.codes e.bus e.word sight.NoForm is in
    rw c.refuse-in-NoForm.ensures.stop
    (is, by_form_alone p e c.args.self.now.sink None known.0 known.2 (λ a. a))

pub returns-in-NoForm-clause-stop_line : goal.returns-in-NoForm-clause-stop_line
returns-in-NoForm-clause-stop_line g c =
    let p = c.args.profile.now in
    let e = c.args.entry.now in
    let known = knows p.codes e.bus e.word sight.NoForm (sym c.in-NoForm.is ∙ c.form.ensures.computed) in
    rw c.refuse-in-NoForm.ensures.stop
    (subst (λ (x : Option Form). Says g.W.Write.contents c.args.sheet.now c.refuse-in-NoForm.new.sheet
    (line_head c.args.self.now.entries e ++ refused_text p.codes x (other_text p.codes e.bus e.word) c.args.self.now.sink))
    (sym known.2) c.refuse-in-NoForm.ensures.line)

pub returns-clause-goes_on : goal.returns-clause-goes_on
returns-clause-goes_on g c =
    let p = c.args.profile.now in
    let e = c.args.entry.now in
    let old = c.args.self.now in
    elim c.match-form.branch [
      | in-Free w ↦
          let known = knows p.codes e.bus e.word sight.Free (sym w.in-Free.is ∙ c.form.ensures.computed) in
          goes_free p e old _ known.0 (c.add_one-2.ensures ∙ ap (λ (t : Trace). min (t.entries + 1) (2 ^ 64 - 1)) w.self-is)
          (ap (λ (t : Trace). t.sink) w.self-is) (ap (λ (t : Trace). t.files.items) w.self-is)
      | in-Form+else-not-allows+in-Ok w ↦
          let known = knows p.codes e.bus e.word (sight.Form w.in-Form.form) (sym w.in-Form.is ∙ c.form.ensures.computed) in
          goes_form p e w.in-Form.form old _ known.2 (w.allows.ensures.0 w.if-not-allows.false) (c.add_one-2.ensures
          ∙ ap (λ (t : Trace). min (t.entries + 1) (2 ^ 64 - 1)) w.self-is ∙ ap (λ n. min (n + 1) (2 ^ 64 - 1)) w.in-Ok.ensures.entries)
          (ap (λ (t : Trace). t.sink) w.self-is ∙ w.in-Ok.ensures.sink)
          (ap (λ (t : Trace). t.files.items) w.self-is ∙ w.in-Ok.ensures.files)
    ]

pub returns-clause-line : goal.returns-clause-line
returns-clause-line g c =
    let p = c.args.profile.now in
    let e = c.args.entry.now in
    let old = c.args.self.now in
    let line = sym c.has_line.ensures.value ∙ c.if-not-has_line.false in
    elim c.match-form.branch [
      | in-Free w ↦
          let known = knows p.codes e.bus e.word sight.Free (sym w.in-Free.is ∙ c.form.ensures.computed) in
          rw (w.sheet-is, free_line p old.entries old.sink e line known.0) w.put_free.ensures
      | in-Form+else-not-allows+in-Ok w ↦
          let known = knows p.codes e.bus e.word (sight.Form w.in-Form.form) (sym w.in-Form.is ∙ c.form.ensures.computed) in
          rw (w.sheet-is, allowed_line p old.entries old.sink e w.in-Form.form line known.1 known.2)
          (rw (w.in-Ok.ensures.does, w.in-Ok.ensures.entries) at w.put_allowed.ensures)
    ]
