-- What a sketch of a picture holds (profile).
use Rattle.std.specs.Prelude.{◌≡◌, ◌+◌, ◌≤◌, ◌<◌, ◌++◌, ℕ, [], if◌then◌else◌, Option}
use Rattle.a429_profile.specs.Profile.{Contents}
use Rattle.a429_cert.specs.Report.{Report}
use Rattle.a429_view.specs.declared.mark.Span.{Span}
use Rattle.a429_view.specs.declared.mark.Mark.{Mark}
use Rattle.a429_view.specs.declared.sketch.Place.{Place}
use Rattle.a429_view.specs.declared.sketch.Sketch.{Sketch}
use Rattle.a429_view.specs.Mark.{before_all, past, mark_of, is_within, listed, step_within}

-- the most steps that a picture shows
abbrev pub most_steps : ℕ
most_steps = 2000

-- a step is noted, which has this row; after it the steps are there. Past the most nothing is noted
pub record Notes (old : Sketch) (row : Option Mark) (next : Place) (new : Sketch) : Type 0 where
  pub span : new.span ≡ old.span
  pub at : new.at ≡ next
  pub counts : old.steps ≤ most_steps → new.steps ≡ old.steps + step_within old.span old.at
  pub rows : old.steps ≤ most_steps → new.rows.items ≡ old.rows.items ++ (if is_within old.span old.at.next then listed row else [])
  pub full : most_steps < old.steps → most_steps < new.steps

-- a step is reported
abbrev pub Hears : Contents → Sketch → Report → Sketch → Type 0
Hears p old t new = Notes old (mark_of p.codes old.at t) (past p.codes old.at t) new

-- nothing was reported yet
pub record IsBlank (of : Span) (s : Sketch) : Type 0 where
  pub span : s.span ≡ of
  pub at : s.at ≡ before_all
  pub steps : s.steps ≡ 0
  pub rows : s.rows.items ≡ []
