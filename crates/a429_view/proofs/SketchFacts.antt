-- What a sketch holds once it was told of steps.
use Rattle.std.proofs.Common.{◌≡◌, ◌≤◌, ◌<◌, ◌+◌, ◌++◌, ◌∷◌, ◌∙◌, List, [], inl, inr, sym, ap, subst, arith, append-nil, append_assoc}
use Rattle.std.specs.List.{FoldsTo}
use Rattle.std.proofs.lemmas.Bool.{cases_lt}
use Rattle.a429_profile.specs.declared.codes.Codes.{Codes}
use Rattle.a429_profile.specs.Profile.{Contents}
use Rattle.a429_cert.specs.Report.{Report}
use Rattle.a429_view.specs.declared.mark.Mark.{Mark}
use Rattle.a429_view.specs.declared.mark.Span.{Span}
use Rattle.a429_view.specs.declared.sketch.Sketch.{Sketch}
use Rattle.a429_view.specs.Mark.{past, marks, shown, steps_within, before_all}
use Rattle.a429_view.specs.Sketch.{most_steps, Hears, IsBlank}

-- what it gains of steps that are told
record Gains (p : Contents) (old : Sketch) (ts : List Report) (new : Sketch) : Type 0 where
  rows : new.steps ≤ most_steps → new.rows.items ≡ old.rows.items ++ marks p.codes old.span old.at ts
  steps : new.steps ≤ most_steps → new.steps ≡ old.steps + steps_within p.codes old.span old.at ts
  many : most_steps < new.steps → most_steps < old.steps + steps_within p.codes old.span old.at ts

none : (p : Contents) (old : Sketch) → Gains p old [] old
none p old = record { rows = λ e. sym (append-nil old.rows.items); steps = λ e. omega arith; many = λ e. omega arith }

-- a sketch that is not full was not full before
was_few : (p : Contents) (old : Sketch) (t : Report) (j : Sketch) → Hears p old t j → j.steps ≤ most_steps → old.steps ≤ most_steps
was_few p old t j h e =
    elim (cases_lt most_steps old.steps) as (λ _.
    old.steps ≤ most_steps) [ inl more ↦ (let full = h.full more in omega (arith, full, e)) | inr few ↦ few ]

-- the steps behind one are those of the place to which it leads
rows_after : (p : Contents) (old : Sketch) (t : Report) (j : Sketch) (ts : List Report)
    → Hears p old t j → marks p.codes j.span j.at ts ≡ marks p.codes old.span (past p.codes old.at t) ts
rows_after p old t j ts h = ap (λ s. marks p.codes s j.at ts) h.span ∙ ap (λ a. marks p.codes old.span a ts) h.at

steps_after : (p : Contents) (old : Sketch) (t : Report) (j : Sketch) (ts : List Report)
    → Hears p old t j → steps_within p.codes j.span j.at ts ≡ steps_within p.codes old.span (past p.codes old.at t) ts
steps_after p old t j ts h = ap (λ s. steps_within p.codes s j.at ts) h.span ∙ ap (λ a. steps_within p.codes old.span a ts) h.at

-- one more at the front
one_more : (p : Contents) (old : Sketch) (t : Report) (j : Sketch) (ts : List Report) (new : Sketch)
    → Hears p old t j → Gains p j ts new → Gains p old (t ∷ ts) new
one_more p old t j ts new h g =
    record {
      rows = λ e. rows e;
      steps = λ e. steps e;
      many = λ e. many e;
    }
  where
    place_after : steps_within p.codes j.span j.at ts ≡ steps_within p.codes old.span (past p.codes old.at t) ts
    place_after = steps_after p old t j ts h

    few : new.steps ≤ most_steps → old.steps ≤ most_steps
    few e = let n = g.steps e in was_few p old t j h (omega (arith, n, e))

    rows : new.steps ≤ most_steps → new.rows.items ≡ old.rows.items ++ marks p.codes old.span old.at (t ∷ ts)
    rows e =
        g.rows e
        ∙ ap (λ (m : List Mark). j.rows.items ++ m) (rows_after p old t j ts h)
        ∙ ap (λ (m : List Mark). m ++ marks p.codes old.span (past p.codes old.at t) ts) (h.rows (few e))
        ∙ append_assoc old.rows.items (shown p.codes old.span old.at t) (marks p.codes old.span (past p.codes old.at t) ts)

    steps : new.steps ≤ most_steps → new.steps ≡ old.steps + steps_within p.codes old.span old.at (t ∷ ts)
    steps e = let n = g.steps e in let m = h.counts (few e) in omega (arith, n, m, place_after)

    many : most_steps < new.steps → most_steps < old.steps + steps_within p.codes old.span old.at (t ∷ ts)
    many e =
        let n = g.many e in
        elim (cases_lt most_steps old.steps) as (λ _. most_steps < old.steps + steps_within p.codes old.span old.at (t ∷ ts))
        [ inl more ↦ omega (arith, more) | inr few ↦ (let m = h.counts few in omega (arith, n, m, place_after)) ]

-- the rows of a span of these steps, unless there are too many of them
pub record IsOf (c : Codes) (span : Span) (reports : List Report) (s : Sketch) : Type 0 where
  pub few : s.steps ≤ most_steps → (s.rows.items ≡ marks c span before_all reports) × (steps_within c span before_all reports ≤ most_steps)
  pub many : most_steps < s.steps → most_steps < steps_within c span before_all reports

all : (p : Contents) (ts : List Report) (old new : Sketch) → FoldsTo (Hears p) old ts new → Gains p old ts new
all p [] old new h = subst (λ s. Gains p old [] s) h (none p old)
all p (t ∷ ts) old new h = one_more p old t h.0 ts new h.1 (all p ts h.0 new h.2)

of_its_span : (p : Contents) (ts : List Report) (old new : Sketch)
    → old.at ≡ before_all → old.steps ≡ 0 → old.rows.items ≡ [] → Gains p old ts new → IsOf p.codes old.span ts new
of_its_span p ts old new at none_before blank g =
    let at_start : steps_within p.codes old.span old.at ts ≡ steps_within p.codes old.span before_all ts =
    ap (λ a. steps_within p.codes old.span a ts) at in
    record {
      few = λ e. (
        g.rows e ∙ ap (λ (m : List Mark). m ++ marks p.codes old.span old.at ts) blank ∙ ap (λ a. marks p.codes old.span a ts) at,
        (let n = g.steps e in omega (arith, n, at_start, none_before, e)),
      );
      many = λ e. let n = g.many e in omega (arith, n, at_start, none_before);
    }

-- a blank sketch that was told of these steps
pub is_of : (p : Contents) (span : Span) (ts : List Report) (old new : Sketch)
    → IsBlank span old → FoldsTo (Hears p) old ts new → IsOf p.codes span ts new
is_of p span ts old new b h =
    subst (λ (s : Span). IsOf p.codes s ts new) b.span (of_its_span p ts old new b.at b.steps b.rows (all p ts old new h))
