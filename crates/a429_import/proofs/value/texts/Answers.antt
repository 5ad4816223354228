use Rattle.std.proofs.Common.{◌∙◌, sym}
use Rattle.toml.specs.View.{view}
use Rattle.a429_import.proofs.ValueFacts.{texts-fault, texts-value}
use Rattle.a429_import.proofs.value.texts.Goals as goal

pub returns-then-not-are_texts : goal.returns-then-not-are_texts
returns-then-not-are_texts c =
    λ _. texts-fault c.args.key (view c.args.value.now) c.in-Some.values.now _ c.in-Some.ensures.variant c.in-Some.ensures.some
    (sym c.if-not-are_texts.true ∙ c.are_texts.ensures)

pub returns-in-Ok : goal.returns-in-Ok
returns-in-Ok c = (
  texts-fault c.args.key (view c.args.value.now) c.in-Some.values.now _ c.in-Some.ensures.variant c.in-Some.ensures.some
      (sym c.if-not-are_texts.false ∙ c.are_texts.ensures),
  texts-value (view c.args.value.now) c.in-Some.values.now c.in-Some.ensures.some ∙ sym c.in-Ok.ensures ∙ sym c.new.ensures,
)
