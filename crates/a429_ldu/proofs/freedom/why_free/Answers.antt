use Rattle.std.proofs.Common.{◌≢◌, ◌↔◌, None, inr, inl, sym, ◌∙◌, subst, rules}
use Rattle.a429_ldu.specs.Form.{IsFree}
use Rattle.a429_ldu.proofs.FreedomFacts.{IsAddressed, reason, some_where_free}
use Rattle.a429_ldu.proofs.freedom.why_free.Goals as goal

pub returns-then-ignores_type-clause-free : goal.returns-then-ignores_type-clause-free
returns-then-ignores_type-clause-free c =
    let h = c.ignores_type.ensures.0 c.if-ignores_type.true in
    (λ _. inr (inr (inl (search rules))), λ _ e. absurd (cc))

pub returns-then-ignores_code-clause-first : goal.returns-then-ignores_code-clause-first
returns-then-ignores_code-clause-first c =
    let codes = c.codes-codes.result.now in
    let at : IsAddressed codes c.args.bus c.args.word _ = record {
      parity = c.parity_ok.ensures.0 c.if-not-parity_ok.false;
      label = sym c.label.ensures ∙ c.if-label-address.false ∙ c.address.ensures;
      fields = c.parts_of-parts.ensures.fields;
    } in
    rw (c.codes-codes.ensures.codes, c.if-ignores_type.false, c.if-ignores_code.true) at (reason codes c.args.bus c.args.word _
    c.ignores_type.result c.ignores_code.result at c.ignores_type.ensures c.ignores_code.ensures)

pub returns-then-ignores_code-clause-free : goal.returns-then-ignores_code-clause-free
returns-then-ignores_code-clause-free c =
    subst (λ r. r ≢ None ↔ IsFree c.args.profile.now.codes c.args.bus c.args.word) (sym (returns-then-ignores_code-clause-first c))
    (some_where_free c.args.profile.now.codes c.args.bus c.args.word)

pub returns-clause-first : goal.returns-clause-first
returns-clause-first c =
    let codes = c.codes-codes.result.now in
    let at : IsAddressed codes c.args.bus c.args.word _ = record {
      parity = c.parity_ok.ensures.0 c.if-not-parity_ok.false;
      label = sym c.label.ensures ∙ c.if-label-address.false ∙ c.address.ensures;
      fields = c.parts_of-parts.ensures.fields;
    } in
    rw (c.codes-codes.ensures.codes, c.if-ignores_type.false, c.if-ignores_code.false) at (reason codes c.args.bus c.args.word _
    c.ignores_type.result c.ignores_code.result at c.ignores_type.ensures c.ignores_code.ensures)
