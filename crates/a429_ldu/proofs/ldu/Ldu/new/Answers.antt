use Rattle.std.proofs.Common.{rules, ◌≡◌, ℕ, List, Bool, true, false, refl, sym, ap, ◌∙◌, arith}
use Rattle.std.proofs.lemmas.Bool.{eqb-false}
use Rattle.a429_profile.specs.declared.codes.Check.{Check}
use Rattle.a429_ldu.specs.CheckWord.{agrees}
use Rattle.a429_ldu.proofs.LduFacts.{differs, made}
use Rattle.a429_ldu.proofs.ldu.Ldu.new.Goals as goal

-- what `agrees` answers, said of the profile's check words and of the words' bytes
on_profile : (k l : Check) (bs ds : List ℕ) (check : ℕ) (b : Bool) → k ≡ l → ds ≡ bs → agrees k ds check ≡ b → agrees l bs check ≡ b
on_profile k l bs ds check b ek ed h = sym (ap (λ m. agrees m ds check) ek ∙ ap (λ xs. agrees l xs check) ed) ∙ h

pub returns-in_default-clause-err : goal.returns-in_default-clause-err
returns-in_default-clause-err c _ =
    let some = eqb-false _ 0 (sym c.if-is_empty.ensures) in
    ((omega (arith, some), omega arith), c.block_bytes.ensures.none c.in_default.is)

pub returns-then-not-agrees-clause-err : goal.returns-then-not-agrees-clause-err
returns-then-not-agrees-clause-err c _ =
    let some = eqb-false _ 0 (sym c.if-is_empty.ensures) in
    let bytes = c.in-Some.bytes.items in
    let wrong =
    differs c.args.profile.now.check bytes c.args.check
    (on_profile c.check_tables.result.now c.args.profile.now.check bytes c.deref.result.now c.args.check false c.check_tables.ensures
    c.deref.ensures.0 (sym c.agrees.ensures ∙ c.if-not-agrees.true)) in
    ((omega (arith, some), omega arith), bytes, c.in-Some.ensures.some, wrong.0, wrong.1)

pub returns-in-Ok-clause-sound : goal.returns-in-Ok-clause-sound
returns-in-Ok-clause-sound c =
    let some = eqb-false _ 0 (sym c.if-is_empty.ensures) in
    let bytes = c.in-Some.bytes.items in
    let right =
    on_profile c.check_tables.result.now c.args.profile.now.check bytes c.deref.result.now c.args.check true c.check_tables.ensures
    c.deref.ensures.0 (sym c.agrees.ensures ∙ c.if-not-agrees.false) in
    made c.args.profile.now c.args.gfi c.args.flags c.args.check c.args.words.now c.in-Ok.words.items bytes c.requires.gfi c.requires.flags
    (omega arith)
    (omega (arith, some), omega arith) c.in-Ok.ensures.items (sym c.in-Some.ensures.computed) right

pub returns-in-Err-clause-memory : goal.returns-in-Err-clause-memory
returns-in-Err-clause-memory c _ =
    let some = eqb-false _ 0 (sym c.if-is_empty.ensures) in
    let bytes = c.in-Some.bytes.items in
    let right =
    on_profile c.check_tables.result.now c.args.profile.now.check bytes c.deref.result.now c.args.check true c.check_tables.ensures
    c.deref.ensures.0 (sym c.agrees.ensures ∙ c.if-not-agrees.false) in
    made c.args.profile.now c.args.gfi c.args.flags c.args.check c.args.words.now c.args.words.now bytes c.requires.gfi c.requires.flags
    (omega arith)
    (omega (arith, some), omega arith) refl (sym c.in-Some.ensures.computed) right

pub returns-then-is_empty-clause-memory : goal.returns-then-is_empty-clause-memory
returns-then-is_empty-clause-memory c = search rules

pub block_bytes-requires : goal.block_bytes-requires
block_bytes-requires c = search rules
