-- Why a block is not good, by what was made of its words.
use Rattle.std.proofs.Common.{◌≡◌, ◌↔◌, ℕ, ◌+◌, ◌-◌, Bool, true, false, cond, eqb, not, ◌&&◌, List, [], length, Option, Some, None, is_some, unwrap_or, option_map, refl, sym, ap, ◌∙◌, eq-eqb, eqb-true}
use Rattle.arrayvec.specs.ArrayVec.{ArrayVec}
use Rattle.a429_word.specs.declared.bus.Bus.TheVariants as bus
use Rattle.a429_profile.specs.Profile.{Contents}
use Rattle.a429_ldu.specs.declared.forms.Form.TheVariants as form
use Rattle.a429_ldu.specs.Carried.{bytes_carried, bytes_in, semis_in_words}
use Rattle.a429_ldu.specs.CheckWord.{agrees, check_of}
use Rattle.a429_link.specs.declared.why.Why.{Why}
use Rattle.a429_link.specs.declared.why.Why.TheVariants as why
use Rattle.a429_link.specs.Sink.{end_word, Block, InBlock, Number, OwesAck, OwesNak, Sink, SinkPhase, at_end, in_phase, may_come, number_of, takes_end}
use Rattle.a429_link.specs.Why.{MakesNoUnit, are_half, block_in, why_bad}
use Rattle.a429_link.specs.WholeBlock.{EndsBadForm}
use Rattle.a429_link.proofs.TraceReasons.{carries_where, none_where_good}

-- the reason of a block of the right count whose words carry these bytes
abbrev pub why_with : Contents → Option Number → Block → ℕ → List ℕ → Option Why
why_with p last b check bytes =
    cond (not (agrees p.check bytes check)) (Some (why.OtherCheck (check_of p.check bytes)))
    (cond (not (may_come p.codes last (number_of b))) (Some why.OutOfSequence) None)

not_half : (o : Option (List ℕ)) (half : Bool) → is_some o ≡ not half → is_some o ≡ true → half ≡ false
not_half o true e h = absurd (cc (e, h))
not_half o false e h = refl

half_where : (o : Option (List ℕ)) (half : Bool) → is_some o ≡ not half → o ≡ None → half ≡ true
half_where o true e h = refl
half_where o false e h = let none = ap is_some h in absurd (cc (e, none))

pub why_made : (p : Contents) (last : Option Number) (count : ℕ) (b : Block) (check : ℕ) (words : List ℕ) (o : Option (ArrayVec ℕ))
    (v : ArrayVec ℕ)
    → words ≡ b.words → length words + 2 ≡ count → option_map (λ (a : ArrayVec ℕ). a.items) o ≡ bytes_carried p.codes words → o ≡ Some v →
    why_bad p last count (Some b) check ≡ why_with p last b check v.items
why_made p last count b check words o v same n made is =
    let carried : bytes_carried p.codes b.words ≡ Some v.items =
    ap (bytes_carried p.codes) (sym same) ∙ (sym made ∙ ap (option_map (λ (a : ArrayVec ℕ). a.items)) is) in
    let asked : eqb (length b.words + 2) count ≡ true = eq-eqb (length b.words + 2) count (ap (λ ws. length ws + 2) (sym same) ∙ n) in
    let whole : are_half (semis_in_words p.codes b.words) ≡ false = not_half _ _ (carries_where p.codes b.words) (ap is_some carried) in
    let bytes : bytes_in p.codes b.words ≡ v.items = ap (λ (x : Option (List ℕ)). unwrap_or x []) carried in
    rw (asked, whole, bytes) refl

pub why_half : (p : Contents) (last : Option Number) (count : ℕ) (b : Block) (check : ℕ) (words : List ℕ) (o : Option (ArrayVec ℕ))
    → words ≡ b.words → length words + 2 ≡ count → option_map (λ (a : ArrayVec ℕ). a.items) o ≡ bytes_carried p.codes words → o ≡ None →
    why_bad p last count (Some b) check ≡ Some (why.HalfBytes (semis_in_words p.codes words))
why_half p last count b check words o same n made is =
    let carried : bytes_carried p.codes b.words ≡ None =
    ap (bytes_carried p.codes) (sym same) ∙ (sym made ∙ ap (option_map (λ (a : ArrayVec ℕ). a.items)) is) in
    let asked : eqb (length b.words + 2) count ≡ true = eq-eqb (length b.words + 2) count (ap (λ ws. length ws + 2) (sym same) ∙ n) in
    let half : are_half (semis_in_words p.codes b.words) ≡ true = half_where _ _ (carries_where p.codes b.words) carried in
    rw (asked, half) (ap (λ ws. Some (why.HalfBytes (semis_in_words p.codes ws))) (sym same))

-- ---- at an end word

end_of : (t : Bool) (b : Block) (flags : ℕ) → t ≡ true → cond t (OwesAck b flags) OwesNak ≡ OwesAck b flags
end_of true b flags e = refl
end_of false b flags e = absurd (cc e)

end_not : (t : Bool) (b : Block) (flags : ℕ) → (t ≡ true → ⊥) → cond t (OwesAck b flags) OwesNak ≡ OwesNak
end_not true b flags e = absurd (e refl)
end_not false b flags e = refl

-- a good block is owed its acknowledgement, and another a negative answer
pub ends_good : (p : Contents) (k : Sink) (b : Block) (flags check : ℕ) → k.phase ≡ InBlock b
    → None ≡ why_bad p k.last k.count (block_in k.phase) check → takes_end p flags check k ≡ in_phase (OwesAck b flags) k
ends_good p k b flags check at none =
    let here = ap (λ (phase : SinkPhase). in_phase (at_end p k.last k.count (end_word flags check) phase) k) at in
    here ∙ ap (λ (phase : SinkPhase). in_phase phase k)
    (end_of _ b flags ((none_where_good p k.last k.count b check).0
    (sym (none ∙ ap (λ (phase : SinkPhase). why_bad p k.last k.count (block_in phase) check) at))))

pub ends_bad : (p : Contents) (k : Sink) (b : Block) (flags check : ℕ) (reason : Why)
    → k.phase ≡ InBlock b → Some reason ≡ why_bad p k.last k.count (block_in k.phase) check → takes_end p flags check k ≡ in_phase OwesNak k
ends_bad p k b flags check reason at some =
    let here = ap (λ (phase : SinkPhase). in_phase (at_end p k.last k.count (end_word flags check) phase) k) at in
    let why = some ∙ ap (λ (phase : SinkPhase). why_bad p k.last k.count (block_in phase) check) at in
    here ∙ ap (λ (phase : SinkPhase). in_phase phase k)
    (end_not _ b flags (λ good. let none = (none_where_good p k.last k.count b check).1 good in absurd (cc (why, none))))

-- ---- a block whose data words and check word make no link data unit

of_words : (a m c d : Bool) (words asked semis check : ℕ)
    → MakesNoUnit (cond (not a) (Some (why.OtherCount words asked))
    (cond m (Some (why.HalfBytes semis)) (cond (not c) (Some (why.OtherCheck check)) (cond (not d) (Some why.OutOfSequence) None))))
    ↔ ((a ≡ true) × ((not m && c) ≡ false))
of_words false m c d words asked semis check = (λ h. absurd h, λ h. cc h.0)
of_words true true c d words asked semis check = (λ h. (refl, refl), λ h. tt)
of_words true false false d words asked semis check = (λ h. (refl, refl), λ h. tt)
of_words true false true false words asked semis check = (λ h. absurd h, λ h. cc h.1)
of_words true false true true words asked semis check = (λ h. absurd h, λ h. cc h.1)

pub ends_where : (p : Contents) (last : Option Number) (count : ℕ) (phase : SinkPhase) (flags check : ℕ)
    → MakesNoUnit (why_bad p last count (block_in phase) check) ↔ EndsBadForm p bus.A (Some (form.Eot flags check)) phase count
ends_where p last count (InBlock b) flags check =
    let agree = agrees p.check (bytes_in p.codes b.words) check in
    let by =
    of_words (eqb (length b.words + 2) count) (are_half (semis_in_words p.codes b.words)) agree (may_come p.codes last (number_of b))
    (length b.words) (count - 2) (semis_in_words p.codes b.words) (check_of p.check (bytes_in p.codes b.words)) in
    let same = ap (λ (t : Bool). t && agree) (carries_where p.codes b.words) in (
      λ h. let r = by.0 h in (eqb-true (length b.words + 2) count r.0, same ∙ r.1),
      λ h. by.1 (eq-eqb (length b.words + 2) count h.0, sym same ∙ h.1),
    )
ends_where p last count _ flags check = (λ h. absurd h, λ h. absurd h)
