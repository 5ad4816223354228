use Rattle.std.proofs.Common.{◌≡◌, ℕ, true, false, cond, not, List, Option, Some, None, option_map, refl, subst, sym, ap, ◌∙◌}
use Rattle.a429_profile.specs.declared.codes.Check.{Check}
use Rattle.a429_ldu.specs.CheckWord.{agrees, check_of}
use Rattle.a429_link.specs.declared.why.Why.{Why}
use Rattle.a429_link.specs.declared.why.Why.TheVariants as why
use Rattle.a429_link.specs.Sink.{SinkSide, block_with, kept_words, latest_number, may_come, number_of, phase_of}
use Rattle.a429_link.specs.Why.{why_bad}
use Rattle.a429_link.proofs.SinkBadBlock.{why_half, why_made}
use Rattle.a429_link.proofs.sink.Sink.why_bad_from.Goals as goal

pub returns-in_default : goal.returns-in_default
returns-in_default c =
    let p = c.args.profile.now in
    let s = c.self.inside in
    let block = block_with c.args.start (kept_words (phase_of s.phase s.lane.taken)) in
    let last = option_map latest_number s.last in
    let bad =
    why_half p last s.count block c.args.check _ _ (c.taken-words.ensures ∙ c.self.invariant)
    (c.if-words-from.false ∙ c.from.ensures) c.block_bytes.ensures.computed c.in_default.is in
    let some = ap (λ (n : ℕ). Some (why.HalfBytes n)) c.count_semis.ensures in
    subst (λ (k : SinkSide). Some (why.HalfBytes c.count_semis.result)
    ≡ why_bad p k.sink.last k.sink.count (Some (block_with c.args.start (kept_words k.sink.phase))) c.args.check) c.self.view_is
    (some ∙ sym bad)

pub returns-then-not-agrees : goal.returns-then-not-agrees
returns-then-not-agrees c =
    let p = c.args.profile.now in
    let s = c.self.inside in
    let block = block_with c.args.start (kept_words (phase_of s.phase s.lane.taken)) in
    let last = option_map latest_number s.last in
    let made =
    why_made p last s.count block c.args.check _ _ c.in-Some.bytes (c.taken-words.ensures ∙ c.self.invariant)
    (c.if-words-from.false ∙ c.from.ensures) c.block_bytes.ensures.computed c.in-Some.is in
    let bad : agrees p.check c.in-Some.bytes.items c.args.check ≡ false =
    ap (λ (k : Check). agrees k c.in-Some.bytes.items c.args.check) (sym c.check_tables.ensures)
    ∙ ap (λ (bs : List ℕ). agrees c.check_tables.result.now bs c.args.check) (sym c.as_slice.ensures.value) ∙ sym c.agrees.ensures
    ∙ c.if-not-agrees.true in
    let is : c.check_word_by.result ≡ check_of p.check c.in-Some.bytes.items = c.check_word_by.ensures
    ∙ ap (λ (bs : List ℕ). check_of c.check_tables-then-not-agrees.result.now bs) c.as_slice-then-not-agrees.ensures.value
    ∙ ap (λ (k : Check). check_of k c.in-Some.bytes.items) c.check_tables-then-not-agrees.ensures in
    subst (λ (k : SinkSide). Some (why.OtherCheck c.check_word_by.result)
    ≡ why_bad p k.sink.last k.sink.count (Some (block_with c.args.start (kept_words k.sink.phase))) c.args.check) c.self.view_is
    (ap (λ (n : ℕ). Some (why.OtherCheck n)) is
    ∙ sym (made ∙ ap (λ t. cond (not t) (Some (why.OtherCheck (check_of p.check c.in-Some.bytes.items)))
    (cond (not (may_come p.codes last (number_of block))) (Some why.OutOfSequence) None)) bad))

pub returns-then-not-may_come : goal.returns-then-not-may_come
returns-then-not-may_come c =
    let p = c.args.profile.now in
    let s = c.self.inside in
    let block = block_with c.args.start (kept_words (phase_of s.phase s.lane.taken)) in
    let last = option_map latest_number s.last in
    let made =
    why_made p last s.count block c.args.check _ _ c.in-Some.bytes (c.taken-words.ensures ∙ c.self.invariant)
    (c.if-words-from.false ∙ c.from.ensures) c.block_bytes.ensures.computed c.in-Some.is in
    let fine : agrees p.check c.in-Some.bytes.items c.args.check ≡ true =
    ap (λ (k : Check). agrees k c.in-Some.bytes.items c.args.check) (sym c.check_tables.ensures)
    ∙ ap (λ (bs : List ℕ). agrees c.check_tables.result.now bs c.args.check) (sym c.as_slice.ensures.value) ∙ sym c.agrees.ensures
    ∙ c.if-not-agrees.false in
    let out : may_come p.codes last (number_of block) ≡ false =
    sym (c.may_come.ensures ∙ ap (may_come p.codes last) c.number.ensures) ∙ c.if-not-may_come.true in
    subst (λ (k : SinkSide).
    Some why.OutOfSequence ≡ why_bad p k.sink.last k.sink.count (Some (block_with c.args.start (kept_words k.sink.phase))) c.args.check)
    c.self.view_is
    (sym (made ∙ rw (fine, out) refl))

pub returns : goal.returns
returns c =
    let p = c.args.profile.now in
    let s = c.self.inside in
    let block = block_with c.args.start (kept_words (phase_of s.phase s.lane.taken)) in
    let last = option_map latest_number s.last in
    let made =
    why_made p last s.count block c.args.check _ _ c.in-Some.bytes (c.taken-words.ensures ∙ c.self.invariant)
    (c.if-words-from.false ∙ c.from.ensures) c.block_bytes.ensures.computed c.in-Some.is in
    let fine : agrees p.check c.in-Some.bytes.items c.args.check ≡ true =
    ap (λ (k : Check). agrees k c.in-Some.bytes.items c.args.check) (sym c.check_tables.ensures)
    ∙ ap (λ (bs : List ℕ). agrees c.check_tables.result.now bs c.args.check) (sym c.as_slice.ensures.value) ∙ sym c.agrees.ensures
    ∙ c.if-not-agrees.false in
    let comes : may_come p.codes last (number_of block) ≡ true =
    sym (c.may_come.ensures ∙ ap (may_come p.codes last) c.number.ensures) ∙ c.if-not-may_come.false in
    let none : Option Why = None in
    subst (λ (k : SinkSide).
    none ≡ why_bad p k.sink.last k.sink.count (Some (block_with c.args.start (kept_words k.sink.phase))) c.args.check) c.self.view_is
    (sym (made ∙ rw (fine, comes) refl))
