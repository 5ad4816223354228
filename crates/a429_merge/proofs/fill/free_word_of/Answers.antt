use Rattle.std.proofs.Common.{◌≡◌, ◌≢◌, ◌∷◌, ◌*◌, ◌^◌, ◌<◌, ℕ, List, Option, Some, IfSome, IfNone, Vec, Global, option_map, sym, ap, ◌∙◌, subst}
use Rattle.a429_profile.specs.declared.codes.Check.{Check}
use Rattle.a429_ldu.specs.Carried.{bytes_carried}
use Rattle.a429_ldu.specs.CheckWord.{check_of}
use Rattle.a429_merge.specs.FreeBits.{with_bits}
use Rattle.a429_merge.specs.Fill.{Fits, data_word, semis_of_number}
use Rattle.a429_merge.proofs.FillFacts.{word_before, none_fits, bits_fit, no_bits_fit}
use Rattle.a429_merge.proofs.fill.free_word_of.Goals as goal
use Rattle.a429_merge.proofs.fill.free_word_of.Goals.{After-bytes_of}

words : (c : After-bytes_of) → c.deref.result.now ≡ data_word c.args.profile.now.codes (semis_of_number c.args.size 0) ∷ c.args.rest.now
words c =
    word_before c.in_ok-words.words.items c.push.new.self.items c.extend_from_slice.new.self.items c.deref.result.now c.args.rest.now
    c.numbered_word-zeros.result c.in_ok-words.ensures.items c.in_ok-push.ensures.items c.in_ok-extend_from_slice.ensures.items
    c.deref.ensures.value
    ∙ ap (λ (w : ℕ). w ∷ c.args.rest.now) c.numbered_word-zeros.ensures

pub returns-in_default-clause-none : goal.returns-in_default-clause-none
returns-in_default-clause-none c =
    let p = c.args.profile.now in
    let a = (goal.at.returns-in_default-clause-none c).After-bytes_of in
    let nothing = sym (ap (bytes_carried p.codes) (words a)) ∙ sym c.in_ok-bytes.ensures.computed
    ∙ ap (option_map (λ (v : Vec ℕ Global). v.items)) c.in_default.is in
    none_fits p c.codes-codes.ensures.sound c.args.rest.now c.args.size c.requires.some c.requires.most c.args.wanted nothing

pub returns-in-Some-2-clause-some : goal.returns-in-Some-2-clause-some
returns-in-Some-2-clause-some c =
    let p = c.args.profile.now in
    let rest = c.args.rest.now in
    let size = c.args.size in
    let bytes = c.in-Some.bytes.items in
    let k = c.in-Some-wanted.check in
    let m = c.in-Some-2.bits in
    let a = (goal.at.returns-in-Some-2-clause-some c).After-bytes_of in
    let carried = sym (ap (bytes_carried p.codes) (words a)) ∙ sym c.in_ok-bytes.ensures.computed
    ∙ ap (option_map (λ (v : Vec ℕ Global). v.items)) c.in-Some.is in
    let within : m < 2 ^ (4 * size) =
    subst (λ (o : Option ℕ). IfSome o (λ m. m < 2 ^ (4 * size))) c.in-Some-2.is c.in_ok-bits.ensures.within in
    let found : check_of c.check_tables.result.now (with_bits m c.deref-2.result.now) ≡ k =
    subst (λ (o : Option ℕ). IfSome o (λ m. check_of c.check_tables.result.now (with_bits m c.deref-2.result.now) ≡ k)) c.in-Some-2.is
    c.in_ok-bits.ensures.found in
    let made =
    sym (ap (λ (r : Check). check_of r (with_bits m c.deref-2.result.now)) c.check_tables.ensures
    ∙ ap (λ (bs : List ℕ). check_of p.check (with_bits m bs)) c.deref-2.ensures.value)
    ∙ found in
    subst (λ (o : Option ℕ). Fits p o (c.numbered_word.result ∷ rest)) (sym c.in-Some-wanted.is)
    (subst (λ (w : ℕ). Fits p (Some k) (w ∷ rest)) (sym c.numbered_word.ensures)
    (bits_fit p c.codes-codes.ensures.sound rest size c.requires.some c.requires.most bytes k m carried within made))

pub returns-clause-none : goal.returns-clause-none
returns-clause-none c s are long fits =
    let p = c.args.profile.now in
    let rest = c.args.rest.now in
    let size = c.args.size in
    let bytes = c.in-Some.bytes.items in
    let k = c.in-Some-wanted.check in
    let a = (goal.at.returns-clause-none c).After-bytes_of in
    let carried = sym (ap (bytes_carried p.codes) (words a)) ∙ sym c.in_ok-bytes.ensures.computed
    ∙ ap (option_map (λ (v : Vec ℕ Global). v.items)) c.in-Some.is in
    let none : (m : ℕ)
    → m < 2 ^ (4 * size) → check_of c.check_tables.result.now (with_bits m c.deref-2.result.now) ≢ k =
    subst (λ (o : Option ℕ).
    IfNone o ((m : ℕ) → m < 2 ^ (4 * size) → check_of c.check_tables.result.now (with_bits m c.deref-2.result.now) ≢ k))
    c.in-None.is c.in_ok-bits.ensures.none in
    let none_made : (m : ℕ)
    → m < 2 ^ (4 * size) → ¬ (check_of p.check (with_bits m bytes) ≡ k) =
    λ m h e. none m h (ap (λ (r : Check). check_of r (with_bits m c.deref-2.result.now)) c.check_tables.ensures
    ∙ ap (λ (bs : List ℕ). check_of p.check (with_bits m bs)) c.deref-2.ensures.value ∙ e) in
    no_bits_fit p c.codes-codes.ensures.sound rest size c.requires.some c.requires.most bytes k carried none_made s are long
    (subst (λ (o : Option ℕ). Fits p o (data_word p.codes s ∷ rest)) c.in-Some-wanted.is fits)
