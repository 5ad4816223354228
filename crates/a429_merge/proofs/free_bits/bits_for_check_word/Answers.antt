use Rattle.std.proofs.Common.{◌≡◌, ◌≢◌, ◌<◌, ◌+◌, ◌*◌, ◌%◌, ◌^◌, ◌++◌, ◌∷◌, [], ℕ, List, length, sym, ap, ◌∙◌, subst, arith, bit_xor, IfOk, IfSome}
use Rattle.std.proofs.lemmas.Nat.{one_shl}
use Rattle.a429_merge.specs.Choice.{xor_of}
use Rattle.a429_merge.specs.FreeBits.{with_bits}
use Rattle.a429_merge.proofs.AffineFacts.{changes}
use Rattle.a429_profile.specs.declared.codes.Check.{Check}
use Rattle.a429_ldu.specs.CheckWord.{check_of}
use Rattle.a429_merge.proofs.FreeBitsFacts.{word_with, start_is, changes_more, length-changes, gives, gives_back, some_both, ok_none_from}
use Rattle.a429_merge.proofs.free_bits.bits_for_check_word.Goals as goal
use Rattle.a429_merge.proofs.free_bits.bits_for_check_word.Goals.{After-choose_columns}

pub loop-k-preserved : goal.loop-k-preserved
loop-k-preserved c =
    let check = c.args.rule.now in
    let bytes = c.args.bytes.now in
    let g = word_with check bytes in
    let k = c.loop-k.k in
    let bit : 1 * 2 ^ k % 2 ^ 32 ≡ 2 ^ k = one_shl k 32 (omega arith) in
    let word : c.check_word_by.result ≡ g (2 ^ k) = c.check_word_by.ensures
    ∙ ap (check_of check) (c.deref.ensures.value ∙ c.in_ok-changed.ensures ∙ ap (λ (m : ℕ). with_bits m bytes) bit) in
    let start : c.check_word_by-start.result ≡ g 0 = c.check_word_by-start.ensures ∙ start_is check bytes in
    let place : 0 + k ≡ k = omega arith in
    c.in_ok-push.ensures.items
    ∙ ap (λ (xs : List ℕ). xs ++ bit_xor c.check_word_by.result c.check_word_by-start.result ∷ []) c.loop-k.invariant
    ∙ ap (λ (x : ℕ). changes g 0 k ++ bit_xor x c.check_word_by-start.result ∷ []) word
    ∙ ap (λ (x : ℕ). changes g 0 k ++ bit_xor (g (2 ^ k)) x ∷ []) start
    ∙ ap (λ (i : ℕ). changes g 0 k ++ bit_xor (g (2 ^ i)) (g 0) ∷ []) (sym place)
    ∙ sym (changes_more g 0 k)

pub choose_columns-requires : goal.choose_columns-requires
choose_columns-requires c =
    let g = word_with c.args.rule.now c.args.bytes.now in
    omega (arith, ap length (c.deref-2.ensures.value ∙ c.loop-k.invariant), length-changes g 0 c.loop-k.k)

columns : (c : After-choose_columns) → c.deref-2.result.now ≡ changes (word_with c.args.rule.now c.args.bytes.now) 0 c.args.count
columns c =
    let all : c.loop-k.k ≡ c.args.count = omega arith in
    c.deref-2.ensures.value ∙ c.loop-k.invariant ∙ ap (changes (word_with c.args.rule.now c.args.bytes.now) 0) all

within : (c : After-choose_columns) → IfOk c.choose_columns.result (λ bits. IfSome bits (λ m. m < 2 ^ c.args.count))
within c =
    let many : length c.deref-2.result.now ≡ c.args.count =
    ap length (columns c) ∙ length-changes (word_with c.args.rule.now c.args.bytes.now) 0 c.args.count in
    subst (λ n. IfOk c.choose_columns.result (λ bits. IfSome bits (λ m. m < 2 ^ n))) many c.choose_columns.ensures.within

pub returns-clause-within : goal.returns-clause-within
returns-clause-within c = within (goal.at.returns-clause-within c).After-choose_columns

pub returns-clause-found : goal.returns-clause-found
returns-clause-found c =
    let a = (goal.at.returns-clause-found c).After-choose_columns in
    let check = c.args.rule.now in
    let poly = ap (λ (k : Check). k.poly) c.rule-numbers.ensures in
    let init = ap (λ (k : Check). k.init) c.rule-numbers.ensures in
    let bytes = c.args.bytes.now in
    let start = c.check_word_by-start.result in
    some_both (λ m. m < 2 ^ c.args.count) (λ m. xor_of c.deref-2.result.now m ≡ bit_xor start c.args.wanted)
    (λ m. check_of check (with_bits m bytes) ≡ c.args.wanted) c.choose_columns.result
    (λ m h e. gives check bytes (omega (arith, poly)) (omega (arith, init)) c.args.count start c.args.wanted c.check_word_by-start.ensures m
    h (subst (λ xs. xor_of xs m ≡ bit_xor start c.args.wanted) (columns a) e))
    (within a) c.choose_columns.ensures.chosen

pub returns-clause-none : goal.returns-clause-none
returns-clause-none c =
    let a = (goal.at.returns-clause-none c).After-choose_columns in
    let check = c.args.rule.now in
    let poly = ap (λ (k : Check). k.poly) c.rule-numbers.ensures in
    let init = ap (λ (k : Check). k.init) c.rule-numbers.ensures in
    let bytes = c.args.bytes.now in
    let start = c.check_word_by-start.result in
    ok_none_from ((m : ℕ) → xor_of c.deref-2.result.now m ≢ bit_xor start c.args.wanted) ((m : ℕ) → m < 2 ^ c.args.count
    → check_of check (with_bits m bytes) ≢ c.args.wanted) c.choose_columns.result
    (λ none m h e. none m (subst (λ xs. xor_of xs m ≡ bit_xor start c.args.wanted) (sym (columns a)) (gives_back check bytes
    (omega (arith, poly)) (omega (arith, init)) c.args.count start c.args.wanted c.check_word_by-start.ensures m h e)))
    c.choose_columns.ensures.none
