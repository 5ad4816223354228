-- Lines are read as they are spelled.
use Rattle.std.proofs.Common.{◌≡◌, take, drop, ◌==◌, ◌∙◌, ◌/◌, ◌*◌, ◌^◌, ◌<◌, inl, inr, ℕ, zero, suc, List, [], ◌∷◌, ◌++◌, length, true, ◌&&◌, nat_le, Option, Some, None, option_map, refl, sym, ap, subst, arith, append_assoc, codes, flat_map}
use Rattle.std.specs.Fmt.{decimal}
use Rattle.std.specs.List.{AllByRecursion}
use Rattle.std.specs.Str.{bytes_eq}
use Rattle.std.proofs.lemmas.Bool.{and_parts}
use Rattle.std.proofs.lemmas.List.{length-append, take-append-drop}
use Rattle.std.proofs.lemmas.Slice.Eq.{bytes_eq-Decides}
use Rattle.std.proofs.lemmas.Option.{same_Some}
use Rattle.a429_word.specs.Digits.{numeral, hex_text}
use Rattle.a429_ldu.specs.Ldu.{most_data_words, HasLength}
use Rattle.a429_cert.specs.declared.act.Act.{Act}
use Rattle.a429_cert.specs.declared.act.Act.TheVariants.{Sent, SentLost, TimeOut, TakeAnswer, LoseAnswer, SinkTakes, Silent, Answered, FreeSeen, GiveUp}
use Rattle.a429_cert.specs.declared.line.LoadLine.{LoadLine}
use Rattle.a429_cert.specs.declared.line.MovedLine.{MovedLine}
use Rattle.a429_cert.specs.declared.line.CertLine.{CertLine}
use Rattle.a429_cert.specs.declared.line.CertLine.TheVariants.{First, Load, Moved}
use Rattle.a429_cert.specs.Field.{field, when, with_rest, hex_in}
use Rattle.a429_cert.specs.Act.{act_text, act_in}
use Rattle.a429_cert.specs.States.{source_text, sink_text, states_in}
use Rattle.a429_cert.specs.Line.{spelling, IsLine, IsHeld, SpellsLine, Reads}
use Rattle.a429_cert.specs.Reading.{words_at, unit_words_in, first_in, load_in, moved_in, line_in}
use Rattle.a429_cert.proofs.Options.{bind_some, mapped, when_some, split}
use Rattle.a429_cert.proofs.FieldFacts.{IsNext, field-back, field-only}
use Rattle.a429_cert.proofs.FieldDigits.{length-numeral}
use Rattle.a429_cert.proofs.FieldNumbers.{numerals, last_decimal-back, last_decimal-only, fits, below, is_same, nothing}
use Rattle.a429_cert.proofs.ActFacts.{act_byte, act-back, act-only}
use Rattle.a429_cert.proofs.StatesFacts.{states_text, states-back, states-only}

-- ---- the words of a link data unit

abbrev pub words_text : List ℕ → List ℕ
words_text words = flat_map (λ w. field (hex_text w)) words

words-next : (words : List ℕ) → IsNext (words_text words)
words-next [] = tt
words-next (w ∷ ws) = refl

pub length-words : (words : List ℕ) → length (words_text words) ≡ 9 * length words
length-words [] = refl
length-words (w ∷ ws) = omega (arith, length-append (field (hex_text w)) (words_text ws), length-words ws, length-numeral 8 w)

words_at-back : (words : List ℕ) → AllByRecursion (λ w. w < 2 ^ 32) words → words_at (length words) (words_text words) ≡ Some words
unfolding words_at
words_at-back [] h = refl
words_at-back (w ∷ ws) h =
    rw (field-back (hex_in 8) (numeral 16 8) (λ n. n < 16 ^ 8) (numerals 8) w (words_text ws) h.0 (words-next ws), words_at-back ws h.1)
    refl

-- what was read of the words: they are spelled, and of 32 bits
record AreWords (text : List ℕ) (count : ℕ) (words : List ℕ) : Type 0 where
  pub spelled : text ≡ words_text words
  pub held : AllByRecursion (λ w. w < 2 ^ 32) words
  pub many : length words ≡ count

words_at-only : (count : ℕ) (text words : List ℕ) → words_at count text ≡ Some words → AreWords text count words
unfolding words_at
words_at-only zero text words e =
    let w = when_some (length text == 0) [] words e in
    subst (AreWords text 0) w.1 (record { spelled = nothing text w.0; held = tt; many = refl })
words_at-only (suc n) text words e =
    let first = bind_some (with_rest (hex_in 8) text) _ words e in
    let more = bind_some (words_at n first.0.1) _ words first.2 in
    let here = field-only (hex_in 8) (numeral 16 8) (λ n. n < 16 ^ 8) (numerals 8) text first.0 first.1 in
    let rest = words_at-only n first.0.1 more.0 more.1 in
    subst (AreWords text (suc n)) (same_Some (first.0.0 ∷ more.0) words more.2) (record {
      spelled = here.0 ∙ ap (λ t. field (hex_text first.0.0) ++ t) rest.spelled;
      held = (here.1, rest.held);
      many = ap suc rest.many;
    })

words_in-back : (words : List ℕ) → AllByRecursion (λ w. w < 2 ^ 32) words → HasLength words → unit_words_in (words_text words) ≡ Some words
unfolding unit_words_in
words_in-back words held long =
    let count : length (words_text words) / 9 ≡ length words = omega (arith, length-words words) in
    rw (count, fits 1 (length words) long.0, fits (length words) most_data_words long.1, words_at-back words held) refl

words_in-only : (text words : List ℕ) → unit_words_in text ≡ Some words → AreWords text (length words) words × HasLength words
unfolding unit_words_in
words_in-only text words e =
    let count = length text / 9 in
    let c = bind_some (when (nat_le 1 count && nat_le count most_data_words) count) _ words e in
    let tests = when_some (nat_le 1 count && nat_le count most_data_words) count c.0 c.1 in
    let parts = and_parts (nat_le 1 count) (nat_le count most_data_words) tests.0 in
    let are = words_at-only c.0 text words c.2 in
    let many : length words ≡ count = are.many ∙ sym tests.1 in (
      record { spelled = are.spelled; held = are.held; many = refl },
      (omega (arith, below 1 count parts.0), omega (arith, below count most_data_words parts.1)),
    )

-- ---- lines, as they are spelled

grouped : (a b c d e : List ℕ) → a ++ b ++ c ++ d ++ e ≡ a ++ (b ++ (c ++ (d ++ e)))
grouped a b c d e = simp append_assoc

-- a file's number
first-back : (file : ℕ) → file < 2 ^ 8 → line_in (spelling (First file)) ≡ Some (First file)
unfolding line_in first_in
first-back file h = rw (last_decimal-back file h) refl

load-text : (l : LoadLine)
    → spelling (Load l) ≡ codes "L"
    ++ (field (numeral 16 1 l.gfi) ++ (field (numeral 16 1 l.flags) ++ (field (numeral 16 4 l.check) ++ words_text l.words)))
load-text l =
    grouped (codes "L") (field (numeral 16 1 l.gfi)) (field (numeral 16 1 l.flags)) (field (numeral 16 4 l.check)) (words_text l.words)

-- a link data unit
load-back : (l : LoadLine) → IsLine (Load l) → IsHeld (Load l) → line_in (spelling (Load l)) ≡ Some (Load l)
unfolding line_in load_in
load-back l is held =
    let last = field (numeral 16 4 l.check) ++ words_text l.words in
    let more = field (numeral 16 1 l.flags) ++ last in
    ap line_in (load-text l)
    ∙ rw (
      field-back (hex_in 1) (numeral 16 1) (λ n. n < 16 ^ 1) (numerals 1) l.gfi more (omega (arith, is.0)) refl,
      field-back (hex_in 1) (numeral 16 1) (λ n. n < 16 ^ 1) (numerals 1) l.flags last (omega (arith, is.1)) refl,
      field-back (hex_in 4) (numeral 16 4) (λ n. n < 16 ^ 4) (numerals 4) l.check (words_text l.words) held.0 (words-next l.words),
      words_in-back l.words held.1 (is.2, is.3),
    ) refl

moved-text : (l : MovedLine) → spelling (Moved l) ≡ act_text l.act ++ states_text l.states
moved-text l =
    grouped (act_text l.act) (field (source_text l.states.source)) (field (sink_text l.states.sink)) (field (decimal l.states.to_sink))
    (field (decimal l.states.to_source))

-- the letter of a step is none of another line
act-line : (act : Act) (more : List ℕ) → line_in (act_text act ++ more) ≡ option_map (λ l. Moved l) (moved_in (act_byte act) more)
unfolding line_in
act-line Sent more = refl
act-line SentLost more = refl
act-line TimeOut more = refl
act-line TakeAnswer more = refl
act-line LoseAnswer more = refl
act-line SinkTakes more = refl
act-line Silent more = refl
act-line Answered more = refl
act-line FreeSeen more = refl
act-line GiveUp more = refl

-- a step
moved-back : (l : MovedLine) → IsLine (Moved l) → IsHeld (Moved l) → line_in (spelling (Moved l)) ≡ Some (Moved l)
unfolding moved_in
moved-back l is held =
    rw (
      moved-text l,
      act-line l.act (states_text l.states),
      act-back l.act,
      states-back l.states (record { source = is.0; sink = is.1; to_sink = held.0; to_source = held.1 }),
    ) refl

pub line-back : (l : CertLine) → IsLine l → IsHeld l → line_in (spelling l) ≡ Some l
line-back (First file) is held = first-back file held
line-back (Load l) is held = load-back l is held
line-back (Moved l) is held = moved-back l is held

-- ---- what is read is spelled so

same_text : (xs ys : List ℕ) → bytes_eq xs ys ≡ true → xs ≡ ys
same_text xs ys h = (bytes_eq-Decides xs ys).0 h

first-only : (bytes : List ℕ) (file : ℕ) → first_in bytes ≡ Some file → SpellsLine bytes (First file)
unfolding first_in
first-only bytes file e =
    let name = bind_some (when (bytes_eq (take 5 bytes) (codes "first")) (drop 5 bytes)) _ file e in
    let is = when_some (bytes_eq (take 5 bytes) (codes "first")) (drop 5 bytes) name.0 name.1 in
    let last = last_decimal-only name.0 file name.2 in
    record {
      line = tt;
      held = last.1;
      spelled = sym (take-append-drop 5 bytes) ∙ ap (λ t. t ++ drop 5 bytes) (same_text (take 5 bytes) (codes "first") is.0)
          ∙ ap (λ t. codes "first" ++ t) (is.1 ∙ last.0);
    }

pub load-only : (bytes : List ℕ) (l : LoadLine) → load_in bytes ≡ Some l → SpellsLine (codes "L" ++ bytes) (Load l)
unfolding load_in
load-only bytes l e =
    let gfi = bind_some (with_rest (hex_in 1) bytes) _ l e in
    let flags = bind_some (with_rest (hex_in 1) gfi.0.1) _ l gfi.2 in
    let check = bind_some (with_rest (hex_in 4) flags.0.1) _ l flags.2 in
    let words = bind_some (unit_words_in check.0.1) _ l check.2 in
    let first = field-only (hex_in 1) (numeral 16 1) (λ n. n < 16 ^ 1) (numerals 1) bytes gfi.0 gfi.1 in
    let second = field-only (hex_in 1) (numeral 16 1) (λ n. n < 16 ^ 1) (numerals 1) gfi.0.1 flags.0 flags.1 in
    let third = field-only (hex_in 4) (numeral 16 4) (λ n. n < 16 ^ 4) (numerals 4) flags.0.1 check.0 check.1 in
    let rest = words_in-only check.0.1 words.0 words.1 in
    let text : bytes ≡ field (numeral 16 1 gfi.0.0)
    ++ (field (numeral 16 1 flags.0.0) ++ (field (numeral 16 4 check.0.0) ++ words_text words.0)) =
    first.0 ∙ ap (λ t. field (numeral 16 1 gfi.0.0) ++ t)
    (second.0 ∙ ap (λ t. field (numeral 16 1 flags.0.0) ++ t) (third.0 ∙ ap (λ t. field (numeral 16 4 check.0.0) ++ t) rest.0.spelled)) in
    let read : LoadLine = record { gfi = gfi.0.0; flags = flags.0.0; check = check.0.0; words = words.0 } in
    subst (λ (x : LoadLine). SpellsLine (codes "L" ++ bytes) (Load x)) (same_Some read l words.2) (record {
      line = (omega (arith, first.1), omega (arith, second.1), rest.1.0, rest.1.1);
      held = (third.1, rest.0.held);
      spelled = ap (λ t. codes "L" ++ t) text ∙ sym (load-text read);
    })

pub moved-only : (letter : ℕ) (bytes : List ℕ) (l : MovedLine) → moved_in letter bytes ≡ Some l → SpellsLine (letter ∷ bytes) (Moved l)
unfolding moved_in
moved-only letter bytes l e =
    let act = bind_some (act_in letter) _ l e in
    let states = bind_some (states_in bytes) _ l act.2 in
    let here = states-only bytes states.0 states.1 in
    let read : MovedLine = record { act = act.0; states = states.0 } in
    subst (λ (x : MovedLine). SpellsLine (letter ∷ bytes) (Moved x)) (same_Some read l states.2) (record {
      line = (here.1.source, here.1.sink);
      held = (here.1.to_sink, here.1.to_source);
      spelled = ap (λ t. t ++ bytes) (act-only letter act.0 act.1) ∙ ap (λ t. act_text act.0 ++ t) here.0 ∙ sym (moved-text read);
    })

pub line-only : (text : List ℕ) (l : CertLine) → line_in text ≡ Some l → SpellsLine text l
unfolding line_in
line-only [] l e = absurd cc
line-only (b ∷ bytes) l e =
    elim (split (b == 76) (option_map (λ x. Load x) (load_in bytes)) _ l e) [
      | inl p ↦
          let x = mapped (λ x. Load x) (load_in bytes) l p.1 in
          subst (λ (c : ℕ). SpellsLine (c ∷ bytes) l) (sym (is_same b 76 p.0))
          (subst (SpellsLine (76 ∷ bytes)) x.2 (load-only bytes x.0 x.1))
      | inr r ↦
          elim (split (b == 102) (option_map (λ n. First n) (first_in (b ∷ bytes))) (option_map (λ x. Moved x) (moved_in b bytes)) l r) [
            | inl p ↦
                let n = mapped (λ n. First n) (first_in (b ∷ bytes)) l p.1 in
                subst (SpellsLine (b ∷ bytes)) n.2 (first-only (b ∷ bytes) n.0 n.1)
            | inr q ↦
                let x = mapped (λ x. Moved x) (moved_in b bytes) l q in subst (SpellsLine (b ∷ bytes)) x.2 (moved-only b bytes x.0 x.1)
          ]
    ]

-- ---- what bytes are read as

none-some : (l : CertLine) → None ≡ Some l → ⊥
none-some l e = cc

reads-by : (text : List ℕ) (read : Option CertLine) → line_in text ≡ read → Reads text read
reads-by text (Some l) e = line-only text l e
reads-by text None e = λ l spells. absurd (none-some l (sym e ∙ ap line_in spells.spelled ∙ line-back l spells.line spells.held))

pub line-reads : (text : List ℕ) (read : Option CertLine) → read ≡ line_in text → Reads text read
line-reads text read e = reads-by text read (sym e)

-- ---- one spelling

pub one-text : (v w : List ℕ) (l : CertLine) → SpellsLine v l → SpellsLine w l → v ≡ w
one-text v w l here there = here.spelled ∙ sym there.spelled

pub one-line : (text : List ℕ) (l m : CertLine) → SpellsLine text l → SpellsLine text m → l ≡ m
one-line text l m here there =
    same_Some l m
    (sym (line-back l here.line here.held) ∙ ap line_in (sym here.spelled ∙ there.spelled) ∙ line-back m there.line there.held)

pub written-back : (l : CertLine) (read : Option CertLine) → IsLine l → IsHeld l → Reads (spelling l) read → read ≡ Some l
written-back l None is held h = absurd (h l record { line = is; held = held; spelled = refl })
written-back l (Some m) is held h = ap Some (one-line (spelling l) m l h record { line = is; held = held; spelled = refl })

pub read-back : (text : List ℕ) (l : CertLine) → Reads text (Some l) → IsLine l × (spelling l ≡ text)
read-back text l h = (h.line, sym h.spelled)
