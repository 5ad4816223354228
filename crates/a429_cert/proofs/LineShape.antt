-- Which bytes a line has, and how many.
use Rattle.std.proofs.Common.{◌≡◌, ◌+◌, ◌≤◌, ◌<◌, ℕ, List, [], ◌∷◌, ◌++◌, length, true, arith, rules, codes}
use Rattle.std.specs.Fmt.{decimal}
use Rattle.std.specs.List.{list_all, AllByRecursion}
use Rattle.std.proofs.lemmas.Bool.{and_parts}
use Rattle.std.proofs.lemmas.Bool.Decides.{nat_tests}
use Rattle.std.proofs.lemmas.Fmt.{decimal_is_IsNumeral, length-decimal-le}
use Rattle.std.proofs.lemmas.List.{length-append}
use Rattle.a429_word.specs.Digits.{numeral, hex_text}
use Rattle.a429_link.specs.declared.state.SourceState.{SourceState}
use Rattle.a429_link.specs.declared.state.SourceState.TheVariants.{Idle, Awaiting, Sending, Waiting}
use Rattle.a429_link.specs.declared.state.SinkState.{SinkState}
use Rattle.a429_link.specs.declared.state.SinkState.TheVariants.{Quiet, OwesClear, Granted, InBlock, OwesAck, OwesNak}
use Rattle.a429_cert.specs.declared.act.Act.{Act}
use Rattle.a429_cert.specs.declared.act.Act.TheVariants.{Sent, SentLost, TimeOut, TakeAnswer, LoseAnswer, SinkTakes, Silent, Answered, FreeSeen, GiveUp}
use Rattle.a429_cert.specs.declared.line.CertLine.{CertLine}
use Rattle.a429_cert.specs.declared.line.CertLine.TheVariants.{First, Load, Moved}
use Rattle.a429_cert.specs.Line.{spelling, IsLine, IsHeld}
use Rattle.a429_cert.specs.States.{IsSink, IsSource, sink_text, source_text}
use Rattle.a429_cert.specs.Act.{act_text}
use Rattle.a429_cert.specs.Field.{field, is_digit}
use Rattle.a429_cert.proofs.FieldDigits.{decimal_digits, digits-numeral, length-numeral}
use Rattle.a429_cert.proofs.ReadingFacts.{words_text, length-words}

-- a byte that is no control character
abbrev pub IsVisible : ℕ → Type 0
IsVisible b = (32 ≤ b) × (b ≤ 126)

abbrev IsText : List ℕ → Type 0
IsText text = AllByRecursion IsVisible text

joined : (xs ys : List ℕ) → IsText xs → IsText ys → IsText (xs ++ ys)
joined [] ys hx hy = hy
joined (x ∷ xs) ys hx hy = (hx.0, joined xs ys hx.1 hy)

letter : (b : ℕ) → 32 ≤ b → b ≤ 126 → IsText (b ∷ [])
letter b least most = ((least, most), tt)

digit-least : (base b : ℕ) → base ≤ 16 → is_digit base b ≡ true → 32 ≤ b
digit-least base b most h = grind (arith, nat_tests)

digit-most : (base b : ℕ) → base ≤ 16 → is_digit base b ≡ true → b ≤ 126
digit-most base b most h = grind (arith, nat_tests)

digit-visible : (base b : ℕ) → base ≤ 16 → is_digit base b ≡ true → IsVisible b
digit-visible base b most h = (digit-least base b most h, digit-most base b most h)

digits-visible : (base : ℕ) (text : List ℕ) → base ≤ 16 → list_all (is_digit base) text ≡ true → IsText text
digits-visible base [] most h = tt
digits-visible base (b ∷ bs) most h =
    let (here, more) = and_parts (is_digit base b) (list_all (is_digit base) bs) h in
    (digit-visible base b most here, digits-visible base bs most more)

decimal-visible : (n : ℕ) → n < 256 → IsText (decimal n)
decimal-visible n h = digits-visible 10 (decimal n) (omega arith) (decimal_digits (decimal n) (decimal_is_IsNumeral n (omega arith)).0.1)

numeral-visible : (k n : ℕ) → IsText (numeral 16 k n)
numeral-visible k n = digits-visible 16 (numeral 16 k n) (omega arith) (digits-numeral k n)

in_field : (text : List ℕ) → IsText text → IsText (field text)
in_field text h = ((omega arith, omega arith), h)

act-visible : (act : Act) → IsText (act_text act)
act-visible Sent = letter 97 (omega arith) (omega arith)
act-visible SentLost = letter 108 (omega arith) (omega arith)
act-visible TimeOut = letter 116 (omega arith) (omega arith)
act-visible TakeAnswer = letter 103 (omega arith) (omega arith)
act-visible LoseAnswer = letter 100 (omega arith) (omega arith)
act-visible SinkTakes = letter 107 (omega arith) (omega arith)
act-visible Silent = letter 115 (omega arith) (omega arith)
act-visible Answered = letter 98 (omega arith) (omega arith)
act-visible FreeSeen = letter 110 (omega arith) (omega arith)
act-visible GiveUp = letter 120 (omega arith) (omega arith)

source-visible : (source : SourceState) → IsSource source → IsText (source_text source)
source-visible Idle h = letter 73 (omega arith) (omega arith)
source-visible Awaiting h = letter 67 (omega arith) (omega arith)
source-visible (Sending sent) h = ((omega arith, omega arith), decimal-visible sent (omega arith))
source-visible Waiting h = letter 87 (omega arith) (omega arith)

sink-visible : (sink : SinkState) → IsSink sink → IsText (sink_text sink)
sink-visible Quiet h = letter 81 (omega arith) (omega arith)
sink-visible OwesClear h = letter 99 (omega arith) (omega arith)
sink-visible Granted h = letter 71 (omega arith) (omega arith)
sink-visible (InBlock taken) h = ((omega arith, omega arith), decimal-visible taken (omega arith))
sink-visible OwesAck h = letter 65 (omega arith) (omega arith)
sink-visible OwesNak h = letter 78 (omega arith) (omega arith)

words-visible : (words : List ℕ) → IsText (words_text words)
words-visible [] = tt
words-visible (w ∷ ws) = joined (field (hex_text w)) (words_text ws) (in_field (hex_text w) (numeral-visible 8 w)) (words-visible ws)

five : (a b c d e : List ℕ) → IsText a → IsText b → IsText c → IsText d → IsText e → IsText (a ++ b ++ c ++ d ++ e)
five a b c d e ha hb hc hd he = joined (a ++ b ++ c ++ d) e (joined (a ++ b ++ c) d (joined (a ++ b) c (joined a b ha hb) hc) hd) he

first-visible : IsText (codes "first")
first-visible = search (rules, arith)

pub line-visible : (l : CertLine) → IsLine l → IsHeld l → IsText (spelling l)
line-visible (First file) is held =
    joined (codes "first") (field (decimal file)) first-visible (in_field (decimal file) (decimal-visible file held))
line-visible (Load l) is held =
    five (codes "L") (field (numeral 16 1 l.gfi)) (field (numeral 16 1 l.flags)) (field (numeral 16 4 l.check)) (words_text l.words)
    (letter 76 (omega arith) (omega arith)) (in_field (numeral 16 1 l.gfi) (numeral-visible 1 l.gfi))
    (in_field (numeral 16 1 l.flags) (numeral-visible 1 l.flags)) (in_field (numeral 16 4 l.check) (numeral-visible 4 l.check))
    (words-visible l.words)
line-visible (Moved l) is held =
    let s = l.states in
    five (act_text l.act) (field (source_text s.source)) (field (sink_text s.sink)) (field (decimal s.to_sink))
    (field (decimal s.to_source))
    (act-visible l.act) (in_field (source_text s.source) (source-visible s.source is.0))
    (in_field (sink_text s.sink) (sink-visible s.sink is.1)) (in_field (decimal s.to_sink) (decimal-visible s.to_sink held.0))
    (in_field (decimal s.to_source) (decimal-visible s.to_source held.1))

-- ---- how many

length-decimal : (n : ℕ) → n < 256 → length (decimal n) ≤ 3
length-decimal n h = length-decimal-le 3 n (omega arith) (omega arith) (omega arith)

length-act : (act : Act) → length (act_text act) ≤ 1
length-act Sent = omega arith
length-act SentLost = omega arith
length-act TimeOut = omega arith
length-act TakeAnswer = omega arith
length-act LoseAnswer = omega arith
length-act SinkTakes = omega arith
length-act Silent = omega arith
length-act Answered = omega arith
length-act FreeSeen = omega arith
length-act GiveUp = omega arith

length-source : (source : SourceState) → IsSource source → length (source_text source) ≤ 4
length-source Idle h = omega arith
length-source Awaiting h = omega arith
length-source (Sending sent) h = omega (arith, length-decimal sent (omega arith))
length-source Waiting h = omega arith

length-sink : (sink : SinkState) → IsSink sink → length (sink_text sink) ≤ 4
length-sink Quiet h = omega arith
length-sink OwesClear h = omega arith
length-sink Granted h = omega arith
length-sink (InBlock taken) h = omega (arith, length-decimal taken (omega arith))
length-sink OwesAck h = omega arith
length-sink OwesNak h = omega arith

length-five : (a b c d e : List ℕ) → length (a ++ b ++ c ++ d ++ e) ≡ length a + length b + length c + length d + length e
length-five a b c d e =
    omega (arith, length-append (a ++ b ++ c ++ d) e, length-append (a ++ b ++ c) d, length-append (a ++ b) c, length-append a b)

pub line-short : (l : CertLine) → IsLine l → IsHeld l → length (spelling l) ≤ 2287
line-short (First file) is held = omega (arith, length-append (codes "first") (field (decimal file)), length-decimal file held)
line-short (Load l) is held =
    omega (
      arith,
      length-five (codes "L") (field (numeral 16 1 l.gfi)) (field (numeral 16 1 l.flags)) (field (numeral 16 4 l.check))
          (words_text l.words),
      length-numeral 1 l.gfi,
      length-numeral 1 l.flags,
      length-numeral 4 l.check,
      length-words l.words,
      is.3,
    )
line-short (Moved l) is held =
    let s = l.states in
    omega (
      arith,
      length-five (act_text l.act) (field (source_text s.source)) (field (sink_text s.sink)) (field (decimal s.to_sink))
          (field (decimal s.to_source)),
      length-act l.act,
      length-source s.source is.0,
      length-sink s.sink is.1,
      length-decimal s.to_sink held.0,
      length-decimal s.to_source held.1,
    )
