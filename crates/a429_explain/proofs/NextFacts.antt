-- Lines that are likely after others: those of words of a block that are sent and taken.
use Rattle.std.proofs.Common.{◌≡◌, ◌<◌, ◌≤◌, ℕ, zero, suc, ◌+◌, ◌-◌, List, [], ◌∷◌, ◌++◌, true, nat_lt, sym, ap, refl, ◌∙◌, subst, arith, append_assoc, append-nil}
use Rattle.std.proofs.lemmas.Bool.Decides.{nat_tests}
use Rattle.std.proofs.lemmas.Fmt.{decimal_digit}
use Rattle.std.specs.Fmt.{decimal}
use Rattle.std.specs.Prelude.{codes}
use Rattle.a429_link.specs.declared.state.SinkState.TheVariants.{OwesClear, OwesAck}
use Rattle.a429_link.specs.declared.state.SourceState.{SourceState}
use Rattle.a429_link.specs.declared.state.SourceState.TheVariants.{Awaiting, Waiting}
use Rattle.a429_cert.specs.declared.act.Act.{Act}
use Rattle.a429_cert.specs.declared.act.Act.TheVariants.{Sent, SinkTakes, Answered, TakeAnswer}
use Rattle.a429_cert.specs.declared.line.CertLine.TheVariants.{Moved}
use Rattle.a429_cert.specs.declared.line.MovedLine.{MovedLine}
use Rattle.a429_cert.specs.Act.{act_text}
use Rattle.a429_cert.specs.Field.{field}
use Rattle.a429_cert.specs.BlockText.{word_lines, block_lines}
use Rattle.a429_explain.specs.Next.{carried, moves, next_after, next_line, sending, takes}
use Rattle.a429_explain.specs.Note.{line_after, likely_lines, last_line}

-- ---- one word

carried_next : (k : ℕ) → k < 254 → next_line (carried k) ≡ sending k
carried_next k less = let yes : nat_lt k 254 ≡ true = grind (arith, nat_tests) in rw yes refl

sending_next : (k : ℕ) → k < 254 → next_line (sending k) ≡ carried (k + 1)
sending_next k less = let yes : nat_lt k 254 ≡ true = grind (arith, nat_tests) in rw yes refl

-- the first of the likely lines after one, and the second
two_lines : (m a b : MovedLine) (n : ℕ)
    → next_line m ≡ a → next_line a ≡ b → likely_lines m (suc (suc n)) ≡ line_after (Moved a) ++ (line_after (Moved b) ++ likely_lines b n)
two_lines m a b n e f =
    subst (λ (c : MovedLine). likely_lines m (suc (suc n)) ≡ line_after (Moved a) ++ (line_after (Moved c) ++ likely_lines c n)) f
    (subst (λ (c : MovedLine).
    likely_lines m (suc (suc n)) ≡ line_after (Moved c) ++ (line_after (Moved (next_line c)) ++ likely_lines (next_line c) n)) e refl)

two_last : (m a b : MovedLine) (n : ℕ) → next_line m ≡ a → next_line a ≡ b → last_line m (suc (suc n)) ≡ last_line b n
two_last m a b n e f =
    subst (λ (c : MovedLine). last_line m (suc (suc n)) ≡ last_line c n) f
    (subst (λ (c : MovedLine). last_line m (suc (suc n)) ≡ last_line (next_line c) n) e refl)

-- both lines of a word
pub lines_of_word : (k : ℕ) → line_after (Moved (sending k)) ++ line_after (Moved (carried (k + 1))) ≡ word_lines k
lines_of_word k = let one : k + 1 ≡ suc k = omega arith in rw one refl

-- ---- so many words

pub block_likely : (k n : ℕ) → k + n ≤ 254 → likely_lines (carried k) (n + n) ≡ block_lines k n
block_likely k zero few = refl
block_likely k (suc n) few =
    let two : suc n + suc n ≡ suc (suc (n + n)) = omega arith in
    let one : k + 1 ≡ suc k = omega arith in
    let rest = likely_lines (carried (k + 1)) (n + n) in
    ap (likely_lines (carried k)) two
    ∙ two_lines (carried k) (sending k) (carried (k + 1)) (n + n) (carried_next k (omega (arith, few)))
    (sending_next k (omega (arith, few)))
    ∙ sym (append_assoc (line_after (Moved (sending k))) (line_after (Moved (carried (k + 1)))) rest)
    ∙ ap (λ (t : List ℕ). t ++ rest) (lines_of_word k)
    ∙ ap (λ (t : List ℕ). word_lines k ++ t) (block_likely (k + 1) n (omega (arith, few)) ∙ ap (λ (j : ℕ). block_lines j n) one)

pub block_last : (k n : ℕ) → k + n ≤ 254 → last_line (carried k) (n + n) ≡ carried (k + n)
block_last k zero few = let same : k + zero ≡ k = omega arith in rw same refl
block_last k (suc n) few =
    let two : suc n + suc n ≡ suc (suc (n + n)) = omega arith in
    let sum : k + suc n ≡ k + 1 + n = omega arith in
    ap (last_line (carried k)) two
    ∙ two_last (carried k) (sending k) (carried (k + 1)) (n + n) (carried_next k (omega (arith, few))) (sending_next k (omega (arith, few)))
    ∙ block_last (k + 1) n (omega (arith, few))
    ∙ ap carried (sym sum)

-- ---- some of the likely lines, and the rest

likely_both : (m : MovedLine) (a b : ℕ) → likely_lines m (a + b) ≡ likely_lines m a ++ likely_lines (last_line m a) b
likely_both m zero b = let none : zero + b ≡ b = omega arith in rw none refl
likely_both m (suc a) b =
    let sum : suc a + b ≡ suc (a + b) = omega arith in
    rw sum (ap (λ (t : List ℕ). line_after (Moved (next_line m)) ++ t) (likely_both (next_line m) a b)
    ∙ sym (append_assoc (line_after (Moved (next_line m))) (likely_lines (next_line m) a) (likely_lines (last_line (next_line m) a) b)))

last_both : (m : MovedLine) (a b : ℕ) → last_line m (a + b) ≡ last_line (last_line m a) b
last_both m zero b = let none : zero + b ≡ b = omega arith in rw none refl
last_both m (suc a) b = let sum : suc a + b ≡ suc (a + b) = omega arith in rw sum (last_both (next_line m) a b)

-- so many of those that are left are put
pub likely_some : (said all : List ℕ) (m last : MovedLine) (left some : ℕ)
    → some ≤ left → last ≡ last_line m some → said ++ likely_lines m left ≡ all
    → (said ++ likely_lines m some) ++ likely_lines last (left - some) ≡ all
likely_some said all m last left some few is h =
    let sum : some + (left - some) ≡ left = omega (arith, few) in
    append_assoc said (likely_lines m some) (likely_lines last (left - some))
    ∙ ap (λ (l : MovedLine). said ++ (likely_lines m some ++ likely_lines l (left - some))) is
    ∙ ap (λ (t : List ℕ). said ++ t) (sym (likely_both m some (left - some)))
    ∙ ap (λ (n : ℕ). said ++ likely_lines m n) sum
    ∙ h

-- a word more, after the last of them
pub word_likely : (front : List ℕ) (first last : MovedLine) (more place : ℕ)
    → place < 254 → last ≡ last_line first more → last ≡ carried place
    → front ++ (line_after (Moved first) ++ likely_lines first (more + 2))
    ≡ (front ++ (line_after (Moved first) ++ likely_lines first more)) ++ word_lines place
word_likely front first last more place less is here =
    let head = line_after (Moved first) in
    let tail = likely_lines first more in
    let two : likely_lines (last_line first more) 2 ≡ word_lines place =
    ap (λ (l : MovedLine). likely_lines l 2) (sym is ∙ here) ∙ block_likely place 1 (omega (arith, less)) ∙ append-nil (word_lines place) in
    let all : likely_lines first (more + 2) ≡ tail ++ word_lines place = likely_both first more 2 ∙ ap (λ (t : List ℕ). tail ++ t) two in
    ap (λ (t : List ℕ). front ++ (head ++ t)) all
    ∙ ap (λ (t : List ℕ). front ++ t) (sym (append_assoc head tail (word_lines place)))
    ∙ sym (append_assoc front (head ++ tail) (word_lines place))

pub word_last : (first last : MovedLine) (more place : ℕ)
    → place < 254 → last ≡ last_line first more → last ≡ carried place → carried (place + 1) ≡ last_line first (more + 2)
word_last first last more place less is here =
    sym (last_both first more 2 ∙ ap (λ (l : MovedLine). last_line l 2) (sym is ∙ here) ∙ block_last place 1 (omega (arith, less)))

-- ---- lines that are the same each time

sent_next : (m : MovedLine) (source : SourceState)
    → m.act ≡ Sent → m.states.source ≡ source → next_line m ≡ moves SinkTakes source (takes source m.states.sink) 0 0
sent_next m source is at =
    ap (λ (a : Act). next_after a m.states.source m.states.sink m) is
    ∙ ap (λ (s : SourceState). moves SinkTakes s (takes s m.states.sink) 0 0) at

likely_from : (m l : MovedLine) (n : ℕ) → next_line m ≡ l → likely_lines m (suc n) ≡ line_after (Moved l) ++ likely_lines l n
likely_from m l n next = ap (λ (k : MovedLine). line_after (Moved k) ++ likely_lines k n) next

-- a line with these texts, begun with the line feed before it
abbrev line_text : Act → List ℕ → List ℕ → List ℕ → List ℕ → List ℕ
line_text act source sink to_sink to_source = 10 ∷ (act_text act ++ field source ++ field sink ++ field to_sink ++ field to_source)

-- what begins with the texts of 0 and 1
with_digits : (text : List ℕ → List ℕ → List ℕ) → text (decimal 0) (decimal 1) ≡ text (48 ∷ []) (49 ∷ [])
with_digits text =
    ap (λ (t : List ℕ). text t (decimal 1)) (decimal_digit 0 (omega arith))
    ∙ ap (λ (t : List ℕ). text (48 ∷ []) t) (decimal_digit 1 (omega arith))

-- after a request that is on its way: up to the start word, which is taken
abbrev after_request : MovedLine
after_request = moves SinkTakes Awaiting OwesClear 0 0

abbrev request_text : List ℕ → List ℕ → List ℕ
request_text of_0 of_1 =
    line_text SinkTakes (codes "C") (codes "c") of_0 of_0
    ++ (line_text Answered (codes "C") (codes "G") of_0 of_1
    ++ (line_text TakeAnswer (codes "S" ++ of_0) (codes "G") of_0 of_0
    ++ (line_text Sent (codes "S" ++ of_1) (codes "G") of_1 of_0
    ++ (line_text SinkTakes (codes "S" ++ of_1) (codes "B" ++ of_1) of_0 of_0 ++ []))))

pub request_likely : (m : MovedLine)
    → m.act ≡ Sent → m.states.source ≡ Awaiting → likely_lines m 5 ≡ request_text (48 ∷ []) (49 ∷ [])
request_likely m is at =
    let text : line_after (Moved after_request) ++ likely_lines after_request 4 ≡ request_text (decimal 0) (decimal 1) = refl in
    likely_from m after_request 4 (sent_next m Awaiting is at) ∙ text ∙ with_digits request_text

-- after an end word that is on its way: up to the acknowledgement, which is taken
abbrev after_end : MovedLine
after_end = moves SinkTakes Waiting OwesAck 0 0

abbrev end_text : List ℕ → List ℕ → List ℕ
end_text of_0 of_1 =
    line_text SinkTakes (codes "W") (codes "A") of_0 of_0
    ++ (line_text Answered (codes "W") (codes "Q") of_0 of_1 ++ (line_text TakeAnswer (codes "I") (codes "Q") of_0 of_0 ++ []))

pub end_likely : (m : MovedLine)
    → m.act ≡ Sent → m.states.source ≡ Waiting → likely_lines m 3 ≡ end_text (48 ∷ []) (49 ∷ [])
end_likely m is at =
    let text : line_after (Moved after_end) ++ likely_lines after_end 2 ≡ end_text (decimal 0) (decimal 1) = refl in
    likely_from m after_end 2 (sent_next m Waiting is at) ∙ text ∙ with_digits end_text
