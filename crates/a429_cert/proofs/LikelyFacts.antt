-- Lines that are written before they are needed.
use Rattle.std.proofs.Common.{◌≡◌, ◌≢◌, ◌∙◌, ◌<◌, ◌≤◌, ◌+◌, ◌-◌, ◌==◌, ℕ, zero, suc, List, [], ◌∷◌, ◌++◌, length, get_or, take, drop, Bool, true, false, nat_lt, if◌then◌else◌, Option, Some, None, refl, sym, ap, subst, arith}
use Rattle.std.specs.List.{AllByRecursion, starts_with}
use Rattle.std.proofs.Math.Seq.{take-append_seam}
use Rattle.std.proofs.lemmas.Bool.Decides.{Decides-eqb, nat_tests}
use Rattle.std.proofs.lemmas.List.{append_assoc, length-append, get_or_append_left, get_or_push, drop_more}
use Rattle.std.proofs.lemmas.Slice.Eq.{starts_is}
use Rattle.std.proofs.lemmas.Fmt.{decimal_digit}
use Rattle.a429_cert.proofs.LineReaderFacts.{held_now, ahead_now, ahead_past}
use Rattle.a429_cert.specs.declared.line.MovedLine.{MovedLine}
use Rattle.a429_cert.specs.declared.line.CertLine.TheVariants.{Moved}
use Rattle.a429_cert.specs.Fault.{SaysLine}
use Rattle.a429_cert.specs.declared.fault.CertFault.TheVariants as of
use Rattle.a429_cert.specs.Passing.{IsNamedOf, RefusesFirst}
use Rattle.a429_cert.proofs.PassingText.{fault-read}
use Rattle.a429_link.specs.State.{State}
use Rattle.a429_profile.specs.Profile.{Contents}
use Rattle.a429_cert.specs.Line.{spelling}
use Rattle.a429_cert.specs.Line.{SpellsLine}
use Rattle.a429_cert.specs.Lines.{certificate_lines}
use Rattle.a429_cert.specs.Version.{read_as}
use Rattle.a429_cert.specs.declared.line.CertLine.{CertLine}
use Rattle.a429_cert.specs.declared.version.Version.{Version}
use Rattle.a429_cert.specs.declared.version.Version.TheVariants.{One, Two}
use Rattle.a429_cert.specs.declared.act.Act.{Act}
use Rattle.a429_cert.specs.declared.act.Act.TheVariants.{Sent, SentLost, TimeOut, TakeAnswer, LoseAnswer, SinkTakes, Silent, Answered, FreeSeen, GiveUp}
use Rattle.a429_cert.specs.Act.{act_text}
use Rattle.std.specs.Fmt.{decimal}
use Rattle.a429_cert.specs.Field.{field}
use Rattle.a429_cert.specs.States.{source_text, sink_text, IsSource, IsSink}
use Rattle.a429_link.specs.declared.state.SinkState.{SinkState}
use Rattle.a429_link.specs.declared.state.States.{States}
use Rattle.a429_cert.specs.Likely.{sent_line, taken_line, values_below, IsLikely}
use Rattle.a429_cert.specs.LikelyLine.{IsWays}
use Rattle.a429_cert.specs.StreamHead.{ReadsAtMost}
use Rattle.a429_cert.specs.declared.stream_fault.StreamFault.TheVariants as stream
use Rattle.a429_cert.proofs.LineShape.{IsVisible, line-visible}

-- ---- the texts of the lines

no_end : (b : ℕ) → IsVisible b → (b == 10) ≡ false
no_end b h = grind (arith, nat_tests, h.0)

-- a line without control characters ends at its line feed
pub ends_there : (text rest : List ℕ)
    → AllByRecursion IsVisible text → certificate_lines (text ++ 10 ∷ rest) ≡ Some text ∷ certificate_lines rest
ends_there [] rest h = refl
ends_there (b ∷ bs) rest h = rw (no_end b h.0, ends_there bs rest h.1) refl

pub line_first : (l : CertLine) (text rest : List ℕ)
    → SpellsLine text l → certificate_lines (text ++ 10 ∷ rest) ≡ Some text ∷ certificate_lines rest
line_first l text rest s = ends_there text rest (subst (AllByRecursion IsVisible) (sym s.spelled) (line-visible l s.line s.held))

pub sent_spells : (k : ℕ) → 1 ≤ k → k < 254 → SpellsLine (spelling (sent_line k)) (sent_line k)
sent_spells k least most = record { line = (omega arith, (least, omega arith)); held = (omega arith, omega arith); spelled = refl }

pub taken_spells : (k : ℕ) → 1 ≤ k → k < 254 → SpellsLine (spelling (taken_line k)) (taken_line k)
taken_spells k least most = record { line = (omega arith, (omega arith, omega arith)); held = (omega arith, omega arith); spelled = refl }

-- neither is read in another way by a version
pub sent_read : (k : ℕ) (v : Version) → read_as v (Some (spelling (sent_line k))) ≡ Some (spelling (sent_line k))
sent_read k One = refl
sent_read k Two = refl

pub taken_read : (k : ℕ) (v : Version) → read_as v (Some (spelling (taken_line k))) ≡ Some (spelling (taken_line k))
taken_read k One = refl
taken_read k Two = refl

moved_is : (m n : MovedLine) → Moved m ≡ Moved n → m ≡ n
moved_is m n e = cc e

-- a line that may be spelled so, and that each version reads as it is
likely : (n : MovedLine) (text : List ℕ) (m : MovedLine) → SpellsLine (spelling (Moved n)) (Moved n)
    → ((v : Version) → read_as v (Some (spelling (Moved n))) ≡ Some (spelling (Moved n))) → text ≡ spelling (Moved n) → Moved m ≡ Moved n
    → IsLikely text m
likely n text m spells read e is =
    rw (e, moved_is m n is) (record {
      says = λ v. rw (read v) spells;
      spells = spells;
      ends = λ rest. line_first (Moved n) (spelling (Moved n)) rest spells;
    })

-- ---- a line by its pieces

-- only a line of a file that is given up is read in another way by a version
moved_read : (a : Act) (s : States) → a ≢ GiveUp → (v : Version)
    → read_as v (Some (spelling (Moved (record { act = a; states = s })))) ≡ Some (spelling (Moved (record { act = a; states = s })))
moved_read a s goes Two = refl
moved_read Sent s goes One = refl
moved_read SentLost s goes One = refl
moved_read TimeOut s goes One = refl
moved_read TakeAnswer s goes One = refl
moved_read LoseAnswer s goes One = refl
moved_read SinkTakes s goes One = refl
moved_read Silent s goes One = refl
moved_read Answered s goes One = refl
moved_read FreeSeen s goes One = refl
moved_read GiveUp s goes One = absurd (goes refl)

regroup : (a b c d e : List ℕ) → a ++ (b ++ ((c ++ d) ++ e)) ≡ (((a ++ b) ++ c) ++ d) ++ e
regroup a b c d e =
    ap (λ l. a ++ (b ++ l)) (append_assoc c d e)
    ∙ sym (append_assoc ((a ++ b) ++ c) d e ∙ append_assoc (a ++ b) c (d ++ e) ∙ append_assoc a b (c ++ (d ++ e)))

pub likely_pieces : (a : Act) (letter : ℕ) (s : States) (source ways : List ℕ)
    → a ≢ GiveUp → letter ∷ [] ≡ act_text a → (source ≡ field (source_text s.source)) × IsSource s.source → IsWays s ways
    → IsLikely (letter ∷ (source ++ ways)) (record { act = a; states = s })
likely_pieces a letter s source ways goes is from way =
    let m : MovedLine = record { act = a; states = s } in
    likely m (letter ∷ (source ++ ways)) m
    (record { line = (from.1, way.sink); held = (omega (arith, way.to_sink), omega (arith, way.to_source)); spelled = refl })
    (moved_read a s goes)
    (rw (from.0, way.text)
    (ap (λ (l : List ℕ).
    l ++ (field (source_text s.source) ++ (field (sink_text s.sink) ++ field (decimal s.to_sink) ++ field (decimal s.to_source)))) is
    ∙ regroup (act_text a) (field (source_text s.source)) (field (sink_text s.sink)) (field (decimal s.to_sink))
    (field (decimal s.to_source))))
    refl

-- the last piece, of a sink that takes no word of a block
pub other_ways : (s : States) (sink : SinkState) (m n : ℕ) (text : List ℕ)
    → s.sink ≡ sink → s.to_sink ≡ m → s.to_source ≡ n → IsSink sink → m ≤ 1 → n ≤ 1
    → text ≡ field (sink_text sink) ++ field ((48 + m) ∷ []) ++ field ((48 + n) ∷ []) → IsWays s text
other_ways s sink m n text is to_sink to_source held few some e = record {
  text = e ∙ rw (is, to_sink, to_source, decimal_digit m (omega (arith, few)), decimal_digit n (omega (arith, some))) refl;
  sink = subst IsSink (sym is) held;
  to_sink = omega (arith, to_sink, few);
  to_source = omega (arith, to_source, some);
}

-- ---- the table

length-below : {A : Type 0} (f : ℕ → A) (n : ℕ) → length (values_below f n) ≡ n
length-below f zero = refl
length-below f (suc n) = omega (arith, length-append (values_below f n) (f n ∷ []), length-below f n)

-- what a number below gives
pub get-below : {A : Type 0} (f : ℕ → A) (n k : ℕ) (d : A) → k < n → get_or (values_below f n) k d ≡ f k
get-below f zero k d h = absurd (omega arith)
get-below f (suc n) k d h = by (get-below f n k d) (nat_lt k n) refl
  where
    by : (k < n → get_or (values_below f n) k d ≡ f k) → (b : Bool) → nat_lt k n ≡ b → get_or (values_below f n ++ f n ∷ []) k d ≡ f k
    by before true e =
        let less : k < n = grind (arith, nat_tests) in
        get_or_append_left (values_below f n) (f n ∷ []) d k (omega (arith, length-below f n)) ∙ before less
    by before false e =
        let same : k ≡ n = grind (arith, nat_tests) in
        rw same (get_or_push (values_below f n) (f n) d n (length-below f n))

-- ---- a line that was held against a text

-- the bytes that were read begin with the text and a line feed
pub text_ahead : (buffer text : List ℕ) (next filled len : ℕ) → len < length (take (filled - next) (drop next buffer))
    → take (filled - next) (drop next buffer) ≡ text ++ 10 ∷ drop (len + 1) (take (filled - next) (drop next buffer))
    → take (filled - next) (drop next buffer) ≡ text ++ 10 ∷ take (filled - (next + (len + 1))) (drop (next + (len + 1)) buffer)
text_ahead buffer text next filled len inside is =
    let one : len + 1 ≡ suc len = omega arith in
    is ∙ ap (λ l. text ++ 10 ∷ l) (ap (λ n. drop n (take (filled - next) (drop next buffer))) one ∙ ahead_now buffer next filled len inside)

pub text_held : (buffer text : List ℕ) (next filled len : ℕ) (rest : List ℕ)
    → len < length (take (filled - next) (drop next buffer)) → len ≡ length text → take (filled - next) (drop next buffer) ≡ text ++ rest
    → (if nat_lt next (next + (len + 1)) then Some (take (next + (len + 1) - 1 - next) (drop next buffer)) else None) ≡ Some text
text_held buffer text next filled len rest inside same is =
    let longer : nat_lt next (next + (len + 1)) ≡ true = grind (arith, nat_tests) in
    rw longer
    (ap Some (held_now buffer next filled len inside ∙ ap (λ n. take n (take (filled - next) (drop next buffer))) same
    ∙ ap (take (length text)) is ∙ take-append_seam text rest))

-- a line that is ahead, by its pieces
pub line_pieces : (bytes ways rest source ending : List ℕ) (letter : ℕ)
    → 0 < length bytes → get_or bytes 0 0 ≡ letter → drop 1 bytes ≡ source ++ ways → ways ≡ ending ++ rest
    → 0 < length rest → get_or rest 0 0 ≡ 10
    → bytes ≡ (letter ∷ (source ++ ending)) ++ 10 ∷ drop (length bytes - length rest + 1) bytes
line_pieces bytes ways rest source ending letter some first is is' more feed =
    let text = letter ∷ (source ++ ending) in
    let left : rest ≡ 10 ∷ drop 1 rest = drop_more rest 0 0 more ∙ ap (λ b. b ∷ drop 1 rest) feed in
    let joined : drop 1 bytes ≡ (source ++ ending) ++ rest = is ∙ ap (λ l. source ++ l) is' ∙ sym (append_assoc source ending rest) in
    let all : bytes ≡ text ++ rest = drop_more bytes 0 0 some ∙ rw (first, joined) refl in
    let long : length bytes ≡ length text + length rest = ap length all ∙ length-append text rest in
    let len : length bytes - length rest + 1 ≡ length text + 1 = omega (arith, long) in
    let past : drop (length bytes - length rest + 1) bytes ≡ drop 1 rest =
    ap (λ n. drop n bytes) len ∙ ap (drop (length text + 1)) all ∙ drop_past text rest in
    all ∙ ap (λ l. text ++ l) (left ∙ ap (λ l. 10 ∷ l) (sym past))
  where
    drop_past : (front more : List ℕ) → drop (length front + 1) (front ++ more) ≡ drop 1 more
    drop_past [] more = refl
    drop_past (b ∷ front) more =
        let one : suc (length front) + 1 ≡ suc (length front + 1) = omega arith in
        ap (λ n. drop n (b ∷ (front ++ more))) one ∙ drop_past front more

-- the bytes that were read begin with the text
pub text_first : (buffer text : List ℕ) (next filled : ℕ) (r : Bool)
    → r ≡ starts_with ◌==◌ (take (filled - next) (drop next buffer)) text → r ≡ true
    → take (filled - next) (drop next buffer) ≡ text ++ take (filled - (next + length text)) (drop (next + length text) buffer)
text_first buffer text next filled r e is =
    let ahead = take (filled - next) (drop next buffer) in
    let starts = (starts_is Decides-eqb ahead text r e).0 is in
    let all : length ahead ≡ length text + length (drop (length text) ahead) =
    ap length starts ∙ length-append text (drop (length text) ahead) in
    starts ∙ ap (λ l. text ++ l) (ahead_past buffer next filled (length text) (omega (arith, all)))

-- ---- a line that is known

-- a step of its name may not be made
pub refused_line : (p : Contents) (text : Option (List ℕ)) (m : MovedLine) (n : ℕ) (s : State)
    → SaysLine text (Moved m) → (IsNamedOf p m.act s → ⊥) → RefusesFirst p text n s (of.NotAllowed n)
refused_line p None m n s says none = absurd says
refused_line p (Some text) m n s says none = λ at here z.
    fault-read p s at.next at.line at.entry text (Moved m) (of.NotAllowed n) says tt (tt, (sym here, none))

-- ---- where no memory was there

-- nothing was read yet
pub nothing_read : (known : Option (List ℕ)) → ReadsAtMost 2 known known stream.OutOfMemory
nothing_read None = tt
nothing_read (Some text) = record { lines = 0; ahead = []; from = omega arith; to = omega arith; few = omega arith; read = refl }
