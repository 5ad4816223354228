-- The lines of the last words of a block, which are lost.
use Rattle.std.proofs.Common.{◌≡◌, ◌<◌, ◌≤◌, ◌+◌, ◌-◌, ℕ, zero, suc, Bool, List, [], ◌∷◌, ◌++◌, None, refl, sym, ap, ◌∙◌, subst, arith, append_assoc}
use Rattle.std.specs.Fmt.{decimal}
use Rattle.std.specs.List.{AllByRecursion}
use Rattle.std.proofs.Math.Bool.{or-false}
use Rattle.a429_profile.specs.Profile.{Contents}
use Rattle.a429_ldu.specs.Ldu.{LduValue, count_of}
use Rattle.a429_link.specs.declared.seen.Seen.{Seen}
use Rattle.a429_link.specs.declared.state.SourceState.{SourceState}
use Rattle.a429_link.specs.declared.state.SourceState.TheVariants.{Sending, Waiting}
use Rattle.a429_link.specs.declared.state.States.{States}
use Rattle.a429_link.specs.declared.step.Step.{Step}
use Rattle.a429_link.specs.declared.step.Step.TheVariants.{SentLost}
use Rattle.a429_link.specs.Link.{LinkValue}
use Rattle.a429_link.specs.Losses.{losses, words_left, StaysBounded}
use Rattle.a429_link.specs.Run.{IsBounded, SentFew}
use Rattle.a429_link.specs.State.{State, states_of}
use Rattle.a429_link.specs.Step.{after}
use Rattle.a429_link.proofs.LossesFacts.{in_phase, SendsWord, can_lose, lost_inside, lost_last, sends_next, sends_word}
use Rattle.a429_link.proofs.CleanRuns.{end_append}
use Rattle.a429_cert.specs.declared.act.Act.TheVariants as act
use Rattle.a429_cert.specs.declared.line.CertLine.TheVariants.{Moved}
use Rattle.a429_cert.specs.Field.{field}
use Rattle.a429_cert.specs.Line.{IsHeld, IsLine}
use Rattle.a429_cert.specs.States.{sink_text, source_text}
use Rattle.a429_explain.specs.declared.scribe.Scribe.{Scribe}
use Rattle.a429_explain.specs.Next.{lost}
use Rattle.a429_explain.specs.Note.{line_after, lost_head, rest_lines}
use Rattle.a429_explain.specs.Scribe.{HasWritten, WritesNext, link_after, IsClosing, ClosesOn}
use Rattle.a429_explain.proofs.ScribeFacts.{written_on, line_at, line_is}

-- ---- their text

parts : (f s a b : List ℕ) → f ++ ((s ++ a) ++ b) ≡ ((f ++ s) ++ a) ++ b
parts f s a b = sym (append_assoc f (s ++ a) b) ∙ ap (λ (t : List ℕ). t ++ b) (sym (append_assoc f s a))

-- the line of one, by its two parts
pub line_of_parts : (at : States) (k : ℕ)
    → lost_head k ++ (field (sink_text at.sink) ++ field (decimal at.to_sink) ++ field (decimal at.to_source))
    ≡ line_after (Moved (lost at (Sending k)))
line_of_parts at k =
    ap (λ (t : List ℕ). 10 ∷ 108 ∷ t)
    (parts (field (source_text (Sending k))) (field (sink_text at.sink)) (field (decimal at.to_sink)) (field (decimal at.to_source)))

-- some lines, and the first of those that are left
pub rest_first : (said all : List ℕ) (at : States) (k end : ℕ) → k < end → said ++ rest_lines at k (end - k) ≡ all
    → (said ++ line_after (Moved (lost at (Sending k)))) ++ rest_lines at (k + 1) (end - (k + 1)) ≡ all
rest_first said all at k end less h =
    let left = end - (k + 1) in
    let some : end - k ≡ suc left = omega (arith, less) in
    let one : k + 1 ≡ suc k = omega arith in
    let line = line_after (Moved (lost at (Sending k))) in
    append_assoc said line (rest_lines at (k + 1) left)
    ∙ ap (λ (j : ℕ). said ++ (line ++ rest_lines at j left)) one
    ∙ ap (λ (n : ℕ). said ++ rest_lines at k n) (sym some)
    ∙ h

-- the last line
pub rest_last : (said all : List ℕ) (at : States) (k end : ℕ)
    → end ≤ k → said ++ rest_lines at k (end - k) ≡ all → said ++ line_after (Moved (lost at Waiting)) ≡ all
rest_last said all at k end past h =
    let none : end - k ≡ 0 = omega (arith, past) in
    ap (λ (n : ℕ). said ++ rest_lines at k n) (sym none) ∙ h

-- ---- their steps

-- the states after a loss are those before it, but for the source
shows_lost : (at : States) (s t : State) (k : ℕ) (q : SourceState)
    → states_of s ≡ record at { source = Sending k } → t ≡ in_phase q s → states_of t ≡ record at { source = q }
shows_lost at s t k q shows is = ap states_of is ∙ ap {A = States} (λ states. record states { source = q }) shows

-- one word
lost_written : (items : List Seen) (first : ℕ) (text : List ℕ) (gave : Bool) (l : LinkValue) (at : States) (q : SourceState)
    → IsHeld (Moved (lost at Waiting)) → IsBounded (after l.profile SentLost l.state)
    → states_of (after l.profile SentLost l.state) ≡ record at { source = q } → (u : LduValue) (k : ℕ) → SendsWord l.state u k
    → HasWritten first items text gave l
    → HasWritten first items (text ++ line_after (Moved (lost at q))) gave (link_after (SentLost ∷ []) l)
lost_written items first text gave l at q held bounds shows u k sends h =
    let t = after l.profile SentLost l.state in
    let is : line_at act.SentLost t ≡ Moved (lost at q) =
    ap {A = States} (λ states. Moved (record { act = act.SentLost; states = states })) shows in
    written_on items first text (text ++ line_after (Moved (lost at q))) gave gave l (link_after (SentLost ∷ []) l) SentLost
    (Moved (lost at q)) None h (sym (or-false gave)) refl refl (subst IsLine is (line_is act.SentLost t bounds)) held refl
    (can_lose l.profile l.state u k sends) shows

-- all words from word k on
pub rest_written_from : (m k : ℕ) (items : List Seen) (first : ℕ) (text : List ℕ) (gave : Bool) (l : LinkValue) (at : States) (u : LduValue)
    → IsHeld (Moved (lost at Waiting)) → states_of l.state ≡ record at { source = Sending k } → SendsWord l.state u k
    → k + suc m ≡ count_of u → StaysBounded l.profile (losses (suc m)) l.state → HasWritten first items text gave l
    → HasWritten first items (text ++ rest_lines at (suc k) m) gave (link_after (losses (suc m)) l)
rest_written_from zero k items first text gave l at u held shows sends whole bounds h =
    lost_written items first text gave l at Waiting held bounds.1
    (shows_lost at l.state _ k Waiting shows (lost_last l.profile l.state u k sends (omega (arith, whole)))) u k sends h
rest_written_from (suc m) k items first text gave l at u held shows sends whole bounds h =
    let more : suc k < count_of u = omega (arith, whole) in
    let next = lost_inside l.profile l.state u k sends more in
    let t = after l.profile SentLost l.state in
    let here = shows_lost at l.state t k (Sending (suc k)) shows next in
    let line = line_after (Moved (lost at (Sending (suc k)))) in
    let one = lost_written items first text gave l at (Sending (suc k)) held bounds.1.0 here u k sends h in
    let sends_on = subst (λ (s : State). SendsWord s u (suc k)) (sym next) (sends_next l.state u k sends more) in
    let rest =
    rest_written_from m (suc k) items first (text ++ line) gave (link_after (SentLost ∷ []) l) at u held here sends_on
    (omega (arith, whole)) bounds.1 one in
    subst (λ (x : List ℕ). HasWritten first items x gave (link_after (losses (suc (suc m))) l))
    (append_assoc text line (rest_lines at (suc (suc k)) m)) rest

-- the rest of a block is lost, and its lines are written
pub rest_written : (s t : Scribe) (at : States) (k n : ℕ)
    → at ≡ states_of s.link.state → at.source ≡ Sending k → n ≡ words_left s.link.state.source → 0 < n
    → StaysBounded s.link.profile (losses n) s.link.state → t.link ≡ link_after (losses n) s.link → t.gave_up ≡ s.gave_up
    → IsHeld (Moved (lost at Waiting)) → t.lines ≡ s.lines ++ rest_lines at (k + 1) (k + n - (k + 1)) → WritesNext None s t
rest_written s t at k zero states source count some bounds made gives held w = absurd (omega (arith, some))
rest_written s t at k (suc m) states source count some bounds made gives held w = λ first items h.
    let word = sends_word s.link.state k (suc m) (ap {A = States} (λ q. q.source) (sym states) ∙ source) count some in
    let shows : states_of s.link.state ≡ record at { source = Sending k } =
    sym states ∙ ap {A = SourceState} (λ q. record at { source = q }) source in
    let one : k + 1 ≡ suc k = omega arith in
    let left : k + suc m - suc k ≡ m = omega arith in
    let text : t.lines ≡ s.lines ++ rest_lines at (suc k) m =
    w ∙ ap (λ (j : ℕ). s.lines ++ rest_lines at j (k + suc m - j)) one ∙ ap (λ (j : ℕ). s.lines ++ rest_lines at (suc k) j) left in
    let all = rest_written_from m k items first s.lines s.gave_up s.link at word.0 held shows word.1 word.2 bounds h in
    rw (text, made, gives) all

-- a byte counts the words that are sent then
words_fit : (p : Contents) (u : LduValue) (m k : ℕ) (s : State)
    → SendsWord s u k → k + suc m ≡ count_of u → StaysBounded p (losses (suc m)) s → k + suc m ≤ 255
words_fit p u zero k s sends whole bounds =
    let few : k ≤ 254 = subst SentFew sends.sending bounds.0.sent in
    omega (arith, few)
words_fit p u (suc m) k s sends whole bounds =
    let more : suc k < count_of u = omega (arith, whole) in
    let next = lost_inside p s u k sends more in
    let sends_on = subst (λ (t : State). SendsWord t u (suc k)) (sym next) (sends_next s u k sends more) in
    let rest = words_fit p u m (suc k) (after p SentLost s) sends_on (omega (arith, whole)) bounds.1 in
    omega (arith, rest)

pub rest_fits : (l : LinkValue) (at : States) (k n : ℕ) → at ≡ states_of l.state → at.source ≡ Sending k → n ≡ words_left l.state.source
    → 0 < n → StaysBounded l.profile (losses n) l.state → k + n ≤ 255
rest_fits l at k zero states source count some bounds = absurd (omega (arith, some))
rest_fits l at k (suc m) states source count some bounds =
    let word = sends_word l.state k (suc m) (ap {A = States} (λ q. q.source) (sym states) ∙ source) count some in
    words_fit l.profile word.0 m k l.state word.1 word.2 bounds

-- ---- the attempt before a request is closed by them

all_closing : (steps : List Step) (n : ℕ) → AllByRecursion IsClosing steps → AllByRecursion IsClosing (steps ++ losses n)
all_closing [] zero h = tt
all_closing [] (suc n) h = (tt, all_closing [] n tt)
all_closing (b ∷ steps) n h = (h.0, all_closing steps n h.1)

pub closes_with_rest : (l m : LinkValue) (n : ℕ) → m ≡ link_after (losses n) l → ClosesOn l m
closes_with_rest l m n made = λ k c. record {
  steps = c.steps ++ losses n;
  closing = all_closing c.steps n c.closing;
  leads = made ∙ ap (link_after (losses n)) c.leads
      ∙ ap (λ (s : State). record k { state = s }) (sym (end_append k.profile c.steps (losses n) k.state));
}
