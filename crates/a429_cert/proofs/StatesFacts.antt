-- States are read as they are spelled.
use Rattle.std.proofs.Common.{◌≡◌, ◌==◌, ◌∙◌, ◌≤◌, inl, inr, if◌then◌else◌, ℕ, List, [], ◌∷◌, ◌++◌, ◌&&◌, nat_le, ◌<◌, Option, Some, refl, sym, ap, subst, arith}
use Rattle.std.specs.Fmt.{decimal}
use Rattle.std.proofs.lemmas.Bool.{and_parts}
use Rattle.std.proofs.lemmas.Option.{same_Some}
use Rattle.a429_link.specs.declared.state.States.{States}
use Rattle.a429_link.specs.declared.state.SourceState.{SourceState}
use Rattle.a429_link.specs.declared.state.SourceState.TheVariants.{Idle, Awaiting, Sending, Waiting}
use Rattle.a429_link.specs.declared.state.SinkState.{SinkState}
use Rattle.a429_link.specs.declared.state.SinkState.TheVariants.{Quiet, OwesClear, Granted, InBlock, OwesAck, OwesNak}
use Rattle.a429_cert.specs.States.{source_text, IsSource, sending_in, source_letter, source_in, sink_text, IsSink, block_in, sink_letter, sink_in, states_in}
use Rattle.a429_cert.specs.Field.{field, with_rest, decimal_in, last_decimal_in}
use Rattle.a429_cert.proofs.FieldFacts.{IsNext, IsSpelling, field-back, field-only}
use Rattle.a429_cert.proofs.Options.{bind_some, when_some, split}
use Rattle.a429_cert.proofs.FieldNumbers.{decimals, last_decimal-back, last_decimal-only, fits, below, is_same}

-- ---- states that are a letter alone

-- what was read is spelled in front of what stands behind it
abbrev IsSpelled : {A : Type 0} → (A → List ℕ) → (A → Type 0) → List ℕ → A × List ℕ → Type 0
IsSpelled text Fits bytes v = (bytes ≡ text v.0 ++ v.1) × Fits v.0

-- the letter is this one, or one of those behind it
letter : {A : Type 0} (text : A → List ℕ) (Fits : A → Type 0) (b c : ℕ) (x : A) (rest : List ℕ) (v : A × List ℕ)
    (others : Option (A × List ℕ)) → (text x ≡ c ∷ []) × Fits x → (if b == c then Some (x, rest) else others) ≡ Some v
    → (others ≡ Some v → IsSpelled text Fits (b ∷ rest) v) → IsSpelled text Fits (b ∷ rest) v
letter text Fits b c x rest v others spelled e more =
    elim (split (b == c) (Some (x, rest)) others v e) [
      | inl p ↦
          subst (IsSpelled text Fits (b ∷ rest)) (same_Some (x, rest) v p.1)
          (ap (λ n. n ∷ rest) (is_same b c p.0) ∙ ap (λ t. t ++ rest) (sym spelled.0), spelled.1)
      | inr r ↦ more r
    ]

-- ---- states of the source

source-back : (s : SourceState) (rest : List ℕ) → IsSource s → IsNext rest → source_in (source_text s ++ rest) ≡ Some (s, rest)
source-back Idle rest h next = refl
source-back Awaiting rest h next = refl
source-back (Sending k) rest h next = rw (decimals.back k rest (omega arith) next, fits k 254 h) refl
source-back Waiting rest h next = refl

sending-only : (rest : List ℕ) (v : SourceState × List ℕ)
    → sending_in (decimal_in rest) ≡ Some v → IsSpelled source_text IsSource (83 ∷ rest) v
sending-only rest v e =
    let n = bind_some (decimal_in rest) _ v e in
    let w = when_some (nat_le n.0.0 254) (Sending n.0.0, n.0.1) v n.2 in
    let low : n.0.0 ≤ 254 = omega (arith, below n.0.0 254 w.0) in
    subst (IsSpelled source_text IsSource (83 ∷ rest)) w.1 (ap (λ (t : List ℕ). 83 ∷ t) (decimals.only rest n.0 n.1).0, low)

source_letter-only : (b : ℕ) (rest : List ℕ) (v : SourceState × List ℕ)
    → source_letter b rest ≡ Some v → IsSpelled source_text IsSource (b ∷ rest) v
source_letter-only b rest v e =
    letter source_text IsSource b 73 Idle rest v _ (refl, tt) e (λ e1.
    letter source_text IsSource b 67 Awaiting rest v _ (refl, tt) e1 (λ e2.
    letter source_text IsSource b 87 Waiting rest v _ (refl, tt) e2 (λ e3.
    absurd cc)))

source-only : (bytes : List ℕ) (v : SourceState × List ℕ) → source_in bytes ≡ Some v → IsSpelled source_text IsSource bytes v
source-only [] v e = absurd cc
source-only (b ∷ rest) v e =
    elim (split (b == 83) (sending_in (decimal_in rest)) (source_letter b rest) v e) [
      | inl p ↦ rw (is_same b 83 p.0) (sending-only rest v p.1)
      | inr r ↦ source_letter-only b rest v r
    ]

pub sources : IsSpelling source_in source_text IsSource
sources = record { back = source-back; only = source-only }

-- ---- states of the sink

sink-back : (s : SinkState) (rest : List ℕ) → IsSink s → IsNext rest → sink_in (sink_text s ++ rest) ≡ Some (s, rest)
sink-back Quiet rest h next = refl
sink-back OwesClear rest h next = refl
sink-back Granted rest h next = refl
sink-back (InBlock k) rest h next = rw (decimals.back k rest (omega arith) next, fits 1 k h.0, fits k 254 h.1) refl
sink-back OwesAck rest h next = refl
sink-back OwesNak rest h next = refl

block-only : (rest : List ℕ) (v : SinkState × List ℕ) → block_in (decimal_in rest) ≡ Some v → IsSpelled sink_text IsSink (66 ∷ rest) v
block-only rest v e =
    let n = bind_some (decimal_in rest) _ v e in
    let w = when_some (nat_le 1 n.0.0 && nat_le n.0.0 254) (InBlock n.0.0, n.0.1) v n.2 in
    let parts = and_parts (nat_le 1 n.0.0) (nat_le n.0.0 254) w.0 in
    let least : 1 ≤ n.0.0 = omega (arith, below 1 n.0.0 parts.0) in
    let most : n.0.0 ≤ 254 = omega (arith, below n.0.0 254 parts.1) in
    subst (IsSpelled sink_text IsSink (66 ∷ rest)) w.1 (ap (λ (t : List ℕ). 66 ∷ t) (decimals.only rest n.0 n.1).0, (least, most))

sink_letter-only : (b : ℕ) (rest : List ℕ) (v : SinkState × List ℕ) → sink_letter b rest ≡ Some v → IsSpelled sink_text IsSink (b ∷ rest) v
sink_letter-only b rest v e =
    letter sink_text IsSink b 81 Quiet rest v _ (refl, tt) e (λ e1.
    letter sink_text IsSink b 99 OwesClear rest v _ (refl, tt) e1 (λ e2.
    letter sink_text IsSink b 71 Granted rest v _ (refl, tt) e2 (λ e3.
    letter sink_text IsSink b 65 OwesAck rest v _ (refl, tt) e3 (λ e4.
    letter sink_text IsSink b 78 OwesNak rest v _ (refl, tt) e4 (λ e5.
    absurd cc)))))

sink-only : (bytes : List ℕ) (v : SinkState × List ℕ) → sink_in bytes ≡ Some v → IsSpelled sink_text IsSink bytes v
sink-only [] v e = absurd cc
sink-only (b ∷ rest) v e =
    elim (split (b == 66) (block_in (decimal_in rest)) (sink_letter b rest) v e) [
      | inl p ↦ rw (is_same b 66 p.0) (block-only rest v p.1)
      | inr r ↦ sink_letter-only b rest v r
    ]

pub sinks : IsSpelling sink_in sink_text IsSink
sinks = record { back = sink-back; only = sink-only }

-- ---- both, and the words between them

-- what the fields of the states spell
abbrev pub states_text : States → List ℕ
states_text s = field (source_text s.source) ++ (field (sink_text s.sink) ++ (field (decimal s.to_sink) ++ field (decimal s.to_source)))

-- states that can be written
pub record AreWritten (s : States) : Type 0 where
  pub source : IsSource s.source
  pub sink : IsSink s.sink
  pub to_sink : s.to_sink < 256
  pub to_source : s.to_source < 256

pub states-back : (s : States) → AreWritten s → states_in (states_text s) ≡ Some s
unfolding states_in
states-back s h =
    let third = field (decimal s.to_sink) ++ field (decimal s.to_source) in
    rw (
      field-back source_in source_text IsSource sources s.source (field (sink_text s.sink) ++ third) h.source refl,
      field-back sink_in sink_text IsSink sinks s.sink third h.sink refl,
      field-back decimal_in decimal (λ n. n < 256) decimals s.to_sink (field (decimal s.to_source)) h.to_sink refl,
      last_decimal-back s.to_source h.to_source,
    ) refl

pub states-only : (text : List ℕ) (s : States) → states_in text ≡ Some s → (text ≡ states_text s) × AreWritten s
unfolding states_in
states-only text s e =
    let source = bind_some (with_rest source_in text) _ s e in
    let sink = bind_some (with_rest sink_in source.0.1) _ s source.2 in
    let to_sink = bind_some (with_rest decimal_in sink.0.1) _ s sink.2 in
    let to_source = bind_some (last_decimal_in to_sink.0.1) _ s to_sink.2 in
    let first = field-only source_in source_text IsSource sources text source.0 source.1 in
    let second = field-only sink_in sink_text IsSink sinks source.0.1 sink.0 sink.1 in
    let third = field-only decimal_in decimal (λ n. n < 256) decimals sink.0.1 to_sink.0 to_sink.1 in
    let fourth = last_decimal-only to_sink.0.1 to_source.0 to_source.1 in
    let P : States → Type 0 = λ x. (text ≡ states_text x) × AreWritten x in
    let read : States = record { source = source.0.0; sink = sink.0.0; to_sink = to_sink.0.0; to_source = to_source.0 } in
    let spelled : text ≡ states_text read =
    first.0 ∙ ap (λ t. field (source_text source.0.0) ++ t)
    (second.0 ∙ ap (λ t. field (sink_text sink.0.0) ++ t) (third.0 ∙ ap (λ t. field (decimal to_sink.0.0) ++ t) fourth.0)) in
    subst P (same_Some read s to_source.2) (spelled, record { source = first.1; sink = second.1; to_sink = third.1; to_source = fourth.1 })
