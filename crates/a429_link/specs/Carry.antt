-- A data word of a block that is sent, and taken at once, with nothing else on its way (ARINC 429 Part 3).
use Rattle.std.specs.Prelude.{◌≡◌, ◌<◌, ◌+◌, ℕ, suc, List, [], ◌∷◌, length, Some}
use Rattle.a429_word.specs.declared.bus.Bus.TheVariants.{A, B}
use Rattle.a429_profile.specs.Profile.{Contents}
use Rattle.a429_ldu.specs.declared.forms.Form.TheVariants.{Part}
use Rattle.a429_ldu.specs.Form.{form_of}
use Rattle.a429_ldu.specs.Ldu.{LduValue, count_of}
use Rattle.a429_link.specs.declared.seen.Seen.{Seen}
use Rattle.a429_link.specs.declared.state.SourceState.TheVariants.{Sending}
use Rattle.a429_link.specs.declared.step.Step.{Step}
use Rattle.a429_link.specs.declared.step.Step.TheVariants.{Sent, SinkTakes}
use Rattle.a429_link.specs.declared.carry.NextWord.{NextWord}
use Rattle.a429_link.specs.Source.{Source, next_word_of}
use Rattle.a429_link.specs.Sink.{Block, SinkPhase, InBlock}
use Rattle.a429_link.specs.Step.{after}
use Rattle.a429_link.specs.State.{State}

-- the source sends word k of its block next, and at least one more after it
pub record SendsMore (s : Source) (k : ℕ) : Type 0 where
  pub unit : LduValue
  pub current : s.current ≡ Some unit
  pub sending : s.phase ≡ Sending k
  pub more : suc k < count_of unit

-- a sink in this phase, with these words on their way to it, has taken k words of a block, and no word is on its way
abbrev pub HasTaken : SinkPhase → List ℕ → ℕ → Type 0
HasTaken (InBlock b) coming k = (coming ≡ []) × (length b.words + 1 ≡ k)
HasTaken _ coming k = ⊥

-- the source sends this word next, and one more after it; the sink has taken all words of the block before it, and nothing is on its way
pub record SendsNext (p : Contents) (next : NextWord) (s : State) : Type 0 where
  pub sends : SendsMore s.source next.place
  pub taken : HasTaken s.sink.phase s.to_sink next.place
  pub to_source : s.to_source ≡ []
  pub word : next_word_of p s.source ≡ Some next.word

-- the same, part by part: the word is a data word
pub record IsAtWord (p : Contents) (next : NextWord) (s : State) : Type 0 where
  pub unit : LduValue
  pub block : Block
  pub semis : List ℕ
  pub current : s.source.current ≡ Some unit
  pub sending : s.source.phase ≡ Sending next.place
  pub more : suc next.place < count_of unit
  pub taking : s.sink.phase ≡ InBlock block
  pub taken : length block.words + 1 ≡ next.place
  pub to_sink : s.to_sink ≡ []
  pub to_source : s.to_source ≡ []
  pub word : next_word_of p s.source ≡ Some next.word
  pub part : form_of p.codes A next.word ≡ Some (Part semis)

-- a word of bus A, and one of bus B
abbrev pub on_a : ℕ → Seen
on_a word = record { bus = A; word = word }

abbrev pub on_b : ℕ → Seen
on_b word = record { bus = B; word = word }

-- a word of bus A is sent, and taken at once
abbrev pub sends_word : ℕ → List Step
sends_word word = Sent (on_a word) ∷ (SinkTakes ∷ [])

-- the state after the word is sent, and after it is taken too
abbrev pub after_sent : Contents → ℕ → State → State
after_sent p word s = after p (Sent (on_a word)) s

abbrev pub after_both : Contents → ℕ → State → State
after_both p word s = after p SinkTakes (after_sent p word s)
