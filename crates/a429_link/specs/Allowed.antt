-- What a recording allows next, as a list.
use Rattle.std.specs.Prelude.{ℕ, ◌≡◌, ◌+◌, nat_lt, if◌then◌else◌, List, [], ◌∷◌, ◌++◌, Some}
use Rattle.a429_word.specs.declared.bus.Bus.{Bus}
use Rattle.a429_profile.specs.Profile.{Contents}
use Rattle.a429_ldu.specs.declared.forms.Form.{Form}
use Rattle.a429_ldu.specs.declared.forms.Form.TheVariants as form
use Rattle.a429_ldu.specs.Form.{form_of}
use Rattle.a429_link.specs.declared.seen.Seen.{Seen}
use Rattle.a429_link.specs.declared.next.Next.{Next}
use Rattle.a429_link.specs.declared.next.Next.TheVariants as next
use Rattle.a429_link.specs.Sink.{SinkPhase, Quiet, OwesClear, Granted, InBlock, OwesAck, OwesNak}
use Rattle.a429_link.specs.Observer.{Observer, Allows, AllowsForm}

pub data Kind : Type 0 where
  AnyRts : Kind
  AnySot : Kind
  AnyData : Kind
  AnyEot : Kind
  CtsOf : (count : ℕ) → Kind
  AckOf : (file ldu : ℕ) → Kind
  AnyNak : Kind

abbrev pub kind_of : Form → Kind
kind_of (form.Rts n) = AnyRts
kind_of (form.Cts n) = CtsOf n
kind_of (form.Ack file ldu) = AckOf file ldu
kind_of (form.Nak bits) = AnyNak
kind_of (form.Sot gfi file ldu) = AnySot
kind_of (form.Part semis) = AnyData
kind_of (form.Eot flags check) = AnyEot

-- the words of a block: the start word where none of them was recorded, data words until as many as were asked for
abbrev pub kinds_of_block : Observer → List Kind
kinds_of_block o =
    (if o.begun then [] else AnySot ∷ [])
    ++ ((if nat_lt (o.parts + 2) o.count then AnyData ∷ [] else [])
    ++ AnyEot ∷ [])

abbrev pub kinds_in : Observer → SinkPhase → List Kind
kinds_in o Quiet = []
kinds_in o OwesClear = CtsOf o.count ∷ []
kinds_in o Granted = kinds_of_block o
kinds_in o (InBlock b) = kinds_of_block o
kinds_in o (OwesAck b flags) = AckOf b.file b.ldu ∷ AnyNak ∷ []
kinds_in o OwesNak = AnyNak ∷ []

-- what may come next: a request always
abbrev pub kinds_allowed : Observer → List Kind
kinds_allowed o = AnyRts ∷ kinds_in o o.phase

-- some form of this kind is allowed
abbrev pub AllowsKind : Observer → Kind → Type 0
AllowsKind o k = (b : Bus) × (x : Form) × (kind_of x ≡ k) × AllowsForm o b (Some x)

-- some word of a form of this kind is allowed
abbrev pub AllowsWordOf : Contents → Observer → Kind → Type 0
AllowsWordOf p o k = (i : Seen) × (x : Form) × (form_of p.codes i.bus i.word ≡ Some x) × (kind_of x ≡ k) × Allows p o i

-- the kinds that `Next` stands for, in order
abbrev pub kinds_of_next : Next → List Kind
kinds_of_next next.Request = AnyRts ∷ []
kinds_of_next (next.Clear n) = AnyRts ∷ CtsOf n ∷ []
kinds_of_next (next.Block start more) = AnyRts ∷ (if start then AnySot ∷ [] else []) ++ ((if more then AnyData ∷ [] else []) ++ AnyEot ∷ [])
kinds_of_next (next.Ack file ldu) = AnyRts ∷ AckOf file ldu ∷ AnyNak ∷ []
kinds_of_next next.Nak = AnyRts ∷ AnyNak ∷ []
