-- Letters are read as the steps that they stand for.
use Rattle.std.proofs.Common.{◌≡◌, ◌==◌, ◌∙◌, inl, inr, if◌then◌else◌, ℕ, [], ◌∷◌, Option, Some, refl, sym, ap}
use Rattle.std.proofs.lemmas.Option.{same_Some}
use Rattle.a429_cert.specs.declared.act.Act.{Act}
use Rattle.a429_cert.specs.declared.act.Act.TheVariants.{Sent, SentLost, TimeOut, TakeAnswer, LoseAnswer, SinkTakes, Silent, Answered, FreeSeen, GiveUp}
use Rattle.a429_cert.specs.Act.{act_text, act_in}
use Rattle.a429_cert.proofs.Options.{split}
use Rattle.a429_cert.proofs.FieldNumbers.{is_same}

-- the byte of a letter
abbrev pub act_byte : Act → ℕ
act_byte Sent = 97
act_byte SentLost = 108
act_byte TimeOut = 116
act_byte TakeAnswer = 103
act_byte LoseAnswer = 100
act_byte SinkTakes = 107
act_byte Silent = 115
act_byte Answered = 98
act_byte FreeSeen = 110
act_byte GiveUp = 120

pub act-back : (a : Act) → act_in (act_byte a) ≡ Some a
act-back Sent = refl
act-back SentLost = refl
act-back TimeOut = refl
act-back TakeAnswer = refl
act-back LoseAnswer = refl
act-back SinkTakes = refl
act-back Silent = refl
act-back Answered = refl
act-back FreeSeen = refl
act-back GiveUp = refl

-- it is this one, or one of those behind it
named : (b c : ℕ) (x a : Act) (others : Option Act)
    → act_text x ≡ c ∷ [] → (if b == c then Some x else others) ≡ Some a → (others ≡ Some a → b ∷ [] ≡ act_text a) → b ∷ [] ≡ act_text a
named b c x a others spelled e more =
    elim (split (b == c) (Some x) others a e) [
      | inl p ↦ ap (λ n. n ∷ []) (is_same b c p.0) ∙ sym spelled ∙ ap act_text (same_Some x a p.1)
      | inr r ↦ more r
    ]

pub act-only : (b : ℕ) (a : Act) → act_in b ≡ Some a → b ∷ [] ≡ act_text a
act-only b a e =
    named b 97 Sent a _ refl e (λ e1.
    named b 108 SentLost a _ refl e1 (λ e2.
    named b 116 TimeOut a _ refl e2 (λ e3.
    named b 103 TakeAnswer a _ refl e3 (λ e4.
    named b 100 LoseAnswer a _ refl e4 (λ e5.
    named b 107 SinkTakes a _ refl e5 (λ e6.
    named b 115 Silent a _ refl e6 (λ e7.
    named b 98 Answered a _ refl e7 (λ e8.
    named b 110 FreeSeen a _ refl e8 (λ e9.
    named b 120 GiveUp a _ refl e9 (λ e10.
    absurd cc))))))))))
