-- The steps that a certificate's lines name: their letters, and the steps that these mean (profile).
use Rattle.std.specs.Prelude.{ℕ, List, ◌==◌, if◌then◌else◌, codes, Option, Some, None, option_map}
use Rattle.a429_link.specs.declared.seen.Seen.{Seen}
use Rattle.a429_link.specs.declared.step.Step.{Step}
use Rattle.a429_link.specs.declared.step.Step.TheVariants as step
use Rattle.a429_cert.specs.declared.act.Act.{Act}
use Rattle.a429_cert.specs.declared.act.Act.TheVariants.{Sent, SentLost, TimeOut, TakeAnswer, LoseAnswer, SinkTakes, Silent, Answered, FreeSeen, GiveUp}

-- the letter of a step (profile)
abbrev pub act_text : Act → List ℕ
act_text Sent = codes "a"
act_text SentLost = codes "l"
act_text TimeOut = codes "t"
act_text TakeAnswer = codes "g"
act_text LoseAnswer = codes "d"
act_text SinkTakes = codes "k"
act_text Silent = codes "s"
act_text Answered = codes "b"
act_text FreeSeen = codes "n"
act_text GiveUp = codes "x"

-- a step, by its letter
abbrev pub act_in : ℕ → Option Act
act_in b =
    if b == 97 then Some Sent else if b == 108 then Some SentLost else if b == 116 then Some TimeOut
    else if b == 103 then Some TakeAnswer else if b == 100 then Some LoseAnswer else if b == 107 then Some SinkTakes
    else if b == 115 then Some Silent else if b == 98 then Some Answered else if b == 110 then Some FreeSeen
    else if b == 120 then Some GiveUp else None

-- the letter of a step; a link data unit that is loaded has a line of its own
abbrev pub letter_of : Step → Option Act
letter_of (step.Load u) = None
letter_of (step.Sent i) = Some Sent
letter_of step.SentLost = Some SentLost
letter_of step.TimeOut = Some TimeOut
letter_of step.TakeAnswer = Some TakeAnswer
letter_of step.LoseAnswer = Some LoseAnswer
letter_of step.SinkTakes = Some SinkTakes
letter_of step.Silent = Some Silent
letter_of (step.Answered i) = Some Answered
letter_of (step.FreeSeen i) = Some FreeSeen
letter_of step.GiveUp = Some GiveUp

-- the step of this letter: it records the next entry, if it records one
abbrev pub step_with : Act → Option Seen → Option Step
step_with Sent next = option_map (λ i. step.Sent i) next
step_with SentLost next = Some step.SentLost
step_with TimeOut next = Some step.TimeOut
step_with TakeAnswer next = Some step.TakeAnswer
step_with LoseAnswer next = Some step.LoseAnswer
step_with SinkTakes next = Some step.SinkTakes
step_with Silent next = Some step.Silent
step_with Answered next = option_map (λ i. step.Answered i) next
step_with FreeSeen next = option_map (λ i. step.FreeSeen i) next
step_with GiveUp next = Some step.GiveUp

-- how many entries a step of this letter uses
abbrev pub uses_of : Act → ℕ
uses_of Sent = 1
uses_of Answered = 1
uses_of FreeSeen = 1
uses_of _ = 0
