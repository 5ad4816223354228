-- The latest attempt of a recording, its words and its count each by themselves.
use Rattle.std.proofs.Common.{◌≡◌, ℕ, List, [], ◌∷◌, ◌++◌, Option, Some, None, refl, sym, ap, ◌∙◌}
use Rattle.a429_word.specs.declared.bus.Bus.{Bus}
use Rattle.a429_word.specs.declared.bus.Bus.TheVariants as bus
use Rattle.a429_profile.specs.Profile.{Contents}
use Rattle.a429_ldu.specs.declared.forms.Form.{Form}
use Rattle.a429_ldu.specs.declared.forms.Form.TheVariants as form
use Rattle.a429_ldu.specs.Form.{form_of}
use Rattle.a429_link.specs.declared.seen.Seen.{Seen}
use Rattle.a429_link.specs.Attempt.{Attempt, asks, fresh, grown, latest, latest_from, under_way}
use Rattle.a429_link.specs.Sink.{Sink}
use Rattle.a429_link.specs.Implied.{sink_sees_form}
use Rattle.a429_link.proofs.ObserverRefuses.{sees_on_as}
use Rattle.a429_link.proofs.SinkFromTrace.{sees}
use Rattle.a429_link.proofs.StateConfigs.{acks_count}
use Rattle.a429_link.specs.Trace.{sink_after, sink_at_first}

-- its words: a request or a clear answer begins anew, a word of a block joins
abbrev pub joins : Bus → ℕ → Option Form → List ℕ → List ℕ
joins bus.A word (Some (form.Rts n)) words = []
joins bus.A word (Some (form.Sot g f l)) words = words ++ word ∷ []
joins bus.A word (Some (form.Part s)) words = words ++ word ∷ []
joins bus.A word (Some (form.Eot f c)) words = words ++ word ∷ []
joins bus.B word (Some (form.Cts n)) words = []
joins _ word _ words = words

abbrev pub attempt_from : Contents → List Seen → List ℕ → List ℕ
attempt_from p [] words = words
attempt_from p (i ∷ items) words = attempt_from p items (joins i.bus i.word (form_of p.codes i.bus i.word) words)

abbrev pub attempt : Contents → List Seen → List ℕ
attempt p items = attempt_from p items []

item_words : (b : Bus) (w : ℕ) (o : Option Form) (a : Attempt) → (under_way (asks b o) (grown b w o a)).words ≡ joins b w o a.words
item_words bus.A w None a = refl
item_words bus.A w (Some (form.Rts n)) a = refl
item_words bus.A w (Some (form.Cts n)) a = refl
item_words bus.A w (Some (form.Ack f l)) a = refl
item_words bus.A w (Some (form.Nak n)) a = refl
item_words bus.A w (Some (form.Sot g f l)) a = refl
item_words bus.A w (Some (form.Part s)) a = refl
item_words bus.A w (Some (form.Eot f c)) a = refl
item_words bus.B w None a = refl
item_words bus.B w (Some (form.Rts n)) a = refl
item_words bus.B w (Some (form.Cts n)) a = refl
item_words bus.B w (Some (form.Ack f l)) a = refl
item_words bus.B w (Some (form.Nak n)) a = refl
item_words bus.B w (Some (form.Sot g f l)) a = refl
item_words bus.B w (Some (form.Part s)) a = refl
item_words bus.B w (Some (form.Eot f c)) a = refl

latest_words_from : (p : Contents) (items : List Seen) (a : Attempt) → (latest_from p a items).words ≡ attempt_from p items a.words
latest_words_from p [] a = refl
latest_words_from p (i ∷ items) a =
    latest_words_from p items (under_way (asks i.bus (form_of p.codes i.bus i.word)) (grown i.bus i.word (form_of p.codes i.bus i.word) a))
    ∙ ap (attempt_from p items) (item_words i.bus i.word (form_of p.codes i.bus i.word) a)

pub latest_words : (p : Contents) (items : List Seen) → (latest p items).words ≡ attempt p items
latest_words p items = latest_words_from p items (fresh 0)

-- the count that the latest attempt asks for
item_count : (p : Contents) (b : Bus) (w : ℕ) (o : Option Form) (a : Attempt) (k : Sink)
    → a.count ≡ k.count → (under_way (asks b o) (grown b w o a)).count ≡ (sink_sees_form p b w o k).count
item_count p bus.A w None a k e = e
item_count p bus.A w (Some (form.Rts n)) a k e = refl
item_count p bus.A w (Some (form.Cts n)) a k e = e
item_count p bus.A w (Some (form.Ack f l)) a k e = e
item_count p bus.A w (Some (form.Nak n)) a k e = e
item_count p bus.A w (Some (form.Sot g f l)) a k e = e
item_count p bus.A w (Some (form.Part s)) a k e = e
item_count p bus.A w (Some (form.Eot f c)) a k e = e
item_count p bus.B w None a k e = e
item_count p bus.B w (Some (form.Rts n)) a k e = e
item_count p bus.B w (Some (form.Cts n)) a k e = e
item_count p bus.B w (Some (form.Ack f l)) a k e = e ∙ sym (acks_count p.codes k.phase k)
item_count p bus.B w (Some (form.Nak n)) a k e = e
item_count p bus.B w (Some (form.Sot g f l)) a k e = e
item_count p bus.B w (Some (form.Part s)) a k e = e
item_count p bus.B w (Some (form.Eot f c)) a k e = e

latest_count_from : (p : Contents) (items : List Seen) (a : Attempt) (k : Sink)
    → a.count ≡ k.count → (latest_from p a items).count ≡ (sink_after p items k).count
latest_count_from p [] a k e = e
latest_count_from p (i ∷ items) a k e =
    latest_count_from p items (under_way (asks i.bus (form_of p.codes i.bus i.word)) (grown i.bus i.word (form_of p.codes i.bus i.word) a))
    (sees p (Some i) k)
    (item_count p i.bus i.word (form_of p.codes i.bus i.word) a k e ∙ ap (λ (q : Sink). q.count) (sym (sees_on_as p i.bus i.word k)))

pub latest_count : (p : Contents) (items : List Seen) → (latest p items).count ≡ (sink_after p items sink_at_first).count
latest_count p items = latest_count_from p items (fresh 0) sink_at_first refl
