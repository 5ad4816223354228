-- What a profile's link data units are known to be, and that its words are read as they are written.
use Rattle.std.proofs.Common.{◌≡◌, ℕ, ◌^◌, Bool, true, false, cond, ◌||◌, nat_le, List, [], ◌∷◌, Option, Some, None, refl, ap}
use Rattle.a429_word.specs.declared.bus.Bus.TheVariants as bus
use Rattle.a429_ldu.specs.Form.{form_of, is_free, IsForm, form_on, fields_of}
use Rattle.a429_link.proofs.Message.{Ack, AllParts, Cts, Eot, InRange, IsRead, Nak, Part, Rts, Message, Sot, message_in, message_of, word_of}
use Rattle.a429_profile.specs.Profile.{Contents, IsProfile}
use Rattle.a429_word.specs.declared.bus.Bus.{Bus}
use Rattle.a429_profile.proofs.ProfileRanges.{in_range}
use Rattle.a429_ldu.specs.declared.forms.Form.{Form}
use Rattle.a429_ldu.specs.declared.forms.Form.TheVariants as form
use Rattle.a429_ldu.specs.Carried.{AreDataWords}
use Rattle.a429_ldu.proofs.LduFacts.{few_bytes}
use Rattle.a429_ldu.proofs.FormFacts.{form_of-is, form_of-word_number, form_is_not_free}
use Rattle.a429_ldu.proofs.CarriedFacts.{carries_of}

-- what is said is read
reads_back : (p : Contents) → IsProfile p → (b : Bus) (x : Message) → InRange p b x → message_of p b (word_of p x) ≡ Some x
reads_back p is bus.A (Rts n) h = ap (message_in (word_of p (Rts n))) (form_of-word_number p is (form.Rts n) h)
reads_back p is bus.A (Sot g f l) h = ap (message_in (word_of p (Sot g f l))) (form_of-word_number p is (form.Sot g f l) h)
reads_back p is bus.A (Part w) h = h
reads_back p is bus.A (Eot f c) h = ap (message_in (word_of p (Eot f c))) (form_of-word_number p is (form.Eot f c) h)
reads_back p is bus.B (Cts n) h = ap (message_in (word_of p (Cts n))) (form_of-word_number p is (form.Cts n) h)
reads_back p is bus.B (Ack f l) h = ap (message_in (word_of p (Ack f l))) (form_of-word_number p is (form.Ack f l) h)
reads_back p is bus.B (Nak b) h = ap (message_in (word_of p (Nak b))) (form_of-word_number p is (form.Nak b) h)
reads_back p is bus.A (Cts n) h = absurd h
reads_back p is bus.A (Ack f l) h = absurd h
reads_back p is bus.A (Nak b) h = absurd h
reads_back p is bus.B (Rts n) h = absurd h
reads_back p is bus.B (Sot g f l) h = absurd h
reads_back p is bus.B (Part w) h = absurd h
reads_back p is bus.B (Eot f c) h = absurd h

-- a free word has no form
none_where : (t u : Bool) (o : Option Form) → t ≡ true → cond (t || u) None o ≡ None
none_where true u o e = refl
none_where false u o e = absurd (cc e)

-- data words are read as data words
data_form : (p : Contents)
    → IsProfile p → (w : ℕ) (s : List ℕ) → IsForm p.codes bus.A w (form.Part s) → form_of p.codes bus.A w ≡ Some (form.Part s)
data_form p is w s h = (form_of-is p is bus.A w (form.Part s)).1 (form_is_not_free p is bus.A w (form.Part s) h, h)

data_parts : (p : Contents) → IsProfile p → (ws : List ℕ) (ss : List (List ℕ)) → AreDataWords p.codes ws ss → AllParts p ws
data_parts p is [] [] h = tt
data_parts p is (w ∷ ws) (s ∷ ss) h = (ap (message_in w) (data_form p is w s h.0), data_parts p is ws ss h.1)
data_parts p is [] (s ∷ ss) h = absurd h
data_parts p is (w ∷ ws) [] h = absurd h

pub is_read : (p : Contents) → IsProfile p → IsRead p
is_read p is = record {
  first = (in_range p is).first_ldu;
  reads = reads_back p is;
  free = λ b w e. none_where (is_free p.codes b w) (nat_le (2 ^ 32) w) (form_on p.codes b (fields_of w)) e;
  fit = λ u h. let carries = carries_of p is u.words h.bytes h.carries in record {
    gfi = h.gfi;
    flags = h.flags;
    check = h.check;
    parts = data_parts p is u.words carries.semis carries.words;
    room = h.length.1;
    some = h.length.0;
    bytes_room = (few_bytes p u is h).1;
  };
}
