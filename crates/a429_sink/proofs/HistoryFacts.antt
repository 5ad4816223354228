-- A recording in pieces, and the units that a piece acknowledges.
use Rattle.std.proofs.Common.{◌≡◌, ℕ, zero, suc, ◌<◌, ◌==◌, ◌&&◌, not, Bool, true, false, cond, List, [], ◌∷◌, ◌++◌, append-nil, map, take, Option, Some, None, slice_get, refl, sym, ap, ◌∙◌, subst, arith, eqb-true}
use Rattle.std.specs.Prelude.{is_some, reverse}
use Rattle.std.specs.List.{filter}
use Rattle.std.proofs.lemmas.List.{map-append}
use Rattle.std.proofs.lemmas.List.Elements.{filter-append}
use Rattle.std.proofs.lemmas.Grind.{reverse_onto}
use Rattle.a429_word.specs.declared.bus.Bus.{Bus}
use Rattle.a429_word.specs.declared.bus.Bus.TheVariants as bus
use Rattle.a429_profile.specs.declared.codes.Codes.{Codes}
use Rattle.a429_profile.specs.Profile.{Contents}
use Rattle.a429_ldu.specs.Carried.{bytes_in}
use Rattle.a429_ldu.specs.Form.{form_of}
use Rattle.a429_ldu.specs.Ldu.{is_final}
use Rattle.a429_ldu.specs.declared.forms.Form.{Form}
use Rattle.a429_ldu.specs.declared.forms.Form.TheVariants as form
use Rattle.a429_link.specs.declared.file.FileBytes.{FileBytes}
use Rattle.a429_link.specs.declared.number.UnitNumber.{UnitNumber}
use Rattle.a429_link.specs.declared.seen.Seen.{Seen}
use Rattle.a429_link.specs.Sink.{Granted, InBlock, Number, OwesAck, OwesClear, OwesNak, Quiet, SinkPhase, at_part, at_start, empty_block, number_of}
use Rattle.a429_sink.specs.Anywhere.{Glimpse, GlimpseAllowsNext, IsRefusedAnywhere, Known, acknowledges, bytes_with, closes, ends_block, glimpse_at_first, glimpsed, glimpses, is_known, is_known_file, known_in, learned, learns_form, more_bytes, sure_files, unknown}
use Rattle.a429_sink.specs.declared.file_units.FileUnits.{FileUnits}
use Rattle.a429_sink.specs.History.{ArePieces, IsStop, alone, goes_with, grown, is_whole, joined_pieces, sound_words, units_after, units_by, whole_units, with_block, with_unit}

-- ---- pieces

pub pieces_join : (p : Contents) (pieces : List (List Seen)) (items : List Seen) → ArePieces p items pieces → joined_pieces pieces ≡ items
pieces_join p [] items h = absurd h
pieces_join p (piece ∷ []) items h = append-nil piece ∙ h.0
pieces_join p (piece ∷ (next ∷ pieces)) items (rest, all, ends, more) =
    ap (λ (l : List Seen). piece ++ l) (pieces_join p (next ∷ pieces) rest more) ∙ all

-- what is refused of the first items is refused of all
refused_first : (p : Contents) (items : List Seen) (k m : ℕ) (g : Glimpse)
    → (GlimpseAllowsNext p (glimpsed p (take m (take k items)) g) (slice_get (take k items) m) → ⊥)
    → (m < k) × (GlimpseAllowsNext p (glimpsed p (take m items) g) (slice_get items m) → ⊥)
refused_first p [] zero zero g h = absurd (h tt)
refused_first p [] zero (suc m) g h = absurd (h tt)
refused_first p [] (suc k) zero g h = absurd (h tt)
refused_first p [] (suc k) (suc m) g h = absurd (h tt)
refused_first p (x ∷ items) zero zero g h = absurd (h tt)
refused_first p (x ∷ items) zero (suc m) g h = absurd (h tt)
refused_first p (x ∷ items) (suc k) zero g h = (omega arith, h)
refused_first p (x ∷ items) (suc k) (suc m) g h = let r = refused_first p items k m (glimpses p x g) h in let l = r.0 in (omega arith, r.1)

pub sound_stops_nowhere : (p : Contents) (piece : List Seen) (stop : Option ℕ)
    → IsStop p piece stop → (m : ℕ) → IsRefusedAnywhere p (sound_words piece stop) m → ⊥
sound_stops_nowhere p piece None stops m h = stops m h
sound_stops_nowhere p piece (Some k) stops m h = let r = refused_first p piece k m glimpse_at_first h in stops.1 m r.0 r.1

-- ---- files that are known, and units that are acknowledged

abbrev Numbers : List FileBytes → List ℕ
Numbers files = map (λ (f : FileBytes). f.number) files

abbrev Whole : Codes → List FileUnits → List ℕ
Whole c us = map (λ (u : FileUnits). u.file) (filter (is_whole c) us)

whole_more : (c : Codes) (u : FileUnits) (us : List FileUnits) → Whole c (reverse (u ∷ us)) ≡ Whole c (reverse us) ++ Whole c (u ∷ [])
whole_more c u us =
    ap (Whole c) (reverse_onto us u [])
    ∙ ap (map (λ (v : FileUnits). v.file)) (filter-append (is_whole c) (reverse us) (u ∷ []))
    ∙ map-append (λ (v : FileUnits). v.file) (filter (is_whole c) (reverse us)) (filter (is_whole c) (u ∷ []))

-- what is known fits the units so far: the bytes of the file under way are known where its first unit is there
abbrev Fits : Codes → Known → List FileUnits → Type 0
Fits c t [] = (t.last ≡ None) × (t.bytes ≡ None) × (t.files ≡ [])
Fits c t (u ∷ us) =
    (t.last ≡ Some (record { file = u.file; ldu = u.last }))
    × (is_some t.bytes ≡ ((u.first == c.first_ldu) && not u.ended))
    × (Numbers t.files ≡ Whole c (reverse us) ++ Whole c (u ∷ []))

-- a unit is acknowledged, and these are the units of its file; the bytes so far are known where the first of them is the file's
made : (c : Codes) (final : Bool) (n : UnitNumber) (bytes : Option (List ℕ)) (t : Known) (first : ℕ) (us : List FileUnits)
    → is_some bytes ≡ (first == c.first_ldu) → Numbers t.files ≡ Whole c (reverse us)
    → Fits c (closes final n bytes t) (record { file = n.file; first = first; last = n.ldu; ended = final } ∷ us)
made c false n bytes t first us known files = (
  refl,
  known ∙ sym (with_true (first == c.first_ldu)),
  files ∙ sym (append-nil (Whole c (reverse us))) ∙ ap (λ (l : List ℕ). Whole c (reverse us) ++ l) (none_of (first == c.first_ldu)),
)
  where
    with_true : (b : Bool) → (b && true) ≡ b
    with_true true = refl
    with_true false = refl

    none_of : (b : Bool)
        → []
        ≡ map (λ (u : FileUnits). u.file) (cond (b && false) (record { file = n.file; first = first; last = n.ldu; ended = false } ∷ []) [])
    none_of true = refl
    none_of false = refl
made c true n None t first us known files = (
  refl,
  none_of (first == c.first_ldu),
  files ∙ sym (append-nil (Whole c (reverse us))) ∙ ap (λ (l : List ℕ). Whole c (reverse us) ++ l) (not_whole (first == c.first_ldu) known),
)
  where
    none_of : (b : Bool) → false ≡ (b && false)
    none_of true = refl
    none_of false = refl

    not_whole : (b : Bool) → false ≡ b
        → []
        ≡ map (λ (u : FileUnits). u.file) (cond (b && true) (record { file = n.file; first = first; last = n.ldu; ended = true } ∷ []) [])
    not_whole true e = absurd (cc e)
    not_whole false e = refl
made c true n (Some bytes) t first us known files = (
  refl,
  none_of (first == c.first_ldu),
  map-append (λ (f : FileBytes). f.number) t.files (record { number = n.file; bytes = bytes } ∷ [])
      ∙ ap (λ (l : List ℕ). l ++ n.file ∷ []) files ∙ ap (λ (l : List ℕ). Whole c (reverse us) ++ l) (is_one (first == c.first_ldu) known),
)
  where
    none_of : (b : Bool) → false ≡ (b && false)
    none_of true = refl
    none_of false = refl

    is_one : (b : Bool) → true ≡ b
        → (n.file ∷ [])
        ≡ map (λ (u : FileUnits). u.file) (cond (b && true) (record { file = n.file; first = first; last = n.ldu; ended = true } ∷ []) [])
    is_one true e = refl
    is_one false e = absurd (cc e)

known_bytes : (bytes : List ℕ) (o : Option (List ℕ)) → is_some (more_bytes bytes o) ≡ is_some o
known_bytes bytes None = refl
known_bytes bytes (Some earlier) = refl

fits_unit : (c : Codes) (final : Bool) (n : UnitNumber) (bytes : List ℕ) (t : Known) (us : List FileUnits)
    → Fits c t us → Fits c (closes final n (bytes_with c n bytes t) t) (with_unit c (record { number = n; final = final }) us)
fits_unit c final n bytes t [] (last, none, files) = made c final n (bytes_with c n bytes t) t n.ldu [] known (ap Numbers files)
  where
    by : (first : Bool) → is_some (cond first (Some bytes) (cond (is_known_file None n.file) (more_bytes bytes t.bytes) None)) ≡ first
    by true = refl
    by false = refl

    known : is_some (bytes_with c n bytes t) ≡ (n.ldu == c.first_ldu)
    known =
        ap (λ (l : Option UnitNumber).
        is_some (cond (n.ldu == c.first_ldu) (Some bytes) (cond (is_known_file l n.file) (more_bytes bytes t.bytes) None))) last
        ∙ by (n.ldu == c.first_ldu)
fits_unit c final n bytes t (u ∷ us) (last, knows, files) = by (n.ldu == c.first_ldu) (u.file == n.file) u.ended refl refl refl
  where
    new : Number
    new = record { number = n; final = final }

    before : Numbers t.files ≡ Whole c (reverse (u ∷ us))
    before = files ∙ sym (whole_more c u us)

    is : bytes_with c n bytes t ≡ cond (n.ldu == c.first_ldu) (Some bytes) (cond (u.file == n.file) (more_bytes bytes t.bytes) None)
    is =
        ap (λ (l : Option UnitNumber).
        cond (n.ldu == c.first_ldu) (Some bytes) (cond (is_known_file l n.file) (more_bytes bytes t.bytes) None)) last

    -- it is the first of another group
    begins : is_some (bytes_with c n bytes t) ≡ (n.ldu == c.first_ldu)
        → goes_with c u new ≡ false → Fits c (closes final n (bytes_with c n bytes t) t) (with_unit c new (u ∷ us))
    begins known e =
        subst (λ (b : Bool). Fits c (closes final n (bytes_with c n bytes t) t) (cond b (grown u new ∷ us) (alone new ∷ (u ∷ us)))) (sym e)
        (made c final n (bytes_with c n bytes t) t n.ldu (u ∷ us) known before)

    goes : (e : Bool) → u.ended ≡ e → (f : Bool) → (u.file == n.file) ≡ f → (a : Bool) → (n.ldu == c.first_ldu) ≡ a
        → goes_with c u new ≡ (not e && (f && not a))
    goes e is_e f is_f a is_a = ap (λ (b : Bool). not b && ((u.file == n.file) && not (n.ldu == c.first_ldu))) is_e
        ∙ ap (λ (b : Bool). not e && (b && not (n.ldu == c.first_ldu))) is_f ∙ ap (λ (b : Bool). not e && (f && not b)) is_a

    got : (a f : Bool) → (n.ldu == c.first_ldu) ≡ a → (u.file == n.file) ≡ f
        → bytes_with c n bytes t ≡ cond a (Some bytes) (cond f (more_bytes bytes t.bytes) None)
    got a f is_a is_f = is ∙ ap (λ (b : Bool). cond b (Some bytes) (cond (u.file == n.file) (more_bytes bytes t.bytes) None)) is_a
        ∙ ap (λ (b : Bool). cond a (Some bytes) (cond b (more_bytes bytes t.bytes) None)) is_f

    not_ended : u.ended ≡ false → Numbers t.files ≡ Whole c (reverse us)
    not_ended e = files
        ∙ ap (λ (b : Bool). Whole c (reverse us) ++ map (λ (v : FileUnits). v.file) (cond ((u.first == c.first_ldu) && b) (u ∷ []) [])) e
        ∙ by_first (u.first == c.first_ldu)
      where
        by_first : (b : Bool)
            → Whole c (reverse us) ++ map (λ (v : FileUnits). v.file) (cond (b && false) (u ∷ []) []) ≡ Whole c (reverse us)
        by_first true = append-nil (Whole c (reverse us))
        by_first false = append-nil (Whole c (reverse us))

    under_way : (e : Bool) → u.ended ≡ e → is_some (more_bytes bytes t.bytes) ≡ ((u.first == c.first_ldu) && not e)
    under_way e is_e = known_bytes bytes t.bytes ∙ knows ∙ ap (λ (b : Bool). (u.first == c.first_ldu) && not b) is_e

    by : (a f e : Bool) → (n.ldu == c.first_ldu) ≡ a → (u.file == n.file) ≡ f → u.ended ≡ e
        → Fits c (closes final n (bytes_with c n bytes t) t) (with_unit c new (u ∷ us))
    by true f e is_a is_f is_e = begins (ap is_some (got true f is_a is_f) ∙ sym is_a) (goes e is_e f is_f true is_a ∙ none e f)
      where
        none : (e f : Bool) → (not e && (f && false)) ≡ false
        none true f = refl
        none false true = refl
        none false false = refl
    by false false e is_a is_f is_e =
        begins (ap is_some (got false false is_a is_f) ∙ sym is_a) (goes e is_e false is_f false is_a ∙ none e)
      where
        none : (e : Bool) → (not e && false) ≡ false
        none true = refl
        none false = refl
    by false true true is_a is_f is_e =
        begins (ap is_some (got false true is_a is_f) ∙ under_way true is_e ∙ none (u.first == c.first_ldu) ∙ sym is_a)
        (goes true is_e true is_f false is_a)
      where
        none : (b : Bool) → (b && false) ≡ false
        none true = refl
        none false = refl
    by false true false is_a is_f is_e =
        subst (λ (b : Bool). Fits c (closes final n (bytes_with c n bytes t) t) (cond b (grown u new ∷ us) (alone new ∷ (u ∷ us))))
        (sym (goes false is_e true is_f false is_a))
        (subst (λ (file : ℕ).
        Fits c (closes final n (bytes_with c n bytes t) t) (record { file = file; first = u.first; last = n.ldu; ended = final } ∷ us))
        (sym (eqb-true u.file n.file is_f))
        (made c final n (bytes_with c n bytes t) t u.first us
        (ap is_some (got false true is_a is_f) ∙ under_way false is_e ∙ all (u.first == c.first_ldu)) (not_ended is_e)))
      where
        all : (b : Bool) → (b && true) ≡ b
        all true = refl
        all false = refl

-- ---- word after word

fits_phase : (c : Codes) (phase : SinkPhase) (t : Known) (us : List FileUnits) → Fits c t us → Fits c (known_in phase t) us
fits_phase c phase t [] h = h
fits_phase c phase t (u ∷ us) h = h

fits_block : (c : Codes) (phase : SinkPhase) (t : Known) (us : List FileUnits)
    → Fits c t us → Fits c (acknowledges c phase t) (with_block c phase t.last us)
fits_block c (OwesAck b flags) t us h = by (is_known t.last (number_of b))
  where
    by : (again : Bool)
        → Fits c
        (cond again (known_in Quiet t) (closes (is_final c flags) (number_of b) (bytes_with c (number_of b) (bytes_in c b.words) t) t))
        (cond again us (with_unit c (record { number = number_of b; final = is_final c flags }) us))
    by true = fits_phase c Quiet t us h
    by false = fits_unit c (is_final c flags) (number_of b) (bytes_in c b.words) t us h
fits_block c Quiet t us h = (refl, refl, refl)
fits_block c OwesClear t us h = (refl, refl, refl)
fits_block c Granted t us h = (refl, refl, refl)
fits_block c (InBlock b) t us h = (refl, refl, refl)
fits_block c OwesNak t us h = (refl, refl, refl)

fits_form : (p : Contents) (b : Bus) (w : ℕ) (x : Option Form) (t : Known) (us : List FileUnits)
    → Fits p.codes t us → Fits p.codes (learns_form p b w x t) (units_by p.codes b x t us)
fits_form p bus.A w (Some (form.Rts n)) t us h = fits_phase p.codes Quiet t us h
fits_form p bus.A w (Some (form.Sot g f l)) t us h = fits_phase p.codes (at_start (empty_block g f l) t.phase) t us h
fits_form p bus.A w (Some (form.Part s)) t us h = fits_phase p.codes (at_part w t.phase) t us h
fits_form p bus.A w (Some (form.Eot f k)) t us h = fits_phase p.codes (ends_block f t.phase) t us h
fits_form p bus.A w (Some (form.Cts n)) t us h = h
fits_form p bus.A w (Some (form.Ack f l)) t us h = h
fits_form p bus.A w (Some (form.Nak n)) t us h = h
fits_form p bus.A w None t us h = h
fits_form p bus.B w (Some (form.Cts n)) t us h = fits_phase p.codes Granted t us h
fits_form p bus.B w (Some (form.Ack f l)) t us h = fits_block p.codes t.phase t us h
fits_form p bus.B w (Some (form.Nak n)) t us h = fits_phase p.codes Quiet t us h
fits_form p bus.B w (Some (form.Rts n)) t us h = h
fits_form p bus.B w (Some (form.Sot g f l)) t us h = h
fits_form p bus.B w (Some (form.Part s)) t us h = h
fits_form p bus.B w (Some (form.Eot f k)) t us h = h
fits_form p bus.B w None t us h = h

fits_after : (p : Contents) (items : List Seen) (t : Known) (us : List FileUnits)
    → Fits p.codes t us → Fits p.codes (learned p items t) (units_after p t us items)
fits_after p [] t us h = h
fits_after p (i ∷ items) t us h = fits_after p items _ _ (fits_form p i.bus i.word (form_of p.codes i.bus i.word) t us h)

fits_numbers : (c : Codes) (t : Known) (us : List FileUnits) → Fits c t us → Numbers t.files ≡ Whole c (reverse us)
fits_numbers c t [] h = ap Numbers h.2
fits_numbers c t (u ∷ us) h = h.2 ∙ sym (whole_more c u us)

pub whole_are_sure : (p : Contents) (items : List Seen)
    → map (λ (f : FileBytes). f.number) (sure_files p items) ≡ map (λ (u : FileUnits). u.file) (whole_units p items)
whole_are_sure p items =
    fits_numbers p.codes (learned p items unknown) (units_after p unknown [] items) (fits_after p items unknown [] (refl, refl, refl))
