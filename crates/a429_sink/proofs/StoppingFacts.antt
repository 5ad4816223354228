-- The words of a piece, up to the one at which it stops.
use Rattle.std.proofs.Common.{◌≡◌, ℕ, zero, suc, ◌<◌, ◌+◌, List, [], ◌∷◌, ◌++◌, length, take, Option, Some, None, IfSome, slice_get, refl, sym, ap, ◌∙◌, subst, arith}
use Rattle.std.specs.Prelude.{true, false, is_some}
use Rattle.std.proofs.Math.Seq.{take-append_seam}
use Rattle.std.proofs.lemmas.List.{length-append, take-append-le}
use Rattle.a429_word.proofs.Outcomes.{not_some}
use Rattle.a429_profile.specs.Profile.{Contents}
use Rattle.a429_link.specs.declared.file.FileBytes.{FileBytes}
use Rattle.a429_link.specs.declared.seen.Seen.{Seen}
use Rattle.a429_sink.specs.declared.glimpsed_trace.GlimpsedTrace.{GlimpsedTrace}
use Rattle.a429_sink.specs.declared.stopping_trace.Stop.{Stop}
use Rattle.a429_sink.specs.declared.stopping_trace.StoppingTrace.{StoppingTrace}
use Rattle.a429_sink.specs.Anywhere.{Glimpse, GlimpseAllowsNext, IsRefusedAnywhere, glimpse_at_first, glimpsed, glimpses, sure_files}
use Rattle.a429_sink.specs.GlimpsedTrace.{IsGlimpsedTrace, MakesSure}
use Rattle.a429_sink.specs.History.{IsStop, StopsAt, StopsNowhere, sound_words}
use Rattle.a429_sink.specs.StoppingTrace.{IsStoppingTrace, place_in, sound_in, sure_in}

-- ---- a list with more items

pub get_first : (items more : List Seen) (n : ℕ) → n < length items → slice_get (items ++ more) n ≡ slice_get items n
get_first [] more n h = absurd (omega (arith, h))
get_first (x ∷ items) more zero h = refl
get_first (x ∷ items) more (suc n) h = get_first items more n (omega (arith, h))

pub get_here : (items more : List Seen) (i : Seen) → slice_get (items ++ i ∷ more) (length items) ≡ Some i
get_here [] more i = refl
get_here (x ∷ items) more i = get_here items more i

-- ---- what is refused

-- an item that is refused is there
inside : (p : Contents) (items : List Seen) (k : ℕ) (g : Glimpse)
    → (GlimpseAllowsNext p (glimpsed p (take k items) g) (slice_get items k) → ⊥) → k < length items
inside p [] zero g h = absurd (h tt)
inside p [] (suc k) g h = absurd (h tt)
inside p (x ∷ items) zero g h = omega arith
inside p (x ∷ items) (suc k) g h = let l = inside p items k (glimpses p x g) h in omega (arith, l)

pub refused_inside : (p : Contents) (items : List Seen) (k : ℕ) → IsRefusedAnywhere p items k → k < length items
refused_inside p items k h = inside p items k glimpse_at_first h

-- of the first items the same is refused as of all
pub refused_on : (p : Contents) (items more : List Seen) (k : ℕ) (g : Glimpse) → k < length items
    → GlimpseAllowsNext p (glimpsed p (take k (items ++ more)) g) (slice_get (items ++ more) k)
    ≡ GlimpseAllowsNext p (glimpsed p (take k items) g) (slice_get items k)
refused_on p [] more k g h = absurd (omega (arith, h))
refused_on p (x ∷ items) more zero g h = refl
refused_on p (x ∷ items) more (suc k) g h = refused_on p items more k (glimpses p x g) (omega (arith, h))

pub stops_on : (p : Contents) (items more : List Seen) (k : ℕ) → StopsAt p items k → StopsAt p (items ++ more) k
stops_on p items more k (refused, first) =
    let l = refused_inside p items k refused in (
      subst (λ (T : Type 0). T → ⊥) (sym (refused_on p items more k glimpse_at_first l)) refused,
      λ m less h. first m less (subst (λ (T : Type 0). T → ⊥) (refused_on p items more m glimpse_at_first (omega (arith, l, less))) h),
    )

pub stops_here : (p : Contents) (items : List Seen) (i : Seen)
    → StopsNowhere p items → IsRefusedAnywhere p (items ++ i ∷ []) (length items) → StopsAt p (items ++ i ∷ []) (length items)
stops_here p items i nowhere refused =
    (refused, λ m less h. nowhere m (subst (λ (T : Type 0). T → ⊥) (refused_on p items (i ∷ []) m glimpse_at_first less) h))

-- ---- one more word

grown_size : (items : List Seen) (i : Seen) (n : ℕ) → n ≡ length items → suc n ≡ length (items ++ i ∷ [])
grown_size items i n h = omega (arith, h, length-append items (i ∷ []))

-- after the one at which the piece stops
pub trace_past : (p : Contents) (items : List Seen) (i : Seen) (t : StoppingTrace) (s : Stop) → t.stop ≡ Some s → IsStoppingTrace p items t
    → IsStoppingTrace p (items ++ i ∷ []) (record t { size = suc t.size }) × (sure_in p (items ++ i ∷ []) t ≡ sure_in p items t)
trace_past p items i t s e is =
    let stops : StopsAt p items s.place = subst (λ (o : Option Stop). IsStop p items (place_in o)) e is.stops in
    let l = refused_inside p items s.place stops.0 in
    let words : sound_in items t ≡ sound_in (items ++ i ∷ []) t =
    ap (λ (o : Option Stop). sound_words items (place_in o)) e ∙ sym (take-append-le s.place items (i ∷ []) (omega (arith, l)))
    ∙ ap (λ (o : Option Stop). sound_words (items ++ i ∷ []) (place_in o)) (sym e) in (
      record {
        size = grown_size items i t.size is.size;
        trace = subst (λ (l : List Seen). IsGlimpsedTrace p l t.trace) words is.trace;
        stops = subst (λ (o : Option Stop). IsStop p (items ++ i ∷ []) (place_in o)) (sym e) (stops_on p items (i ∷ []) s.place stops);
        word = subst (λ (o : Option Stop). IfSome o (λ s. slice_get (items ++ i ∷ []) s.place ≡ Some s.seen)) (sym e)
            (get_first items (i ∷ []) s.place l
            ∙ subst (λ (o : Option Stop). IfSome o (λ s. slice_get items s.place ≡ Some s.seen)) e is.word);
        files = is.files ∙ ap (λ (l : List Seen). length (sure_files p l)) words;
      },
      ap (sure_files p) (sym words),
    )

-- one that is allowed
pub trace_on : (p : Contents) (items : List Seen) (i : Seen) (t : StoppingTrace) (new : GlimpsedTrace) (files : List FileBytes)
    → t.stop ≡ None → IsStoppingTrace p items t
    → (IsGlimpsedTrace p items t.trace → IsGlimpsedTrace p (items ++ i ∷ []) new)
    → (IsGlimpsedTrace p items t.trace → MakesSure p items i files)
    → IsStoppingTrace p (items ++ i ∷ []) (record { trace = new; size = suc t.size; files = t.files + length files; stop = t.stop })
    × (sure_in p (items ++ i ∷ []) t ≡ sure_in p items t ++ files)
trace_on p items i t new files e is goes sure =
    let words : (l : List Seen) → sound_in l t ≡ l = λ l. ap (λ (o : Option Stop). sound_words l (place_in o)) e in
    let before : IsGlimpsedTrace p items t.trace = subst (λ (l : List Seen). IsGlimpsedTrace p l t.trace) (words items) is.trace in
    let after = goes before in
    let more : sure_in p (items ++ i ∷ []) t ≡ sure_in p items t ++ files =
    ap (sure_files p) (words (items ++ i ∷ [])) ∙ sure before ∙ ap (λ (l : List Seen). sure_files p l ++ files) (sym (words items)) in (
      record {
        size = grown_size items i t.size is.size;
        trace = subst (λ (l : List Seen). IsGlimpsedTrace p l new) (sym (words (items ++ i ∷ []))) after;
        stops = subst (λ (o : Option Stop). IsStop p (items ++ i ∷ []) (place_in o)) (sym e) after.allowed;
        word = subst (λ (o : Option Stop). IfSome o (λ s. slice_get (items ++ i ∷ []) s.place ≡ Some s.seen)) (sym e) tt;
        files = ap (λ (n : ℕ). n + length files) is.files ∙ sym (length-append (sure_in p items t) files) ∙ ap length (sym more);
      },
      more,
    )

-- one that is refused
pub trace_ends : (p : Contents) (items : List Seen) (i : Seen) (t : StoppingTrace)
    → t.stop ≡ None → IsStoppingTrace p items t → IsRefusedAnywhere p (items ++ i ∷ []) (length items)
    → IsStoppingTrace p (items ++ i ∷ [])
    (record { trace = t.trace; size = suc t.size; files = t.files; stop = Some (record { place = t.size; seen = i }) })
    × (sure_files p (take t.size (items ++ i ∷ [])) ≡ sure_in p items t)
trace_ends p items i t e is refused =
    let words : sound_in items t ≡ items = ap (λ (o : Option Stop). sound_words items (place_in o)) e in
    let nowhere : StopsNowhere p items = subst (λ (o : Option Stop). IsStop p items (place_in o)) e is.stops in
    let taken : take t.size (items ++ i ∷ []) ≡ sound_in items t =
    ap (λ (n : ℕ). take n (items ++ i ∷ [])) is.size ∙ take-append_seam items (i ∷ []) ∙ sym words in (
      record {
        size = grown_size items i t.size is.size;
        trace = subst (λ (l : List Seen). IsGlimpsedTrace p l t.trace) (sym taken) is.trace;
        stops = subst (StopsAt p (items ++ i ∷ [])) (sym is.size) (stops_here p items i nowhere refused);
        word = ap (slice_get (items ++ i ∷ [])) is.size ∙ get_here items [] i;
        files = is.files ∙ ap (λ (l : List Seen). length (sure_files p l)) (sym taken);
      },
      ap (sure_files p) taken,
    )

-- ---- as the code says it

pub goes_past : (p : Contents) (items : List Seen) (i : Seen) (t : StoppingTrace) (size : ℕ)
    → size ≡ suc t.size → is_some t.stop ≡ true → IsStoppingTrace p items t
    → IsStoppingTrace p (items ++ i ∷ []) (record { trace = t.trace; size = size; files = t.files; stop = t.stop })
goes_past p items i t size e some is = by t.stop refl some
  where
    by : (s : Option Stop) → t.stop ≡ s → is_some s ≡ true
        → IsStoppingTrace p (items ++ i ∷ []) (record { trace = t.trace; size = size; files = t.files; stop = t.stop })
    by None none some = absurd (cc some)
    by (Some s) stop some =
        subst (λ (n : ℕ). IsStoppingTrace p (items ++ i ∷ []) (record { trace = t.trace; size = n; files = t.files; stop = t.stop }))
        (sym e) (trace_past p items i t s stop is).0

pub trace_grown : (p : Contents) (items : List Seen) (i : Seen) (t : StoppingTrace) (new : GlimpsedTrace) (size count : ℕ)
    (files : List FileBytes) → size ≡ suc t.size → count ≡ t.files + length files → is_some t.stop ≡ false → IsStoppingTrace p items t
    → (IsGlimpsedTrace p items t.trace → IsGlimpsedTrace p (items ++ i ∷ []) new)
    → (IsGlimpsedTrace p items t.trace → MakesSure p items i files)
    → IsStoppingTrace p (items ++ i ∷ []) (record { trace = new; size = size; files = count; stop = t.stop })
trace_grown p items i t new size count files e n none is goes sure =
    subst (λ (m : ℕ). IsStoppingTrace p (items ++ i ∷ []) (record { trace = new; size = m; files = count; stop = t.stop })) (sym e)
    (subst (λ (m : ℕ). IsStoppingTrace p (items ++ i ∷ []) (record { trace = new; size = suc t.size; files = m; stop = t.stop })) (sym n)
    (trace_on p items i t new files (not_some t.stop none) is goes sure).0)

pub ends_here : (p : Contents) (items : List Seen) (i : Seen) (t : StoppingTrace) (new : GlimpsedTrace) (size : ℕ)
    → size ≡ suc t.size → new ≡ t.trace → is_some t.stop ≡ false → IsStoppingTrace p items t
    → (IsGlimpsedTrace p items t.trace → IsRefusedAnywhere p (items ++ i ∷ []) (length items))
    → IsStoppingTrace p (items ++ i ∷ [])
    (record { trace = new; size = size; files = t.files; stop = Some (record { place = t.size; seen = i }) })
ends_here p items i t new size e same none is refused =
    let stop = not_some t.stop none in
    subst (λ (m : ℕ). IsStoppingTrace p (items ++ i ∷ [])
    (record { trace = new; size = m; files = t.files; stop = Some (record { place = t.size; seen = i }) }))
    (sym e)
    (subst (λ (g : GlimpsedTrace). IsStoppingTrace p (items ++ i ∷ [])
    (record { trace = g; size = suc t.size; files = t.files; stop = Some (record { place = t.size; seen = i }) })) (sym same)
    (trace_ends p items i t stop is
    (refused (subst (λ (l : List Seen). IsGlimpsedTrace p l t.trace)
    (ap (λ (o : Option Stop). sound_words items (place_in o)) stop) is.trace))).0)
