-- What a recording has given, and the text of what is kept of it.
use Rattle.std.proofs.Common.{◌≡◌, ◌==◌, ℕ, suc, ◌<◌, Bool, true, false, if◌then◌else◌, List, [], ◌∷◌, ◌++◌, Option, Some, None, Result, Ok, Err, IfSome, refl, sym, ap, ◌∙◌, append_assoc, append-nil, arith}
use Rattle.std.specs.List.{flat_map}
use Rattle.std.proofs.lemmas.Grind.{flat_map-append}
use Rattle.a429_word.specs.Word.{label_of}
use Rattle.a429_profile.specs.declared.codes.Codes.{Codes}
use Rattle.a429_ldu.specs.Form.{address_of}
use Rattle.a429_record.specs.declared.entry.Entry.{Entry}
use Rattle.a429_record.specs.declared.fault.ReadFault.{ReadFault}
use Rattle.a429_record.specs.Recording.{Recording, whole}
use Rattle.a429_record.specs.Rows.{GivesNext, Stops}
use Rattle.a429_record.specs.Writing.{header_text, line_text}
use Rattle.a429_parts.specs.Kept.{kept}
use Rattle.a429_parts.specs.Keeping.{BeginsWith, kept_line, kept_text, kept_text_before, with_entries}

-- ---- what was given

-- these entries came, and the rest has still to come
abbrev pub Came : Option Recording → List Entry → Option Recording → Type 0
Came first es left = IfSome first (λ r. (rest : Recording) × (left ≡ Some rest) × (r ≡ with_entries es rest))

pub came_first : (first : Option Recording) → Came first [] first
came_first None = tt
came_first (Some r) = (r, refl, refl)

pub came_more : (first left new : Option Recording) (es : List Entry) (e : Entry)
    → GivesNext left new (Ok (Some e)) → Came first es left → Came first (es ++ e ∷ []) new
came_more None left new es e gives h = tt
came_more (Some r) left new es e gives (rest, is, all) =
    let next = rw is at gives in
    let more = next.0 in (
      more,
      next.1,
      all ∙ ap (with_entries es) next.2
          ∙ ap (λ (l : List Entry). record { entries = l; fault = more.fault }) (sym (append_assoc es (e ∷ []) more.entries)),
    )

pub came_whole : (first left new : Option Recording) (es : List Entry)
    → GivesNext left new (Ok None) → Came first es left → IfSome first (λ r. r ≡ whole es)
came_whole None left new es gives h = tt
came_whole (Some r) left new es gives (rest, is, all) =
    let end = rw is at gives in
    all ∙ ap (with_entries es) end ∙ ap whole (append-nil es)

-- these entries came, and this is the next answer
abbrev pub Gave : Option Recording → List Entry → Option Recording → Result (Option Entry) ReadFault → Type 0
Gave old es left r = (mid : Option Recording) × Came old es mid × GivesNext mid left r

pub gave_first : (old left : Option Recording) (r : Result (Option Entry) ReadFault) → GivesNext old left r → Gave old [] left r
gave_first old left r h = (old, came_first old, h)

pub gave_more : (old mid left : Option Recording) (es : List Entry) (e : Entry) (r : Result (Option Entry) ReadFault)
    → Gave old es mid (Ok (Some e)) → GivesNext mid left r → Gave old (es ++ e ∷ []) left r
gave_more old mid left es e r (before, came, h) g = (mid, came_more old before mid es e h came, g)

pub gave_all : (old left : Option Recording) (es : List Entry) → Gave old es left (Ok None) → IfSome old (λ r. r ≡ whole es)
gave_all old left es (mid, came, h) = came_whole old mid left es h came

pub gave_these : (old left : Option Recording) (es : List Entry) (r : Result (Option Entry) ReadFault)
    → Gave old es left r → BeginsWith old es
gave_these None left es r h = tt
gave_these (Some t) left es r (mid, (rest, is, all), h) = (rest, all)

pub gave_until : (old left : Option Recording) (es : List Entry) (f : ReadFault)
    → Gave old es left (Err f) → IfSome old (λ r. (rest : Recording) × (r ≡ with_entries es rest) × Stops f rest)
gave_until None left es f h = tt
gave_until (Some t) left es f (mid, (rest, is, all), h) = (rest, all, rw is at h)

-- ---- the text of what is kept

kept_first : (c : Codes) (x : Entry) (both xs ys : List Entry) (b : Bool)
    → both ≡ xs ++ ys → (if b then x ∷ both else both) ≡ (if b then x ∷ xs else xs) ++ ys
kept_first c x both xs ys true h = ap (λ (l : List Entry). x ∷ l) h
kept_first c x both xs ys false h = h

kept-append : (c : Codes) (xs ys : List Entry) → kept c (xs ++ ys) ≡ kept c xs ++ kept c ys
kept-append c [] ys = refl
kept-append c (x ∷ xs) ys =
    kept_first c x (kept c (xs ++ ys)) (kept c xs) (kept c ys) (label_of x.word == address_of c x.bus) (kept-append c xs ys)

line_of : (c : Codes) (e : Entry) → flat_map line_text (kept c (e ∷ [])) ≡ kept_line c e
line_of c e = by_label (label_of e.word == address_of c e.bus)
  where
    by_label : (b : Bool) → flat_map line_text (if b then e ∷ [] else []) ≡ (if b then line_text e else [])
    by_label true = append-nil (line_text e)
    by_label false = refl

pub kept_text-push : (c : Codes) (es : List Entry) (e : Entry) → kept_text c (es ++ e ∷ []) ≡ kept_text c es ++ kept_line c e
kept_text-push c es e =
    ap (λ (l : List ℕ). header_text ++ l) (ap (flat_map line_text) (kept-append c es (e ∷ []))
    ∙ (flat_map-append line_text (kept c es) (kept c (e ∷ [])) ∙ ap (λ (l : List ℕ). flat_map line_text (kept c es) ++ l) (line_of c e)))
    ∙ sym (append_assoc header_text (flat_map line_text (kept c es)) (kept_line c e))

pub before_is : (c : Codes) (es : List Entry) (e : Entry) → kept_text_before c (es ++ e ∷ []) ≡ kept_text c (es ++ e ∷ [])
before_is c [] e = refl
before_is c (x ∷ es) e = refl

-- ---- how far it is

-- an entry is at hand, and so much may still come
abbrev pub left_with : Option Entry → ℕ → ℕ
left_with None room = 0
left_with (Some e) room = suc room

pub less_left : (next : Option Entry) (room before : ℕ) → IfSome next (λ e. room < before) → left_with next room < suc before
less_left None room before h = omega arith
less_left (Some e) room before h = omega (arith, h)
