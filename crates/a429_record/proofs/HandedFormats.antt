-- What a reader has handed out, in either format.
use Rattle.std.proofs.Common.{◌≡◌, ◌∙◌, ◌<◌, ℕ, zero, suc, List, [], ◌∷◌, ◌++◌, length, take, true, false, Option, Some, None, Result, Ok, Err, inl, inr, refl, sym, ap, subst, append_assoc, arith, rules}
use Rattle.std.proofs.lemmas.Bool.{cases_Bool}
use Rattle.std.specs.Io.KnownBytes.{Keeps}
use Rattle.std.proofs.lemmas.List.{length-take-le}
use Rattle.a429_record.specs.declared.entry.Entry.{Entry}
use Rattle.a429_record.specs.declared.fault.ReadFault.{ReadFault}
use Rattle.a429_record.specs.declared.format.Format.{Format}
use Rattle.a429_record.specs.declared.format.Format.TheVariants as format
use Rattle.a429_record.specs.declared.stage.Stage.{Stage}
use Rattle.a429_record.specs.declared.stage.Stage.TheVariants as stage
use Rattle.a429_record.specs.Ends.{HasNoEnd}
use Rattle.a429_record.specs.Binary.{magic, is_binary}
use Rattle.a429_record.specs.Recording.{IsWithin}
use Rattle.a429_record.specs.WholeRecordings.{AreBinary}
use Rattle.a429_record.specs.Handed.{OfTaken, AreSound, Loses, HasNoFaultWithin, HasNoTextFault, HasNoRow, IsCut, IsCutBinary, AreLines, AreGiven, ArePieceOf}
use Rattle.a429_record.specs.Lines.{Chooses, IsMagicFront}
use Rattle.a429_record.specs.Rows.{IfEntry, chosen_form}
use Rattle.a429_record.specs.Reading.{AreFirstHanded, AreNextHanded, AreHandedAt, MakesNoFault, PassesAt, IsChosen, IsFormatAfter}
use Rattle.a429_record.proofs.BinaryFacts.{short_text, still_binary, piece_alone, piece_behind}
use Rattle.a429_record.proofs.Handed.{lost_both, lost_so, open_no_row, given_next, failed_next}

-- ---- the first bytes

HasNoEnd-take : (n : ℕ) (xs : List ℕ) → HasNoEnd xs → HasNoEnd (take n xs)
HasNoEnd-take zero xs h = tt
HasNoEnd-take (suc n) [] h = tt
HasNoEnd-take (suc n) (x ∷ xs) h = (h.0, HasNoEnd-take n xs h.1)

magic-end : HasNoEnd magic
magic-end = search rules

-- the reader fails among the eight bytes
pub failed_magic : (most : ℕ) (a b : Option (List ℕ)) → Loses (OfTaken IsMagicFront) a b → Loses (OfTaken (HasNoFaultWithin most)) a b
failed_magic most a b h = lost_so (OfTaken IsMagicFront) (OfTaken (HasNoFaultWithin most)) a b h (λ t rest w.
    let few : length t < 8 = rw w.2 (subst (λ (n : ℕ). n < 8) (sym (length-take-le w.0 magic (omega (arith, w.1)))) w.1) in
    let none : HasNoRow t = open_no_row t rest (rw w.2 (HasNoEnd-take w.0 magic magic-end)) in
    (λ binary. absurd (cc (sym (short_text t few) ∙ binary)), λ text. subst (AreSound most) (sym none) tt))

-- it fails in a text
pub failed_text : (most : ℕ) (a b c : Option (List ℕ))
    → Chooses format.Text a b → Loses (OfTaken (HasNoTextFault most)) b c → Loses (OfTaken (HasNoFaultWithin most)) a c
failed_text most None b c p q = tt
failed_text most (Some xs) None c p q = absurd p.0
failed_text most (Some xs) (Some ys) None p q = absurd q
failed_text most (Some xs) (Some ys) (Some zs) p q =
    let all : xs ≡ q.0 ++ zs = sym p.0 ∙ q.1 in
    (q.0, all, (λ binary. absurd (cc (sym p.1 ∙ ap is_binary all ∙ still_binary q.0 zs binary)), λ text. q.2))

-- it fails in a binary recording, before an entry was given
pub failed_binary : (most : ℕ) (a b c : Option (List ℕ)) (count : ℕ)
    → count ≡ 0 → Chooses format.Binary a b → Loses (OfTaken (IsCut most count)) b c → Loses (OfTaken (HasNoFaultWithin most)) a c
failed_binary most None b c count none p q = tt
failed_binary most (Some xs) None c count none p q = absurd p
failed_binary most (Some xs) (Some ys) None count none p q = absurd q
failed_binary most (Some xs) (Some ys) (Some zs) count none p q =
    let short : IsCut most 0 q.0 = rw none at q.2 in
    let sound : IsCutBinary most (magic ++ q.0) = record {
      entries = [];
      front = magic;
      cut = q.0;
      all = refl;
      whole = (record { following = []; all = refl; entries = refl }, (omega arith, tt));
      short = short;
    } in
    (magic ++ q.0, p ∙ ap (λ (l : List ℕ). magic ++ l) q.1 ∙ sym (append_assoc magic q.0 zs), (λ binary. sound, λ text. cc text))

-- ---- the first answer

-- where an answer is an entry, what holds of it holds so
pub if_entry : (r : Result (Option Entry) ReadFault) (P Q : Entry → Type 0) → ((e : Entry) → P e → Q e) → IfEntry r P → IfEntry r Q
if_entry (Ok None) P Q f h = tt
if_entry (Ok (Some e)) P Q f h = f e h
if_entry (Err x) P Q f h = tt

pub kept_lost : (P : List ℕ → List ℕ → Type 0) (a b c : Option (List ℕ)) → Keeps a b → Loses P b c → Loses P a c
kept_lost P None b c p q = tt
kept_lost P (Some xs) None c p q = absurd p
kept_lost P (Some xs) (Some ys) None p q = absurd q
kept_lost P (Some xs) (Some ys) (Some zs) p q = (q.0, sym p ∙ q.1, q.2)

after_magic : (e : Entry) (a b c : Option (List ℕ))
    → Chooses format.Binary a b → Loses (ArePieceOf e) b c → Loses (AreFirstHanded format.Binary e) a c
after_magic e None b c p q = tt
after_magic e (Some xs) None c p q = absurd p
after_magic e (Some xs) (Some ys) None p q = absurd q
after_magic e (Some xs) (Some ys) (Some zs) p q = (
  magic ++ q.0,
  p ∙ ap (λ (l : List ℕ). magic ++ l) q.1 ∙ sym (append_assoc magic q.0 zs),
  record { following = q.0; all = refl; entries = piece_alone q.0 e q.2 },
)

pub piece_first : (a b c : Option (List ℕ)) (r : Result (Option Entry) ReadFault)
    → Chooses format.Binary a b → IfEntry r (λ e. Loses (ArePieceOf e) b c)
    → IfEntry r (λ e. Loses (AreFirstHanded format.Binary e) a c)
piece_first a b c r p h =
    if_entry r (λ e. Loses (ArePieceOf e) b c) (λ e. Loses (AreFirstHanded format.Binary e) a c) (λ e. after_magic e a b c p) h

-- ---- the answers of a reading

-- by where a reading stands and in which format: the bytes of these entries are handed out, behind those that come before all
abbrev pub AreGivenIn : Format → List Entry → List ℕ → List ℕ → Type 0
AreGivenIn format.Text es taken rest = AreLines (AreGiven es) taken rest
AreGivenIn format.Binary es taken rest = AreBinary taken es

abbrev pub AreGivenAt : Stage → Format → List Entry → List ℕ → List ℕ → Type 0
AreGivenAt stage.Begins f es taken rest = (es ≡ []) × (taken ≡ [])
AreGivenAt stage.Rows f es taken rest = AreGivenIn f es taken rest
AreGivenAt stage.Ended f es taken rest = ⊥
AreGivenAt stage.Failed f es taken rest = ⊥

first_in : (f : Format) (es : List Entry) (e : Entry) (taken rest : List ℕ)
    → es ≡ [] → AreFirstHanded f e taken rest → AreGivenIn f (es ++ (e ∷ [])) taken rest
first_in format.Text es e taken rest none h = rw none h
first_in format.Binary es e taken rest none h = rw none h

next_in : (f : Format) (es : List Entry) (e : Entry) (a b c : Option (List ℕ))
    → Loses (AreGivenIn f es) a b → Loses (AreNextHanded f e) b c → Loses (AreGivenIn f (es ++ (e ∷ []))) a c
next_in format.Text es e a b c p q = given_next es (es ++ (e ∷ [])) e a b c refl p q
next_in format.Binary es e a b c p q = lost_both _ _ _ a b c p q (λ t u rest before after. record {
  following = before.following ++ u;
  all = ap (λ (l : List ℕ). l ++ u) before.all ∙ append_assoc magic before.following u;
  entries = piece_behind before.following u es e before.entries after;
})

-- an entry more
pub given_more_at : (at : Stage) (old f : Format) (es more : List Entry) (e : Entry) (a b c : Option (List ℕ))
    → more ≡ es ++ (e ∷ []) → IsFormatAfter at old b f
    → Loses (AreGivenAt at old es) a b → Loses (AreHandedAt at f e) b c → Loses (AreGivenIn f more) a c
given_more_at stage.Begins old f es more e a b c is stays p q =
    subst (λ (l : List Entry). Loses (AreGivenIn f l) a c) (sym is) (lost_both _ _ _ a b c p q (λ t u rest before after.
    let There : List ℕ → Type 0 = λ l. AreGivenIn f (es ++ (e ∷ [])) (l ++ u) rest in
    subst There (sym before.1) (first_in f es e u rest before.0 after)))
given_more_at stage.Rows old f es more e a b c is stays p q =
    let before : Loses (AreGivenIn f es) a b = rw stays p in
    subst (λ (l : List Entry). Loses (AreGivenIn f l) a c) (sym is) (next_in f es e a b c before q)
given_more_at stage.Ended old f es more e a b c is stays p q = lost_both _ _ _ a b c p q (λ t u rest before after. absurd before)
given_more_at stage.Failed old f es more e a b c is stays p q = lost_both _ _ _ a b c p q (λ t u rest before after. absurd before)

-- the format is that of all bytes, once an entry was given
abbrev pub IsFormOf : Stage → Option (List ℕ) → Format → Type 0
IsFormOf stage.Begins bytes f = Unit {0}
IsFormOf stage.Rows bytes f = IsChosen bytes f
IsFormOf stage.Ended bytes f = Unit {0}
IsFormOf stage.Failed bytes f = Unit {0}

-- nothing was given before the first entry
pub form_at : (at : Stage) (old f : Format) (es : List Entry) (a b : Option (List ℕ))
    → Loses (AreGivenAt at old es) a b → IsFormOf at a old → IsFormatAfter at old b f → IsChosen a f
form_at stage.Begins old f es None b p has stays = tt
form_at stage.Begins old f es (Some xs) None p has stays = absurd p
form_at stage.Begins old f es (Some xs) (Some ys) p has stays = let same : xs ≡ ys = rw p.2.1 at p.1 in rw same stays
form_at stage.Rows old f es a b p has stays = rw stays has
form_at stage.Ended old f es None b p has stays = tt
form_at stage.Ended old f es (Some xs) None p has stays = absurd p
form_at stage.Ended old f es (Some xs) (Some ys) p has stays = absurd p.2
form_at stage.Failed old f es None b p has stays = tt
form_at stage.Failed old f es (Some xs) None p has stays = absurd p
form_at stage.Failed old f es (Some xs) (Some ys) p has stays = absurd p.2

-- the reader fails behind entries of a binary recording
cut_binary : (most : ℕ) (es : List Entry) (count : ℕ) (t u rest : List ℕ)
    → IsWithin most es → length es ≡ count → AreBinary t es → IsCut most count u → HasNoFaultWithin most (t ++ u)
cut_binary most es count t u rest h size given cut =
    let short : IsCut most (length es) u = rw size cut in
    let sound : IsCutBinary most (t ++ u) = record { entries = es; front = t; cut = u; all = refl; whole = (given, h); short = short } in
    let binary : is_binary (t ++ u) ≡ true = rw given.all refl in
    (λ _. sound, λ text. absurd (cc (sym binary ∙ text)))

failed_in : (most : ℕ) (f : Format) (es : List Entry) (count : ℕ) (a b c : Option (List ℕ))
    → IsWithin most es → length es ≡ count → IsChosen a f → Loses (AreGivenIn f es) a b → Loses (OfTaken (MakesNoFault most f count)) b c
    → Loses (OfTaken (HasNoFaultWithin most)) a c
failed_in most format.Text es count None b c h size chosen p q = tt
failed_in most format.Text es count (Some xs) b c h size chosen p q =
    failed_text most (Some xs) (Some xs) c (refl, text_of xs chosen) (failed_next most es (Some xs) b c h p q)
  where
    text_of : (xs : List ℕ) → format.Text ≡ chosen_form xs → is_binary xs ≡ false
    text_of xs chosen = elim (cases_Bool (is_binary xs)) [
      | inr text ↦ text
      | inl binary ↦ cc (rw binary at chosen)
    ]
failed_in most format.Binary es count a b c h size chosen p q =
    lost_both _ _ _ a b c p q (λ t u rest before after. cut_binary most es count t u rest h size before after)

-- it fails
pub failed_at : (most : ℕ) (at : Stage) (f : Format) (es : List Entry) (count : ℕ) (a b c : Option (List ℕ))
    → IsWithin most es → length es ≡ count → IsFormOf at a f → Loses (AreGivenAt at f es) a b
    → Loses (OfTaken (PassesAt most at f count)) b c → Loses (OfTaken (HasNoFaultWithin most)) a c
failed_at most stage.Begins f es count a b c h size has p q = lost_both _ _ _ a b c p q (λ t u rest before after.
    let There : List ℕ → Type 0 = λ l. HasNoFaultWithin most (l ++ u) in
    subst There (sym before.1) after)
failed_at most stage.Rows f es count a b c h size has p q = failed_in most f es count a b c h size has p q
failed_at most stage.Ended f es count a b c h size has p q = lost_both _ _ _ a b c p q (λ t u rest before after. absurd before)
failed_at most stage.Failed f es count a b c h size has p q = lost_both _ _ _ a b c p q (λ t u rest before after. absurd before)
