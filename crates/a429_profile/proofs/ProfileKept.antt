-- An entry kept at its label and SDI, after those that it does not meet.
use Rattle.std.proofs.Common.{◌≡◌, ℕ, List, [], ◌∷◌, ◌++◌, Bool, true, false, ◌&&◌, ◌==◌, nat_eq, eq-eqb, Option, Some, None, refl, sym, ap, ◌∙◌}
use Rattle.std.specs.List.{list_any}
use Rattle.std.specs.Option.{option_eq}
use Rattle.std.proofs.lemmas.Bool.{and_parts, or_parts, eqb-true}
use Rattle.indexmap.specs.IndexMap.{insert_entry}
use Rattle.a429_profile.specs.declared.entry.LabelEntry.{LabelEntry}
use Rattle.a429_profile.specs.Clash.{sdis_meet, entries_meet}
use Rattle.a429_profile.specs.Profile.{Kept, entries_of, AreKeyed}

abbrev pub key_eq : ℕ × Option ℕ → ℕ × Option ℕ → Bool
key_eq k y = (k.0 == y.0) && option_eq nat_eq k.1 y.1

-- what an entry is kept at
abbrev pub label_and_sdi : LabelEntry → ℕ × Option ℕ
label_and_sdi e = (e.label, e.sdi)

-- equal SDIs meet
sdis_equal : (s o : Option ℕ) → option_eq nat_eq s o ≡ true → sdis_meet o s ≡ true
sdis_equal None None h = refl
sdis_equal None (Some t) h = absurd (cc)
sdis_equal (Some s) None h = absurd (cc)
sdis_equal (Some s) (Some t) h = eq-eqb t s (sym (eqb-true s t h))

keys_equal : (a l : ℕ) (s o : Option ℕ) → ((a == l) && option_eq nat_eq s o) ≡ true → ((l == a) && sdis_meet o s) ≡ true
keys_equal a l s o h =
    let parts = and_parts (a == l) (option_eq nat_eq s o) h in
    rw (eq-eqb l a (sym (eqb-true a l parts.0)), sdis_equal s o parts.1) refl

other_key : (b : Bool) (a l : ℕ) (s o : Option ℕ) → b ≡ ((a == l) && option_eq nat_eq s o) → ((l == a) && sdis_meet o s) ≡ false → b ≡ false
other_key false a l s o e h = refl
other_key true a l s o e h = let meet = keys_equal a l s o (sym e) in absurd (cc)

-- an entry that meets none of those kept goes last
pub insert_entry-apart : (e : LabelEntry) (ks : List Kept) → AreKeyed ks → list_any (λ o. entries_meet o e) (entries_of ks) ≡ false
    → insert_entry key_eq ks (label_and_sdi e) e ≡ ks ++ (label_and_sdi e, e) ∷ []
insert_entry-apart e [] keyed h = refl
insert_entry-apart e (k ∷ ks) keyed h =
    let parts = or_parts (entries_meet k.1 e) (list_any (λ o. entries_meet o e) (entries_of ks)) h in
    let other : key_eq (label_and_sdi e) k.0 ≡ false =
    ap (key_eq (label_and_sdi e)) keyed.0 ∙ other_key _ e.label k.1.label e.sdi k.1.sdi refl parts.0 in
    rw other (ap (λ es. k ∷ es) (insert_entry-apart e ks keyed.1 parts.1))

pub entries_of-end : (ks : List Kept) (k : Kept) → entries_of (ks ++ k ∷ []) ≡ entries_of ks ++ k.1 ∷ []
entries_of-end [] k = refl
entries_of-end (j ∷ ks) k = ap (λ es. j.1 ∷ es) (entries_of-end ks k)

pub AreKeyed-end : (ks : List Kept) (e : LabelEntry) → AreKeyed ks → AreKeyed (ks ++ (label_and_sdi e, e) ∷ [])
AreKeyed-end [] e keyed = (refl, tt)
AreKeyed-end (k ∷ ks) e keyed = (keyed.0, AreKeyed-end ks e keyed.1)
