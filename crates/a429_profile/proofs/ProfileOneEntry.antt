-- At most one entry of a profile is for a word.
use Rattle.std.proofs.Common.{◌≡◌, ℕ, ◌≤◌, List, [], ◌∷◌, length, Bool, true, false, cond, ◌&&◌, ◌==◌, Option, Some, None, refl, arith}
use Rattle.std.specs.List.{filter}
use Rattle.std.proofs.lemmas.Bool.{and_parts, eqb-true}
use Rattle.a429_profile.specs.declared.entry.LabelEntry.{LabelEntry}
use Rattle.a429_profile.specs.Clash.{sdis_meet, entries_meet}
use Rattle.a429_profile.specs.Profile.{Contents, IsProfile, is_for}
use Rattle.a429_profile.proofs.Apart.{MeetsNone}
use Rattle.a429_profile.proofs.ProfileLookup.{Apart, and_true_false, apart_of, ApartAfter-IsProfile}

met_by_open : (o : Option ℕ) → sdis_meet None o ≡ true
met_by_open None = refl
met_by_open (Some s) = refl

-- where an entry is for a word, one that does not meet it is not
other_word : (label sdi a b : ℕ) (s o : Option ℕ) → ((label == a) && sdis_meet (Some sdi) s) ≡ true → ((a == b) && sdis_meet s o) ≡ false
    → ((label == b) && sdis_meet (Some sdi) o) ≡ false
other_word label sdi a b None o here apart =
    let p = and_parts (label == a) (sdis_meet (Some sdi) None) here in
    let q = and_true_false (a == b) (sdis_meet None o) (met_by_open o) apart in
    rw (eqb-true label a p.0, q) refl
other_word label sdi a b (Some s) o here apart =
    let p = and_parts (label == a) (sdi == s) here in
    rw (eqb-true label a p.0, eqb-true sdi s p.1) apart

none_for : (label sdi : ℕ) (e : LabelEntry) (os : List LabelEntry)
    → is_for label sdi e ≡ true → MeetsNone entries_meet e os → filter (is_for label sdi) os ≡ []
none_for label sdi e [] here meets = refl
none_for label sdi e (o ∷ os) here meets =
    rw (other_word label sdi e.label o.label e.sdi o.sdi here meets.0) (none_for label sdi e os here meets.1)

step : (b : Bool) (e : LabelEntry) (rest : List LabelEntry) → (b ≡ true → rest ≡ []) → length rest ≤ 1 → length (cond b (e ∷ rest) rest) ≤ 1
step true e rest none h = rw (none refl) (omega arith)
step false e rest none h = h

one_of : (label sdi : ℕ) (es : List LabelEntry) → Apart es → length (filter (is_for label sdi) es) ≤ 1
one_of label sdi [] apart = omega arith
one_of label sdi (e ∷ es) apart = step (is_for label sdi e) e _ (λ here. none_for label sdi e es here apart.0) (one_of label sdi es apart.1)

pub one_entry : (contents : Contents) (label sdi : ℕ) → IsProfile contents → length (filter (is_for label sdi) contents.labels) ≤ 1
one_entry contents label sdi p = one_of label sdi contents.labels (apart_of [] contents.labels (ApartAfter-IsProfile contents p))
