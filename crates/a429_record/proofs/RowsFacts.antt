-- The rows of a line that was taken, and what they stand for.
use Rattle.std.proofs.Common.{◌≡◌, ◌∙◌, ℕ, List, [], ◌∷◌, ◌++◌, map, Option, Some, None, Ok, Err, true, false, Result, IfSome, refl, sym, ap, subst, append_assoc, option_map}
use Rattle.std.specs.List.{flat_map}
use Rattle.a429_record.specs.declared.entry.Entry.{Entry}
use Rattle.a429_record.specs.declared.fault.ReadFault.{ReadFault}
use Rattle.a429_record.specs.declared.fault.ReadFault.TheVariants as fault
use Rattle.a429_record.specs.Row.{Row, is_header, entry_in, line_rows}
use Rattle.a429_record.specs.Recording.{Recording, rows_of, entries_stand_for, rows_stand_for, all_rows_stand_for, stands_for}
use Rattle.a429_record.specs.Handed.{Loses, IsLineHanded}
use Rattle.a429_record.specs.Rows.{TakesHeader, GivesNext}
use Rattle.a429_record.proofs.LinesFacts.{line_first}

-- rows are those of the known bytes
abbrev pub AreRows : Option (List Row) → Option (List ℕ) → Type 0
AreRows rows bytes = IfSome rows (λ all. option_map rows_of bytes ≡ Some all)

-- rows are those of a line, and then those of the known bytes
abbrev pub AreRowsAfter : Option (List Row) → List ℕ → Option (List ℕ) → Type 0
AreRowsAfter rows line bytes =
    IfSome rows (λ all. (more : List Row) × (option_map rows_of bytes ≡ Some more) × (all ≡ line_rows line ++ more))

pub own_rows : (a : Option (List ℕ)) → AreRows (option_map rows_of a) a
own_rows None = tt
own_rows (Some xs) = refl

pub taken : (rows : Option (List Row)) (a b : Option (List ℕ)) (line : List ℕ)
    → AreRows rows a → Loses (IsLineHanded line) a b → AreRowsAfter rows line b
taken None a b line h took = tt
taken (Some all) None b line h took = cc h
taken (Some all) (Some xs) None line h took = absurd took
taken (Some all) (Some xs) (Some ys) line h took =
    let e : rows_of xs ≡ all = cc h in
    (rows_of ys, refl, sym e ∙ ap (flat_map line_rows) (line_first line took.0 ys xs took.2 took.1))

-- a line without a row changes nothing
pub same_rows : (rows : Option (List Row)) (b : Option (List ℕ)) (line : List ℕ)
    → AreRowsAfter rows line b → [] ≡ line_rows line → AreRows rows b
same_rows None b line h none = tt
same_rows (Some all) b line h none = let e : all ≡ h.0 = rw (← none) at h.2 in h.1 ∙ ap Some (sym e)

-- ---- the header

-- the row of a line is the header, or it is not
pub header_row : (most : ℕ) (rows : Option (List Row)) (b : Option (List ℕ)) (line : List ℕ) (r : Row) (u : Unit {0})
    → AreRowsAfter rows line b → r ∷ [] ≡ line_rows line → is_header r ≡ true
    → TakesHeader most rows (option_map rows_of b) (Ok u)
header_row most None b line r u h one first = tt
header_row most (Some all) b line r u h one first =
    let e : all ≡ r ∷ h.0 = rw (← one) at h.2 in (h.0, h.1, ap (all_rows_stand_for most) e ∙ rw first refl)

pub other_row : (most : ℕ) (rows : Option (List Row)) (b : Option (List ℕ)) (line : List ℕ) (r : Row)
    → AreRowsAfter rows line b → r ∷ [] ≡ line_rows line → is_header r ≡ false
    → TakesHeader most rows (option_map rows_of b) (Err fault.Header)
other_row most None b line r h one first = tt
other_row most (Some all) b line r h one first =
    let e : all ≡ r ∷ h.0 = rw (← one) at h.2 in ap (all_rows_stand_for most) e ∙ rw first refl

-- ---- entries

-- the row of a line with one entry, or one that is none
pub one_row : (rows : List Row) (o : Option Entry) → o ∷ [] ≡ map entry_in rows → (r : Row) × (r ∷ [] ≡ rows) × (entry_in r ≡ o)
one_row [] o e = cc e
one_row (r ∷ []) o e = (r, refl, cc e)
one_row (r ∷ s ∷ rows) o e = cc e

-- the answer for a row, and what is left after it
pub gives_row : (most n last most' n' last' : ℕ) (rows : Option (List Row)) (b : Option (List ℕ)) (line : List ℕ) (r : Row)
    (o : Option Entry) (answer : Result (Option Entry) ReadFault)
    → r ∷ [] ≡ line_rows line → entry_in r ≡ o → AreRowsAfter rows line b
    → ((more : List (Option Entry))
    → GivesNext (Some (entries_stand_for most n last (o ∷ more))) (Some (entries_stand_for most' n' last' more)) answer)
    → GivesNext (option_map (rows_stand_for most n last) rows) (option_map (rows_stand_for most' n' last') (option_map rows_of b)) answer
gives_row most n last most' n' last' None b line r o answer one is h more = tt
gives_row most n last most' n' last' (Some all) b line r o answer one is h more =
    let e : all ≡ r ∷ h.0 = rw (← one) at h.2 in
    let Here : Option Entry → Type 0 =
    λ x. GivesNext (Some (entries_stand_for most n last (x ∷ map entry_in h.0))) (Some (rows_stand_for most' n' last' h.0)) answer in
    let Before : List Row → Type 0 =
    λ x. GivesNext (Some (rows_stand_for most n last x)) (option_map (rows_stand_for most' n' last') (option_map rows_of b)) answer in
    let After : Option (List Row)
    → Type 0 = λ o. GivesNext (Some (rows_stand_for most n last (r ∷ h.0))) (option_map (rows_stand_for most' n' last') o) answer in
    subst Before (sym e) (subst After (sym h.1) (subst Here (sym is) (more (map entry_in h.0))))

-- ---- all entries

-- entries were given, and the rest is left
abbrev pub Given : Option (List ℕ) → List Entry → Option Recording → Type 0
Given bytes es left =
    IfSome bytes
    (λ b. (rest : Recording) × (left ≡ Some rest) × (stands_for b ≡ record { entries = es ++ rest.entries; fault = rest.fault }))

pub given_more : (bytes : Option (List ℕ)) (left new : Option Recording) (es more : List Entry) (e : Entry) → more ≡ es ++ (e ∷ [])
    → GivesNext left new (Ok (Some e)) → Given bytes es left → Given bytes more new
given_more None left new es more e is t h = tt
given_more (Some b) left new es more e is t h =
    let next = rw h.1 at t in
    let u = next.0 in
    let first = ap (λ (r : Recording). record { entries = es ++ r.entries; fault = r.fault }) next.2 in
    let grown = sym (append_assoc es (e ∷ []) u.entries) ∙ ap (λ (l : List Entry). l ++ u.entries) (sym is) in
    (u, next.1, h.2 ∙ first ∙ ap (λ (l : List Entry). record { entries = l; fault = u.fault }) grown)
