-- Words of entries, screened together.
use Rattle.std.proofs.Common.{◌≡◌, map, slice_set, arith, ℕ, ◌+◌, ◌<◌, List, ◌∷◌, [], ◌++◌, length, take, get_or, sym, ap, ◌∙◌}
use Rattle.std.proofs.lemmas.List.{take_more, take_more_set, take_all, map-append, length-map}
use Rattle.std.proofs.lemmas.Simd.{map-map}
use Rattle.std.proofs.Math.Seq.{take-append_seam}
use Rattle.a429_word.specs.Screening.{screened}
use Rattle.a429_record.specs.declared.entry.Entry.{Entry}

-- one word more
pub words-more : (es : List Entry) (words : List ℕ) (i w : ℕ) (e : Entry)
    → i < length es → i < length words → w ≡ (get_or es i e).word → take i words ≡ map (λ x. x.word) (take i es)
    → take (i + 1) (slice_set words i w) ≡ map (λ x. x.word) (take (i + 1) es)
words-more es words i w e inside room is so_far =
    take_more_set words i w room
    ∙ rw (so_far, is, take_more es i e inside) (sym (map-append (λ x. x.word) (take i es) (get_or es i e ∷ [])))

-- all of them, screened
pub answers-are : (label : ℕ) (es : List Entry) (words out rest : List ℕ) (i : ℕ)
    → i ≡ length es → take i words ≡ map (λ x. x.word) (take i es) → out ≡ map (screened label) (take (length es) words)
    → take (length es) (out ++ rest) ≡ map (λ x. screened label x.word) es
answers-are label es words out rest i end are is =
    let whole : take (length es) words ≡ map (λ x. x.word) es =
    rw (← end) are ∙ ap (map (λ x. x.word)) (take_all i es (omega (arith, end))) in
    let all : out ≡ map (λ x. screened label x.word) es =
    is ∙ ap (map (screened label)) whole ∙ map-map (screened label) (λ x. x.word) es in
    let long : length out ≡ length es = ap length all ∙ length-map es (λ x. screened label x.word) in
    rw (← long) (take-append_seam out rest) ∙ all
