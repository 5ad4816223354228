-- Why a block is not good.
use Rattle.std.proofs.Common.{◌≡◌, ◌↔◌, ℕ, suc, ◌+◌, ◌*◌, ◌%◌, Bool, true, false, cond, eqb, ltb, not, ◌&&◌, ◌||◌, List, [], ◌∷◌, length, Option, Some, None, IsSome, is_some, option_map, option_and_then, unwrap_or, refl, sym, ap, ◌∙◌, subst, arith}
use Rattle.std.proofs.lemmas.Bool.Decides.{nat_tests}
use Rattle.a429_profile.specs.Profile.{Contents}
use Rattle.a429_profile.specs.declared.codes.Codes.{Codes}
use Rattle.a429_ldu.specs.Carried.{bytes_carried, bytes_in, if_some, paired, semis_in_words, semis_of_words}
use Rattle.a429_ldu.specs.CheckWord.{agrees}
use Rattle.a429_link.specs.Sink.{end_word, Block, Granted, InBlock, Number, OwesAck, OwesClear, OwesNak, Quiet, Sink, SinkPhase, at_end, is_good, may_come, number_of, takes_end}
use Rattle.a429_link.specs.Observer.{HasGrant}
use Rattle.a429_link.specs.declared.why.Why.{Why}
use Rattle.a429_link.specs.Why.{are_half, block_in, why_bad}

pub mapped_some : (o : Option (List ℕ)) (n : ℕ) → is_some (option_map (λ bytes. n ∷ bytes) o) ≡ is_some o
mapped_some None n = refl
mapped_some (Some bs) n = refl

pub mapped_some_too : (o : Option (List ℕ)) (n : ℕ) → is_some (if_some (option_map (λ bytes. n ∷ bytes) o)) ≡ is_some o
mapped_some_too None n = refl
mapped_some_too (Some bs) n = refl

-- semi-octets are those of bytes where they are even in number
pub pairs_even : (ss : List ℕ) → is_some (paired ss) ≡ not (eqb (length ss % 2) 1)
pairs_even [] = refl
pairs_even (l ∷ []) = refl
pairs_even (l ∷ h ∷ ss) =
    let same : length ss % 2 ≡ suc (suc (length ss)) % 2 = omega arith in
    mapped_some (paired ss) (l + 16 * h) ∙ pairs_even ss ∙ ap (λ n. not (eqb n 1)) same

pairs_whole : (ss : List ℕ) → is_some (if_some (paired ss)) ≡ not (are_half (length ss))
pairs_whole [] = refl
pairs_whole (l ∷ []) = refl
pairs_whole (l ∷ h ∷ ss) =
    let same : length ss % 2 ≡ suc (suc (length ss)) % 2 = omega arith in
    mapped_some_too (paired ss) (l + 16 * h) ∙ pairs_even ss ∙ ap (λ n. not (eqb n 1)) same
    ∙ no_few (eqb (suc (suc (length ss)) % 2) 1) (length ss)
  where
    no_few : (t : Bool) (n : ℕ) → not t ≡ not (t || ltb (suc (suc n)) 2)
    no_few true n = refl
    no_few false n = grind (arith, nat_tests)

pub carries_where : (c : Codes) (ws : List ℕ) → is_some (bytes_carried c ws) ≡ not (are_half (semis_in_words c ws))
carries_where c ws = by (semis_of_words c ws)
  where
    by : (o : Option (List ℕ)) → is_some (if_some (option_and_then paired o)) ≡ not (are_half (length (unwrap_or o [])))
    by None = refl
    by (Some ss) = pairs_whole ss

-- the first reason of four, and whether none holds
first_reason : (a m c d : Bool) (x y z w : Why)
    → (cond (not a) (Some x) (cond m (Some y) (cond (not c) (Some z) (cond (not d) (Some w) None))) ≡ None)
    ↔ ((a && (not m && (c && d))) ≡ true)
first_reason false m c d x y z w = (λ e. cc e, λ e. cc e)
first_reason true true c d x y z w = (λ e. cc e, λ e. cc e)
first_reason true false false d x y z w = (λ e. cc e, λ e. cc e)
first_reason true false true false x y z w = (λ e. cc e, λ e. cc e)
first_reason true false true true x y z w = (λ e. refl, λ e. refl)

pub none_where_good : (p : Contents) (last : Option Number) (count : ℕ) (b : Block) (check : ℕ)
    → (why_bad p last count (Some b) check ≡ None) ↔ (is_good p last count b check ≡ true)
none_where_good p last count b check =
    let agree = agrees p.check (bytes_in p.codes b.words) check in
    let may = may_come p.codes last (number_of b) in
    let asked = eqb (length b.words + 2) count in
    subst (λ t. (why_bad p last count (Some b) check ≡ None) ↔ ((asked && (t && (agree && may))) ≡ true))
    (sym (carries_where p.codes b.words))
    (first_reason asked (are_half (semis_in_words p.codes b.words)) agree may _ _ _ _)

owed_where : (t : Bool) (o : Option Why) (b : Block) (flags : ℕ)
    → (o ≡ None) ↔ (t ≡ true) → (cond t (OwesAck b flags) OwesNak ≡ OwesNak) ↔ IsSome o
owed_where true None b flags e = (λ h. cc h, λ h. absurd (cc h))
owed_where true (Some x) b flags e = absurd (cc (e.1 refl))
owed_where false None b flags e = absurd (cc (e.0 refl))
owed_where false (Some x) b flags e = (λ h. refl, λ h. refl)

end_owes : (p : Contents) (last : Option Number) (count flags check : ℕ) (phase : SinkPhase)
    → HasGrant phase → (at_end p last count (end_word flags check) phase ≡ OwesNak) ↔ IsSome (why_bad p last count (block_in phase) check)
end_owes p last count flags check Granted g = (λ h. refl, λ h. refl)
end_owes p last count flags check (InBlock b) g =
    owed_where (is_good p last count b check) (why_bad p last count (Some b) check) b flags (none_where_good p last count b check)
end_owes p last count flags check Quiet g = absurd g
end_owes p last count flags check OwesClear g = absurd g
end_owes p last count flags check (OwesAck b f) g = absurd g
end_owes p last count flags check OwesNak g = absurd g

pub owes_where_bad : (p : Contents) (k : Sink) (flags check : ℕ)
    → HasGrant k.phase → ((takes_end p flags check k).phase ≡ OwesNak) ↔ IsSome (why_bad p k.last k.count (block_in k.phase) check)
owes_where_bad p k flags check g = end_owes p k.last k.count flags check k.phase g
