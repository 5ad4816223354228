-- After an attempt that was acknowledged: the hypotheses make nothing up.
use Rattle.std.proofs.Common.{◌≡◌, ℕ, zero, suc, ◌+◌, ◌%◌, ◌≤◌, Bool, true, false, List, [], ◌∷◌, length, Option, Some, None, IfSome, IsSomeAnd, is_some, slice_get, refl, sym, ap, ◌∙◌, subst, inl, inr, arith}
use Rattle.a429_profile.specs.Profile.{Contents}
use Rattle.a429_ldu.specs.Ldu.{LduValue, is_final, ldu_of}
use Rattle.a429_link.specs.declared.number.UnitNumber.{UnitNumber}
use Rattle.a429_link.specs.Assignment.{Assigned, IsSound, LeavesFor}
use Rattle.a429_link.specs.Number.{next_number}
use Rattle.a429_link.specs.Run.{IsSubsequenceOf}
use Rattle.a429_link.proofs.NumberFacts.{next_byte}
use Rattle.a429_link.proofs.Subsequence.{sub_length}
use Rattle.a429_search.specs.declared.attempts.Attempt.{Attempt}
use Rattle.a429_search.specs.declared.attempts.StartWord.{StartWord}
use Rattle.a429_merge.specs.declared.pieces.EndWord.{EndWord}
use Rattle.a429_merge.specs.declared.pieces.GroupPieces.{GroupPieces}
use Rattle.a429_search.specs.declared.groups.Group.{Group}
use Rattle.a429_search.specs.declared.searching.Hypothesis.{Hypothesis}
use Rattle.a429_search.specs.declared.standing.Standing.{Standing}
use Rattle.a429_merge.specs.Block.{MayBeUnitOf}
use Rattle.a429_search.specs.Frontier.{AreAt, AreCarried, AreHeard, CanSend, FitsGroup, IsHeardBy, IsReal, SomeSays}
use Rattle.a429_search.specs.Recorded.{MayBeOf, MayBeTo, number_of}
use Rattle.a429_search.specs.Standing.{CanBe, CanStand, IsAt, IsHeard, IsRegular}
use Rattle.a429_search.proofs.SearchingFacts.{at_of}
use Rattle.a429_search.proofs.SoundFacts.{says_some}
use Rattle.a429_search.proofs.StandingFacts.{at_can, at_regular}

-- ---- the link data unit of a block that was recorded whole

sub_same : (xs ys : List ℕ) → IsSubsequenceOf xs ys → length xs ≡ length ys → xs ≡ ys
sub_same xs [] h e = h
sub_same xs (y ∷ ys) (inl h) e = absurd (omega (arith, e, sub_length xs ys h))
sub_same xs (y ∷ ys) (inr (zs, is, h)) e = is ∙ ap (λ (l : List ℕ). y ∷ l) (sub_same zs ys h (omega (arith, e, ap length is)))

gfi_by : (o : Option StartWord) (s : StartWord) (n : ℕ) → o ≡ Some s → IfSome o (λ x. n ≡ x.gfi) → n ≡ s.gfi
gfi_by o s n is h = subst (λ (q : Option StartWord). IfSome q (λ x. n ≡ x.gfi)) is h

end_is : (o : Option EndWord) (e : EndWord) (u : LduValue)
    → o ≡ Some e → IfSome o (λ x. (u.flags ≡ x.flags) × (u.check ≡ x.check)) → (u.flags ≡ e.flags) × (u.check ≡ e.check)
end_is o e u is h = subst (λ (q : Option EndWord). IfSome q (λ x. (u.flags ≡ x.flags) × (u.check ≡ x.check))) is h

words_are : (p : Contents) (a : Attempt) (u : LduValue) → length a.words.items + 2 ≡ a.count → MayBeOf p a u → a.words.items ≡ u.words
words_are p a u all may = sub_same a.words.items u.words may.words (omega (arith, all, may.count))

unit_is : (p : Contents) (a : Attempt) (s : StartWord) (e : EndWord) (u v : LduValue)
    → a.start ≡ Some s → a.end ≡ Some e → length a.words.items + 2 ≡ a.count → MayBeOf p a u → MayBeOf p a v → u ≡ v
unit_is p a s e u v starts ends all mu mv =
    let eu = end_is a.end e u ends mu.end in
    let ev = end_is a.end e v ends mv.end in
    ap (λ (n : ℕ). ldu_of n u.flags u.check u.words) (gfi_by a.start s u.gfi starts mu.gfi ∙ sym (gfi_by a.start s v.gfi starts mv.gfi))
    ∙ ap (λ (n : ℕ). ldu_of v.gfi n u.check u.words) (eu.0 ∙ sym ev.0)
    ∙ ap (λ (n : ℕ). ldu_of v.gfi v.flags n u.words) (eu.1 ∙ sym ev.1)
    ∙ ap (λ (l : List ℕ). ldu_of v.gfi v.flags v.check l) (sym (words_are p a u all mu) ∙ words_are p a v all mv)

-- ---- the group that all have become

pub fits_group : (p : Contents) (o : Option Group) (g : Group) (u : LduValue)
    → IsSomeAnd o (λ x. (x.pieces ≡ g.pieces) × (x.unit ≡ g.unit)) → MayBeUnitOf p g.pieces u → FitsGroup p o u
fits_group p None g u same is = absurd same
fits_group p (Some x) g u same is = subst (λ (y : GroupPieces). MayBeUnitOf p y u) (sym same.0) is

pub one_group : (p : Contents) (o : Option Group) (g : Group) → IsSomeAnd o (λ x. (x.pieces ≡ g.pieces) × (x.unit ≡ g.unit))
    → (x : Group) × (o ≡ Some x) × ((u : LduValue) → MayBeUnitOf p x.pieces u → MayBeUnitOf p g.pieces u)
    × (MayBeUnitOf p g.pieces g.unit → MayBeUnitOf p x.pieces x.unit)
one_group p None g same = absurd same
one_group p (Some x) g same = (
  x,
  refl,
  λ u is. subst (λ (y : GroupPieces). MayBeUnitOf p y u) same.0 is,
  λ is. subst (λ (y : GroupPieces). MayBeUnitOf p y x.unit) (sym same.0) (subst (MayBeUnitOf p g.pieces) (sym same.1) is),
)

-- ---- the two hypotheses

says_of : (p : Contents) (s : Standing) (o : Option Group)
    → is_some o ≡ true → IsReal p s o → (t : Assigned) × IsSound p t × CanSend p s o t
says_of p s None is real = absurd (cc is)
says_of p s (Some g) is real = says_some p s g real

module _ (p : Contents) (a : Attempt) (next hyps : List Hypothesis) (carried : AreCarried p hyps a next) (start : StartWord) (end : EndWord)
    (starts : a.start ≡ Some start) (ends : a.end ≡ Some end) (all : length a.words.items + 2 ≡ a.count)
    (at : AreAt (number_of a.start) next) (k : ℕ) (h : Hypothesis) (is : slice_get next k ≡ Some h) where
  at_h : IsAt start.number h.standing
  at_h = at_of a.start start next starts at k h is

  real_h : IsReal p h.standing h.group
  real_h = (carried k h is).from.real

  says_h : (t : Assigned) × IsSound p t × CanSend p h.standing h.group t
  says_h = says_of p h.standing h.group (carried k h is).from.group real_h

  may_h : MayBeTo p a says_h.0
  may_h = ((carried k h is).from.comes says_h.0 says_h.1 says_h.2).0

  file_h : start.number.file ≤ 255
  file_h = subst (λ (o : Option UnitNumber). IfSome o (λ n. n.file ≤ 255)) at_h.known real_h.standing.file

  ldu_h : start.number.ldu ≤ p.codes.first_ldu + 254
  ldu_h =
      subst (λ (o : Option UnitNumber). IfSome o (λ n. n.ldu ≤ p.codes.first_ldu + 254)) at_h.known
      (real_h.standing.loaded (carried k h is).from.group at_h.since)

  few_h : h.standing.give_ups ≤ 127
  few_h = let few = real_h.standing.few in omega (arith, few, at_h.since)

  -- all hypotheses in one
  module _ (one : Hypothesis) (g : Group) (group : one.group ≡ Some g) (at_one : IsAt start.number one.standing)
      (gave : one.standing.give_ups ≡ h.standing.give_ups) (only : (u : LduValue) → MayBeUnitOf p g.pieces u → MayBeOf p a u)
      (unit : MayBeUnitOf p g.pieces g.unit) where
    one_says : (t : Assigned) → IsSound p t → CanSend p one.standing (Some g) t → SomeSays p next t
    one_says t sound can =
        let here = at_can p.codes.first_ldu one.standing start.number t.number t.give_ups at_one can.0 in
        let same = unit_is p a start end says_h.0.unit t.unit starts ends all may_h.unit (only t.unit can.1) in
        record {
          place = k;
          hypothesis = h;
          is = is;
          group = (carried k h is).from.group;
          says = (at_says h.standing at_h t here.0 (here.1 ∙ gave), subst (FitsGroup p h.group) same says_h.2.1);
        }
      where
        at_says : (s : Standing) → IsAt start.number s → (t : Assigned) → t.number ≡ start.number → t.give_ups ≡ s.give_ups
            → CanStand p.codes.first_ldu s t.number t.give_ups
        at_says s here t same gave =
            subst (λ (o : Option UnitNumber). CanBe p.codes.first_ldu o s.is_started s t.number t.give_ups) (sym here.known)
            (subst (λ (b : Bool). CanBe p.codes.first_ldu (Some start.number) b s t.number t.give_ups) (sym here.started) (same, gave))

    one_heard : IsReal p one.standing one.group × IsHeardBy p next one.standing one.group
    one_heard = (
      record {
        standing =
            subst (λ (o : Option Group). IsRegular p.codes.first_ldu one.standing (is_some o)) (sym group)
            (at_regular p.codes.first_ldu one.standing start.number at_one file_h ldu_h (omega (arith, gave, few_h)));
        unit = subst (λ (o : Option Group). IfSome o (λ x. MayBeUnitOf p x.pieces x.unit)) (sym group) unit;
      },
      subst (λ (o : Option Group). IsHeardBy p next one.standing o) (sym group) one_says,
    )

    -- beside it that of a source that has heard the acknowledgement
    module _ (heard : Hypothesis) (known : UnitNumber) (none : heard.group ≡ None) (here : IsHeard known heard.standing)
        (known_is : known ≡ next_number p.codes start.number (is_final p.codes end.flags)) where
      after : known ≡ next_number p.codes says_h.0.number (is_final p.codes says_h.0.unit.flags)
      after =
          let same = (at_can p.codes.first_ldu h.standing start.number says_h.0.number says_h.0.give_ups at_h says_h.2.0).0 in
          let flags = (end_is a.end end says_h.0.unit ends may_h.unit.end).0 in
          known_is ∙ ap (λ (n : UnitNumber). next_number p.codes n (is_final p.codes end.flags)) (sym same)
          ∙ ap (λ (f : ℕ). next_number p.codes says_h.0.number (is_final p.codes f)) (sym flags)

      leaves : (t : Assigned) → IsSound p t → CanStand p.codes.first_ldu heard.standing t.number t.give_ups
          → LeavesFor p.codes says_h.0 true t.number t.give_ups
      leaves t sound can =
          by (subst (λ (b : Bool). CanBe p.codes.first_ldu (Some known) b heard.standing t.number t.give_ups) here.started
          (subst (λ (o : Option UnitNumber). CanBe p.codes.first_ldu o heard.standing.is_started heard.standing t.number t.give_ups)
          here.known can))
        where
          by : CanBe p.codes.first_ldu (Some known) false heard.standing t.number t.give_ups
              → LeavesFor p.codes says_h.0 true t.number t.give_ups
          by (zero, low, number, gave) = inr (refl, inl (number ∙ after, omega (arith, gave, here.give_ups)))
          by (suc d, low, number, gave) =
              inr (
                refl,
                inr (
                  suc d,
                  omega arith,
                  ap (λ (n : UnitNumber). n.file) number ∙ ap (λ (n : UnitNumber). (n.file + suc d) % 256) after,
                  ap (λ (n : UnitNumber). n.ldu) number,
                  omega (arith, gave, here.give_ups),
                ),
              )

      heard_heard : IsReal p heard.standing heard.group × IsHeardBy p next heard.standing heard.group
      heard_heard = (
        record {
          standing = record {
            started = λ e. absurd (cc (e, here.started));
            file =
                subst (λ (o : Option UnitNumber). IfSome o (λ n. n.file ≤ 255)) (sym here.known)
                (subst (λ (n : UnitNumber). n.file ≤ 255) (sym known_is)
                (next_byte p.codes start.number (is_final p.codes end.flags) file_h));
            loaded = λ e z. absurd (cc (e, ap is_some none));
            few = omega (arith, here.give_ups, here.since);
          };
          unit = subst (λ (o : Option Group). IfSome o (λ x. MayBeUnitOf p x.pieces x.unit)) (sym none) tt;
        },
        subst (λ (o : Option Group). IsHeardBy p next heard.standing o) (sym none) (
          says_h.0,
          says_h.1,
          record { place = k; hypothesis = h; is = is; group = (carried k h is).from.group; says = says_h.2 },
          leaves,
        ),
      )

      pub are_heard : (both : List Hypothesis) → both ≡ one ∷ (heard ∷ []) → AreHeard p next both
      are_heard both same j x there = by j (subst (λ (l : List Hypothesis). slice_get l j ≡ Some x) same there)
        where
          by : (j : ℕ) → slice_get (one ∷ (heard ∷ [])) j ≡ Some x → IsReal p x.standing x.group × IsHeardBy p next x.standing x.group
          by zero e =
              let y : one ≡ x = cc e in
              subst (λ (z : Hypothesis). IsReal p z.standing z.group × IsHeardBy p next z.standing z.group) y one_heard
          by (suc zero) e =
              let y : heard ≡ x = cc e in
              subst (λ (z : Hypothesis). IsReal p z.standing z.group × IsHeardBy p next z.standing z.group) y heard_heard
          by (suc (suc j)) e = absurd (cc e)
