use Rattle.std.proofs.Common.{sym, ◌∙◌, ap, refl, rules, ◌++◌, inr}
use Rattle.std.specs.Option.{option_to_list}
use Rattle.std.proofs.lemmas.List.{nil_from_length}
use Rattle.std.specs.Slice.Iter.{chunks_rest}
use Rattle.a429_ldu.specs.Semis.{semis_of_bytes}
use Rattle.a429_ldu.proofs.CarriedFacts.{more_read, none_read, all_read, answer_none, pieces_some, pieces_none}
use Rattle.a429_ldu.proofs.carried.bytes_of.Goals as goal

pub loop-piece-preserved : goal.loop-piece-preserved
loop-piece-preserved c =
    let steps = c.in-Some.ensures.steps in
    let before = c.loop-piece.invariant in (
      search rules,
      tt,
      steps.0 ∙ before.2,
      more_read c.args.profile.now.codes (chunks_rest c.loop-piece.piece-iterator) c.in-Some.piece.now (chunks_rest c.next.new.self)
          c.loop-piece.bytes.items c.new-made.result.items c.carry.new.bytes.items _ c.loop-piece.low c.in-Some-carry.left _
          steps.1.0 c.new-made.ensures c.in-Some-carry.ensures.semis
          (c.in_ok-extend_from_slice.ensures.items ∙ ap (λ xs. c.loop-piece.bytes.items ++ xs) c.deref.ensures.0) before.3,
      c.in-Some-carry.ensures.low,
      inr c.carry.ensures.sound,
    )

pub returns-in_default-clause-computed : goal.returns-in_default-clause-computed
returns-in_default-clause-computed c =
    let steps = c.in-Some.ensures.steps in
    sym (none_read c.args.profile.now.codes c.args.words.now (chunks_rest c.loop-piece.piece-iterator) c.in-Some.piece.now
    (chunks_rest c.next.new.self) (semis_of_bytes c.loop-piece.bytes.items ++ option_to_list c.loop-piece.low) steps.1.0
    (c.carry.ensures.none c.in_default.is) c.loop-piece.invariant.3)

pub returns-in_default-clause-none : goal.returns-in_default-clause-none
returns-in_default-clause-none c _ =
    answer_none c.args.profile.now c.carry.ensures.sound c.args.words.now (sym (returns-in_default-clause-computed c))

pub returns-then-are_whole-clause-computed : goal.returns-then-are_whole-clause-computed
returns-then-are_whole-clause-computed c =
    let none = nil_from_length _ c.in-None.ensures.steps.1.0 in
    sym (rw c.deref-2.ensures.value at c.if-are_whole.ensures.yes refl)
    ∙ all_read c.args.profile.now.codes c.args.words.now _ _ none c.loop-piece.invariant.3

pub returns-then-are_whole-clause-some : goal.returns-then-are_whole-clause-some
returns-then-are_whole-clause-some c =
    pieces_some c.args.profile.now c.args.words.now _ _ (nil_from_length _ c.in-None.ensures.steps.1.0) c.loop-piece.invariant.5
    (returns-then-are_whole-clause-computed c)

pub returns-else-are_whole-clause-computed : goal.returns-else-are_whole-clause-computed
returns-else-are_whole-clause-computed c =
    let none = nil_from_length _ c.in-None.ensures.steps.1.0 in
    sym (rw c.deref-2.ensures.value at c.if-are_whole.ensures.no refl)
    ∙ all_read c.args.profile.now.codes c.args.words.now _ _ none c.loop-piece.invariant.3

pub returns-else-are_whole-clause-none : goal.returns-else-are_whole-clause-none
returns-else-are_whole-clause-none c _ =
    pieces_none c.args.profile.now c.args.words.now _ (nil_from_length _ c.in-None.ensures.steps.1.0) c.loop-piece.invariant.5
    (returns-else-are_whole-clause-computed c)

pub returns-in_default-clause-some : goal.returns-in_default-clause-some
returns-in_default-clause-some c = search rules
