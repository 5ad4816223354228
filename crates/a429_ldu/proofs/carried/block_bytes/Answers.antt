use Rattle.std.proofs.Common.{sym, ◌∙◌, refl}
use Rattle.std.proofs.lemmas.List.{take_rest}
use Rattle.a429_ldu.proofs.CarriedFacts.{carried-read, carried-none, carries_of, answer_none, parts_read, none_in_part}
use Rattle.a429_ldu.proofs.carried.block_bytes.Goals as goal

pub returns-then-are_whole-clause-computed : goal.returns-then-are_whole-clause-computed
returns-then-are_whole-clause-computed c =
    let n = c.carry_pairs-paired.result in
    let words = c.args.words.now in
    sym (rw c.deref.ensures.0 at c.if-are_whole.ensures.yes refl)
    ∙ carried-read c.args.profile.now.codes words c.new-bytes.result.items _ c.new-bytes.ensures
    (parts_read c.args.profile.now.codes words _ n _ _ _ (take_rest words n) c.carry_pairs-paired.ensures.semis c.in_ok-low.ensures.semis)

pub returns-then-are_whole-clause-some : goal.returns-then-are_whole-clause-some
returns-then-are_whole-clause-some c =
    carries_of c.args.profile.now c.carry.ensures.sound c.args.words.now _ (sym (returns-then-are_whole-clause-computed c))

pub returns-else-are_whole-clause-computed : goal.returns-else-are_whole-clause-computed
returns-else-are_whole-clause-computed c =
    let n = c.carry_pairs-paired.result in
    let words = c.args.words.now in
    sym (rw c.deref.ensures.0 at c.if-are_whole.ensures.no refl)
    ∙ carried-read c.args.profile.now.codes words c.new-bytes.result.items _ c.new-bytes.ensures
    (parts_read c.args.profile.now.codes words _ n _ _ _ (take_rest words n) c.carry_pairs-paired.ensures.semis c.in_ok-low.ensures.semis)

pub returns-else-are_whole-clause-none : goal.returns-else-are_whole-clause-none
returns-else-are_whole-clause-none c _ =
    answer_none c.args.profile.now c.carry.ensures.sound c.args.words.now (sym (returns-else-are_whole-clause-computed c))

pub returns-in_err-low-clause-computed : goal.returns-in_err-low-clause-computed
returns-in_err-low-clause-computed c =
    let words = c.args.words.now in
    rw c.from_residual.ensures
    (sym (carried-none c.args.profile.now.codes words (none_in_part c.args.profile.now.codes words _ c.carry_pairs-paired.result
    (take_rest words c.carry_pairs-paired.result) (c.carry.ensures.none c.in_err-low.was))))

pub returns-in_err-low-clause-none : goal.returns-in_err-low-clause-none
returns-in_err-low-clause-none c _ =
    let words = c.args.words.now in
    answer_none c.args.profile.now c.carry.ensures.sound words
    (carried-none c.args.profile.now.codes words (none_in_part c.args.profile.now.codes words _ c.carry_pairs-paired.result
    (take_rest words c.carry_pairs-paired.result) (c.carry.ensures.none c.in_err-low.was)))
