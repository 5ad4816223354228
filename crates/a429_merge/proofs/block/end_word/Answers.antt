use Rattle.std.proofs.Common.{◌≡◌, ℕ, Some, Vec, Global, option_map, refl, sym, ap, ◌∙◌}
use Rattle.a429_profile.specs.declared.codes.Check.{Check}
use Rattle.a429_ldu.specs.Carried.{bytes_carried}
use Rattle.a429_ldu.specs.CheckWord.{check_of}
use Rattle.a429_merge.proofs.BlockFacts.{end_made, made, recorded}
use Rattle.a429_merge.proofs.block.end_word.Goals as goal
use Rattle.a429_merge.proofs.block.end_word.Goals.{After-check_word_by-check}

-- the bytes of the data words, and their check word
carried : (a : After-check_word_by-check) → bytes_carried a.args.profile.now.codes a.args.words.now ≡ Some a.in-Some.bytes.items
carried a = sym a.in_ok-bytes.ensures.computed ∙ ap (option_map (λ (v : Vec ℕ Global). v.items)) a.in-Some.is

check_made : (a : After-check_word_by-check) → a.check_word_by-check.result ≡ check_of a.args.profile.now.check a.in-Some.bytes.items
check_made a =
    a.check_word_by-check.ensures ∙ ap (λ (r : Check). check_of r a.deref.result.now) a.check_tables.ensures
    ∙ ap (check_of a.args.profile.now.check) a.deref.ensures.value

pub returns-then-is_some-clause-check : goal.returns-then-is_some-clause-check
returns-then-is_some-clause-check c =
    recorded c.args.profile.now c.codes-codes.ensures.sound c.args.words.now c.args.recorded c.requires.fits

pub returns-clause-check : goal.returns-clause-check
returns-clause-check c =
    let a = (goal.at.returns-clause-check c).After-check_word_by-check in
    made c.args.profile.now c.codes-codes.ensures.sound c.args.words.now c.in-Some.bytes.items c.check_word_by-check.result (carried a)
    (check_made a)

pub returns-clause-made : goal.returns-clause-made
returns-clause-made c =
    let a = (goal.at.returns-clause-made c).After-check_word_by-check in
    end_made c.args.profile.now c.args.words.now c.in-Some.bytes.items c.args.recorded
    (record { flags = 0; check = c.check_word_by-check.result }) (carried a) refl (check_made a)
