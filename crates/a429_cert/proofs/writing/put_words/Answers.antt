use Rattle.std.proofs.Common.{◌≡◌, ◌+◌, ◌<◌, length, ap, arith, rules, vec_len, vec_capacity, take}
use Rattle.std.proofs.lemmas.List.{length-append}
use Rattle.a429_word.specs.Digits.{hex_text}
use Rattle.a429_cert.specs.Field.{field}
use Rattle.a429_cert.proofs.WritingFacts.{front-then, no_room}
use Rattle.a429_cert.proofs.ReadingFacts.{words_text}
use Rattle.a429_cert.proofs.Options.{on_err}
use Rattle.a429_cert.proofs.writing.put_words.Goals as goal

pub returns-in_err-put_word-clause-appends : goal.returns-in_err-put_word-clause-appends
returns-in_err-put_word-clause-appends c =
    let i = c.loop-word.word-index in
    let done = words_text (take i c.args.words.now) in
    let len : vec_len c.loop-word.out ≡ vec_len c.args.out.now + length done =
    omega (arith, ap length c.loop-word.invariant.items, length-append c.args.out.now.items done) in
    let full : vec_capacity c.loop-word.out < vec_len c.loop-word.out + length (field (hex_text c.to_u32.result)) = search rules in (
      search rules,
      on_err c.from_residual.result
          (no_room c.args.words.now i c.to_u32.result (vec_capacity c.args.out.now) (vec_capacity c.loop-word.out) (vec_len c.args.out.now)
          (vec_len c.loop-word.out)
          c.loop-word-test.true c.loop-word.invariant.room len full),
      omega (arith, c.loop-word.invariant.room, c.put_word.ensures.2),
      front-then c.args.out.now.items c.loop-word.out.items c.put_word.new.out.items done c.loop-word.invariant.items c.put_word.ensures.3,
    )
