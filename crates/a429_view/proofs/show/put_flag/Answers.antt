use Rattle.std.proofs.Common.{◌≡◌, ◌∙◌, ◌+◌, ◌-◌, length, take, drop, ap, arith}
use Rattle.std.specs.Int.{bit_at}
use Rattle.std.proofs.lemmas.Nat.Bits.{shr_and_one, bit_at-lt}
use Rattle.a429_profile.specs.Flags.{text_with}
use Rattle.a429_profile.proofs.FlagsFacts.{both_texts-fit, both_texts-split}
use Rattle.a429_view.specs.Show.{flag_text}
use Rattle.a429_view.proofs.show.put_flag.Goals as goal
use Rattle.a429_view.proofs.show.put_flag.Goals.{then-is_set, else-is_set}

pub split_at-requires-2 : goal.split_at-requires-2
split_at-requires-2 g c =
    omega (arith, both_texts-fit c.args.flag.now c.args.texts.now c.requires.texts, ap length c.as_str.ensures, c.split_at.ensures.back_len)

pub returns-clause-says : goal.returns-clause-says
returns-clause-says g c =
    let flag = c.args.flag.now in
    let place = flag.bit - 11 in
    let bit = shr_and_one c.args.field place in
    let low = bit_at-lt c.args.field place in
    let len = length c.as_str.result.now + 3 in
    let parts = both_texts-split flag c.args.texts.now len (ap (λ n. length n + 3) c.as_str.ensures) c.requires.texts in
    let one = c.split_at-2.ensures.front ∙ ap (take len) c.split_at.ensures.back ∙ parts.1 in
    let zero = c.split_at.ensures.front ∙ parts.0 in
    let text : c.if-is_set.put.now ≡ flag_text c.args.field flag = elim c.if-is_set.branch [
      | then-is_set w ↦
          let is : 1 ≡ bit_at c.args.field place = omega (arith, bit, w.if-is_set.true) in rw w.put-is (one ∙ ap (λ b. text_with b flag) is)
      | else-is_set w ↦
          let is : 0 ≡ bit_at c.args.field place = omega (arith, bit, low, w.if-is_set.false) in
          rw w.put-is (zero ∙ ap (λ b. text_with b flag) is)
    ] in
    rw text at c.put.ensures

pub returns-clause-rest : goal.returns-clause-rest
returns-clause-rest g c =
    let len = length c.as_str.result.now + 3 in
    let parts = both_texts-split c.args.flag.now c.args.texts.now len (ap (λ n. length n + 3) c.as_str.ensures) c.requires.texts in
    c.split_at-2.ensures.back ∙ ap (drop len) c.split_at.ensures.back ∙ parts.2
