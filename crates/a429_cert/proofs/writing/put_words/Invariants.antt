use Rattle.std.proofs.Common.{◌≡◌, ◌++◌, ◌≤◌, take, vec_capacity}
use Rattle.std.specs.List.{flat_map}
use Rattle.a429_word.specs.Digits.{hex_text}
use Rattle.a429_cert.specs.Line.{AreHeld}
use Rattle.a429_cert.specs.Field.{field}
use Rattle.a429_cert.proofs.writing.put_words.Given as goal

abbrev pub invariant-loop-word : goal.invariant-loop-word
invariant-loop-word l = record {
  items : l.out.items ≡ l.fn.out.items ++ flat_map (λ w. field (hex_text w)) (take l.word-index l.words);
  held : AreHeld (take l.word-index l.words);
  room : vec_capacity l.fn.out ≤ vec_capacity l.out;
}
