use Rattle.std.proofs.Common.{◌≡◌, ◌++◌, take}
use Rattle.a429_cert.specs.Line.{AreHeld}
use Rattle.a429_explain.specs.Note.{word_fields}
use Rattle.a429_explain.proofs.lines.Lines.put_words.Given as goal

abbrev pub invariant-loop-word : goal.invariant-loop-word
invariant-loop-word l = record {
  text : l.self ≡ l.fn.self ++ word_fields (take l.word-index l.words);
  held : AreHeld (take l.word-index l.words);
}
