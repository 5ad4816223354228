use Rattle.std.proofs.Common.{◌≡◌, ◌-◌}
use Rattle.a429_cert.specs.Reading.{words_at}
use Rattle.a429_cert.proofs.ReadingWords.{with_front}
use Rattle.a429_cert.proofs.reading.words_at.Given as goal

abbrev pub invariant-words : goal.invariant-words
invariant-words l = with_front l.words.items (words_at (l.count - l.counter) l.rest) ≡ words_at l.count l.text
