-- The lines of the words inside a block, as one text (profile).
use Rattle.std.specs.Prelude.{ℕ, zero, suc, List, [], ◌∷◌, ◌++◌, length}
use Rattle.a429_cert.specs.Likely.{sent_text, taken_text}

-- both lines of word k of a block, each begun with the line feed that ends the line before it
abbrev pub word_lines : ℕ → List ℕ
word_lines k = 10 ∷ (sent_text k ++ 10 ∷ taken_text k)

-- the lines of so many words, from word k on
abbrev pub block_lines : ℕ → ℕ → List ℕ
block_lines k zero = []
block_lines k (suc n) = word_lines k ++ block_lines (suc k) n

-- how many bytes come before the lines of word k
abbrev pub start_of : ℕ → ℕ
start_of k = length (block_lines 0 k)
