use Rattle.std.proofs.Common.{◌≡◌, ℕ, ◌∷◌, [], ◌++◌, length, ◌∙◌, ap, arith}
use Rattle.a429_cert.specs.Likely.{values_below}
use Rattle.a429_cert.specs.BlockText.{block_lines, start_of}
use Rattle.a429_cert.proofs.BlockTextFacts.{word_more, start_more}
use Rattle.a429_cert.proofs.block_text.BlockText.new.Goals as goal

pub words-preserved : goal.words-preserved
words-preserved c =
    let size : c.len.result ≡ length c.words.text.items = omega (arith, c.len.ensures) in
    record {
      text =
          word_more c.words.k c.words.text.items c.push_line.new.text.items c.push_line-in-words.new.text.items _ _ c.words.invariant.text
          c.sent_line.ensures c.taken_line.ensures c.in_ok-push_line.ensures c.in_ok-push_line-2.ensures;
      starts =
          start_more c.words.k c.words.starts.items c.push.new.self.items c.words.text.items c.words.invariant.starts
          (c.in_ok-push.ensures.items ∙ ap (λ (n : ℕ). c.words.starts.items ++ n ∷ []) size) c.words.invariant.text;
    }

pub invariant_of-result : goal.invariant_of-result
invariant_of-result c =
    let end : c.words.k ≡ 254 = omega (arith, c.words-test.false, c.words.auto.k-end) in
    let size : c.len-2.result ≡ length c.words.text.items = omega (arith, c.len-2.ensures) in
    let text : c.words.text.items ≡ block_lines 0 254 = c.words.invariant.text ∙ ap (block_lines 0) end in
    record {
      whole = text;
      parts =
          start_more 254 c.words.starts.items c.push-2.new.self.items c.words.text.items
          (c.words.invariant.starts ∙ ap (λ (n : ℕ). values_below start_of n) end)
          (c.in_ok-push-2.ensures.items ∙ ap (λ (n : ℕ). c.words.starts.items ++ n ∷ []) size) text;
    }
