use Rattle.std.proofs.Common.{◌≡◌}
use Rattle.a429_cert.specs.Likely.{values_below}
use Rattle.a429_cert.specs.BlockText.{block_lines, start_of}
use Rattle.a429_cert.proofs.block_text.BlockText.new.Given as goal

abbrev pub invariant-words : goal.invariant-words
invariant-words l = record {
  text : l.text.items ≡ block_lines 0 l.k;
  starts : l.starts.items ≡ values_below start_of l.k;
}
