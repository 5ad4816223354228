use Rattle.std.proofs.Common.{◌≡◌, List, ℕ, false}
use Rattle.std.specs.Io.KnownBytes.{Consumes}
use Rattle.a429_word.specs.Tally.{left_of, has_failed, unread, Puts}
use Rattle.a429_commands.proofs.engines.upgrade.copy.Given as goal

abbrev pub invariant-pieces : goal.invariant-pieces
invariant-pieces g l = record {
  moved : List ℕ;
  read : Consumes (unread g.R.Read.remaining l.initial.cert) (unread g.R.Read.remaining l.cert) moved;
  written : Puts g.C.Write.contents l.initial.new_cert l.new_cert moved;
  works : has_failed l.new_cert ≡ false;
}

abbrev pub decreases-pieces : goal.decreases-pieces
decreases-pieces g l = left_of l.cert
