use Rattle.std.proofs.Common.{◌≤◌, ◌<◌, ◌+◌, ◌^◌, length}
use Rattle.a429_commands.proofs.PartListFacts.{IsReadTo}
use Rattle.a429_commands.proofs.engines.part_list.read_parts.Given as goal

abbrev pub invariant-lines : goal.invariant-lines
invariant-lines l = record {
  read : IsReadTo l.text l.counts.items l.rest l.number l.from;
  small : l.from < 10 ^ 19;
  room : l.number + length l.rest ≤ length l.text + 1;
}

abbrev pub decreases-lines : goal.decreases-lines
decreases-lines l = length l.rest
