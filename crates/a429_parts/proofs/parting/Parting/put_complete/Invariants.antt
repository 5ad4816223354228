use Rattle.std.proofs.Common.{◌≤◌, ℕ, Option, List, length}
use Rattle.a429_word.specs.declared.sheet.Sheet.{Sheet}
use Rattle.a429_profile.specs.Profile.{Contents}
use Rattle.a429_record.specs.declared.entry.Entry.{Entry}
use Rattle.a429_parts.specs.Cutter.{IsInReach}
use Rattle.a429_parts.specs.Parts.{PutParts}
use Rattle.a429_parts.specs.Parting.{Progress, outputs}
use Rattle.a429_parts.proofs.parting.Parting.put_complete.Given as goal

-- what the parts so far are, they are after each of the loop's turns
abbrev pub invariant-parts : goal.invariant-parts
invariant-parts g l = record {
  reach : IsInReach l.initial.self.cutter → IsInReach l.self.cutter;
  few : length l.self.cutter.waiting ≤ length l.initial.self.cutter.waiting;
  goes : (p : Contents) (most : ℕ) (known : Option PutParts) (first : Sheet g.row.W.Denot) (es : List Entry)
      → Progress p most l.at_end
      (outputs g.W.Write.contents known (g.P.Parts.known l.initial.parts) first l.initial.sheet) es l.initial.self
      → Progress p most l.at_end (outputs g.W.Write.contents known (g.P.Parts.known l.parts) first l.sheet) es l.self;
}

abbrev pub decreases-parts : goal.decreases-parts
decreases-parts g l = length l.self.cutter.waiting
