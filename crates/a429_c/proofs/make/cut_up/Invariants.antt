use Rattle.std.proofs.Common.{◌≡◌, ◌++◌, length, take, map}
use Rattle.std.specs.List.{flat_map}
use Rattle.a429_c.proofs.make.cut_up.Given as goal

abbrev pub invariant-loop-i : goal.invariant-loop-i
invariant-loop-i l = record {
  joined : flat_map (λ f. f) (map (λ f. f.items) l.files.items) ++ l.rest ≡ l.bytes;
  long : map length (map (λ f. f.items) l.files.items) ≡ take l.i l.lengths;
}
