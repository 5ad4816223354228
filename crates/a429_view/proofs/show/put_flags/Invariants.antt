use Rattle.std.proofs.Common.{◌≡◌, take, drop}
use Rattle.std.specs.List.{flat_map}
use Rattle.a429_word.specs.Sheet.{Says}
use Rattle.a429_profile.specs.Flags.{both_texts}
use Rattle.a429_view.specs.Show.{flag_text}
use Rattle.a429_view.proofs.show.put_flags.Given as goal

abbrev pub invariant-loop-flag : goal.invariant-loop-flag
invariant-loop-flag g l = record {
  said : Says g.W.Write.contents l.initial.sheet l.sheet (flat_map (flag_text l.field) (take l.flag-index l.flags));
  rest : l.rest ≡ flat_map both_texts (drop l.flag-index l.flags);
}
