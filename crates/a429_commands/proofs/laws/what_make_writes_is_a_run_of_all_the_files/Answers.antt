use Rattle.a429_commands.proofs.MakeCrossed.{made_cross}
use Rattle.a429_commands.proofs.MakeBytes.{made_says}
use Rattle.a429_commands.proofs.laws.what_make_writes_is_a_run_of_all_the_files.Goals as goal

pub returns : goal.returns
returns c = record {
  recording = λ profile text files (small, made). made_says profile files text small made;
  words = λ p files is (small, none). made_cross p files is small none;
}
