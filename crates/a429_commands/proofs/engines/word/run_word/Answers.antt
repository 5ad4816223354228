use Rattle.std.proofs.Common.{◌∙◌, ap}
use Rattle.a429_commands.specs.Word.{of_word}
use Rattle.a429_view.specs.Word.{word_lines}
use Rattle.a429_commands.proofs.EndsFacts.{ends}
use Rattle.a429_commands.proofs.engines.word.run_word.Goals as goal

pub returns : goal.returns
returns g c =
    ends (of_word c.args.text.now) c.word_in.result c.word_in.ensures.ok
    (λ w is. record {
      says = λ status text here. (here.0, (is.0, here.1 ∙ ap word_lines is.1));
      begins = λ text here. (is.0, here ∙ ap word_lines is.1);
      no_room = λ e. absurd e;
    })
    c.word_in.ensures.err c.write_at_once.ensures
