use Rattle.std.proofs.Common.{◌∙◌, Err, ap, refl}
use Rattle.std.proofs.lemmas.Bool.{false_from_ne_true}
use Rattle.std.proofs.lemmas.Result.{err_from_is_err_and}
use Rattle.a429_commands.specs.Ends.{answered, cut_off, refused}
use Rattle.a429_commands.proofs.engines.pack.run_pack.Goals as goal

pub returns-in_err-entries : goal.returns-in_err-entries
returns-in_err-entries g c =
    let p = err_from_is_err_and c.from_residual.result c.from_residual.ensures.1 in
    refused _ (p.1 ∙ ap Err p.2) c.in_err-entries.ensures.err refl

pub returns-in_err-write_binary : goal.returns-in_err-write_binary
returns-in_err-write_binary g c =
    let p = err_from_is_err_and c.from_residual-in_err-write_binary.result c.from_residual-in_err-write_binary.ensures.1 in
    let written = rw c.as_slice.ensures.value at c.in_err-write_binary.ensures.written in
    cut_off _ (p.1 ∙ ap Err p.2) (record {
      entries = c.in_ok-entries.entries.items;
      stand = c.in_ok-entries.ensures.ok;
      works = c.in_ok-entries.ensures.device;
      form = refl;
    }) (c.in_err-write_binary.ensures.device.0 refl) written.prefix

pub returns : goal.returns
returns g c =
    let written = rw c.as_slice.ensures.value at c.in_ok-write_binary.ensures.written in
    let works = false_from_ne_true _ (λ failed. absurd (cc (c.in_ok-write_binary.ensures.device.1 failed))) in
    answered 0 _ refl (
      refl,
      record {
        entries = c.in_ok-entries.entries.items;
        stand = c.in_ok-entries.ensures.ok;
        works = c.in_ok-entries.ensures.device;
        form = refl;
      },
    ) works (written.all works)
