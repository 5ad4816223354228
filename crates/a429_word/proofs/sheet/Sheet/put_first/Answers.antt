use Rattle.std.proofs.Common.{refl}
use Rattle.a429_word.specs.Tally.{has_failed}
use Rattle.a429_word.specs.Sheet.{said}
use Rattle.a429_word.proofs.SheetFacts.{at_ok_where_it_works}
use Rattle.a429_word.proofs.sheet.Sheet.put_first.Goals as goal

pub returns : goal.returns
returns g c = said (record {
  same_out = refl;
  same_page = refl;
  all =
      λ works.
      at_ok_where_it_works c.put_first.result (has_failed c.put_first.new.out) c.put_first.ensures.ok c.put_first.ensures.device works;
  prefix = c.put_first.ensures.prefix;
  stays = c.put_first.ensures.stays;
})
