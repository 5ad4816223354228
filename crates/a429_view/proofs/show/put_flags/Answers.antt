use Rattle.std.proofs.Common.{◌≡◌, ◌∙◌, ◌+◌, ◌++◌, length, drop, ap, refl}
use Rattle.std.specs.List.{flat_map}
use Rattle.std.proofs.lemmas.List.{drop_at}
use Rattle.a429_word.proofs.SheetFacts.{◌▹◌}
use Rattle.a429_profile.specs.Flags.{both_texts}
use Rattle.a429_profile.proofs.FlagsFacts.{both_texts-rest}
use Rattle.a429_record.proofs.WritingTexts.{flat_map-more}
use Rattle.a429_view.specs.Show.{flag_text}
use Rattle.a429_view.proofs.show.put_flags.Goals as goal

pub loop-flag-preserved : goal.loop-flag-preserved
loop-flag-preserved g c =
    let flag = c.flag-item.result in
    let i = c.loop-flag.flag-index in
    let others = flat_map both_texts (drop (i + 1) c.args.flags.now) in
    let here : c.loop-flag.rest.now ≡ both_texts flag ++ others =
    c.loop-flag.invariant.rest ∙ both_texts-rest c.args.flags.now i flag c.loop-flag-test.true c.flag-item.is in
    record {
      said =
          rw (flat_map-more (flag_text c.args.field) c.args.flags.now i flag c.loop-flag-test.true c.flag-item.is)
          (c.loop-flag.invariant.said ▹ c.put_flag-rest.ensures.says);
      rest = c.put_flag-rest.ensures.rest ∙ ap (drop (length (both_texts flag))) here
          ∙ drop_at (both_texts flag) others (length (both_texts flag)) refl;
    }
