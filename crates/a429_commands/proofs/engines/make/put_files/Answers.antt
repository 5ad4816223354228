use Rattle.std.proofs.Common.{◌≡◌, ◌+◌, ◌%◌, map, length, take, drop, refl, sym, ◌∙◌, subst, arith}
use Rattle.std.specs.List.{flat_map}
use Rattle.a429_word.specs.Sheet.{Says}
use Rattle.a429_word.proofs.SheetFacts.{◌▹◌, says_after_failure}
use Rattle.a429_record.specs.Writing.{line_text, written_form}
use Rattle.a429_commands.specs.Make.{timed, words_made}
use Rattle.a429_commands.proofs.MakeTimed.{recording-rest}
use Rattle.a429_commands.proofs.MakeWords.{AreMade, made_start, next_words, all_words, fine_alone}
use Rattle.a429_commands.proofs.engines.make.put_files.Goals as goal

pub loop-file-init : goal.loop-file-init
loop-file-init g c = record {
  made = made_start c.args.profile.now (map (λ f. f.items) c.args.files.now);
  written = c.put_header.ensures;
}

pub unreachable-requires : goal.unreachable-requires
unreachable-requires g c =
    let none =
    fine_alone c.args.files.now c.loop-file.file-index c.file-item.result c.from_ref.result.now c.loop-file-test.true c.file-item.is
    c.from_ref.ensures.value c.requires.cut in
    let refused = c.in-Err-Cut.ensures.fault (λ memory. let cut = c.in-Err-Cut.field-0-is in cc) in
    cc

pub put_words-requires : goal.put_words-requires
put_words-requires g c =
    let next =
    next_words c.args.profile.now c.codes-codes.ensures.sound c.args.files.now c.loop-file.file-index c.loop-file.number c.loop-file.count
    c.file-item.result c.from_ref.result.now c.as_slice.result.now c.loop-file-test.true c.file-item.is c.from_ref.ensures.value
    (c.as_slice.ensures.value ∙ c.in-Ok.ensures.words) c.loop-file.invariant.made in
    record { most = omega (arith, next.made.most, c.requires.most) }

pub overflow_add-count : goal.overflow_add-count
overflow_add-count g c =
    let next =
    next_words c.args.profile.now c.codes-codes.ensures.sound c.args.files.now c.loop-file.file-index c.loop-file.number c.loop-file.count
    c.file-item.result c.from_ref.result.now c.as_slice.result.now c.loop-file-test.true c.file-item.is c.from_ref.ensures.value
    (c.as_slice.ensures.value ∙ c.in-Ok.ensures.words) c.loop-file.invariant.made in
    omega (arith, next.made.most, c.requires.most, c.len-count.ensures, c.as_slice.ensures.len)

pub loop-file-preserved : goal.loop-file-preserved
loop-file-preserved g c =
    let files = map (λ f. f.items) c.args.files.now in
    let next =
    next_words c.args.profile.now c.codes-codes.ensures.sound c.args.files.now c.loop-file.file-index c.loop-file.number c.loop-file.count
    c.file-item.result c.from_ref.result.now c.as_slice.result.now c.loop-file-test.true c.file-item.is c.from_ref.ensures.value
    (c.as_slice.ensures.value ∙ c.in-Ok.ensures.words) c.loop-file.invariant.made in
    let count : c.loop-file.count + length c.as_slice.result.now ≡ c.loop-file.count + c.len-count.result =
    omega (arith, c.len-count.ensures, c.as_slice.ensures.len) in
    record {
      made = subst (AreMade c.args.profile.now files (c.loop-file.file-index + 1) ((c.loop-file.number + 1) % 256)) count next.made;
      written =
          subst (λ n. Says g.W.Write.contents c.args.sheet.now c.put_words.new.sheet
          (written_form (timed 0 (take n (words_made c.args.profile.now files))))) count
          (rw next.lines (c.loop-file.invariant.written ▹ c.put_words.ensures));
    }

-- the lines that are left are not written
pub returns-then-failed : goal.returns-then-failed
returns-then-failed g c =
    let words = words_made c.args.profile.now (map (λ f. f.items) c.args.files.now) in
    let rest = flat_map line_text (timed (length (take c.loop-file.count words)) (drop c.loop-file.count words)) in (
      _,
      (refl, refl),
      rw (recording-rest words c.loop-file.count) at (c.loop-file.invariant.written
          ▹ says_after_failure _ _ rest (sym c.failed.ensures ∙ c.if-failed.true)),
    )

pub returns : goal.returns
returns g c =
    let all =
    all_words c.args.profile.now c.args.files.now c.loop-file.file-index c.loop-file.number c.loop-file.count c.loop-file-test.false
    c.loop-file.invariant.made in
    (_, (refl, refl), rw all at c.loop-file.invariant.written)

-- the files that are left make no lines
pub returns-in-Err-OutOfMemory : goal.returns-in-Err-OutOfMemory
returns-in-Err-OutOfMemory g c =
    let words = words_made c.args.profile.now (map (λ f. f.items) c.args.files.now) in
    let rest = flat_map line_text (timed (length (take c.loop-file.count words)) (drop c.loop-file.count words)) in (
      written_form (timed 0 (take c.loop-file.count words)),
      (refl, (rest, recording-rest words c.loop-file.count)),
      c.loop-file.invariant.written,
    )
