use Rattle.std.proofs.Common.{List, ◌++◌, length, ap, ◌∙◌, arith}
use Rattle.a429_ldu.specs.declared.fault.CutFault.TheVariants as cut
use Rattle.a429_ldu.specs.Ldu.{LduValue}
use Rattle.a429_link.specs.Number.{first_number}
use Rattle.a429_link.specs.Clean.{clean_blocks}
use Rattle.a429_link.proofs.CleanFiles.{files_more, files_refused, files_end, files_cross, empty_refused, long_refused, fine_cut, are_units, file_at, past_files, units_length}
use Rattle.a429_link.proofs.clean.clean_run.Goals as goal

pub returns-in-Err-Empty-clause-fault : goal.returns-in-Err-Empty-clause-fault
returns-in-Err-Empty-clause-fault c =
    let at =
    file_at c.args.files.now c.loop-k.k c.index-files-k.result c.as_slice.result.now c.loop-k-test.true c.index-files-k.is
    c.as_slice.ensures.value in
    λ h. files_refused c.args.profile.now c.args.max_words c.args.first_file c.loop-k.number c.loop-k.k _ c.loop-k.run.items
    c.as_slice.result.now cut.Empty at.0 at.1
    (empty_refused c.args.max_words c.as_slice.result.now (c.in-Err-Empty.ensures.empty.0 (let q = c.in-Err-Empty.field-0-is in cc)))
    c.loop-k.invariant

pub returns-in-Err-TooLong-clause-fault : goal.returns-in-Err-TooLong-clause-fault
returns-in-Err-TooLong-clause-fault c =
    let at =
    file_at c.args.files.now c.loop-k.k c.index-files-k.result c.as_slice.result.now c.loop-k-test.true c.index-files-k.is
    c.as_slice.ensures.value in
    λ h. files_refused c.args.profile.now c.args.max_words c.args.first_file c.loop-k.number c.loop-k.k _ c.loop-k.run.items
    c.as_slice.result.now cut.TooLong at.0 at.1
    (long_refused c.args.max_words c.as_slice.result.now (c.in-Err-TooLong.ensures.long.0 (let q = c.in-Err-TooLong.field-0-is in cc)))
    c.loop-k.invariant

pub push_file-requires : goal.push_file-requires
push_file-requires c = omega (
  arith,
  ap length c.as_slice-in-loop-k.ensures.value,
  ap length c.in-Ok.ensures.units,
  units_length c.args.profile.now c.args.max_words c.as_slice.result.now,
)

pub loop-k-preserved : goal.loop-k-preserved
loop-k-preserved c =
    let at =
    file_at c.args.files.now c.loop-k.k c.index-files-k.result c.as_slice.result.now c.loop-k-test.true c.index-files-k.is
    c.as_slice.ensures.value in
    let fine =
    fine_cut c.args.max_words c.as_slice.result.now (λ z. let q = c.in-Ok.ensures.empty.1 z in cc)
    (λ z. let q = c.in-Ok.ensures.long.1 z in cc) in
    let made =
    are_units c.args.profile.now c.args.max_words c.as_slice.result.now c.in-Ok.units.items c.in-Ok.ensures.units c.in-Ok.ensures.sound
    c.in-Ok.ensures.fits c.in-Ok.ensures.joined c.in-Ok.ensures.last in
    files_more c.args.profile.now c.args.max_words c.args.first_file c.loop-k.number c.loop-k.k _ c.loop-k.run.items
    c.push_file.new.run.items c.as_slice.result.now at.0 at.1 fine made (c.in-Ok-push_file.ensures
    ∙ ap (λ (us : List LduValue).
    c.loop-k.run.items ++ clean_blocks c.args.profile.now.codes (first_number c.args.profile.now.codes c.loop-k.number) us)
    (c.as_slice-in-loop-k.ensures.value ∙ c.in-Ok.ensures.units)) c.loop-k.invariant

pub returns-clause-run : goal.returns-clause-run
returns-clause-run c =
    files_cross c.args.profile.now c.args.max_words c.args.first_file _ c.codes-codes.ensures.sound
    (omega (arith, c.ranges.first_file.fits))
    (files_end c.args.profile.now c.args.max_words c.args.first_file c.loop-k.number c.loop-k.k _ c.loop-k.run.items
    (past_files c.args.files.now c.loop-k.k (omega (arith, c.loop-k-test.false))) c.loop-k.invariant).2
