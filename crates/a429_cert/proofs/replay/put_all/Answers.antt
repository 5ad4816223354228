use Rattle.std.proofs.Common.{◌≡◌, ◌+◌, ◌++◌, ◌∷◌, ◌<◌, [], ◌∙◌, suc, take, sym, ap, length, arith, rules}
use Rattle.std.proofs.Math.Seq.{take-suc}
use Rattle.a429_link.specs.declared.file.FileBytes.{FileBytes}
use Rattle.a429_cert.proofs.StreamFacts.{put_on, noted_on, front_put}
use Rattle.a429_cert.proofs.replay.put_all.Goals as goal

pub returns-in-Err-clause-err : goal.returns-in-Err-clause-err
returns-in-Err-clause-err g c =
    front_put (g.S.Shelf.files c.args.shelf.now) (g.S.Shelf.files c.loop-file.shelf) (g.S.Shelf.files c.put_file.new.shelf)
    (length c.args.notes.now.items + 1) c.loop-file.file-index c.args.files.now
    (search rules) c.loop-file.invariant.gained c.in-Err.ensures.err

pub loop-file-preserved : goal.loop-file-preserved
loop-file-preserved g c =
    let files = c.args.files.now in
    let k = c.loop-file.file-index in
    let inside : k < length files = search rules in
    let next : take (k + 1) files ≡ take k files ++ c.file-item.result ∷ [] =
    (let n : k + 1 ≡ suc k = omega arith in
    rw n (take-suc files k c.file-item.result inside ∙ ap (λ (x : FileBytes). take k files ++ x ∷ []) (sym c.file-item.is))) in
    record {
      gained =
          rw next
          (put_on (g.S.Shelf.files c.args.shelf.now) (g.S.Shelf.files c.loop-file.shelf)
          (g.S.Shelf.files c.put_file.new.shelf) c.args.notes.now.items c.loop-file.notes.items (take k files)
          (c.file-item.result ∷ []) c.loop-file.invariant.gained c.loop-file.invariant.noted c.in-Ok.ensures.ok);
      noted =
          rw next
          (noted_on c.args.notes.now.items c.loop-file.notes.items c.put_file.new.files.items (take k files)
          (c.file-item.result ∷ []) c.loop-file.invariant.noted c.in-Ok.ensures.noted);
    }
