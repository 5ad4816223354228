use Rattle.std.proofs.Common.{◌≡◌, ◌<◌, length, Some, slice_get, sym, subst, arith}
use Rattle.a429_cert.specs.Explained.{items_of}
use Rattle.a429_cert.proofs.ItemsFacts.{length-items_of}
use Rattle.a429_explain.specs.Decoded.{HeardValue}
use Rattle.a429_explain.proofs.WalkFacts.{item_at}
use Rattle.a429_explain.proofs.decoded.Decoded.seen.Goals as goal

pub returns : goal.returns
returns c =
    let es = c.self.inside.entries.now in
    let inside : c.args.at < length (items_of es) =
    subst (λ (h : HeardValue). c.args.at < length h.items) (sym c.self.view_is) c.requires in
    subst (λ (h : HeardValue). slice_get h.items c.args.at ≡ Some c.seen.result) c.self.view_is
    (item_at es c.args.at c.index-entries-at.result c.seen.result
    (omega (arith, inside, length-items_of es)) c.index-entries-at.is c.seen.ensures)
