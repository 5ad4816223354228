use Rattle.std.proofs.Common.{ap, inl, inr, refl}
use Rattle.a429_side.specs.Counts.{is_at, is_of_none, is_of_other, is_renamed, is_written}
use Rattle.a429_side.proofs.CountsFacts.{counts_more, table_stays}
use Rattle.a429_side.proofs.counts.Counts.add.Goals as goal

pub returns-in-Kept : goal.returns-in-Kept
returns-in-Kept c = λ lots few h.
    let is = c.in-Kept.is in
    counts_more c.args.self.now _ lots c.args.lot few c.saturating_add-self.ensures
    (inl (ap is_written is, c.saturating_add-self-in-Kept.ensures)) (inr (ap is_of_other is, refl))
    (inr (ap is_of_none is, refl)) (inr (ap is_renamed is, refl)) (table_stays _ lots c.args.lot (λ d. ap (is_at d) is) h.destinations) h

pub returns-in-Renamed : goal.returns-in-Renamed
returns-in-Renamed c = λ lots few h.
    let is = c.in-Renamed.is in
    counts_more c.args.self.now _ lots c.args.lot few c.saturating_add-self.ensures
    (inl (ap is_written is, c.saturating_add-self-in-Renamed.ensures)) (inr (ap is_of_other is, refl))
    (inr (ap is_of_none is, refl)) (inl (ap is_renamed is, c.saturating_add-self-in-Renamed-2.ensures))
    (table_stays _ lots c.args.lot (λ d. ap (is_at d) is) h.destinations) h

pub returns-in-OfNone : goal.returns-in-OfNone
returns-in-OfNone c = λ lots few h.
    let is = c.in-OfNone.is in
    counts_more c.args.self.now _ lots c.args.lot few c.saturating_add-self.ensures
    (inl (ap is_written is, c.saturating_add-self-in-OfNone.ensures)) (inr (ap is_of_other is, refl))
    (inl (ap is_of_none is, c.saturating_add-self-in-OfNone-2.ensures)) (inr (ap is_renamed is, refl))
    (table_stays _ lots c.args.lot (λ d. ap (is_at d) is) h.destinations) h

pub returns-in-OfOther : goal.returns-in-OfOther
returns-in-OfOther c = λ lots few h.
    let is = c.in-OfOther.is in
    counts_more c.args.self.now _ lots c.args.lot few c.saturating_add-self.ensures (inr (ap is_written is, refl))
    (inl (ap is_of_other is, c.saturating_add-self-in-OfOther.ensures))
    (inr (ap is_of_none is, refl)) (inr (ap is_renamed is, refl)) (table_stays _ lots c.args.lot (λ d. ap (is_at d) is) h.destinations) h

pub returns-in-Elsewhere : goal.returns-in-Elsewhere
returns-in-Elsewhere c = λ lots few h.
    let is = c.in-Elsewhere.is in
    counts_more c.args.self.now _ lots c.args.lot few c.saturating_add-self.ensures (inr (ap is_written is, refl))
    (inr (ap is_of_other is, refl))
    (inr (ap is_of_none is, refl)) (inr (ap is_renamed is, refl)) (rw is (c.count_word.ensures lots few h.destinations)) h
