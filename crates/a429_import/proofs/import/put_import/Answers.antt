use Rattle.std.proofs.Common.{◌+◌, ◌<◌, ◌^◌, ◌∷◌, ◌++◌, [], length, length-append, sym, subst, arith, ℕ, List}
use Rattle.std.proofs.lemmas.Bool.{false_from_ne_true}
use Rattle.a429_word.specs.Tally.{unread}
use Rattle.a429_word.proofs.SheetFacts.{◌▹◌}
use Rattle.a429_word.proofs.Outcomes.{if_ok_map, if_err_map}
use Rattle.a429_record.specs.Handed.{IsLineHanded, Loses}
use Rattle.a429_record.specs.Lines.{pending_of}
use Rattle.a429_import.proofs.ImportFacts.{gave_all, gave_more, gave_no_header, gave_these, lots_text-more, stops_at}
use Rattle.a429_import.proofs.import.put_import.Goals as goal

pub returns-then-not-more-clause-all : goal.returns-then-not-more-clause-all
returns-then-not-more-clause-all g c =
    let i = c.lines.invariant in
    let m = c.args.map.now in
    let bytes = unread g.R.Read.remaining c.args.export.now in
    let left = pending_of g.R.Read.remaining c.lines.lines c.lines.export in
    let end = c.in-Ok-next_line.ensures.end c.if-not-more.true in
    if_ok_map c.at_end.result c.at_end.ensures.ok (λ n is. rw is.0 (record {
      lots = i.lots;
      says = i.says;
      counted = i.counted;
      first = gave_these m bytes left i.lots c.lines.progress i.gave;
      all = λ works. gave_all m bytes left i.lots c.lines.progress i.gave end is.1;
    }))

pub returns-then-not-more-clause-until : goal.returns-then-not-more-clause-until
returns-then-not-more-clause-until g c =
    let i = c.lines.invariant in
    let m = c.args.map.now in
    let bytes = unread g.R.Read.remaining c.args.export.now in
    let left = pending_of g.R.Read.remaining c.lines.lines c.lines.export in
    let end = c.in-Ok-next_line.ensures.end c.if-not-more.true in
    if_err_map c.at_end.result c.at_end.ensures.err (λ f is. rw is.0 (record {
      lots = i.lots;
      says = i.says;
      stops = gave_no_header m bytes left i.lots c.lines.progress i.gave end is.1;
    }))

pub turn-requires : goal.turn-requires
turn-requires g c =
    let i = c.lines.invariant in
    let less = c.in-Ok-next_line.ensures.room c.if-not-more.false in
    omega (arith, i.count, i.few, less, c.left-most.ensures, c.left-most.type_inv)

pub returns-in-Err-turn-clause-until : goal.returns-in-Err-turn-clause-until
returns-in-Err-turn-clause-until g c =
    let i = c.lines.invariant in
    let m = c.args.map.now in
    let bytes = unread g.R.Read.remaining c.args.export.now in
    let left = pending_of g.R.Read.remaining c.lines.lines c.lines.export in
    let new = pending_of g.R.Read.remaining c.next_line.new.self c.next_line.new.rec in
    let lost =
    subst (λ (line : List ℕ). Loses (IsLineHanded line) left new) (sym c.as_slice.ensures.value)
    (c.in-Ok-next_line.ensures.takes c.if-not-more.false) in
    record {
      lots = i.lots;
      says = i.says;
      stops =
          stops_at m bytes left new i.lots c.lines.progress c.as_slice.result.now c.in-Err-turn.fault i.gave lost
          c.in-Err-turn.ensures.answers;
    }

pub lines-preserved : goal.lines-preserved
lines-preserved g c =
    let i = c.lines.invariant in
    let l = c.in-Ok-turn.lot in
    let m = c.args.map.now in
    let bytes = unread g.R.Read.remaining c.args.export.now in
    let left = pending_of g.R.Read.remaining c.lines.lines c.lines.export in
    let new = pending_of g.R.Read.remaining c.next_line.new.self c.next_line.new.rec in
    let lost =
    subst (λ (line : List ℕ). Loses (IsLineHanded line) left new) (sym c.as_slice.ensures.value)
    (c.in-Ok-next_line.ensures.takes c.if-not-more.false) in
    let less = c.in-Ok-next_line.ensures.room c.if-not-more.false in
    let answers = c.in-Ok-turn.ensures.answers in
    let after = c.in-Ok-turn.ensures.after in
    let some : length i.lots + 1 < 2 ^ 64 = omega (arith, i.few, less, c.left-most.ensures, c.left-most.type_inv) in
    let one = length-append i.lots (l ∷ []) in
    record {
      lots = i.lots ++ l ∷ [];
      says = rw (lots_text-more i.lots l) (i.says ▹ c.put_lot.ensures);
      counted = c.in-Ok-add.ensures i.lots some (rw after (omega (arith, i.count))) i.counted;
      gave = gave_more m bytes left new i.lots c.lines.progress c.turn.new.self c.as_slice.result.now l i.gave lost answers after;
      few = omega (arith, i.few, less, one);
      count = rw after (omega (arith, i.count, one));
      works = false_from_ne_true _ (λ e. cc (c.in-Ok-next_line.ensures.device.1 e));
    }
