use Rattle.std.proofs.Common.{◌≡◌, ◌∙◌, ◌≤◌, ◌++◌, ◌∷◌, [], arith, length, length-append, refl, sym, rules}
use Rattle.a429_word.specs.Tally.{unread}
use Rattle.a429_record.specs.Lines.{pending_of}
use Rattle.a429_record.specs.Reading.{still_to_come}
use Rattle.a429_record.proofs.RowsFacts.{given_more}
use Rattle.a429_record.proofs.HandedFormats.{given_more_at, form_at, failed_at}
use Rattle.a429_record.proofs.RecordingTimes.{last_time, NeverFalls-push, last_time-push}
use Rattle.a429_record.proofs.recording.read_entries.Goals as goal

pub entries-preserved : goal.entries-preserved
entries-preserved g c =
    let e = c.in-Some.entry in
    let before = c.entries.entries.items in
    let items : c.push.new.self.items ≡ before ++ (e ∷ []) = search rules in
    let follows = rw c.in-Some.is at c.in_ok-entry.ensures.follows in
    let gives = rw c.in-Some.is at c.in_ok-entry.ensures.gives in
    let format = rw c.in-Some.is at c.in_ok-entry.ensures.format in
    let lines = rw c.in-Some.is at c.in_ok-entry.ensures.lines in
    let at_rows = rw c.in-Some.is at c.in_ok-entry.ensures.stage in
    let late : last_time 0 before ≤ e.time = rw c.entries.invariant.last follows.0 in
    let bytes = unread g.R.Read.remaining c.args.rec.now in
    let left = still_to_come g.R.Read.remaining c.entries.reading.stage c.entries.reading.rows c.entries.rec in
    let rest = still_to_come g.R.Read.remaining c.next.new.self.stage c.next.new.self.rows c.next.new.rec in
    let ahead = pending_of g.R.Read.remaining c.entries.reading.rows.lines c.entries.rec in
    let following = pending_of g.R.Read.remaining c.next.new.self.rows.lines c.next.new.rec in
    record {
      given = given_more bytes left rest before c.push.new.self.items e items gives c.entries.invariant.given;
      lines =
          rw at_rows
          (given_more_at c.entries.reading.stage c.entries.reading.rows.format c.next.new.self.rows.format before c.push.new.self.items e
          bytes ahead following items format c.entries.invariant.lines lines);
      format =
          rw at_rows
          (form_at c.entries.reading.stage c.entries.reading.rows.format c.next.new.self.rows.format before bytes ahead
          c.entries.invariant.lines c.entries.invariant.format format);
      most = rw follows.3 c.entries.invariant.most;
      times = rw items (NeverFalls-push 0 before e c.entries.invariant.times late);
      last = rw items (last_time-push 0 before e ∙ sym follows.1);
      count = rw items (simp length-append (omega (arith, follows.2, c.entries.invariant.count)));
      goes = rw at_rows refl;
      works = search rules;
    }

pub returns-in_err-entry-clause-before : goal.returns-in_err-entry-clause-before
returns-in_err-entry-clause-before g c failed =
    let es = c.entries.entries.items in
    let few : length es ≤ c.entries.reading.rows.most = omega (arith, c.entries.invariant.count, c.entries.reading.rows.in_range) in
    let lost =
    failed_at c.entries.reading.rows.most c.entries.reading.stage c.entries.reading.rows.format es c.entries.reading.rows.count _ _ _ (
      few,
      c.entries.invariant.times,
    ) c.entries.invariant.count c.entries.invariant.format c.entries.invariant.lines (c.in_err-entry.ensures.before (search rules)) in
    rw c.entries.invariant.most at lost

pub returns-then-is_err-clause-before : goal.returns-then-is_err-clause-before
returns-then-is_err-clause-before g c = search rules
