use Rattle.std.proofs.Common.{◌≡◌, true, ℕ, List, Option, Some, subst, sym, rules}
use Rattle.a429_cert.specs.CutLines.{GivesLine}
use Rattle.a429_cert.specs.Fault.{IsNoFirst, UnlessMemory}
use Rattle.a429_cert.specs.LineReader.{bytes_ahead, to_come, held_line}
use Rattle.a429_cert.specs.StreamHead.{ReadsAtMost, RefusesHead, GivesNoFirst}
use Rattle.a429_word.specs.Tally.{unread}
use Rattle.a429_cert.proofs.StreamHeadFacts.{other_first, read_none, read_one}
use Rattle.a429_cert.proofs.stream_head.take_first.Goals as goal

pub returns-in-Err-clause-err : goal.returns-in-Err-clause-err
returns-in-Err-clause-err g c =
    let old = to_come g.R.Read.remaining c.args.lines.now c.args.cert.now in
    let new = to_come g.R.Read.remaining c.next_line.new.self c.next_line.new.cert in
    let held = held_line c.next_line.new.self in
    let found : c.in-Ok.found ≡ true = search rules in
    subst (RefusesHead GivesNoFirst old) (sym c.of_cert.ensures)
    (other_first old new held c.in-Err.fault (subst (GivesLine old new held) found c.in-Ok.ensures.given)
    (subst (λ (o : Option (List ℕ)). UnlessMemory (IsNoFirst (Some o)) c.in-Err.fault) c.line.ensures c.in-Err.ensures.err))

pub returns-in_default-clause-read : goal.returns-in_default-clause-read
returns-in_default-clause-read g c =
    read_none 1 (bytes_ahead c.next_line.new.self) (to_come g.R.Read.remaining c.args.lines.now c.args.cert.now)
    (unread g.R.Read.remaining c.next_line.new.cert) c.next_line.ensures.few (search rules)

pub returns-in-Err-clause-read : goal.returns-in-Err-clause-read
returns-in-Err-clause-read g c =
    let old = to_come g.R.Read.remaining c.args.lines.now c.args.cert.now in
    let new = to_come g.R.Read.remaining c.next_line.new.self c.next_line.new.cert in
    let left = unread g.R.Read.remaining c.next_line.new.cert in
    let held = held_line c.next_line.new.self in
    let found : c.in-Ok.found ≡ true = search rules in
    subst (ReadsAtMost 1 old left) (sym c.of_cert.ensures)
    (read_one (bytes_ahead c.next_line.new.self) old left held c.in-Err.fault c.next_line.ensures.few
    (subst (GivesLine old new held) found c.in-Ok.ensures.given))
