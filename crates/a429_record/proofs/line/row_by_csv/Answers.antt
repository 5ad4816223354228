use Rattle.std.proofs.Common.{◌∙◌, inl, inr, ap, sym, refl}
use Rattle.csv.specs.Records.{fields_of}
use Rattle.a429_record.specs.Row.{rows_in}
use Rattle.a429_record.proofs.LineRecords.{read_nothing, read_one, read_two, Begun}
use Rattle.a429_record.proofs.line.row_by_csv.Goals as goal
use Rattle.a429_record.proofs.line.row_by_csv.Goals.{After-from_reader-reader}

-- the reader as it was made
begun : (c : After-from_reader-reader) → Begun c.from_reader-reader.result c.args.line.now
begun c =
    let made = c.from_reader-reader.ensures in record {
      trim = rw (c.flexible.ensures, c.has_headers.ensures) at made.trim ∙ c.new.ensures.trim;
      config = rw (c.flexible.ensures, c.has_headers.ensures) at made.config ∙ c.new.ensures.config;
      ready = inr (inr (rw (c.flexible.ensures, c.has_headers.ensures) at made.has_headers, made.headers));
      state = made.state;
      source = made.source;
    }

pub returns-then-not-found-clause-ok : goal.returns-then-not-found-clause-ok
returns-then-not-found-clause-ok c =
    let b = begun (goal.at.returns-then-not-found-clause-ok c).After-from_reader-reader in
    let read = rw c.if-not-found.true at (c.in-Ok.ensures.reads b.trim b.ready) in
    sym (ap rows_in
    (read_nothing c.from_reader-reader.result c.read_byte_record.new.self c.args.line.now (fields_of c.read_byte_record.new.row) b read))

pub returns-then-more-clause-ok : goal.returns-then-more-clause-ok
returns-then-more-clause-ok c =
    let b = begun (goal.at.returns-then-more-clause-ok c).After-from_reader-reader in
    let read = rw c.if-not-found.false at (c.in-Ok.ensures.reads b.trim b.ready) in
    let again = rw c.if-more.true at (c.in-Ok-read_byte_record.ensures.reads (read.3 ∙ b.trim) (inl (c.in-Ok.ensures.ready b.trim))) in
    let two = read_two c.from_reader-reader.result c.read_byte_record.new.self c.read_byte_record-2.new.self c.args.line.now
    (fields_of c.read_byte_record.new.row) (fields_of c.read_byte_record-2.new.row) b read again in
    rw two.1 refl

pub returns-clause-ok : goal.returns-clause-ok
returns-clause-ok c =
    let b = begun (goal.at.returns-clause-ok c).After-from_reader-reader in
    let read = rw c.if-not-found.false at (c.in-Ok.ensures.reads b.trim b.ready) in
    let again = rw c.if-more.false at (c.in-Ok-read_byte_record.ensures.reads (read.3 ∙ b.trim) (inl (c.in-Ok.ensures.ready b.trim))) in
    sym (ap rows_in (read_one c.from_reader-reader.result c.read_byte_record.new.self c.read_byte_record-2.new.self c.args.line.now
    (fields_of c.read_byte_record.new.row) (fields_of c.read_byte_record-2.new.row) b read again))
