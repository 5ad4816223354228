use Rattle.std.proofs.Common.{◌≡◌, ◌∙◌, sym, rules, None}
use Rattle.a429_cert.specs.Reading.{words_at}
use Rattle.a429_cert.specs.Field.{hex_in, with_rest}
use Rattle.a429_cert.proofs.ReadingWords.{one_more_word, stops, is_done, ends_well, goes_past}
use Rattle.a429_cert.proofs.reading.words_at.Goals as goal

pub returns-in_default : goal.returns-in_default
returns-in_default c =
    let none : with_rest (hex_in 8) c.words.rest.now ≡ None = search rules in
    stops c.words.words.items c.args.count c.words.counter c.words.rest.now (words_at c.args.count c.args.text.now)
    (search rules) none c.words.invariant

pub words-preserved : goal.words-preserved
words-preserved c =
    rw c.in_ok-push.ensures.items
    (one_more_word c.words.words.items c.args.count c.words.counter c.words.rest.now _ _ (words_at c.args.count c.args.text.now)
    (search rules) (search rules) c.words.invariant)

pub returns-then-is_empty : goal.returns-then-is_empty
returns-then-is_empty c =
    let done =
    is_done c.words.words.items c.args.count c.words.counter c.words.rest.now (words_at c.args.count c.args.text.now)
    (search rules) c.words.invariant in
    rw c.new.ensures
    (ends_well c.words.words.items c.words.rest.now (words_at c.args.count c.args.text.now)
    (sym c.is_empty.ensures ∙ c.if-is_empty.true) done)

pub returns-else-is_empty : goal.returns-else-is_empty
returns-else-is_empty c =
    let done =
    is_done c.words.words.items c.args.count c.words.counter c.words.rest.now (words_at c.args.count c.args.text.now)
    (search rules) c.words.invariant in
    goes_past c.words.words.items c.words.rest.now (words_at c.args.count c.args.text.now)
    (sym c.is_empty.ensures ∙ c.if-is_empty.false) done
