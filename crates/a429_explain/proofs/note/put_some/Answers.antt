use Rattle.std.proofs.Common.{◌≡◌, ◌+◌, ◌*◌, ◌∙◌, sym, ap, subst, ℕ, List, arith}
use Rattle.a429_word.specs.Sheet.{Says}
use Rattle.a429_cert.specs.declared.line.MovedLine.{MovedLine}
use Rattle.a429_explain.specs.Note.{likely_lines, last_line}
use Rattle.a429_explain.proofs.NextFacts.{block_likely, block_last}
use Rattle.a429_explain.proofs.note.put_some.Goals as goal

pub returns-in-Some-clause-text : goal.returns-in-Some-clause-text
returns-in-Some-clause-text g c =
    let n = c.in-Some.words.count in
    let twice : 2 * n ≡ n + n = omega arith in
    let text = ap (likely_lines c.args.line) twice ∙ ap (λ (m : MovedLine). likely_lines m (n + n)) c.in-Some.ensures.before
    ∙ block_likely c.in-Some.words.place n c.in-Some.ensures.inside in
    subst (λ (t : List ℕ). Says g.W.Write.contents c.args.sheet.now c.put.new.self t) (c.lines.ensures ∙ sym text) c.put.ensures

pub returns-in-Some-clause-last : goal.returns-in-Some-clause-last
returns-in-Some-clause-last g c =
    let n = c.in-Some.words.count in
    let twice : 2 * n ≡ n + n = omega arith in
    c.carried.ensures
    ∙ sym (ap (last_line c.args.line) twice ∙ ap (λ (m : MovedLine). last_line m (n + n)) c.in-Some.ensures.before
    ∙ block_last c.in-Some.words.place n c.in-Some.ensures.inside)

pub overflow_mul-result : goal.overflow_mul-result
overflow_mul-result g c = omega (arith, c.in-Some.ensures.few)
