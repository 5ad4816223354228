use Rattle.a429_contradiction.proofs.ContradictionFacts.{no_run}
use Rattle.a429_contradiction.proofs.laws.what_contradicts_has_no_run.Goals as goal

pub returns : goal.returns
returns c = λ p items i reason is h. no_run p items i reason
    (c.a_whole_block_is_a_unit.ensures.impossible p items i is)
    (c.all_data_words_carry_bytes.ensures p items i is)
    (c.a_start_word_may_come.ensures p items i is)
    (c.what_contradicts_is_impossible.ensures.number p items i is)
    (c.what_contradicts_is_impossible.ensures.other p items i is)
    h
