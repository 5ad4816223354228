use Rattle.std.proofs.Common.{sym, ◌∙◌, refl, arith}
use Rattle.a429_ldu.specs.Semis.{five_of}
use Rattle.a429_ldu.proofs.SightFacts.{full_semis}
use Rattle.a429_ldu.proofs.CarriedFacts.{word-more, words-none, kept_count}
use Rattle.a429_ldu.proofs.carried.carry.Goals as goal
use Rattle.a429_ldu.proofs.carried.carry.Goals.{in-Some, in_default+in_ok-semis}

pub loop-word-preserved : goal.loop-word-preserved
loop-word-preserved c =
    let codes = c.args.profile.now.codes in
    elim c.match-full_number.branch [
      | in-Some w ↦
          let word = w.in-Some.ensures in
          let full =
          full_semis c.args.profile.now c.codes-codes.result.now c.word-item.result w.in-Some.number word.range (record {
            profile = c.codes-codes.ensures.sound;
            codes = c.codes-codes.ensures.codes;
            parity = word.parity;
            label = word.label;
            word = word.word;
            fields = word.fields;
            kind = refl;
          }) in
          let count = kept_count _ _ (five_of w.in-Some.number) _ _ w.push_full-waiting.ensures.bytes in
          rw (w.bytes-is, w.waiting-is) (record {
            semis =
                word-more codes c.args.words.now c.loop-word.word-index c.word-item.result _ _ _ _
                (omega arith) c.word-item.is c.loop-word.invariant.semis (sym full) w.push_full-waiting.ensures.bytes;
            low = w.push_full-waiting.ensures.low;
            room = omega (arith, count, c.loop-word.invariant.room);
          })
      | in_default+in_ok-semis w ↦
          rw (w.bytes-is, w.waiting-is) (record {
            semis =
                word-more codes c.args.words.now c.loop-word.word-index c.word-item.result _ _ w.in_ok-semis.semis _ (omega arith)
                c.word-item.is c.loop-word.invariant.semis (sym w.in_ok-semis.was ∙ w.semis_of.ensures) w.push_semis-waiting.ensures.bytes;
            low = w.push_semis-waiting.ensures.low;
            room = omega (arith, w.push_semis-waiting.ensures.most, c.loop-word.invariant.room);
          })
    ]

pub returns-in_err-semis-clause-none : goal.returns-in_err-semis-clause-none
returns-in_err-semis-clause-none c _ =
    words-none c.args.profile.now.codes c.args.words.now c.loop-word.word-index c.word-item.result (omega arith) c.word-item.is
    (sym c.semis_of.ensures ∙ c.in_err-semis.was)
