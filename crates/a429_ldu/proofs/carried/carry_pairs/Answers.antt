use Rattle.std.proofs.Common.{◌≡◌, ◌+◌, None, length, take, sym, refl, subst, arith}
use Rattle.a429_ldu.specs.Semis.{five_of}
use Rattle.a429_ldu.specs.Carried.{AddSemis, semis_held}
use Rattle.a429_ldu.proofs.SightFacts.{full_semis}
use Rattle.a429_ldu.proofs.CarriedFacts.{word-more, kept_count, none_waits}
use Rattle.a429_ldu.proofs.carried.carry_pairs.Goals as goal

pub push_full-requires-clause-room : goal.push_full-requires-clause-room
push_full-requires-clause-room c =
    let count =
    kept_count c.pairs.bytes.items c.push_full-low.new.bytes.items
    (five_of c.in-Some.first) None c.push_full-low.result c.push_full-low.ensures.bytes in
    omega (arith, count, c.pairs.invariant.room, c.pairs-test.true, c.requires.room)

pub pairs-preserved : goal.pairs-preserved
pairs-preserved c =
    let codes = c.args.profile.now.codes in
    let words = c.args.words.now in
    let at = c.pairs.at in
    let start = semis_held c.args.bytes.now.items None in
    let low = c.push_full-low.result in
    let rest = c.push_full.result in
    let one = c.push_full-low.new.bytes.items in
    let two = c.push_full.new.bytes.items in
    let word = c.in-Some.ensures in
    let other = c.in-Some-full_number.ensures in
    let full =
    full_semis c.args.profile.now c.codes-codes.result.now c.index-words-at.result c.in-Some.first word.range (record {
      profile = c.codes-codes.ensures.sound;
      codes = c.codes-codes.ensures.codes;
      parity = word.parity;
      label = word.label;
      word = word.word;
      fields = word.fields;
      kind = refl;
    }) in
    let full-other =
    full_semis c.args.profile.now c.codes-codes.result.now c.index-words-at-in-pairs.result c.in-Some-full_number.second other.range
    (record {
      profile = c.codes-codes.ensures.sound;
      codes = c.codes-codes.ensures.codes;
      parity = other.parity;
      label = other.label;
      word = other.word;
      fields = other.fields;
      kind = refl;
    }) in
    let count = kept_count c.pairs.bytes.items one (five_of c.in-Some.first) None low c.push_full-low.ensures.bytes in
    let count-other = kept_count one two (five_of c.in-Some-full_number.second) low rest c.push_full.ensures.bytes in
    let none : rest ≡ None = none_waits rest (length two) (length c.pairs.bytes.items + 5) (omega (arith, count, count-other)) in
    let first =
    word-more codes words at c.index-words-at.result start (semis_held c.pairs.bytes.items None) (five_of c.in-Some.first)
    (semis_held one low) (omega (arith, c.pairs-test.true)) c.index-words-at.is c.pairs.invariant.semis
    (sym full) c.push_full-low.ensures.bytes in
    let second =
    word-more codes words (at + 1) c.index-words-at-in-pairs.result start (semis_held one low) (five_of c.in-Some-full_number.second)
    (semis_held two rest) (omega (arith, c.pairs-test.true)) c.index-words-at-in-pairs.is first
    (sym full-other) c.push_full.ensures.bytes in
    let place : at + 1 + 1 ≡ at + 2 = omega arith in
    record {
      within = omega (arith, c.pairs-test.true);
      room = omega (arith, count, count-other, c.pairs.invariant.room);
      semis =
          subst (λ k. AddSemis codes (take k words) start (semis_held two None)) place
          (subst (λ r. AddSemis codes (take (at + 1 + 1) words) start (semis_held two r)) none second);
    }
