use Rattle.a429_word.proofs.WordMade.{same_from_fields}
use Rattle.a429_word.proofs.BnrRaw.{raw_of-bits, raw_of-within, field_from_raw}
use Rattle.a429_word.proofs.laws.bnr_is_read_back.Goals as goal

pub returns : goal.returns
returns c = record {
  bits = raw_of-bits;
  within = raw_of-within;
  one =
      λ v w s hv hw least most odd_v odd_w h.
      same_from_fields v w hv hw odd_v odd_w h.label h.sdi (field_from_raw v w s least most h.raw h.below) h.ssm;
}
