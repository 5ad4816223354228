-- The sections of a profile (profile).
use Rattle.std.specs.Prelude.{ℕ, List, Bool, false}
use Rattle.toml.specs.Data.{Data, boolean, Members}
use Rattle.a429_profile.specs.declared.codes.Codes.{Codes}
use Rattle.a429_profile.specs.declared.codes.Check.{Check}
use Rattle.a429_profile.specs.declared.codes.Transfer.{Transfer}
use Rattle.a429_profile.specs.declared.codes.Types.{Types}
use Rattle.a429_profile.specs.declared.codes.ProtocolCodes.{ProtocolCodes}
use Rattle.a429_profile.specs.declared.key.SectionKey.{SectionKey}
use Rattle.a429_profile.specs.declared.key.SectionKey.TheVariants as key
use Rattle.a429_profile.specs.Value.{text_of_value, octal_number, number_of_value, truth_of_value, numbers_of_value}
use Rattle.a429_profile.specs.Key.{Place, value, section_place}

-- the value at a place; where there is none, `false`
abbrev pub value_at_place : Place → Data
value_at_place (value d) = d
value_at_place _ = boolean false

abbrev pub value_at_key : Members → SectionKey → Data
value_at_key doc k = value_at_place (section_place doc k)

abbrev pub octal_at_key : Members → SectionKey → ℕ
octal_at_key doc k = octal_number (text_of_value (value_at_key doc k))

abbrev pub number_at_key : Members → SectionKey → ℕ
number_at_key doc k = number_of_value (value_at_key doc k)

abbrev pub numbers_at_key : Members → SectionKey → List ℕ
numbers_at_key doc k = numbers_of_value (value_at_key doc k)

abbrev pub truth_at_key : Members → SectionKey → Bool
truth_at_key doc k = truth_of_value (value_at_key doc k)

-- ---- section by section

abbrev pub transfer_of : Members → Transfer
transfer_of doc = record {
  to_sink = octal_at_key doc key.ToSink;
  to_source = octal_at_key doc key.ToSource;
  destination = number_at_key doc key.Destination;
  first_ldu = number_at_key doc key.FirstLdu;
  final_bit = number_at_key doc key.FinalBit;
}

abbrev pub types_of : Members → Types
types_of doc = record {
  full = number_at_key doc key.Full;
  partial = number_at_key doc key.Partial;
  protocol = number_at_key doc key.Protocol;
  sot = number_at_key doc key.Sot;
  eot = number_at_key doc key.Eot;
  ignored = numbers_at_key doc key.IgnoredTypes;
}

abbrev pub protocol_codes_of : Members → ProtocolCodes
protocol_codes_of doc = record {
  rts = number_at_key doc key.Rts;
  cts = number_at_key doc key.Cts;
  ack = number_at_key doc key.Ack;
  nak = number_at_key doc key.Nak;
  ignored = numbers_at_key doc key.IgnoredCodes;
}

abbrev pub partial_codes_of : Members → List ℕ
partial_codes_of doc = numbers_at_key doc key.PartialCodes

-- how a check word is made
abbrev pub check_rule : Members → Check
check_rule doc = record {
  poly = number_at_key doc key.Poly;
  init = number_at_key doc key.Init;
  xor = number_at_key doc key.Xor;
  low_first = truth_at_key doc key.LowFirst;
  compare = truth_at_key doc key.Compare;
}

-- ---- all of them

-- the numbers of the transfer, from four sections
abbrev pub joined : Transfer → Types → ProtocolCodes → List ℕ → Codes
joined transfer types codes partial_codes = record {
  to_sink = transfer.to_sink;
  to_source = transfer.to_source;
  destination = transfer.destination;
  first_ldu = transfer.first_ldu;
  final_bit = transfer.final_bit;
  full = types.full;
  partial = types.partial;
  protocol = types.protocol;
  sot = types.sot;
  eot = types.eot;
  rts = codes.rts;
  cts = codes.cts;
  ack = codes.ack;
  nak = codes.nak;
  ignored_types = types.ignored;
  ignored_codes = codes.ignored;
  partial_codes = partial_codes;
}

abbrev pub codes_of : Members → Codes
codes_of doc = joined (transfer_of doc) (types_of doc) (protocol_codes_of doc) (partial_codes_of doc)
