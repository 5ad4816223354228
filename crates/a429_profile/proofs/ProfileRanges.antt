-- The numbers and texts of a profile lie in their ranges.
use Rattle.std.proofs.Common.{◌≡◌, List, [], ◌∷◌, None, sym, subst}
use Rattle.toml.specs.Data.{Members}
use Rattle.a429_profile.specs.declared.key.SectionKey.{SectionKey}
use Rattle.a429_profile.specs.declared.key.SectionKey.TheVariants as key
use Rattle.a429_profile.specs.Fault.{first_or}
use Rattle.a429_profile.specs.Key.{section_fault, section_place, first_section_fault}
use Rattle.a429_profile.specs.Codes.{codes_of}
use Rattle.a429_profile.specs.Labels.{labels_fault, labels_of}
use Rattle.a429_profile.specs.Clash.{first_clash}
use Rattle.a429_profile.specs.Profile.{Contents, IsProfile, section_keys, contents_of, fault_of, AreInRange}
use Rattle.a429_profile.proofs.ProfileLookup.{first_or_none}
use Rattle.a429_profile.proofs.KeyRanges.{number_place, octal_place, numbers_place, four_place}
use Rattle.a429_profile.proofs.EntryRanges.{entries_of-in_range}

-- ---- the keys of the sections, one by one

abbrev AreFaultless : Members → List SectionKey → Type 0
AreFaultless doc [] = Unit {0}
AreFaultless doc (k ∷ ks) = (section_fault doc k ≡ None) × AreFaultless doc ks

faultless : (doc : Members) (ks : List SectionKey) → first_section_fault doc ks ≡ None → AreFaultless doc ks
faultless doc [] h = tt
faultless doc (k ∷ ks) h = let p = first_or_none (section_fault doc k) (first_section_fault doc ks) h in (p.0, faultless doc ks p.1)

in_range_of : (doc : Members) → fault_of doc ≡ None → AreInRange (contents_of doc)
in_range_of doc h =
    let faults =
    first_or_none (first_section_fault doc section_keys) (first_or (labels_fault doc) (first_clash (codes_of doc) (labels_of doc))) h in
    let entries = first_or_none (labels_fault doc) (first_clash (codes_of doc) (labels_of doc)) faults.1 in
    let transfer = faultless doc section_keys faults.0 in
    let types = transfer.1.1.1.1.1 in
    let protocol = types.1.1.1.1.1.1 in
    let partial = protocol.1.1.1.1.1 in
    let check = partial.1 in
    let four = four_place _ 15 (section_place doc key.PartialCodes) partial.0 in
    let final = number_place _ 25 28 (section_place doc key.FinalBit) transfer.1.1.1.1.0 in
    record {
      to_sink = octal_place _ (section_place doc key.ToSink) transfer.0;
      to_source = octal_place _ (section_place doc key.ToSource) transfer.1.0;
      destination = (number_place _ 0 255 (section_place doc key.Destination) transfer.1.1.0).1;
      first_ldu = (number_place _ 0 1 (section_place doc key.FirstLdu) transfer.1.1.1.0).1;
      final_low = final.0;
      final_high = final.1;
      full = (number_place _ 0 7 (section_place doc key.Full) types.0).1;
      partial = (number_place _ 0 7 (section_place doc key.Partial) types.1.0).1;
      protocol = (number_place _ 0 7 (section_place doc key.Protocol) types.1.1.0).1;
      sot = (number_place _ 0 7 (section_place doc key.Sot) types.1.1.1.0).1;
      eot = (number_place _ 0 7 (section_place doc key.Eot) types.1.1.1.1.0).1;
      ignored_types = numbers_place _ 7 (section_place doc key.IgnoredTypes) types.1.1.1.1.1.0;
      rts = (number_place _ 0 15 (section_place doc key.Rts) protocol.0).1;
      cts = (number_place _ 0 15 (section_place doc key.Cts) protocol.1.0).1;
      ack = (number_place _ 0 15 (section_place doc key.Ack) protocol.1.1.0).1;
      nak = (number_place _ 0 15 (section_place doc key.Nak) protocol.1.1.1.0).1;
      ignored_codes = numbers_place _ 15 (section_place doc key.IgnoredCodes) protocol.1.1.1.1.0;
      partial_count = four.0;
      partial_codes = four.1;
      poly = (number_place _ 0 65535 (section_place doc key.Poly) check.0).1;
      init = (number_place _ 0 65535 (section_place doc key.Init) check.1.0).1;
      xor = (number_place _ 0 65535 (section_place doc key.Xor) check.1.1.0).1;
      labels = entries_of-in_range doc entries.0;
    }

pub in_range : (p : Contents) → IsProfile p → AreInRange p
in_range p is = subst AreInRange (sym is.2) (in_range_of is.0 is.1)
