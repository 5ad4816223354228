-- What the entries so far say of a recording that begins anywhere (profile).
use Rattle.std.specs.Prelude.{◌≡◌, false, List, [], ◌∷◌, ◌++◌, length}
use Rattle.a429_profile.specs.Profile.{Contents}
use Rattle.a429_ldu.specs.Form.{form_of}
use Rattle.a429_link.specs.declared.file.FileBytes.{FileBytes}
use Rattle.a429_link.specs.declared.seen.Seen.{Seen}
use Rattle.a429_link.specs.Sink.{IsAck}
use Rattle.a429_sink.specs.declared.fault.SinkFault.{SinkFault}
use Rattle.a429_sink.specs.declared.fault.SinkFault.TheVariants as fault
use Rattle.a429_sink.specs.declared.glimpsed_trace.GlimpsedTrace.{GlimpsedTrace}
use Rattle.a429_sink.specs.Anywhere.{IsRefusedAnywhere, glimpse_at_first, glimpsed, learned, sure_files, unknown}
use Rattle.a429_sink.specs.FileUnits.{AreUnits}
use Rattle.a429_sink.specs.Glimpsed.{IsKnownOf, glimpse_of}
use Rattle.a429_sink.specs.History.{StopsNowhere, units_after}

-- none of these items is refused, whatever came before them; and this is what they say
pub record IsGlimpsedTrace (p : Contents) (items : List Seen) (t : GlimpsedTrace) : Type 0 where
  pub allowed : StopsNowhere p items
  pub glimpse : glimpse_of t.sink ≡ glimpsed p items glimpse_at_first
  pub known : IsKnownOf (learned p items unknown) t.sink
  pub units : AreUnits p.codes (units_after p unknown [] items) t.units
  pub begun : t.sink.is_known ≡ false → units_after p unknown [] items ≡ []

-- by one more item this file is sure, if one is
abbrev pub MakesSure : Contents → List Seen → Seen → List FileBytes → Type 0
MakesSure p items i files = sure_files p (items ++ i ∷ []) ≡ sure_files p items ++ files

-- after these items the next one is refused, whatever came before them; or it is an acknowledgement, and there is no memory
abbrev pub IsGlimpseStop : Contents → List Seen → Seen → SinkFault → Type 0
IsGlimpseStop p items i fault.Refused = IsRefusedAnywhere p (items ++ i ∷ []) (length items)
IsGlimpseStop p items i fault.OutOfMemory = IsAck (form_of p.codes i.bus i.word)
