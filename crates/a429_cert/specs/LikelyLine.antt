-- A line that is likely the next of a certificate, with its text in three pieces (profile).
use Rattle.std.specs.Prelude.{◌≡◌, ◌≤◌, ℕ, List, ◌∷◌, ◌++◌}
use Rattle.std.specs.Fmt.{decimal}
use Rattle.a429_link.specs.declared.state.States.{States}
use Rattle.a429_cert.specs.Field.{field}
use Rattle.a429_cert.specs.States.{sink_text, IsSink}
use Rattle.a429_cert.specs.declared.likely.LikelyLine.{LikelyLine}
use Rattle.a429_cert.specs.Likely.{IsLikely}

-- the pieces, one after the other
abbrev pub text_in : LikelyLine → List ℕ
text_in l = l.letter ∷ (l.source.now ++ l.ways.now)

-- they are a line that says this
abbrev pub IsLikelyLine : LikelyLine → Type 0
IsLikelyLine l = IsLikely (text_in l) l.line

-- the last piece: the sink, and how many words are on their way to it and to the source
pub record IsWays (s : States) (ways : List ℕ) : Type 0 where
  pub text : ways ≡ field (sink_text s.sink) ++ field (decimal s.to_sink) ++ field (decimal s.to_source)
  pub sink : IsSink s.sink
  pub to_sink : s.to_sink ≤ 1
  pub to_source : s.to_source ≤ 1
