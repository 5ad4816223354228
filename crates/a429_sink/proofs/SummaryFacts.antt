-- What is said of the pieces of a recording.
use Rattle.std.proofs.Common.{◌≡◌, ℕ, ◌+◌, List, [], ◌∷◌, ◌++◌, Option, length, sym, ap, ◌∙◌, subst, arith}
use Rattle.std.specs.Prelude.{Vec, option_map}
use Rattle.std.specs.Global.{Global}
use Rattle.std.proofs.lemmas.List.{map-append}
use Rattle.a429_link.specs.declared.doing.Crossing.{Crossing}
use Rattle.a429_link.specs.declared.file.FileBytes.{FileBytes}
use Rattle.a429_link.specs.Implied.{size_of, sizes_of}
use Rattle.a429_sink.specs.declared.file_units.FileUnits.{FileUnits}
use Rattle.a429_sink.specs.declared.summary.PieceEnd.{PieceEnd}
use Rattle.a429_sink.specs.declared.summary.PieceSummary.{PieceSummary}
use Rattle.a429_sink.specs.declared.summary.Stopped.{Stopped}
use Rattle.a429_sink.specs.declared.summary.Summaries.{Summaries}
use Rattle.a429_sink.specs.Pieces.{SaidPiece, entries_said}
use Rattle.a429_sink.specs.Summary.{AreSummaries, AreTold, IsSummary, Says, stopped_from}

-- of one piece more
pub summaries_push : (from : ℕ) (said : List SaidPiece) (told : List PieceSummary) (s : SaidPiece) (t : PieceSummary)
    → AreSummaries from said told → IsSummary (from + entries_said said) s t → AreSummaries from (said ++ s ∷ []) (told ++ t ∷ [])
summaries_push from [] [] s t h is = let e : from + 0 ≡ from = omega arith in (subst (λ (n : ℕ). IsSummary n s t) e is, tt)
summaries_push from [] (x ∷ told) s t h is = absurd h
summaries_push from (x ∷ said) [] s t h is = absurd h
summaries_push from (x ∷ said) (y ∷ told) s t (one, h) is =
    let e : from + (length x.entries + entries_said said) ≡ from + length x.entries + entries_said said = omega arith in
    (one, summaries_push (from + length x.entries) said told s t h (subst (λ (n : ℕ). IsSummary n s t) e is))

pub entries_push : (said : List SaidPiece) (s : SaidPiece) → entries_said (said ++ s ∷ []) ≡ entries_said said + length s.entries
entries_push [] s = omega arith
entries_push (x ∷ said) s = let r = entries_push said s in omega (arith, r)

-- more files
pub told_files : (said : List SaidPiece) (before more : List FileBytes) (old new : Summaries) → AreTold said before old
    → new.told ≡ old.told → new.from ≡ old.from → new.files.items ≡ old.files.items ++ sizes_of more → AreTold said (before ++ more) new
told_files said before more old new is told from sizes = record {
  told = subst (λ (v : Vec PieceSummary Global). AreSummaries 0 said v.items) (sym told) is.told;
  from = from ∙ is.from;
  sizes = sizes ∙ ap (λ (l : List Crossing). l ++ sizes_of more) is.sizes ∙ sym (map-append size_of before more);
}

-- the piece under way has ended
pub told_end : (said : List SaidPiece) (s : SaidPiece) (old new : Summaries) (e : PieceEnd) (stop : Option Stopped) (t : PieceSummary)
    → AreTold said s.told.files old → Says s e → stop ≡ option_map (stopped_from old.from) e.stop
    → t.from ≡ old.from → t.entries ≡ e.entries → t.begun_before ≡ e.begun_before → t.stop ≡ stop → t.files.items ≡ old.files.items
    → t.units ≡ e.units
    → new.told.items ≡ old.told.items ++ t ∷ [] → new.from ≡ old.from + e.entries → new.files.items ≡ [] → AreTold (said ++ s ∷ []) [] new
told_end said s old new e stop t is says stops from entries begun stop_is files units told next none = record {
  told =
      subst (AreSummaries 0 (said ++ s ∷ [])) (sym told)
      (summaries_push 0 said old.told.items s t is.told (subst (λ (n : ℕ). IsSummary n s t) (omega (arith, is.from)) summary));
  from = next ∙ ap (λ (n : ℕ). n + e.entries) is.from ∙ ap (λ (n : ℕ). entries_said said + n) says.entries ∙ sym (entries_push said s);
  sizes = none;
}
  where
    summary : IsSummary old.from s t
    summary = record {
      from_is = from;
      entries = entries ∙ says.entries;
      begun = begun ∙ says.begun;
      stop = stop_is ∙ stops ∙ ap (option_map (stopped_from old.from)) says.stop;
      files = files ∙ is.sizes;
      units = ap (λ (v : Vec FileUnits Global). v.items) units ∙ says.units;
    }
