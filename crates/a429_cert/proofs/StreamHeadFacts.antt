-- The first two lines of a certificate that is read as it comes.
use Rattle.std.proofs.Common.{◌≡◌, ◌≢◌, ◌≤◌, ◌+◌, ◌∙◌, ◌++◌, ℕ, List, length, drop, true, nat_le, Option, Some, None, option_map, slice_get, refl, sym, ap, arith}
use Rattle.std.proofs.lemmas.Bool.Decides.{nat_tests}
use Rattle.a429_cert.specs.declared.fault.CertFault.{CertFault}
use Rattle.a429_cert.specs.declared.fault.CertFault.TheVariants as of
use Rattle.a429_cert.specs.declared.line.CertLine.TheVariants.{First}
use Rattle.a429_cert.specs.Line.{spelling}
use Rattle.a429_cert.specs.Lines.{certificate_lines}
use Rattle.std.proofs.lemmas.List.{drop-drop}
use Rattle.std.specs.Io.KnownBytes.{Keeps, prepend_known}
use Rattle.a429_cert.specs.declared.stream_fault.StreamFault.{StreamFault}
use Rattle.a429_cert.specs.declared.stream_fault.StreamFault.TheVariants as stream
use Rattle.a429_cert.specs.CutLines.{cut, GivesLine, HasRead, HasReadTo}
use Rattle.a429_cert.specs.Fault.{IsNoFirst, UnlessMemory}
use Rattle.a429_cert.specs.Stream.{of_cert}
use Rattle.a429_cert.specs.StreamHead.{RefusesHead, ReadsAtMost, TakesLine, GivesNoFirst}
use Rattle.a429_cert.proofs.CutFacts.{read-short}

-- ---- short lines, cut or not

short_uncut : (first : Option (Option (List ℕ))) (text : List ℕ)
    → length text ≤ 2287 → first ≡ Some (Some text) → option_map cut first ≡ Some (Some text)
short_uncut first text h e =
    let short : nat_le (length text) 2287 ≡ true = grind (arith, nat_tests, h) in
    rw e (rw short refl)

first_short : (first : ℕ) → first ≤ 255 → length (spelling (First first)) ≤ 2287
first_short first byte =
    read-short (spelling (First first)) (First first) (record { line = tt; held = omega (arith, byte); spelled = refl })

-- ---- a line that is another

some_inside : (line : Option (List ℕ)) (text : List ℕ) → Some line ≡ Some (Some text) → line ≡ Some text
some_inside line text e = cc

other_line : (xs : List ℕ) (line : Option (List ℕ)) (text : List ℕ)
    → length text ≤ 2287 → option_map cut (slice_get (certificate_lines xs) 0) ≡ Some line → line ≢ Some text
    → slice_get (certificate_lines xs) 0 ≢ Some (Some text)
other_line xs line text short g other e =
    other (some_inside line text (sym g ∙ short_uncut (slice_get (certificate_lines xs) 0) text short e))

-- ---- the number of the first file

pub other_first : (old new line : Option (List ℕ)) (f : CertFault)
    → GivesLine old new line true → UnlessMemory (IsNoFirst (Some line)) f → RefusesHead GivesNoFirst old (of_cert f)
other_first None new line of.OutOfMemory g h = tt
other_first (Some xs) new line of.OutOfMemory g h = tt
other_first None new line of.Version g h = tt
other_first None new line (of.Line m) g h = tt
other_first None new line (of.NotAllowed m) g h = tt
other_first None new line (of.StateDiffers m) g h = tt
other_first None new line (of.WordDiffers m j) g h = tt
other_first None new line (of.Unfinished j) g h = tt
other_first (Some xs) None line f g h = absurd g
other_first (Some xs) (Some ys) line (of.Line m) g h = (
  (h (λ z. cc)).0,
  λ first byte. other_line xs line (spelling (First first)) (first_short first byte) g.0
      (λ e. (h (λ z. cc)).1 first byte (ap (λ (o : Option (List ℕ)). Some o) e)),
)
other_first (Some xs) (Some ys) line of.Version g h = absurd (cc (h (λ z. cc)).0)
other_first (Some xs) (Some ys) line (of.NotAllowed m) g h = absurd (cc (h (λ z. cc)).0)
other_first (Some xs) (Some ys) line (of.StateDiffers m) g h = absurd (cc (h (λ z. cc)).0)
other_first (Some xs) (Some ys) line (of.WordDiffers m j) g h = absurd (cc (h (λ z. cc)).0)
other_first (Some xs) (Some ys) line (of.Unfinished j) g h = absurd (cc (h (λ z. cc)).0)

-- ---- how many lines were read

-- no further one was, where none was handed out
pub read_none : (n : ℕ) (ahead : List ℕ) (old left : Option (List ℕ))
    → length ahead ≤ 2288 → Keeps old (prepend_known ahead left) → ReadsAtMost n old left stream.Device
read_none n ahead None left few keeps = tt
read_none n ahead (Some xs) None few keeps = absurd keeps
read_none n ahead (Some xs) (Some ys) few keeps =
    record { lines = 0; ahead = ahead; from = omega arith; to = omega arith; few = few; read = ap certificate_lines keeps }

-- one at most, where a line was
pub read_one : (ahead : List ℕ) (old left held : Option (List ℕ)) (f : CertFault)
    → length ahead ≤ 2288 → GivesLine old (prepend_known ahead left) held true → ReadsAtMost 1 old left (of_cert f)
read_one ahead None left held f few g = tt
read_one ahead (Some xs) None held f few g = absurd g
read_one ahead (Some xs) (Some ys) held f few g = by held g f
  where
    read : (held : Option (List ℕ)) → GivesLine (Some xs) (Some (ahead ++ ys)) held true → HasReadTo xs (Some ys) 0 1
    read None g = record { lines = 0; ahead = ahead; from = omega arith; to = omega arith; few = few; read = ap certificate_lines g.1 }
    read (Some text) g = record { lines = 1; ahead = ahead; from = omega arith; to = omega arith; few = few; read = g.1 }

    by : (held : Option (List ℕ))
        → GivesLine (Some xs) (Some (ahead ++ ys)) held true → (f : CertFault) → ReadsAtMost 1 (Some xs) (Some ys) (of_cert f)
    by held g of.OutOfMemory = read held g
    by held g of.Version = tt
    by held g (of.Line m) = tt
    by held g (of.NotAllowed m) = tt
    by held g (of.StateDiffers m) = tt
    by held g (of.WordDiffers m j) = tt
    by held g (of.Unfinished j) = tt

read_after : (text ys : List ℕ) (left : Option (List ℕ)) (lines : ℕ) (ahead : List ℕ)
    → certificate_lines ys ≡ drop 1 (certificate_lines text) → HasRead ys left lines ahead → HasRead text left (lines + 1) ahead
read_after text ys None lines ahead e h = absurd h
read_after text ys (Some z) lines ahead e h =
    let n : 1 + lines ≡ lines + 1 = omega arith in
    h ∙ ap (drop lines) e ∙ drop-drop lines 1 (certificate_lines text) ∙ ap (λ m. drop m (certificate_lines text)) n

-- and those of the second line behind the first
pub read_both : (old mid left : Option (List ℕ)) (text : List ℕ) (f : StreamFault)
    → TakesLine old mid text → ReadsAtMost 1 mid left f → ReadsAtMost 2 old left f
read_both None mid left text f t h = tt
read_both (Some xs) None left text f t h = absurd t
read_both (Some xs) (Some ys) left text f t h = by f h
  where
    more : HasReadTo ys left 0 1 → HasReadTo xs left 0 2
    more h = record {
      lines = h.lines + 1;
      ahead = h.ahead;
      from = omega arith;
      to = omega (arith, h.to);
      few = h.few;
      read = read_after xs ys left h.lines h.ahead t.1 h.read;
    }

    by : (f : StreamFault) → ReadsAtMost 1 (Some ys) left f → ReadsAtMost 2 (Some xs) left f
    by (stream.Cert f) h = tt
    by (stream.Read f) h = more h
    by stream.Device h = more h
    by stream.OutOfMemory h = more h
