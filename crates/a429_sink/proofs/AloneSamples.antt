-- Examples: the definitions compute, under a sample profile, what recordings say of their sink by itself, and which files are sure of
-- recordings that begin in a file.
use Rattle.std.proofs.Common.{◌≡◌, ℕ, zero, suc, ◌<◌, ◌≤◌, true, List, [], ◌∷◌, ◌++◌, drop, length, map, slice_get, take, refl, inl, inr, arith, lit≤}
use Rattle.a429_word.specs.Word.{sum_below}
use Rattle.a429_word.specs.declared.bus.Bus.TheVariants as bus
use Rattle.a429_link.specs.declared.file.FileBytes.{FileBytes}
use Rattle.a429_link.specs.declared.seen.Seen.{Seen}
use Rattle.a429_link.specs.Trace.{files_of, sink_after, sink_at_first}
use Rattle.a429_link.proofs.SampleRun.{sample}
use Rattle.a429_sink.specs.declared.owed.Owed.TheVariants as owed
use Rattle.a429_sink.specs.Anywhere.{Glimpse, GlimpseAllows, GlimpseAllowsNext, IsRefusedAnywhere, glimpse_at_first, glimpsed, glimpses, sure_files}
use Rattle.a429_sink.specs.History.{ArePieces, Before, MayEnd, open_units}
use Rattle.a429_sink.specs.Owed.{owed_by}

abbrev word_a : ℕ → Seen
word_a w = record { bus = bus.A; word = w }

abbrev word_b : ℕ → Seen
word_b w = record { bus = bus.B; word = w }

-- a request, the clear answer, and the block of the byte 41: start word, data word, and end word
abbrev rts : Seen
rts = word_a 0x41410323

abbrev cts : Seen
cts = word_b 0xc24103a3

abbrev sot : Seen
sot = word_a 0x60010123

abbrev part : Seen
part = word_a 0x12004123

abbrev eot : Seen
eot = word_a 0x71a3f523

abbrev ack : Seen
ack = word_b 0x450101a3

-- the end word of a unit that does not end its file; start word and acknowledgement of file 2
abbrev open_eot : Seen
open_eot = word_a 0xf0a3f523

abbrev sot_two : Seen
sot_two = word_a 0x60020123

abbrev ack_two : Seen
ack_two = word_b 0x450201a3

-- a request, the block that begins with this start word and ends with this end word, and an answer
abbrev unit_of : Seen → Seen → Seen → List Seen
unit_of start end answer = rts ∷ (cts ∷ (start ∷ (part ∷ (end ∷ (answer ∷ [])))))

abbrev file_of : ℕ → List ℕ → FileBytes
file_of number bytes = record { number = number; bytes = bytes }

-- ---- a sink by itself

-- a start word before the clear answer
pub impossible : files_of sample (rts ∷ (sot ∷ [])) ≡ []
unfolding sum_below
impossible = refl

-- a damaged data word, and the block again
pub damaged_word : files_of sample (rts ∷ (cts ∷ (sot ∷ (word_a 0x92004123 ∷ (eot ∷ (word_b 0x460000a3 ∷ []))))) ++ unit_of sot eot ack)
    ≡ file_of 1 (0x41 ∷ []) ∷ []
unfolding sum_below
damaged_word = refl

-- file 1 is given up before its end word
pub given_up : files_of sample (rts ∷ (cts ∷ (sot ∷ (part ∷ []))) ++ unit_of sot_two eot ack_two) ≡ file_of 2 (0x41 ∷ []) ∷ []
unfolding sum_below
given_up = refl

-- the acknowledgement is owed until the next request comes, and then a clear answer
pub owed_then : owed_by (sink_after sample (take 5 (unit_of sot eot rts)) sink_at_first) ≡ owed.Ack 1 1
unfolding sum_below
owed_then = refl

pub owed_now : owed_by (sink_after sample (unit_of sot eot rts) sink_at_first) ≡ owed.Clear 3
unfolding sum_below
owed_now = refl

-- ---- a recording that begins anywhere

-- file 1 of two units, and file 2 of one
abbrev two_files : List Seen
two_files = unit_of sot open_eot ack ++ (unit_of (word_a 0x60010223) eot (word_b 0x450102a3) ++ unit_of sot_two eot ack_two)

pub both_sure : sure_files sample two_files ≡ file_of 1 (0x41 ∷ (0x41 ∷ [])) ∷ (file_of 2 (0x41 ∷ []) ∷ [])
unfolding sum_below
both_sure = refl

pub second_sure : sure_files sample (drop 6 two_files) ≡ file_of 2 (0x41 ∷ []) ∷ []
unfolding sum_below
second_sure = refl

pub first_open : open_units sample (drop 6 two_files) ≡ record { file = 1; first = 2; last = 2; ended = true } ∷ []
unfolding sum_below
first_open = refl

-- the numbers of the files that are sure, from each place on
abbrev numbers_from : List Seen → List (List ℕ)
numbers_from [] = [] ∷ []
numbers_from (i ∷ items) = map (λ (f : FileBytes). f.number) (sure_files sample (i ∷ items)) ∷ numbers_from items

abbrev times : ℕ → List ℕ → List (List ℕ) → List (List ℕ)
times zero x rest = rest
times (suc n) x rest = x ∷ times n x rest

-- a file is sure from the request and the clear answer of its first unit on, and from no later place
pub sure_from_each : numbers_from two_files ≡ times 2 (1 ∷ (2 ∷ [])) (times 12 (2 ∷ []) (times 5 [] []))
unfolding sum_below
sure_from_each = refl

-- ---- the same load twice

abbrev load : List Seen
load = unit_of sot eot ack ++ unit_of sot_two eot ack_two

pub load_sure : sure_files sample load ≡ file_of 1 (0x41 ∷ []) ∷ (file_of 2 (0x41 ∷ []) ∷ [])
unfolding sum_below
load_sure = refl

-- the first unit comes again as one that is out of sequence, so its acknowledgement is refused
pub again_stops : IsRefusedAnywhere sample (load ++ load) 17
unfolding sum_below
again_stops a = elim a [ inl f ↦ cc f | inr m ↦ m ]

-- each of these words is allowed after those before it
abbrev AreGlimpsed : List Seen → Glimpse → Type 0
AreGlimpsed [] g = Unit {0}
AreGlimpsed (i ∷ items) g = GlimpseAllows sample g i × AreGlimpsed items (glimpses sample i g)

none_before : (items more : List Seen) (g : Glimpse) → AreGlimpsed items g → (m : ℕ) → m < length items
    → (GlimpseAllowsNext sample (glimpsed sample (take m (items ++ more)) g) (slice_get (items ++ more) m) → ⊥) → ⊥
none_before [] more g h m l refused = absurd (omega arith)
none_before (i ∷ items) more g h zero l refused = refused h.0
none_before (i ∷ items) more g h (suc m) l refused = none_before items more (glimpses sample i g) h.1 m (omega arith) refused

nowhere : (items : List Seen) (g : Glimpse)
    → AreGlimpsed items g → (m : ℕ) → (GlimpseAllowsNext sample (glimpsed sample (take m items) g) (slice_get items m) → ⊥) → ⊥
nowhere [] g h zero refused = refused tt
nowhere [] g h (suc m) refused = refused tt
nowhere (i ∷ items) g h zero refused = refused h.0
nowhere (i ∷ items) g h (suc m) refused = nowhere items (glimpses sample i g) h.1 m refused

load_allowed : AreGlimpsed load glimpse_at_first
unfolding sum_below
load_allowed = (
  inr tt,
  (
    inr refl,
    (
      inr (tt, refl),
      (
        inr (tt, lit≤ tt),
        (inr tt, (inr (refl, refl), (inr tt, (inr refl, (inr (tt, refl), (inr (tt, lit≤ tt), (inr tt, (inr (refl, refl), tt)))))))),
      ),
    ),
  ),
)

allowed_again : AreGlimpsed (take 17 (load ++ load)) glimpse_at_first
unfolding sum_below
allowed_again = (
  inr tt,
  (
    inr refl,
    (
      inr (tt, refl),
      (
        inr (tt, lit≤ tt),
        (
          inr tt,
          (
            inr (refl, refl),
            (
              inr tt,
              (
                inr refl,
                (
                  inr (tt, refl),
                  (
                    inr (tt, lit≤ tt),
                    (inr tt, (inr (refl, refl), (inr tt, (inr refl, (inr (tt, refl), (inr (tt, lit≤ tt), (inr tt, tt))))))),
                  ),
                ),
              ),
            ),
          ),
        ),
      ),
    ),
  ),
)

begins_at : MayEnd sample (load ++ load) 12
unfolding sum_below
begins_at = (lit≤ tt, (tt, refl))

no_later : (m : ℕ) → 12 < m → m ≤ 17 → MayEnd sample (load ++ load) m → ⊥
unfolding sum_below
no_later zero after until place = absurd (omega arith)
no_later (suc zero) after until place = absurd (omega arith)
no_later (suc (suc zero)) after until place = absurd (omega arith)
no_later (suc (suc (suc zero))) after until place = absurd (omega arith)
no_later (suc (suc (suc (suc zero)))) after until place = absurd (omega arith)
no_later (suc (suc (suc (suc (suc zero))))) after until place = absurd (omega arith)
no_later (suc (suc (suc (suc (suc (suc zero)))))) after until place = absurd (omega arith)
no_later (suc (suc (suc (suc (suc (suc (suc zero))))))) after until place = absurd (omega arith)
no_later (suc (suc (suc (suc (suc (suc (suc (suc zero)))))))) after until place = absurd (omega arith)
no_later (suc (suc (suc (suc (suc (suc (suc (suc (suc zero))))))))) after until place = absurd (omega arith)
no_later (suc (suc (suc (suc (suc (suc (suc (suc (suc (suc zero)))))))))) after until place = absurd (omega arith)
no_later (suc (suc (suc (suc (suc (suc (suc (suc (suc (suc (suc zero))))))))))) after until place = absurd (omega arith)
no_later (suc (suc (suc (suc (suc (suc (suc (suc (suc (suc (suc (suc zero)))))))))))) after until place = absurd (omega arith)
no_later (suc (suc (suc (suc (suc (suc (suc (suc (suc (suc (suc (suc (suc zero))))))))))))) after until place = place.1.0
no_later (suc (suc (suc (suc (suc (suc (suc (suc (suc (suc (suc (suc (suc (suc zero)))))))))))))) after until place = place.1.0
no_later (suc (suc (suc (suc (suc (suc (suc (suc (suc (suc (suc (suc (suc (suc (suc zero))))))))))))))) after until place = place.1.0
no_later (suc (suc (suc (suc (suc (suc (suc (suc (suc (suc (suc (suc (suc (suc (suc (suc zero)))))))))))))))) after until place = place.1.0
no_later (suc (suc (suc (suc (suc (suc (suc (suc (suc (suc (suc (suc (suc (suc (suc (suc (suc zero))))))))))))))))) after until place =
    place.1.0
no_later (suc (suc (suc (suc (suc (suc (suc (suc (suc (suc (suc (suc (suc (suc (suc (suc (suc (suc m)))))))))))))))))) after until place =
    absurd (omega arith)

-- the second load begins the second piece
pub again_pieces : ArePieces sample (load ++ load) (load ∷ (load ∷ []))
again_pieces = (
  load,
  refl,
  Before 17 (again_stops, λ m l. none_before (take 17 (load ++ load)) (drop 17 (load ++ load)) glimpse_at_first allowed_again m l) begins_at
      (lit≤ tt) no_later,
  (refl, inl (nowhere load glimpse_at_first load_allowed)),
)
