-- Certificates of both directions explain a duplex run.
use Rattle.std.proofs.Common.{◌≡◌, ℕ, Bool, cond, List, [], ◌∷◌, map, refl, sym, ap, ◌∙◌}
use Rattle.a429_word.specs.declared.bus.Bus.{Bus}
use Rattle.a429_word.specs.declared.bus.Bus.TheVariants as bus
use Rattle.a429_profile.specs.Profile.{Contents}
use Rattle.a429_profile.specs.declared.codes.Codes.{Codes}
use Rattle.a429_ldu.specs.Form.{Fields, fields_of, is_free}
use Rattle.a429_link.specs.declared.file.FileBytes.{FileBytes}
use Rattle.a429_link.specs.declared.seen.Seen.{Seen}
use Rattle.a429_link.specs.Run.{RunOf, trace}
use Rattle.a429_record.specs.declared.entry.Entry.{Entry}
use Rattle.a429_cert.specs.Explained.{items_of}
use Rattle.a429_cert.proofs.ExplainedFacts.{in_every_run, in_some_run}
use Rattle.a429_side.specs.BothSides.{AreDuplexFiles, IsSideExplained, on}
use Rattle.a429_ldu.specs.Across.{mirrored}
use Rattle.a429_side.specs.Direction.{AreApart, IsMirror, all_turned, belongs, is_named, turned, view}
use Rattle.a429_side.specs.Duplex.{firsts, seconds}
use Rattle.a429_side.specs.Side.{side_of}
use Rattle.a429_side.proofs.DirectionFacts.{apart, named_alike}
use Rattle.a429_side.proofs.DuplexFacts.{interleaved, views}
use Rattle.a429_side.proofs.SideFacts.{here-view, lined-same, lined-turned}

-- ---- a mirror sees what the mirrored codes see

free_alike : (c d : Codes) → IsMirror c d → (b : Bus) (w : ℕ) → is_free d b w ≡ is_free (mirrored c) b w
free_alike c d m bus.A w =
    let label = m.to_sink in let protocol = m.protocol in let types = m.ignored_types in let codes = m.ignored_codes in
    cc
free_alike c d m bus.B w =
    let label = m.to_source in let protocol = m.protocol in let types = m.ignored_types in let codes = m.ignored_codes in
    cc

mirror_named : (c : Codes) (b : Bus) (f : Fields) → is_named (mirrored c) b f ≡ is_named c b f
mirror_named c bus.A f = refl
mirror_named c bus.B f = refl

belongs_alike : (c d : Codes) → IsMirror c d → (i : Seen) → belongs d i ≡ belongs (mirrored c) i
belongs_alike c d m i =
    let free = free_alike c d m i.bus i.word in
    let named : is_named d i.bus (fields_of i.word) ≡ is_named (mirrored c) i.bus (fields_of i.word) =
    named_alike c d m i.bus (fields_of i.word) ∙ sym (mirror_named c i.bus (fields_of i.word)) in
    rw (free, named) refl

view_alike : (c d : Codes) → IsMirror c d → (items : List Seen) → view (mirrored c) items ≡ view d items
view_alike c d m [] = refl
view_alike c d m (i ∷ items) =
    ap (λ (l : List Seen). cond (belongs (mirrored c) (turned i)) l (i ∷ l)) (view_alike c d m items)
    ∙ ap (λ (b : Bool). cond b (view d items) (i ∷ view d items)) (sym (belongs_alike c d m (turned i)))

mirror_back : (c d : Codes) → IsMirror c d → IsMirror d c
mirror_back c d m = record {
  to_sink = sym m.to_source;
  to_source = sym m.to_sink;
  full = sym m.full;
  partial = sym m.partial;
  protocol = sym m.protocol;
  sot = sym m.sot;
  eot = sym m.eot;
  rts = sym m.rts;
  cts = sym m.cts;
  ack = sym m.ack;
  nak = sym m.nak;
  ignored_types = sym m.ignored_types;
  ignored_codes = sym m.ignored_codes;
}

-- ---- what is written for a direction

side_a : (p : Contents) (d : Codes) (es : List Entry) (files : List FileBytes)
    → IsMirror p.codes d → IsSideExplained p bus.A es files → items_of (side_of p.codes (on bus.A) es) ≡ view d (items_of es)
side_a p d es files m h = here-view p.codes p.codes.destination (map _ es) h.here
    ∙ ap (λ (l : List Entry). view (mirrored p.codes) (items_of l)) (lined-same es) ∙ view_alike p.codes d m (items_of es)

side_b : (q : Contents) (c : Codes) (es : List Entry) (files : List FileBytes)
    → IsMirror q.codes c → IsSideExplained q bus.B es files → items_of (side_of q.codes (on bus.B) es) ≡ view c (all_turned (items_of es))
side_b q c es files m h = here-view q.codes q.codes.destination (map _ es) h.here ∙ ap (view (mirrored q.codes)) (lined-turned es)
    ∙ view_alike q.codes c m (all_turned (items_of es))

-- ---- both

abbrev run_of : (p : Contents) (b : Bus) (es : List Entry) (files : List FileBytes) → IsSideExplained p b es files → RunOf p
run_of p b es files h =
    let run = in_some_run p h.certificate (items_of (side_of p.codes (on b) es)) files h.explained in
    record { first = run.first; steps = run.steps; is_run = record { sound = h.sound; byte = run.byte; run = run.run } }

records : (p : Contents) (b : Bus) (es : List Entry) (files : List FileBytes) (h : IsSideExplained p b es files)
    → trace (run_of p b es files h).steps ≡ items_of (side_of p.codes (on b) es)
records p b es files h = (in_some_run p h.certificate (items_of (side_of p.codes (on b) es)) files h.explained).recorded

pub both_explained : (p q : Contents) (es : List Entry) (files others : List FileBytes) → IsMirror p.codes q.codes
    → IsSideExplained p bus.A es files → IsSideExplained q bus.B es others → AreDuplexFiles p q (items_of es) files others
both_explained p q es files others m f s =
    let a = side_a p q.codes es files m f in
    let b = side_b q p.codes es others (mirror_back p.codes q.codes m) s in
    let separate : AreApart p.codes q.codes = apart p q.codes f.sound m in
    let both =
    interleaved p q (run_of p bus.A es files f) (run_of q bus.B es others s) (items_of es) separate (records p bus.A es files f ∙ a)
    (records q bus.B es others s ∙ b) in
    record {
      duplex = both.duplex;
      records = both.records;
      first = λ d same.
          let seen : trace (firsts d.steps) ≡ items_of (side_of p.codes (on bus.A) es) =
          (views p q d separate).first ∙ ap (view q.codes) same ∙ sym a in
          sym ((in_every_run p f.sound f.certificate _ files f.explained).delivered d.first
          (firsts d.steps) d.is_first.byte d.is_first.run seen).0;
      second = λ d same.
          let seen : trace (seconds d.steps) ≡ items_of (side_of q.codes (on bus.B) es) =
          (views p q d separate).second ∙ ap (λ (l : List Seen). view p.codes (all_turned l)) same ∙ sym b in
          sym ((in_every_run q s.sound s.certificate _ others s.explained).delivered d.second
          (seconds d.steps) d.is_second.byte d.is_second.run seen).0;
    }
