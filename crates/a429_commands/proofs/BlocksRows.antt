-- The rows of entries that come one by one.
use Rattle.std.proofs.Common.{◌≡◌, ℕ, ◌+◌, ◌^◌, ◌<◌, List, [], ◌∷◌, ◌++◌, length, append_assoc, append-nil, Option, IfSome, refl, sym, ap, ◌∙◌, subst}
use Rattle.a429_word.specs.declared.sheet.Sheet.{Sheet}
use Rattle.a429_word.specs.Sheet.{Says, SaysSome}
use Rattle.a429_word.proofs.SheetFacts.{◌▹◌}
use Rattle.a429_profile.specs.Profile.{Contents, IsProfile}
use Rattle.a429_ldu.specs.declared.sight.Sight.{Sight}
use Rattle.a429_link.specs.Observer.{Allows, AreAllowed, Observer, at_first, observed}
use Rattle.a429_link.specs.Implied.{observer_of}
use Rattle.a429_link.proofs.MessageRead.{is_read}
use Rattle.a429_link.proofs.ObserverRefuses as refuses
use Rattle.a429_record.specs.declared.entry.Entry.{Entry}
use Rattle.a429_record.specs.Recording.{Recording, whole}
use Rattle.a429_link.proofs.ImpliedFacts.{observer_again}
use Rattle.a429_link.proofs.ObserverMore.{allowed_push}
use Rattle.a429_cert.specs.Explained.{items_of, seen_of}
use Rattle.a429_cert.proofs.ItemsFacts.{items_push}
use Rattle.a429_parts.specs.Keeping.{Taken}
use Rattle.a429_parts.proofs.KeepingFacts.{Came}
use Rattle.a429_view.specs.declared.blocks.Blocks.{Blocks}
use Rattle.a429_view.specs.declared.trace.TraceStop.TheVariants as stop
use Rattle.a429_view.specs.Trace.{IsTraceStop}
use Rattle.a429_view.specs.Blocks.{IsBlocks, PutsOnTo, begun_text, blocks_text, refused_text}
use Rattle.a429_commands.specs.declared.fault.RunFault.{RunFault}
use Rattle.a429_commands.specs.Blocks.{AreRowsBefore, EndsAllRuns, ShowsAttempts, all, begun_on, up_to}
use Rattle.a429_commands.specs.Streaming.{AreAllBefore, AreThoseGiven}
use Rattle.a429_commands.specs.Trace.{BeginsWith}
use Rattle.a429_commands.proofs.StreamingFacts.{all_before}
use Rattle.a429_commands.proofs.TraceLines.{begins_with, none_begins}

-- what is known after some entries: their blocks, and that each is allowed
pub record Blocked (p : Contents) (b : Blocks) (es : List Entry) : Type 0 where
  pub is : IsBlocks p b es
  pub allowed : AreAllowed p at_first (items_of es)

-- the observer of the entries is that of what they imply
observer_is : (p : Contents) (b : Blocks) (es : List Entry) → IsBlocks p b es → observer_of b.sink ≡ observed p (items_of es) at_first
observer_is p b es h = ap observer_of h.sink ∙ observer_again p (items_of es)

pub blocked_more : (p : Contents) (old new : Blocks) (es : List Entry) (e : Entry) → length es + 1 < 2 ^ 64
    → ((fs : List Entry) → length fs + 1 < 2 ^ 64 → IsBlocks p old fs → IsBlocks p new (fs ++ e ∷ []))
    → Allows p (observer_of old.sink) (seen_of e) → Blocked p old es → Blocked p new (es ++ e ∷ [])
blocked_more p old new es e few next allowed h = record {
  is = next es few h.is;
  allowed =
      subst (AreAllowed p at_first) (sym (items_push es e))
      (allowed_push p (items_of es) (seen_of e) at_first h.allowed
      (subst (λ (o : Observer). Allows p o (seen_of e)) (observer_is p old es h.is) allowed));
}

-- why no run records it
pub ends_all : (p : Contents) → IsProfile p → (b : Blocks) (es : List Entry) (e : Entry) (s : Sight) → Blocked p b es
    → IsTraceStop p b.sink e (stop.Refused s) → EndsAllRuns p (items_of es) (seen_of e)
ends_all p sound b es e s h stopped =
    let never : Allows p (observed p (items_of es) at_first) (seen_of e)
    → ⊥ = λ a. stopped.1 (subst (λ (o : Observer). Allows p o (seen_of e)) (sym (observer_is p b es h.is)) a) in
    record {
      before = h.allowed;
      refused = never;
      impossible =
          none_begins p (items_of es) (seen_of e) (λ n. refuses.impossible p (is_read p sound) (items_of es ++ seen_of e ∷ []) n) never;
    }

-- one text on a sheet, and then another
pub puts_both : {W : Type 0} {contents : W → Option (List ℕ)} {a b c : Sheet W} {x y z : List ℕ} → PutsOnTo contents a b x y
    → PutsOnTo contents b c y z → PutsOnTo contents a c x z
puts_both {x = x} p q = record {
  more = p.more ++ q.more;
  is = q.is ∙ ap (λ (t : List ℕ). t ++ q.more) p.is ∙ append_assoc x p.more q.more;
  says = p.says ▹ q.says;
}

pub puts_none : {W : Type 0} {contents : W → Option (List ℕ)} {a : Sheet W} {x : List ℕ} → Says contents a a [] → PutsOnTo contents a a x x
puts_none {x = x} says = record { more = []; is = sym (append-nil x); says = says }

pub says_all : {W : Type 0} (contents : W → Option (List ℕ)) (a b : Sheet W) (p : Contents) (known : Taken) (blocks : Blocks)
    (es : List Entry) → Blocked p blocks es → IfSome known.recording (λ r. r ≡ whole es)
    → PutsOnTo contents a b (begun_text p []) (blocks_text p es) → SaysSome contents a b (begun_on p (ShowsAttempts p known 0))
says_all contents a b p known blocks es h known_all puts = (puts.more, all es known_all h.allowed refl (sym puts.is), puts.says)

pub says_up_to : {W : Type 0} (contents : W → Option (List ℕ)) (a b : Sheet W) (p : Contents) (known : Taken) (es : List Entry) (e : Entry)
    → BeginsWith known.recording (es ++ e ∷ []) → EndsAllRuns p (items_of es) (seen_of e)
    → PutsOnTo contents a b (begun_text p []) (refused_text p es e) → SaysSome contents a b (begun_on p (ShowsAttempts p known 1))
says_up_to contents a b p known es e begins ends puts = (puts.more, up_to es e begins ends refl (sym puts.is), puts.says)

pub says_rows : {W : Type 0} (contents : W → Option (List ℕ)) (a b : Sheet W) (p : Contents) (known : Taken) (left : Option Recording)
    (blocks : Blocks) (es : List Entry) (f : RunFault) → Blocked p blocks es
    → Came known.recording es left → AreAllBefore f left [] → AreThoseGiven f known.given (length es)
    → PutsOnTo contents a b (begun_text p []) (begun_text p es) → SaysSome contents a b (begun_on p (AreRowsBefore p known f))
says_rows contents a b p known left blocks es f h came none given puts = (
  puts.more,
  record {
    entries = es;
    begins = begins_with known.recording left es came;
    all = all_before known.recording left es f came none;
    came = given;
    allowed = h.allowed;
    text_is = sym puts.is;
  },
  puts.says,
)

-- after the names of the columns
pub says_after : {W : Type 0} (contents : W → Option (List ℕ)) (a b c : Sheet W) (p : Contents) (Such : List ℕ → Type 0)
    → Says contents a b (begun_text p []) → SaysSome contents b c (begun_on p Such) → SaysSome contents a c Such
says_after contents a b c p Such before h = (begun_text p [] ++ h.0, h.1, before ▹ h.2)
