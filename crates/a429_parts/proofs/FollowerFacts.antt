-- What an observer's last end word was.
use Rattle.std.proofs.Common.{◌≡◌, ℕ, Bool, true, false, if◌then◌else◌, Option, Some, option_map, refl, sym, subst}
use Rattle.a429_word.specs.declared.bus.Bus.{Bus}
use Rattle.a429_word.specs.declared.bus.Bus.TheVariants as bus
use Rattle.a429_profile.specs.Profile.{Contents}
use Rattle.a429_ldu.specs.declared.forms.Form.{Form}
use Rattle.a429_ldu.specs.declared.forms.Form.TheVariants.{Eot}
use Rattle.a429_ldu.specs.declared.sight.Sight.TheVariants as sight
use Rattle.a429_link.specs.declared.number.UnitNumber.{UnitNumber}
use Rattle.a429_link.specs.Observer.{Observer, AllowsForm, HasGrant, sees_form}
use Rattle.a429_link.specs.Sink.{MayAnswer, Number, SinkPhase, Quiet, OwesClear, Granted, InBlock, OwesAck, OwesNak, at_end, end_word, is_good}
use Rattle.a429_parts.specs.Follower.{HasEnded, Remembers}

ended : (p : Contents) (last : Option Number) (count flags check : ℕ) (phase : SinkPhase)
    → HasGrant phase → HasEnded flags (at_end p last count (end_word flags check) phase)
ended p last count flags check Granted grant = tt
ended p last count flags check (InBlock b) grant = by_good (is_good p last count b check)
  where
    by_good : (good : Bool) → HasEnded flags (if good then OwesAck b flags else OwesNak)
    by_good true = refl
    by_good false = tt
ended p last count flags check Quiet grant = absurd grant
ended p last count flags check OwesClear grant = absurd grant
ended p last count flags check (OwesAck b end) grant = absurd grant
ended p last count flags check OwesNak grant = absurd grant

no_answer : (count flags check : ℕ) (phase : SinkPhase) → MayAnswer count phase (Eot flags check) → ⊥
no_answer count flags check Quiet may = may
no_answer count flags check OwesClear may = may
no_answer count flags check Granted may = may
no_answer count flags check (InBlock b) may = may
no_answer count flags check (OwesAck b end) may = may
no_answer count flags check OwesNak may = may

end_seen : (p : Contents) (o : Observer) (b : Bus) (w flags check : ℕ) (last : Option UnitNumber) → AllowsForm o b (Some (Eot flags check))
    → last ≡ option_map (λ n. n.number) o.last → Remembers last flags (sees_form p b w (Some (Eot flags check)) o)
end_seen p o bus.A w flags check last allows same = (same, ended p o.last o.count flags check o.phase allows)
end_seen p o bus.B w flags check last allows same = absurd (no_answer o.count flags check o.phase allows)

pub end_remembered : (p : Contents) (o : Observer) (b : Bus) (w : ℕ) (f : Form) (flags check : ℕ) (last : Option UnitNumber)
    → f ≡ Eot flags check → AllowsForm o b (Some f) → last ≡ option_map (λ n. n.number) o.last
    → Remembers last flags (sees_form p b w (Some f) o)
end_remembered p o b w f flags check last is allows same =
    subst (λ (x : Form). Remembers last flags (sees_form p b w (Some x) o)) (sym is)
    (end_seen p o b w flags check last (subst (λ (x : Form). AllowsForm o b (Some x)) is allows) same)
