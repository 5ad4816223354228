use Rattle.std.proofs.Common.{◌≡◌, ◌&&◌, Bool, Option, Some, option_map, not, sym, ap, ◌∙◌, subst}
use Rattle.a429_word.specs.declared.bus.Bus.TheVariants as bus
use Rattle.a429_ldu.specs.declared.forms.Form.TheVariants as form
use Rattle.a429_link.specs.Implied.{Implied, implies_form}
use Rattle.a429_link.specs.Sink.{Number, answers, latest_number}
use Rattle.a429_sink.specs.declared.glimpsed.Accepted.{Accepted}
use Rattle.a429_sink.specs.Anywhere.{glimpses_form}
use Rattle.a429_sink.specs.Glimpsed.{FollowsForm, assumed_for, glimpse_of, is_whole_with}
use Rattle.a429_sink.proofs.GlimpsedFacts.{ack_taken, acked_with, and_else, and_then, assuming, new_follows, new_of}
use Rattle.a429_sink.proofs.glimpsed.GlimpsedSink.acknowledge.Goals as goal
use Rattle.a429_sink.proofs.glimpsed.GlimpsedSink.acknowledge.Goals.{else-is_whole, then-is_whole}

pub returns : goal.returns
returns c =
    let p = c.args.profile.now in
    let s = c.args.self.now in
    let unit = c.in-Some.unit in
    let file = c.args.file in
    let ldu = c.args.ldu in
    let st = c.step_to-step.result in
    let last = option_map latest_number s.last in
    let said : Accepted = record { unit = unit; files = c.in_ok-files.files } in
    let owed = sym c.in-Some.ensures in
    let assumed = assumed_for last (latest_number unit) st in
    let before : c.assume_last.new.self ≡ assuming assumed s.implied =
    c.assume_last.ensures ∙ ap (λ (l : Option Number). assuming l s.implied) c.assumed_for.ensures in
    let implied : c.hand_out.new.self ≡ acked_with p file ldu assumed s.implied =
    c.in_ok-files.ensures.taken ∙ ap (λ (i : Implied). implies_form p bus.B 0 (Some (form.Ack file ldu)) i) before in
    let files = c.in_ok-files.ensures.files ∙ ap (λ (i : Implied). (answers p.codes (form.Ack file ldu) i.sink).received.files) before in
    let whole : c.if-is_whole.self ≡ (is_whole_with st && not unit.is_final) =
    elim c.if-is_whole.branch [
      | then-is_whole w ↦
          and_then c.if-is_whole.self (not unit.is_final)
          (is_whole_with st) c.is_whole.result c.is_whole.ensures w.if-is_whole.true w.self-is
      | else-is_whole w ↦
          and_else c.if-is_whole.self (not unit.is_final) (is_whole_with st) c.is_whole.result c.is_whole.ensures w.if-is_whole.false
          (w.self-is ∙ w.if-is_whole.false)
    ] in
    record {
      taken = λ w.
          subst (λ (i : Implied). glimpse_of (record s { implied = i; last = Some unit; is_whole = c.if-is_whole.self })
          ≡ glimpses_form p bus.B w (Some (form.Ack file ldu)) (glimpse_of s))
          (sym implied)
          (ack_taken p w file ldu s unit assumed c.if-is_whole.self c.requires.known owed);
      follows = λ w.
          subst (λ (b : Bool). FollowsForm p bus.B w (Some (form.Ack file ldu)) s
          (record s { implied = c.hand_out.new.self; last = Some unit; is_whole = b }) (Some said))
          (sym whole)
          (subst (λ (i : Implied). FollowsForm p bus.B w (Some (form.Ack file ldu)) s
          (record s { implied = i; last = Some unit; is_whole = is_whole_with st && not unit.is_final }) (Some said)) (sym implied)
          (new_follows p w file ldu s st said c.requires.known c.requires.allowed owed c.step_to-step.ensures
          (new_of st c.in_default-step.not-Again) files));
      unchanged = tt;
    }
