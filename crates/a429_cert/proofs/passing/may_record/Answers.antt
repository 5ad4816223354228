use Rattle.std.proofs.Common.{◌≡◌, Bool, true, false, subst, sym}
use Rattle.a429_link.specs.declared.seen.Seen.{Seen}
use Rattle.a429_word.specs.declared.bus.Bus.TheVariants as bus
use Rattle.a429_cert.specs.declared.act.Act.{Act}
use Rattle.a429_cert.specs.Passing.{IsReadyOf, IsNamedOf}
use Rattle.a429_cert.proofs.PassingStep.{sent_named, named_sent, answered_named, named_answered, ready_other}
use Rattle.a429_cert.proofs.passing.may_record.Goals as goal

-- some word
any : Seen
any = record { bus = bus.A; word = 0 }

both : (t : Bool) → t ≡ true → t ≡ false → ⊥
both true e f = cc f
both false e f = cc e

pub returns-in-Sent : goal.returns-in-Sent
returns-in-Sent c = record {
  yes =
      λ t. subst (λ (x : Act). IsReadyOf c.args.link.now.profile x c.args.link.now.state) (sym c.in-Sent.is)
      (sent_named c.args.link.now.profile any c.args.link.now.state ((c.may_send.ensures any).0 t));
  no =
      λ f n. both c.may_send.result
      ((c.may_send.ensures any).1 (named_sent c.args.link.now.profile any c.args.link.now.state
      (subst (λ (x : Act). IsNamedOf c.args.link.now.profile x c.args.link.now.state) c.in-Sent.is n)))
      f;
}

pub returns-in-Answered : goal.returns-in-Answered
returns-in-Answered c = record {
  yes =
      λ t. subst (λ (x : Act). IsReadyOf c.args.link.now.profile x c.args.link.now.state) (sym c.in-Answered.is)
      (answered_named c.args.link.now.profile any c.args.link.now.state ((c.may_answer.ensures any).0 t));
  no =
      λ f n. both c.may_answer.result
      ((c.may_answer.ensures any).1 (named_answered c.args.link.now.profile any c.args.link.now.state
      (subst (λ (x : Act). IsNamedOf c.args.link.now.profile x c.args.link.now.state) c.in-Answered.is n)))
      f;
}

pub returns-in_default : goal.returns-in_default
returns-in_default c = record {
  yes = λ t. ready_other c.args.link.now.profile c.args.act c.args.link.now.state c.in_default.not-Sent c.in_default.not-Answered;
  no = λ t. absurd (cc t);
}
