use Rattle.std.proofs.Common.{◌≡◌, ◌+◌, ◌++◌, ◌∙◌, ℕ, suc, List, [], take, drop, Option, Some, option_map, refl, sym, ap, subst, arith, rules}
use Rattle.std.proofs.lemmas.List.{length-map}
use Rattle.a429_link.specs.declared.file.FileBytes.{FileBytes}
use Rattle.a429_link.specs.Link.{LinkValue, with_earlier, handed_out}
use Rattle.a429_link.specs.State.{State}
use Rattle.a429_link.proofs.LinkCalls.{handed_earlier}
use Rattle.a429_cert.specs.Lines.{certificate_lines, line_bytes}
use Rattle.a429_cert.specs.Version.{step_lines}
use Rattle.a429_cert.specs.Explained.{items_of, seen_of, Reaches, IsExplained}
use Rattle.a429_cert.specs.Fault.{IsFirstCertFault}
use Rattle.a429_cert.proofs.EarlierFiles.{text_earlier, fault_earlier, given_out}
use Rattle.a429_cert.proofs.ExplainedFacts.{begins, line_here, line_read, none_here, none_read, left_on, none_of, passed_on, explained, in_some_run, in_every_run}
use Rattle.a429_cert.proofs.FaultFacts.{begun, faulty_now, left_over}
use Rattle.a429_cert.proofs.explained.verify.Goals as goal

pub loop-line-init : goal.loop-line-init
loop-line-init c =
    let p = c.args.profile.now in
    let s = c.start-link.result.state in
    let head = begun c.new-lines.result c.args.certificate.now c.in-Ok.head c.begin.new.lines c.new-lines.ensures c.in-Ok.ensures.ok in
    record {
      k = 0;
      number = refl;
      room = omega (arith, head.shorter);
      rest = head.lines;
      inside = omega arith;
      profile = ap (λ (l : LinkValue). l.profile) c.start-link.ensures.begins;
      none_left = ap (λ (l : LinkValue). l.state.sink.received.files) c.start-link.ensures.begins;
      reached = subst (λ (fs : List FileBytes). Reaches p c.in-Ok.head.first [] [] (with_earlier fs s)) (sym c.new-files.ensures.items)
          (begins p c.in-Ok.head.first (with_earlier [] s) (ap (λ (l : LinkValue). l.state) c.start-link.ensures.begins));
    }

pub returns-in-Err-replay_line-clause-err : goal.returns-in-Err-replay_line-clause-err
returns-in-Err-replay_line-clause-err c = λ h.
    let v = c.loop-line.invariant in
    let s = c.loop-line.link.state in
    let files = c.loop-line.files.items in
    let text = option_map (λ b. b.now) c.read.result in
    let head = begun c.new-lines.result c.args.certificate.now c.in-Ok.head c.begin.new.lines c.new-lines.ensures c.in-Ok.ensures.ok in
    let raw =
    line_here line_bytes (drop 2 (certificate_lines c.args.certificate.now)) c.loop-line.lines v.k c.next_line.result c.in-Some.line v.rest
    c.next_line.ensures.given c.in-Some.is in
    let here = line_read c.in-Ok.head.version (drop 2 (certificate_lines c.args.certificate.now)) v.k (line_bytes c.in-Some.line) raw
    ∙ ap (λ (o : Option (List ℕ)). Some o) (sym c.read.ensures) in
    faulty_now c.args.profile.now c.args.certificate.now (items_of c.args.entries.now) c.in-Ok.head v.k c.loop-line.used c.loop-line.n text
    c.seen_at.result (with_earlier files s) c.in-Err-replay_line.fault head.says here v.number c.seen_at.ensures v.inside v.reached
    (fault_earlier c.args.profile.now files s c.seen_at.result c.loop-line.n c.loop-line.used text c.in-Err-replay_line.fault
    (c.in-Err-replay_line.ensures.refused h))

pub loop-line-preserved : goal.loop-line-preserved
loop-line-preserved c =
    let p = c.args.profile.now in
    let v = c.loop-line.invariant in
    let s = c.loop-line.link.state in
    let t = c.replay_line.new.link.state in
    let files = c.loop-line.files.items in
    let text = option_map (λ b. b.now) c.read.result in
    let raw =
    line_here line_bytes (drop 2 (certificate_lines c.args.certificate.now)) c.loop-line.lines v.k c.next_line.result c.in-Some.line v.rest
    c.next_line.ensures.given c.in-Some.is in
    let here = line_read c.in-Ok.head.version (drop 2 (certificate_lines c.args.certificate.now)) v.k (line_bytes c.in-Some.line) raw
    ∙ ap (λ (o : Option (List ℕ)). Some o) (sym c.read.ensures) in
    let on =
    passed_on p c.in-Ok.head.first (step_lines c.in-Ok.head.version c.args.certificate.now)
    (items_of c.args.entries.now) v.k c.loop-line.used c.in-Ok-replay_line.count text c.seen_at.result (with_earlier files s)
    (with_earlier files t) here c.seen_at.ensures v.inside v.reached
    (text_earlier p text c.seen_at.result files s t c.in-Ok-replay_line.count c.in-Ok-replay_line.ensures.passed) in
    let shorter = c.in-Some.ensures.shorter refl in
    let state : c.take_files.new.link.state ≡ handed_out t = ap (λ (l : LinkValue). l.state) c.in-Ok-take_files.ensures.rest in
    let same : with_earlier c.take_files.new.files.items c.take_files.new.link.state ≡ with_earlier files t =
    ap (λ (fs : List FileBytes). with_earlier fs c.take_files.new.link.state) c.in-Ok-take_files.ensures.taken
    ∙ ap (with_earlier (files ++ t.sink.received.files)) state ∙ handed_earlier files t in
    record {
      k = suc v.k;
      number = omega (arith, v.number);
      room = omega (arith, v.room, shorter);
      rest =
          left_on (drop 2 (certificate_lines c.args.certificate.now)) c.loop-line.lines c.next_line.new.self v.k v.rest
          c.next_line.ensures.rest;
      inside = on.inside;
      profile = ap (λ (l : LinkValue). l.profile) c.in-Ok-take_files.ensures.rest ∙ c.in-Ok-replay_line.ensures.kept;
      none_left = ap (λ (q : State). q.sink.received.files) state;
      reached =
          subst (λ (q : State). Reaches p c.in-Ok.head.first (take (suc v.k) (step_lines c.in-Ok.head.version c.args.certificate.now))
          (take (c.loop-line.used + c.in-Ok-replay_line.count) (items_of c.args.entries.now)) q)
          (sym same) on.reached;
    }

pub returns-clause-err : goal.returns-clause-err
returns-clause-err c = λ h.
    let v = c.loop-line.invariant in
    let head = begun c.new-lines.result c.args.certificate.now c.in-Ok.head c.begin.new.lines c.new-lines.ensures c.in-Ok.ensures.ok in
    let end =
    none_read c.in-Ok.head.version (drop 2 (certificate_lines c.args.certificate.now)) v.k
    (none_here line_bytes (drop 2 (certificate_lines c.args.certificate.now)) c.loop-line.lines v.k c.next_line.result v.rest
    c.next_line.ensures.given (none_of c.next_line.result c.in_default.not-Some)) in
    let left = c.in-Err-all_used.ensures.err in
    subst (IsFirstCertFault c.args.profile.now c.args.certificate.now (items_of c.args.entries.now)) (sym left.0)
    (left_over c.args.profile.now c.args.certificate.now (items_of c.args.entries.now) c.in-Ok.head v.k c.loop-line.used
    (with_earlier c.loop-line.files.items c.loop-line.link.state) head.says end
    (omega (arith, left.1, length-map c.args.entries.now seen_of)) v.reached)

pub returns-in-Ok-all_used-clause-ok : goal.returns-in-Ok-all_used-clause-ok
returns-in-Ok-all_used-clause-ok c =
    let v = c.loop-line.invariant in
    let s = c.loop-line.link.state in
    let files = c.loop-line.files.items in
    let head = begun c.new-lines.result c.args.certificate.now c.in-Ok.head c.begin.new.lines c.new-lines.ensures c.in-Ok.ensures.ok in
    let end =
    none_read c.in-Ok.head.version (drop 2 (certificate_lines c.args.certificate.now)) v.k
    (none_here line_bytes (drop 2 (certificate_lines c.args.certificate.now)) c.loop-line.lines v.k c.next_line.result v.rest
    c.next_line.ensures.given (none_of c.next_line.result c.in_default.not-Some)) in
    subst (IsExplained c.args.profile.now c.args.certificate.now (items_of c.args.entries.now))
    (sym (c.new.ensures ∙ given_out files s v.none_left))
    (explained c.args.profile.now c.args.certificate.now (items_of c.args.entries.now) c.in-Ok.head v.k c.loop-line.used
    (with_earlier files s) head.says end (omega (arith, c.in-Ok-all_used.ensures.ok, length-map c.args.entries.now seen_of)) v.reached)

pub returns-in-Ok-all_used-clause-some_run : goal.returns-in-Ok-all_used-clause-some_run
returns-in-Ok-all_used-clause-some_run c =
    in_some_run c.args.profile.now c.args.certificate.now (items_of c.args.entries.now) c.new.result (returns-in-Ok-all_used-clause-ok c)

pub returns-in-Ok-all_used-clause-every_run : goal.returns-in-Ok-all_used-clause-every_run
returns-in-Ok-all_used-clause-every_run c =
    (in_every_run c.args.profile.now (search rules) c.args.certificate.now (items_of c.args.entries.now) c.new.result
    (returns-in-Ok-all_used-clause-ok c)).delivered

pub returns-in-Ok-all_used-clause-settled : goal.returns-in-Ok-all_used-clause-settled
returns-in-Ok-all_used-clause-settled c =
    (in_every_run c.args.profile.now (search rules) c.args.certificate.now (items_of c.args.entries.now) c.new.result
    (returns-in-Ok-all_used-clause-ok c)).settled

pub loop-line-smaller : goal.loop-line-smaller
loop-line-smaller c = c.in-Some.ensures.shorter refl

pub replay_line-requires-clause-profile : goal.replay_line-requires-clause-profile
replay_line-requires-clause-profile c = c.loop-line.invariant.profile
