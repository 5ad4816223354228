use Rattle.std.proofs.Common.{◌≡◌, ◌∷◌, ◌-◌, length, get_or, take, drop, ap, sym, Some, option_map, rules, arith, length-drop}
use Rattle.std.proofs.lemmas.List.{take_all}
use Rattle.a429_cert.proofs.PassingText.{listed_here}
use Rattle.std.proofs.lemmas.Result.{IfErr-weaker, IfOk-weaker}
use Rattle.a429_link.specs.State.{State}
use Rattle.a429_cert.specs.Passing.{Lists, RefusesFirst}
use Rattle.a429_cert.proofs.passing.read_step.Goals as goal

pub returns-in-Some-clause-listed : goal.returns-in-Some-clause-listed
returns-in-Some-clause-listed c =
    let bytes = option_map (λ b. b.now) c.args.text in
    let says = rw c.in-Some.is at c.requires.known in
    IfOk-weaker c.allow_line.result _ (λ x. Lists c.args.profile.now bytes x c.args.link.now.state)
    (λ x h. rw c.requires.profile at (h bytes says)) c.allow_line.ensures.listed

pub returns-in-Some-clause-refused : goal.returns-in-Some-clause-refused
returns-in-Some-clause-refused c =
    let bytes = option_map (λ b. b.now) c.args.text in
    let says = rw c.in-Some.is at c.requires.known in
    IfErr-weaker c.allow_line.result _ (RefusesFirst c.args.profile.now bytes c.args.n c.args.link.now.state)
    (λ f h. rw c.requires.profile at (h bytes says)) c.allow_line.ensures.refused

pub returns-in-76-clause-listed : goal.returns-in-76-clause-listed
returns-in-76-clause-listed c =
    let text = c.in-Some-text.text.now in
    let rest = take (length text - 1) (drop 1 text) in
    let first : text ≡ 76 ∷ drop 1 text = search rules in
    let whole : rest ≡ drop 1 text = take_all (length text - 1) (drop 1 text) (omega (arith, length-drop 1 text)) in
    let bytes : option_map (λ b. b.now) c.args.text ≡ Some (76 ∷ rest) = rw (c.in-Some-text.is, whole) (ap Some first) in
    rw bytes (listed_here c.read_load.result c.args.profile.now (Some (76 ∷ rest)) c.args.link.now.state c.read_load.ensures.listed)

pub returns-in-len1-up-clause-listed : goal.returns-in-len1-up-clause-listed
returns-in-len1-up-clause-listed c =
    let text = c.in-Some-text.text.now in
    let rest = take (length text - 1) (drop 1 text) in
    let first : text ≡ get_or text 0 0 ∷ drop 1 text = search rules in
    let whole : rest ≡ drop 1 text = take_all (length text - 1) (drop 1 text) (omega (arith, length-drop 1 text)) in
    let bytes : option_map (λ b. b.now) c.args.text ≡ Some (get_or text 0 0 ∷ rest) = rw (c.in-Some-text.is, whole) (ap Some first) in
    rw bytes (rw c.requires.profile at c.read_moved.ensures.listed)

pub returns-in-len1-up-clause-refused : goal.returns-in-len1-up-clause-refused
returns-in-len1-up-clause-refused c =
    let text = c.in-Some-text.text.now in
    let rest = take (length text - 1) (drop 1 text) in
    let first : text ≡ get_or text 0 0 ∷ drop 1 text = search rules in
    let whole : rest ≡ drop 1 text = take_all (length text - 1) (drop 1 text) (omega (arith, length-drop 1 text)) in
    let bytes : option_map (λ b. b.now) c.args.text ≡ Some (get_or text 0 0 ∷ rest) = rw (c.in-Some-text.is, whole) (ap Some first) in
    rw bytes (rw c.requires.profile at c.read_moved.ensures.refused)

pub returns-in-76-clause-refused : goal.returns-in-76-clause-refused
returns-in-76-clause-refused c =
    let text = c.in-Some-text.text.now in
    let rest = take (length text - 1) (drop 1 text) in
    let first : text ≡ 76 ∷ drop 1 text = search rules in
    let whole : rest ≡ drop 1 text = take_all (length text - 1) (drop 1 text) (omega (arith, length-drop 1 text)) in
    let bytes : option_map (λ b. b.now) c.args.text ≡ Some (76 ∷ rest) = rw (c.in-Some-text.is, whole) (ap Some first) in
    rw bytes
    (IfErr-weaker c.read_load.result (λ f. (s : State) → RefusesFirst c.args.profile.now (Some (76 ∷ rest)) c.args.n s f)
    (RefusesFirst c.args.profile.now (Some (76 ∷ rest)) c.args.n c.args.link.now.state)
    (λ f h. h c.args.link.now.state) c.read_load.ensures.refused)

pub returns-in_default-text-clause-refused : goal.returns-in_default-text-clause-refused
returns-in_default-text-clause-refused c = rw c.in_default-text.is (λ at here z. (sym here, λ l is says. says))
