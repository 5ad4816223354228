use Rattle.std.proofs.Common.{ap, rules, [], ◌∷◌, sym, ◌∙◌, ℕ, Option}
use Rattle.std.specs.Prelude.{unwrap_or}
use Rattle.a429_parts.specs.Cutter.{CutterState}
use Rattle.a429_parts.proofs.CutterFacts.{cuts_more, found_more, in_reach, takes_same}
use Rattle.a429_parts.proofs.cutting.Cutter.take.Goals as goal

pub returns-in-Some-clause-cuts : goal.returns-in-Some-clause-cuts
returns-in-Some-clause-cuts c parted rest h =
    let p = c.args.profile.now in
    let e = c.args.entry.now in
    let takes =
    takes_same p e c.self.inside.watch c.args.self.now.watched c.take.new.self c.seen-word.result c.take.result
    (ap (λ (v : CutterState). v.watched) c.self.view_is) c.seen-word.ensures c.take.ensures.takes in
    cuts_more p parted rest e c.args.self.now _ c.take.result h takes (ap (λ (v : CutterState). v.begin) c.self.view_is) (search rules)
    (sym (ap (λ (o : Option ℕ). unwrap_or o c.args.self.now.place) c.in-Some.is))

pub returns-in-None-clause-cuts : goal.returns-in-None-clause-cuts
returns-in-None-clause-cuts c parted rest h =
    let p = c.args.profile.now in
    let e = c.args.entry.now in
    let takes =
    takes_same p e c.self.inside.watch c.args.self.now.watched c.take.new.self c.seen-word.result c.take.result
    (ap (λ (v : CutterState). v.watched) c.self.view_is) c.seen-word.ensures c.take.ensures.takes in
    cuts_more p parted rest e c.args.self.now _ c.take.result h takes (ap (λ (v : CutterState). v.begin) c.self.view_is) (search rules)
    (ap (λ (v : CutterState). v.place) c.self.view_is ∙ sym (ap (λ (o : Option ℕ). unwrap_or o c.args.self.now.place) c.in-None.is))

pub returns-in-Some-clause-reach : goal.returns-in-Some-clause-reach
returns-in-Some-clause-reach c parted rest h current =
    let e = c.args.entry.now in
    let takes =
    takes_same c.args.profile.now e c.self.inside.watch c.args.self.now.watched c.take.new.self c.seen-word.result c.take.result
    (ap (λ (v : CutterState). v.watched) c.self.view_is) c.seen-word.ensures c.take.ensures.takes in
    let new : CutterState =
    record { most = c.self.inside.most; watched = c.take.new.self; begin = c.self.inside.begin; place = c.in-Some.place; waiting = [] } in
    in_reach c.args.profile.now parted rest e c.args.self.now new c.take.result h takes (ap (λ (v : CutterState). v.begin) c.self.view_is)
    (ap (λ (v : CutterState). v.most) c.self.view_is) (sym (ap (λ (o : Option ℕ). unwrap_or o c.args.self.now.place) c.in-Some.is)) current

pub returns-in-None-clause-reach : goal.returns-in-None-clause-reach
returns-in-None-clause-reach c parted rest h current =
    let e = c.args.entry.now in
    let takes =
    takes_same c.args.profile.now e c.self.inside.watch c.args.self.now.watched c.take.new.self c.seen-word.result c.take.result
    (ap (λ (v : CutterState). v.watched) c.self.view_is) c.seen-word.ensures c.take.ensures.takes in
    let new : CutterState = record {
      most = c.self.inside.most;
      watched = c.take.new.self;
      begin = c.self.inside.begin;
      place = c.self.inside.place;
      waiting = [];
    } in
    in_reach c.args.profile.now parted rest e c.args.self.now new c.take.result h takes (ap (λ (v : CutterState). v.begin) c.self.view_is)
    (ap (λ (v : CutterState). v.most) c.self.view_is)
    (ap (λ (v : CutterState). v.place) c.self.view_is ∙ sym (ap (λ (o : Option ℕ). unwrap_or o c.args.self.now.place) c.in-None.is)) current

pub returns-in-Some-clause-in_time : goal.returns-in-Some-clause-in_time
returns-in-Some-clause-in_time c parted cuts current in_time =
    let p = c.args.profile.now in
    let e = c.args.entry.now in
    let takes =
    takes_same p e c.self.inside.watch c.args.self.now.watched c.take.new.self c.seen-word.result c.take.result
    (ap (λ (v : CutterState). v.watched) c.self.view_is) c.seen-word.ensures c.take.ensures.takes in
    found_more p parted e c.args.self.now _ (ap (λ (v : CutterState). v.begin) c.self.view_is)
    (ap (λ (v : CutterState). v.most) c.self.view_is) (search rules) (λ rest. returns-in-Some-clause-cuts c parted rest (cuts (e ∷ rest)))
    c.take.result takes (sym (ap (λ (o : Option ℕ). unwrap_or o c.args.self.now.place) c.in-Some.is)) current in_time

pub returns-in-None-clause-in_time : goal.returns-in-None-clause-in_time
returns-in-None-clause-in_time c parted cuts current in_time =
    let p = c.args.profile.now in
    let e = c.args.entry.now in
    let takes =
    takes_same p e c.self.inside.watch c.args.self.now.watched c.take.new.self c.seen-word.result c.take.result
    (ap (λ (v : CutterState). v.watched) c.self.view_is) c.seen-word.ensures c.take.ensures.takes in
    found_more p parted e c.args.self.now _ (ap (λ (v : CutterState). v.begin) c.self.view_is)
    (ap (λ (v : CutterState). v.most) c.self.view_is) (search rules)
    (λ rest. returns-in-None-clause-cuts c parted rest (cuts (e ∷ rest))) c.take.result takes
    (ap (λ (v : CutterState). v.place) c.self.view_is ∙ sym (ap (λ (o : Option ℕ). unwrap_or o c.args.self.now.place) c.in-None.is)) current
    in_time
