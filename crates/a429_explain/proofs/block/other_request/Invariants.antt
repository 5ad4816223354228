use Rattle.std.proofs.Common.{◌≡◌, slice_range}
use Rattle.a429_explain.specs.Attempts.{roles}
use Rattle.a429_explain.specs.Decoded.{HeardValue, forms_of}
use Rattle.a429_explain.specs.Whole.{other_request}
use Rattle.a429_explain.proofs.block.other_request.Given as goal

abbrev pub invariant-loop-at : goal.invariant-loop-at
invariant-loop-at l = (h : HeardValue) → l.roles ≡ roles (forms_of h.profile.codes h.items)
    → other_request h.profile.codes l.request.count (slice_range h.items l.fn.request.group.from l.fn.request.group.to)
    l.fn.request.group.from ≡ other_request h.profile.codes l.request.count (slice_range h.items l.at l.fn.request.group.to) l.at
