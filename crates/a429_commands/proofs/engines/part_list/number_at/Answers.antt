use Rattle.std.proofs.Common.{◌≡◌, ◌∙◌, ap, sym, subst, take}
use Rattle.std.specs.Str.Parse.{digits_value}
use Rattle.a429_commands.proofs.PartListFacts.{IsPlain, is_written, not_written}
use Rattle.a429_commands.proofs.engines.part_list.number_at.Goals as goal

pub returns-then-is_number-clause-some : goal.returns-then-is_number-clause-some
returns-then-is_number-clause-some c =
    let text = c.args.text.now in
    let len = c.digits_in.result in
    let front = c.split_at.ensures.front in
    let plain : IsPlain (take len text) = subst IsPlain front (c.is_number.ensures.0 c.if-is_number.true) in
    let value : c.value_of.result ≡ digits_value 10 (take len text) = c.value_of.ensures.value ∙ ap (digits_value 10) front in (
      rw c.split_at.ensures.back (is_written text len c.value_of.result c.digits_in.ensures.digits plain value c.value_of.ensures.small),
      c.value_of.ensures.small,
      rw c.split_at.ensures.back c.digits_in.ensures.ends,
    )

pub returns-else-is_number-clause-none : goal.returns-else-is_number-clause-none
returns-else-is_number-clause-none c = λ e n rest small none eq.
    not_written c.args.text.now c.digits_in.result n rest c.digits_in.ensures.digits c.digits_in.ensures.ends
    (λ plain. absurd (cc (c.is_number.ensures.1 (subst IsPlain (sym c.split_at.ensures.front) plain), c.if-is_number.false))) small none eq
