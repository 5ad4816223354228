-- The channels of an export (profile).
use Rattle.std.specs.Prelude.{ℕ, List, ◌||◌, if◌then◌else◌}
use Rattle.a429_word.specs.declared.bus.Bus.TheVariants.{A, B}
use Rattle.a429_import.specs.declared.channel.Channels.{Channels}
use Rattle.a429_import.specs.declared.channel.Channel.{Channel}
use Rattle.a429_import.specs.declared.channel.Channel.TheVariants.{Line, Passed, Unknown}
use Rattle.a429_import.specs.Texts.{has_text}

-- what a channel of this name is
abbrev pub heard_on : Channels → List ℕ → Channel
heard_on c name =
    if has_text c.a name then Line A
    else if has_text c.b name then Line B
    else if c.pass_others || has_text c.pass name then Passed else Unknown
