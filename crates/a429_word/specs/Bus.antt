-- How a bus is written (profile).
use Rattle.std.specs.Prelude.{ℕ, List, codes}
use Rattle.a429_word.specs.declared.bus.Bus.{Bus}
use Rattle.a429_word.specs.declared.bus.Bus.TheVariants.{A, B}

-- the letter of a bus
abbrev pub bus_text : Bus → List ℕ
bus_text A = codes "A"
bus_text B = codes "B"
