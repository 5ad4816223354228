-- The words between a source and its sink's block.
use Rattle.std.specs.Prelude.{ℕ, List, take, drop}

pub record Lane : Type 0 where
  -- the words that the sink has taken of its block
  pub taken : List ℕ
  -- the words on their way to it, in order
  pub coming : List ℕ

-- a list, with so many of its words before the boundary
abbrev pub lane_at : ℕ → List ℕ → Lane
lane_at boundary words = record { taken = take boundary words; coming = drop boundary words }
