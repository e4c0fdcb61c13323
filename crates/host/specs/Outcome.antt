-- What a step of a host's program gives.
use Rattle.std.specs.Prelude.{ℕ, List}
use Rattle.values.specs.Value.{Value}

-- A row with one value a column, the end of the rows, or a failure with its code.
pub data Outcome : Type 0 where
  row : List Value → Outcome
  done : Outcome
  failed : ℕ → Outcome
