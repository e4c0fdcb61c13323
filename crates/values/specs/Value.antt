-- A value as a slot or a column holds it.
use Rattle.std.specs.Prelude.{ℕ, List, ℤ}

-- Null, a signed 64-bit number, a Double by its bit pattern, text by its bytes, or a blob.
pub data Value : Type 0 where
  null : Value
  long : ℤ → Value
  double : ℕ → Value
  text : List ℕ → Value
  blob : List ℕ → Value
