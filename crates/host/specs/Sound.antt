-- What is so of every host, in every state.
use Rattle.std.specs.Prelude.{◌≡◌, ℕ, ◌%◌, ◌^◌, ◌≤◌, Bool, true, false, cond, List, [], ◌∷◌, length, is_some, ◌==◌}
use Rattle.std.specs.List.{AllByRecursion}
use Rattle.values.specs.Value.{Value, null, long, double, text, blob}
use Rattle.host.specs.Outcome.{row}
use Rattle.host.specs.Meaning.{Meaning, Copies}

-- A value that a row may have: at most 65,536 bytes, and a Double is a number (above the pattern of infinity there is none).
abbrev pub Rowable : Value → Type 0
Rowable null = Unit {0}
Rowable (long n) = Unit {0}
Rowable (double bits) = bits % 2 ^ 63 ≤ 9218868437227405312
Rowable (text bs) = length bs ≤ 65536
Rowable (blob bs) = length bs ≤ 65536

-- Whether a number stands in a list.
abbrev pub among : ℕ → List ℕ → Bool
among n [] = false
among n (k ∷ ks) = cond (n == k) true (among n ks)

-- A list in which no number stands twice.
abbrev pub Distinct : List ℕ → Type 0
Distinct [] = Unit {0}
Distinct (k ∷ ks) = (among k ks ≡ false) × Distinct ks

-- The live copies are so many.
pub record Counted (live : Copies) (count : ℕ) : Type 0 where
  pub numbers : List ℕ
  pub distinct : Distinct numbers
  pub exact : (k : ℕ) → is_some (live k) ≡ among k numbers
  pub many : length numbers ≡ count

-- The laws of a host.
pub record Sound (m : Meaning) : Type 0 where
  pub few : m.params ≤ 32
  pub each : length m.slots ≡ m.params
  pub named : length m.names ≤ 16
  -- every row that the program can give, at any place and slots
  pub rows : (place : ℕ) (values vs : List Value) → (m.program place values).0 ≡ row vs → (length vs ≡ length m.names) × AllByRecursion Rowable vs
  pub copies : Counted m.live m.count
