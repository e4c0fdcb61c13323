-- The declared types by their numbers.
use Rattle.std.specs.Prelude.{◌≡◌, ℕ, ◌<◌, ◌⊎◌, Result, MatchResult}
use Rattle.values.specs.declared.SqliteType.{SqliteType}
use Rattle.values.specs.declared.NoSuchType.{NoSuchType}
use Rattle.values.specs.declared.SqliteType.TheVariants.{Binary, Text, Float, Double, SmallInt, Integer, Long}

-- The number by which a value line names a declared type: 1 Binary to 7 Long.
abbrev pub type_number : SqliteType → ℕ
type_number Binary = 1
type_number Text = 2
type_number Float = 3
type_number Double = 4
type_number SmallInt = 5
type_number Integer = 6
type_number Long = 7

-- What a number names: the type with this number, or nothing.
abbrev pub TypeOf : ℕ → Result SqliteType NoSuchType → Type 0
TypeOf n r = MatchResult r (λ t. type_number t ≡ n) (λ e. (e.0 ≡ n) × ((n ≡ 0) ⊎ (7 < n)))
