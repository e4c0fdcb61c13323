-- From the figures and pieces of a value line to the line.
use Rattle.std.proofs.Common.{◌≡◌, ℕ, ◌<◌, ◌≤◌, List, ◌++◌, arith}
use Rattle.std.proofs.lemmas.Grind.{common_steps}
use Rattle.values.specs.Types.{type_number}
use Rattle.values.specs.declared.SqliteType.{SqliteType}
use Rattle.figures.proofs.Steps.{figure_free, piece_free, number_free, stop_low}
use Rattle.calls.specs.Items.{Datum, Entry, letter_of, rendered_datum, rendered_item, GoodDatum, GoodEntry}

-- A type has a number from 1 up to 7.
pub type_low : (t : SqliteType) → (0 < type_number t) × (type_number t ≤ 7)
type_low t = (grind (arith), grind (arith))

pub type_most : (t : SqliteType) → type_number t ≤ 7
type_most t = (type_low t).1

-- Figures, signed figures and pieces are read in one way.
pub ruleset one_way = (common_steps, figure_free, number_free, piece_free, stop_low, type_most)

-- What is behind the declared type is read in one way.
datum_free : (d c : Datum) (r t : List ℕ) → letter_of d ≡ letter_of c →
    GoodDatum d → GoodDatum c → rendered_datum d ++ r ≡ rendered_datum c ++ t → (d ≡ c) × (r ≡ t)
datum_free d c r t e g h q = grind (arith, one_way)

-- A value line is read in one way.
pub item_free : (e f : Entry) (r t : List ℕ) → GoodEntry e → GoodEntry f →
    rendered_item e ++ r ≡ rendered_item f ++ t → (e ≡ f) × (r ≡ t)
item_free e f r t g h q = grind (arith, one_way, datum_free)
