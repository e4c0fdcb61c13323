-- The value lines of a bind: what they hold, how they are written, and what is read from bytes.
use Rattle.std.specs.Prelude.{◌≡◌, ℕ, ◌^◌, ◌<◌, ◌≤◌, List, [], ◌∷◌, ◌++◌, length, ℤ, decimal, ◌≢◌}
use Rattle.std.specs.Int.Signed.{mag}
use Rattle.std.specs.Fmt.{signed_decimal}
use Rattle.values.specs.Types.{type_number}
use Rattle.values.specs.declared.SqliteType.{SqliteType}
use Rattle.figures.specs.Figures.{piece_line, Numeric}
use Rattle.calls.specs.declared.items.Ownership.{Ownership}
use Rattle.calls.specs.declared.items.Ownership.TheVariants.{Borrowed, Owned}
use Rattle.calls.specs.declared.items.Item.{Item}
use Rattle.calls.specs.declared.items.Content.{Content}
use Rattle.calls.specs.declared.items.Content.TheVariants.{Null, I32, I64, F64, Text, Bytes}

-- A value: null, a 32-bit or a 64-bit number, a Double by its bit pattern,
-- text or bytes, borrowed or owned.
pub data Datum : Type 0 where
  null : Datum
  int : ℤ → Datum
  long : ℤ → Datum
  double : ℕ → Datum
  text : Ownership → List ℕ → Datum
  bytes : Ownership → List ℕ → Datum

-- A value under its declared type: what one line holds.
pub record Entry : Type 0 where
  pub tpe : SqliteType
  pub datum : Datum

-- How it is written.

-- `T` or `t`
abbrev pub text_letter : Ownership → ℕ
text_letter Borrowed = 116
text_letter Owned = 84

-- `B` or `c`
abbrev pub bytes_letter : Ownership → ℕ
bytes_letter Borrowed = 99
bytes_letter Owned = 66

-- The first byte: `N`, `I`, `L`, `G`, or one for text and bytes.
abbrev pub letter_of : Datum → ℕ
letter_of null = 78
letter_of (int z) = 73
letter_of (long z) = 76
letter_of (double bits) = 71
letter_of (text o bs) = text_letter o
letter_of (bytes o bs) = bytes_letter o

-- The byte behind the declared type: the end of the line for null, else a space.
abbrev pub stop_of : Datum → ℕ
stop_of null = 10
stop_of (int z) = 32
stop_of (long z) = 32
stop_of (double bits) = 32
stop_of (text o bs) = 32
stop_of (bytes o bs) = 32

-- What stands behind that byte: nothing for null, else the value and the end of the line.
abbrev pub rendered_datum : Datum → List ℕ
rendered_datum null = []
rendered_datum (int z) = signed_decimal z ++ (10 ∷ [])
rendered_datum (long z) = signed_decimal z ++ (10 ∷ [])
rendered_datum (double bits) = decimal bits ++ (10 ∷ [])
rendered_datum (text o bs) = piece_line bs
rendered_datum (bytes o bs) = piece_line bs

-- `N 1`, `I 6 -5`, `L 7 -5`, `G 4 0`, `T 2 2 xy`, `t 2 2 xy`, `B 1 0 `, `c 1 0 `
abbrev pub rendered_item : Entry → List ℕ
rendered_item e =
    letter_of e.datum ∷
    (32 ∷ (decimal (type_number e.tpe) ++ (stop_of e.datum ∷ rendered_datum e.datum)))

-- What it may hold: signed 32-bit and 64-bit numbers, 64-bit patterns that are no NaN,
-- at most 65,536 bytes.
abbrev pub GoodDatum : Datum → Type 0
GoodDatum null = Unit {0}
GoodDatum (int z) = mag z < 2 ^ 31
GoodDatum (long z) = mag z < 2 ^ 63
GoodDatum (double bits) = (bits < 2 ^ 64) × Numeric bits
GoodDatum (text o bs) = length bs ≤ 65536
GoodDatum (bytes o bs) = length bs ≤ 65536

-- Any type may stand with any value.
abbrev pub GoodEntry : Entry → Type 0
GoodEntry e = GoodDatum e.datum

-- A good value that this letter asks for.
abbrev pub AskedBy : ℕ → Datum → Type 0
AskedBy letter d = (letter_of d ≡ letter) × GoodDatum d

-- s begins with no declared type and the byte `stop`.
abbrev pub NoType : ℕ → List ℕ → Type 0
NoType stop s = (t : SqliteType) (rest : List ℕ) → s ≢ decimal (type_number t) ++ (stop ∷ rest)

-- s begins with no signed 32-bit figure and byte 10.
abbrev pub NoSmall : List ℕ → Type 0
NoSmall s = (z : ℤ) (rest : List ℕ) → mag z < 2 ^ 31 → s ≢ signed_decimal z ++ (10 ∷ rest)

-- What a content stands for.
abbrev pub datum_of : Content → Datum
datum_of Null = null
datum_of (I32 z) = int z
datum_of (I64 z) = long z
datum_of (F64 bits) = double bits
datum_of (Text o bs) = text o bs.now
datum_of (Bytes o bs) = bytes o bs.now

-- What an item stands for.
abbrev pub entry_of : Item → Entry
entry_of i = record { tpe = i.tpe; datum = datum_of i.content }
