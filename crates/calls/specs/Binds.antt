-- What the value lines of a bind give it: pairs, and the bytes that they name.
use Rattle.std.specs.Prelude.{◌≡◌, ℕ, ◌+◌, ◌≤◌, List, [], ◌∷◌, ◌++◌, length, Some, None, Option, Vec, vec_items, ◌≢◌}
use Rattle.std.specs.declared.alloc.Global.{Global}
use Rattle.runs.specs.Turns.{asked, bind}
use Rattle.runs.specs.declared.turns.Turn.{Turn}
use Rattle.std.specs.Float.Ieee as Ieee
use Rattle.std.specs.Float.{binary64}
use Rattle.std.specs.List.{flat_map, AllByRecursion}
use Rattle.binds.specs.Pairs.{Pair}
use Rattle.binds.specs.declared.collector.Span.{Span}
use Rattle.binds.specs.declared.collector.SqliteBindValue.{SqliteBindValue}
use Rattle.binds.specs.declared.collector.SqliteBindValue.TheVariants.{BorrowedString, String, BorrowedBinary, Binary, I32, I64, F64, Null}
use Rattle.figures.specs.Reading.{Reads, Block}
use Rattle.calls.specs.Items.{Datum, null, int, long, double, text, bytes, Entry, rendered_item, GoodEntry}
use Rattle.calls.specs.declared.items.Ownership.{Ownership}
use Rattle.calls.specs.declared.items.Ownership.TheVariants.{Borrowed, Owned}

-- The pairs, the borrowed bytes in order, and the owned bytes in order.
pub record Bundle : Type 0 where
  pub pairs : List Pair
  pub text : List ℕ
  pub given : List ℕ

-- A bundle of these.
abbrev pub bundle : List Pair → List ℕ → List ℕ → Bundle
bundle ps borrowed owned = record { pairs = ps; text = borrowed; given = owned }

-- Before the first value.
abbrev pub no_values : Bundle
no_values = bundle [] [] []

-- The bytes of a kind.
abbrev pub held_bytes : Ownership → Bundle → List ℕ
held_bytes Borrowed b = b.text
held_bytes Owned b = b.given

-- More bytes of a kind.
abbrev pub with_bytes : Ownership → List ℕ → Bundle → Bundle
with_bytes Borrowed bs b = record b { text = b.text ++ bs }
with_bytes Owned bs b = record b { given = b.given ++ bs }

-- The bytes of a value, taken in.
abbrev pub with_datum : Datum → Bundle → Bundle
with_datum null b = b
with_datum (int z) b = b
with_datum (long z) b = b
with_datum (double bits) b = b
with_datum (text o bs) b = with_bytes o bs b
with_datum (bytes o bs) b = with_bytes o bs b

-- Where bytes stand that come next: where those of their kind end.
abbrev pub next_span : Ownership → List ℕ → Bundle → Span
next_span o bs b = record { start = length (held_bytes o b); len = length bs }

-- A text at its place.
abbrev pub text_value : Ownership → Span → SqliteBindValue
text_value Borrowed s = BorrowedString s
text_value Owned s = String s

-- Bytes at their place.
abbrev pub bytes_value : Ownership → Span → SqliteBindValue
bytes_value Borrowed s = BorrowedBinary s
bytes_value Owned s = Binary s

-- The value to bind, if it comes next.
abbrev pub next_value : Bundle → Datum → SqliteBindValue
next_value b null = Null
next_value b (int z) = I32 z
next_value b (long z) = I64 z
next_value b (double bits) = F64 (Ieee.of_bits binary64 bits)
next_value b (text o bs) = text_value o (next_span o bs b)
next_value b (bytes o bs) = bytes_value o (next_span o bs b)

-- One more pair.
abbrev pub with_pair : Pair → Bundle → Bundle
with_pair p b = record b { pairs = b.pairs ++ (p ∷ []) }

-- One more line.
unfoldable pub with_entry : Bundle → Entry → Bundle
with_entry b e = with_pair (e.tpe, next_value b e.datum) (with_datum e.datum b)

-- All lines of a list, one after the other.
unfoldable pub with_entries : Bundle → List Entry → Bundle
with_entries b [] = b
with_entries b (e ∷ es) = with_entries (with_entry b e) es

-- At most 65,536 bytes of each kind.
abbrev pub Roomy : Bundle → Type 0
Roomy b = (length b.text ≤ 65536) × (length b.given ≤ 65536)

-- A good line whose bytes are not too many behind those of before.
abbrev pub GoodNext : Bundle → Entry → Type 0
GoodNext b e = GoodEntry e × Roomy (with_entry b e)

-- The bytes were kept behind those of before, which are not too many, at this place.
pub record Kept (before after bs : List ℕ) (span : Span) : Type 0 where
  pub after_is : after ≡ before ++ bs
  pub span_is : span ≡ record { start = length before; len = length bs }
  pub roomy : length before + length bs ≤ 65536

-- The value was taken in.
pub record TakenIn (before after : Bundle) (d : Datum) (v : SqliteBindValue) : Type 0 where
  pub value_is : v ≡ next_value before d
  pub after_is : after ≡ with_datum d before

-- The value line in front of s was taken in; rest is what stands behind it.
pub record LineTaken (before after : Bundle) (s rest : List ℕ) : Type 0 where
  pub entry : Entry
  pub reads : Reads rendered_item (GoodNext before) s entry rest
  pub after_is : after ≡ with_entry before entry

-- s begins with n value lines, which give b; rest is what stands behind them.
pub record ValuesRead (s : List ℕ) (n : ℕ) (b : Bundle) (rest : List ℕ) : Type 0 where
  pub block : Block rendered_item GoodEntry s n rest
  pub gives : b ≡ with_entries no_values block.items
  pub roomy : Roomy b

-- s begins with no n value lines whose bytes are not too many.
abbrev pub NoLines : List ℕ → ℕ → Type 0
NoLines s n =
    (es : List Entry) (rest : List ℕ) → length es ≡ n → AllByRecursion GoodEntry es →
    Roomy (with_entries no_values es) → s ≢ flat_map rendered_item es ++ rest

-- The bytes of a fresh buffer; none where the one of before is kept.
abbrev pub fresh_bytes : Option (Vec ℕ Global) → Option (List ℕ)
fresh_bytes (Some v) = Some (vec_items v)
fresh_bytes None = None

-- The turn of a bind with such values: it lends their bytes and keeps the room.
pub record BindTurn (query : ℕ) (b : Bundle) (t : Turn) : Type 0 where
  pub asks : asked t.call ≡ bind query b.pairs
  pub text : fresh_bytes t.lent.text ≡ Some b.text
  pub given : fresh_bytes t.lent.given ≡ Some b.given
  pub room : fresh_bytes t.lent.room ≡ None
