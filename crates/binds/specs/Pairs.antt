-- What a caller asks of a list of (declared type, value) pairs.
use Rattle.std.specs.Prelude.{ℕ, ◌+◌, Bool, true, false, ◌&&◌, ◌||◌, List, [], ◌∷◌, ◌++◌, take, drop, Some, None, Option, ◌==◌, nat_le}
use Rattle.std.specs.List.{list_all, sum_by}
use Rattle.values.specs.Types.{type_number}
use Rattle.values.specs.declared.SqliteType.{SqliteType}
use Rattle.host.specs.Slots.{double_slot}
use Rattle.host.specs.declared.Source.TheVariants.{Text, Room}
use Rattle.host.specs.declared.Slot.{Slot}
use Rattle.host.specs.declared.Slot.TheVariants as slot
use Rattle.binds.specs.declared.collector.Span.{Span}
use Rattle.binds.specs.declared.collector.SqliteBindValue.{SqliteBindValue}
use Rattle.binds.specs.declared.collector.SqliteBindValue.TheVariants.{BorrowedString, String, BorrowedBinary, Binary, I32, I64, F64, Null}

-- A declared type and a value.
abbrev pub Pair : Type 0
Pair = SqliteType × SqliteBindValue

-- Text goes with Text (2), bytes with Binary (1), F64 with Float (3) or Double (4),
-- I32 with SmallInt (5) or Integer (6), I64 with Long (7), Null with every type.
abbrev pub pairs_up : SqliteType → SqliteBindValue → Bool
pairs_up t (BorrowedString s) = type_number t == 2
pairs_up t (String s) = type_number t == 2
pairs_up t (BorrowedBinary s) = type_number t == 1
pairs_up t (Binary s) = type_number t == 1
pairs_up t (I32 n) = type_number t == 5 || type_number t == 6
pairs_up t (I64 n) = type_number t == 7
pairs_up t (F64 x) = type_number t == 3 || type_number t == 4
pairs_up t Null = true

-- Where an owned value stands in the given bytes.
abbrev pub owned_span : SqliteBindValue → Option Span
owned_span (BorrowedString s) = None
owned_span (String s) = Some s
owned_span (BorrowedBinary s) = None
owned_span (Binary s) = Some s
owned_span (I32 n) = None
owned_span (I64 n) = None
owned_span (F64 x) = None
owned_span Null = None

-- Where a borrowed value stands in the text.
abbrev pub borrowed_span : SqliteBindValue → Option Span
borrowed_span (BorrowedString s) = Some s
borrowed_span (String s) = None
borrowed_span (BorrowedBinary s) = Some s
borrowed_span (Binary s) = None
borrowed_span (I32 n) = None
borrowed_span (I64 n) = None
borrowed_span (F64 x) = None
borrowed_span Null = None

-- Text and bytes, borrowed or owned.
abbrev pub takes_bytes : SqliteBindValue → Bool
takes_bytes (BorrowedString s) = true
takes_bytes (String s) = true
takes_bytes (BorrowedBinary s) = true
takes_bytes (Binary s) = true
takes_bytes (I32 n) = false
takes_bytes (I64 n) = false
takes_bytes (F64 x) = false
takes_bytes Null = false

-- A stretch lies inside so many bytes; an empty one may stand at their end.
abbrev pub span_inside : ℕ → Span → Bool
span_inside size s = nat_le (s.start + s.len) size

-- A stretch that is there lies inside so many bytes.
abbrev pub span_fits : ℕ → Option Span → Bool
span_fits size None = true
span_fits size (Some s) = span_inside size s

-- A borrowed value lies inside the text, an owned one inside the given bytes.
abbrev pub value_inside : ℕ → ℕ → SqliteBindValue → Bool
value_inside txt given v = span_fits txt (borrowed_span v) && span_fits given (owned_span v)

-- Each stretch of a kind lies inside so many bytes.
abbrev pub all_fit : ℕ → (SqliteBindValue → Option Span) → List Pair → Bool
all_fit size f ps = list_all (λ p. span_fits size (f p.1)) ps

-- Each value lies inside its buffer.
abbrev pub all_inside : ℕ → ℕ → List Pair → Bool
all_inside txt given ps = list_all (λ p. value_inside txt given p.1) ps

-- How many bytes a value takes in the room.
abbrev pub span_length : Option Span → ℕ
span_length None = 0
span_length (Some s) = s.len

-- 1 for a value that takes a lease in the room, even an empty one.
abbrev pub one_if : Option Span → ℕ
one_if None = 0
one_if (Some s) = 1

-- The number of owned values.
unfoldable pub owned_count : List Pair → ℕ
owned_count [] = 0
owned_count (p ∷ ps) = one_if (owned_span p.1) + owned_count ps

-- The bytes that they take in the room.
abbrev pub total_room_bytes : List Pair → ℕ
total_room_bytes ps = sum_by (λ p. span_length (owned_span p.1)) ps

-- The lease of an owned value, from a place of the room on.
abbrev pub lease_of : ℕ → Option Span → List Span
lease_of at None = []
lease_of at (Some s) = record { start = at; len = s.len } ∷ []

-- The leases of all owned values: the first from a place of the room on, the next where it ends.
unfoldable pub leases_from : ℕ → List Pair → List Span
leases_from at [] = []
leases_from at (p ∷ ps) = lease_of at (owned_span p.1) ++ leases_from (at + span_length (owned_span p.1)) ps

-- The bytes of an owned value.
abbrev pub span_bytes : List ℕ → Option Span → List ℕ
span_bytes given None = []
span_bytes given (Some s) = take s.len (drop s.start given)

-- The bytes of all owned values, one value after the other.
unfoldable pub owned_bytes : List ℕ → List Pair → List ℕ
owned_bytes given [] = []
owned_bytes given (p ∷ ps) = span_bytes given (owned_span p.1) ++ owned_bytes given ps

-- A number, if a test holds.
abbrev pub number_if : Bool → ℕ → List ℕ
number_if true i = i ∷ []
number_if false i = []

-- The numbers of the slots that take text or bytes, which a return makes null; the first pair is for slot i.
unfoldable pub byte_slots : ℕ → List Pair → List ℕ
byte_slots i [] = []
byte_slots i (p ∷ ps) = number_if (takes_bytes p.1) i ++ byte_slots (i + 1) ps

-- What a slot holds once the value is bound, an owned one with its lease at a place of the room.
abbrev pub slot_for : ℕ → SqliteBindValue → Slot
slot_for at (BorrowedString s) = slot.Text (record { source = Text; start = s.start; len = s.len })
slot_for at (String s) = slot.Text (record { source = Room; start = at; len = s.len })
slot_for at (BorrowedBinary s) = slot.Blob (record { source = Text; start = s.start; len = s.len })
slot_for at (Binary s) = slot.Blob (record { source = Room; start = at; len = s.len })
slot_for at (I32 n) = slot.Long n
slot_for at (I64 n) = slot.Long n
slot_for at (F64 x) = double_slot x
slot_for at Null = slot.Null

-- The room once the owned values are copied into it, one after the other from its start.
unfoldable pub written_room : List Pair → List ℕ → List ℕ → List ℕ
written_room ps given room = owned_bytes given ps ++ drop (total_room_bytes ps) room
