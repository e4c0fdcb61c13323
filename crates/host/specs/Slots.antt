-- Slots, and the bytes that a slot names in the text and the room.
use Rattle.std.specs.Prelude.{ℕ, ◌+◌, cond, List, [], length, take, drop, nat_le}
use Rattle.std.specs.Float.Ieee as Ieee
use Rattle.std.specs.Float.{binary64}
use Rattle.values.specs.Value.{Value, null, long, double, text, blob}
use Rattle.host.specs.declared.Source.{Source}
use Rattle.host.specs.declared.Source.TheVariants as source
use Rattle.host.specs.declared.Part.{Part}
use Rattle.host.specs.declared.Slot.{Slot}
use Rattle.host.specs.declared.Slot.TheVariants as slot
use Rattle.host.specs.declared.HostValue.{HostValue}
use Rattle.host.specs.declared.HostValue.TheVariants as given

-- So many bytes from a place on; none where they do not all lie inside.
abbrev pub within : List ℕ → ℕ → ℕ → List ℕ
within s start len = cond (nat_le (start + len) (length s)) (take len (drop start s)) []

-- The buffer that a source means.
abbrev pub lent : List ℕ → List ℕ → Source → List ℕ
lent txt room source.Text = txt
lent txt room source.Room = room

-- The bytes that a part names.
abbrev pub part_bytes : List ℕ → List ℕ → Part → List ℕ
part_bytes txt room p = within (lent txt room p.source) p.start p.len

-- The value that a slot has on the bytes lent to a step.
abbrev pub slot_value : List ℕ → List ℕ → Slot → Value
slot_value txt room slot.Null = null
slot_value txt room (slot.Long n) = long n
slot_value txt room (slot.Double bits) = double bits
slot_value txt room (slot.Text p) = text (part_bytes txt room p)
slot_value txt room (slot.Blob p) = blob (part_bytes txt room p)

-- How many bytes a slot names.
abbrev pub slot_length : Slot → ℕ
slot_length slot.Null = 0
slot_length (slot.Long n) = 0
slot_length (slot.Double bits) = 0
slot_length (slot.Text p) = p.len
slot_length (slot.Blob p) = p.len

-- A Double as a slot; what is not a number is null.
abbrev pub double_slot : Ieee.Float → Slot
double_slot x = cond (Ieee.is_nan x) slot.Null (slot.Double (Ieee.to_bits binary64 x))

-- The slot that a value given to bind stands for.
abbrev pub slot_of : HostValue → Slot
slot_of given.Null = slot.Null
slot_of (given.Long n) = slot.Long n
slot_of (given.Double x) = double_slot x
slot_of (given.Text t) = slot.Text (record { source = t.source; start = t.start; len = length t.bytes.now })
slot_of (given.Blob p) = slot.Blob p
