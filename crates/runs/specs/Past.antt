-- What a whole run keeps, told from the calls, what was lent at them, and their answers' numbers and figures.
use Rattle.std.specs.Prelude.{◌≡◌, ℕ, ◌+◌, ◌-◌, Bool, true, false, cond, ◌||◌, List, [], ◌∷◌, ◌++◌, map, length, take, drop, replicate, ◌==◌, Result}
use Rattle.values.specs.Value.{Value}
use Rattle.host.specs.Outcome.{Outcome, row, done, failed}
use Rattle.host.specs.Slots.{slot_value}
use Rattle.host.specs.Meaning.{Meaning, Program}
use Rattle.host.specs.declared.Source.{Source}
use Rattle.host.specs.declared.Source.TheVariants as source
use Rattle.host.specs.declared.Slot.{Slot}
use Rattle.host.specs.declared.Slot.TheVariants as slot
use Rattle.binds.specs.declared.refusal.Refusal.{Refusal}
use Rattle.binds.specs.Pairs.{Pair, slot_for, owned_span, span_length}
use Rattle.statement.specs.State.{State}
use Rattle.runs.specs.Turns.{Asked, bind, execute, end, asked, Desk, lent_at, At, turn_goes, answer_number, answer_figures}
use Rattle.runs.specs.declared.turns.Turn.{Turn}
use Rattle.runs.specs.declared.turns.Answer.{Answer}

-- A turn that was made: what it asked, what was lent at it, and what it was answered.
pub record Turned : Type 0 where
  pub asks : Asked
  pub lent : Desk
  pub answer : Result Answer Refusal

-- The turns so far, the latest first.
abbrev pub Past : Type 0
Past = List Turned

-- The past after more turns and their answers; the buffers lent at each are as they then stood.
unfoldable pub past_of : At → Past → List Turn → List (Result Answer Refusal) → Past
past_of a h [] rs = h
past_of a h (t ∷ ts) [] = h
past_of a h (t ∷ ts) (r ∷ rs) = past_of (turn_goes a t) (record { asks = asked t.call; lent = lent_at t a.desk; answer = r } ∷ h) ts rs

-- What a turn came to: values bound, so many of them owned; a bind that was undone after these values, the next one made null or not;
-- a step with the return behind it, or a return alone, and the buffers returned; or nothing.
pub data Event : Type 0 where
  bound : List Pair → ℕ → Event
  undone : List Pair → Bool → Event
  stepped : ℕ → Event
  ended : ℕ → Event
  nothing : Event

-- A bind answered 0 has bound its values. One answered 6 or 8 names the value it came to, and 18 says that the host made its slot null.
abbrev pub bind_event : List Pair → ℕ → ℕ × ℕ → Event
bind_event ps number figures =
    cond (number == 0) (bound ps figures.0)
    (cond (number == 6 || number == 8) (undone (take (figures.0 - 1) ps) (figures.1 == 18)) nothing)

-- An execute has stepped if it answered 0 or 9.
abbrev pub execute_event : ℕ → ℕ × ℕ → Event
execute_event number figures = cond (number == 0 || number == 9) (stepped figures.1) nothing

-- An end answered 0 has returned the binding.
abbrev pub end_event : ℕ → ℕ × ℕ → Event
end_event number figures = cond (number == 0) (ended figures.1) nothing

-- What a call came to, by its answer's number and figures.
abbrev pub event_by : Asked → ℕ → ℕ × ℕ → Event
event_by (bind query ps) number figures = bind_event ps number figures
event_by execute number figures = execute_event number figures
event_by end number figures = end_event number figures

-- What a turn came to.
abbrev pub event_of : Turned → Event
event_of t = event_by t.asks (answer_number t.answer) (answer_figures t.answer)

-- Whether a binding is live: bound, and not yet returned.
abbrev pub live_by : Event → Bool → Bool
live_by (bound ps n) b = true
live_by (undone ps z) b = b
live_by (stepped n) b = false
live_by (ended n) b = false
live_by nothing b = b

-- Whether a binding is live after the past.
unfoldable pub live_in : Past → Bool
live_in [] = false
live_in (t ∷ h) = live_by (event_of t) (live_in h)

-- How many steps were answered.
abbrev pub steps_by : Event → ℕ → ℕ
steps_by (bound ps n) k = k
steps_by (undone ps z) k = k
steps_by (stepped n) k = k + 1
steps_by (ended n) k = k
steps_by nothing k = k

-- The steps answered in the past.
unfoldable pub steps_in : Past → ℕ
steps_in [] = 0
steps_in (t ∷ h) = steps_by (event_of t) (steps_in h)

-- The owned values accepted, and the buffers reported returned.
abbrev pub accepted_by : Event → ℕ → ℕ
accepted_by (bound ps n) k = k + n
accepted_by (undone ps z) k = k
accepted_by (stepped n) k = k
accepted_by (ended n) k = k
accepted_by nothing k = k

-- The owned values that were accepted in the past.
unfoldable pub accepted_in : Past → ℕ
accepted_in [] = 0
accepted_in (t ∷ h) = accepted_by (event_of t) (accepted_in h)

-- Buffers come back with a step that returns the binding, a failed one too, and with an end.
abbrev pub returned_by : Event → ℕ → ℕ
returned_by (bound ps n) k = k
returned_by (undone ps z) k = k
returned_by (stepped n) k = k + n
returned_by (ended n) k = k + n
returned_by nothing k = k

-- The buffers reported returned in the past.
unfoldable pub returned_in : Past → ℕ
returned_in [] = 0
returned_in (t ∷ h) = returned_by (event_of t) (returned_in h)

-- The slots that values take, the first owned one with its lease at a place of the room, the next where that ends.
unfoldable pub slots_from : ℕ → List Pair → List Slot
slots_from at [] = []
slots_from at (p ∷ ps) = slot_for at p.1 ∷ slots_from (at + span_length (owned_span p.1)) ps

-- A slot once text and bytes are gone: numbers stay.
abbrev pub forget : Slot → Slot
forget slot.Null = slot.Null
forget (slot.Long n) = slot.Long n
forget (slot.Double b) = slot.Double b
forget (slot.Text p) = slot.Null
forget (slot.Blob p) = slot.Null

-- Slots of which the first is null.
abbrev pub null_first : List Slot → List Slot
null_first [] = []
null_first (s ∷ ss) = slot.Null ∷ ss

-- The slots as all binds and returns so far left them: a bind with fewer values than there are slots leaves the others,
-- and an undone bind leaves its numbers.
abbrev pub slots_by : Event → List Slot → List Slot
slots_by (bound ps n) ss = slots_from 0 ps ++ drop (length ps) ss
slots_by (undone ps z) ss = map forget (slots_from 0 ps) ++ cond z (null_first (drop (length ps) ss)) (drop (length ps) ss)
slots_by (stepped n) ss = map forget ss
slots_by (ended n) ss = map forget ss
slots_by nothing ss = ss

-- The slots after the past: all null at set-up.
unfoldable pub slots_in : ℕ → Past → List Slot
slots_in params [] = replicate params slot.Null
slots_in params (t ∷ h) = slots_by (event_of t) (slots_in params h)

-- The values of the slots on the bytes lent to a turn.
abbrev pub values_at : ℕ → Past → Desk → List Value
values_at params h d = map (slot_value d.text d.room) (slots_in params h)

-- The place of the program: at its start when values are bound, and then moved by each step answered,
-- on the slots and the bytes lent to that turn.
abbrev pub place_by : Event → Program → ℕ → ℕ → List Value → ℕ
place_by (bound ps n) p start at vs = start
place_by (undone ps z) p start at vs = at
place_by (stepped n) p start at vs = (p at vs).1
place_by (ended n) p start at vs = at
place_by nothing p start at vs = at

-- The place of the program after the past.
unfoldable pub place_in : Meaning → Past → ℕ
place_in m [] = m.start
place_in m (t ∷ h) = place_by (event_of t) m.program m.start (place_in m h) (values_at m.params h t.lent)

-- What a step is answered: row 1, done 2, or the failure 9 with its code.
abbrev pub step_number : Outcome → ℕ
step_number (row vs) = 0
step_number done = 0
step_number (failed c) = 9

-- The first figure of a step's answer.
abbrev pub step_figure : Outcome → ℕ
step_figure (row vs) = 1
step_figure done = 2
step_figure (failed c) = c

-- A step was answered as the program has it, at the place reached there, on the slots and the bytes lent to it.
abbrev pub RightStep : Outcome → Result Answer Refusal → Type 0
RightStep o r = (answer_number r ≡ step_number o) × ((answer_figures r).0 ≡ step_figure o)

-- Only a step is answered out of the program.
abbrev pub RightBy : Event → Outcome → Result Answer Refusal → Type 0
RightBy (bound ps n) o r = Unit {0}
RightBy (undone ps z) o r = Unit {0}
RightBy (stepped n) o r = RightStep o r
RightBy (ended n) o r = Unit {0}
RightBy nothing o r = Unit {0}

-- Each step of the past was answered right after what came before it.
unfoldable pub AllRight : Meaning → Past → Type 0
AllRight m [] = Unit {0}
AllRight m (t ∷ h) = RightBy (event_of t) (m.program (place_in m h) (values_at m.params h t.lent)).0 t.answer × AllRight m h

-- Steps: as many were made as were answered; each was answered as the program has it; while a binding is live, the host is
-- at the place reached from the start by the steps answered under it, on the slots as all binds so far left them.
pub record Steps (m : Meaning) (h : Past) (s : State) : Type 0 where
  pub counted : s.steps ≡ steps_in h
  pub right : AllRight m h
  pub placed : live_in h ≡ true → s.host.place ≡ place_in m h
  pub slots : s.host.slots ≡ slots_in m.params h

-- The slots that name the room, even for no bytes.
abbrev pub from_room : Source → ℕ
from_room source.Text = 0
from_room source.Room = 1

-- 1 for a slot whose text or bytes are a part of the room.
abbrev pub names_room : Slot → ℕ
names_room slot.Null = 0
names_room (slot.Long n) = 0
names_room (slot.Double b) = 0
names_room (slot.Text p) = from_room p.source
names_room (slot.Blob p) = from_room p.source

-- How many slots name the room.
unfoldable pub room_slots : List Slot → ℕ
room_slots [] = 0
room_slots (s ∷ ss) = names_room s + room_slots ss

-- Buffers: the owned values accepted are the buffers reported returned and the slots that now name the room.
abbrev pub BuffersKept : Past → State → Type 0
BuffersKept h s = accepted_in h ≡ returned_in h + room_slots s.host.slots

-- Copies: those found at set-up stand for their values, and there are no others.
pub record Copies (m : Meaning) (s : State) : Type 0 where
  pub stand : s.host.live ≡ m.live
  pub count : s.host.count ≡ m.count
