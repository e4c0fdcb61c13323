-- What a host stands for, and what each of its functions does to that.
use Rattle.std.specs.Prelude.{ℕ, ◌-◌, Bool, true, false, not, ◌&&◌, List, [], ◌∷◌, map, Some, None, Ok, Err, Option, Result, nat_le, nat_lt, slice_set}
use Rattle.values.specs.Value.{Value}
use Rattle.values.specs.Order.{first_of}
use Rattle.host.specs.Outcome.{Outcome, row, done, failed}
use Rattle.host.specs.Slots.{slot_value, slot_length}
use Rattle.host.specs.declared.Slot.{Slot}
use Rattle.host.specs.declared.Slot.TheVariants as slot
use Rattle.host.specs.declared.BindFault.{BindFault}
use Rattle.host.specs.declared.BindFault.TheVariants.{Misuse, Range, TooBig}
use Rattle.host.specs.declared.StepFault.{StepFault}
use Rattle.host.specs.declared.Stepped.{Stepped}
use Rattle.host.specs.declared.Stepped.TheVariants.{Row, Done}

-- From a place and the values of the slots to what a step gives there, and the next place.
abbrev pub Program : Type 0
Program = ℕ → List Value → Outcome × ℕ

-- A copy's number with the value that it stands for, where it is live.
abbrev pub Copies : Type 0
Copies = ℕ → Option Value

-- What a host stands for.
pub record Meaning : Type 0 where
  -- how many parameters there are, and the names of the columns
  pub params : ℕ
  pub names : List (List ℕ)
  -- what the parameters are bound to
  pub slots : List Slot
  -- where the program starts, where it is, and whether it was stepped since the last reset
  pub start : ℕ
  pub place : ℕ
  pub stepped : Bool
  -- the current row
  pub current : Option (List Value)
  -- the live copies, how many they are, and how many there may be
  pub live : Copies
  pub count : ℕ
  pub copy_limit : ℕ
  -- how many bytes a bound value may have
  pub byte_limit : ℕ
  -- the code of the latest bind or step
  pub code : ℕ
  pub program : Program

-- Other slots, and another code.
abbrev pub with_slots : Meaning → List Slot → ℕ → Meaning
with_slots m ss c = record { params = m.params; names = m.names; slots = ss; start = m.start; place = m.place; stepped = m.stepped; current = m.current; live = m.live; count = m.count; copy_limit = m.copy_limit; byte_limit = m.byte_limit; code = c; program = m.program }

-- Another place, with what goes with it.
abbrev pub with_place : Meaning → ℕ → Bool → Option (List Value) → ℕ → Meaning
with_place m p b r c = record { params = m.params; names = m.names; slots = m.slots; start = m.start; place = p; stepped = b; current = r; live = m.live; count = m.count; copy_limit = m.copy_limit; byte_limit = m.byte_limit; code = c; program = m.program }

-- Bind. The tests in their order: stepped since the last reset, no such slot (they count from 1), too many bytes.
abbrev pub bind_tests : Meaning → ℕ → Slot → List (Bool × BindFault)
bind_tests m i s = (m.stepped, Misuse) ∷ (not (nat_le 1 i && nat_le i m.params), Range) ∷ (nat_lt m.byte_limit (slot_length s), TooBig) ∷ []

-- Why a bind is refused, if it is.
unfoldable pub bind_fault : Meaning → ℕ → Slot → Option BindFault
bind_fault m i s = first_of (bind_tests m i s)

-- The code of a bind: SQLite's numbers for misuse, range and too big; 0 on success.
abbrev pub fault_code : BindFault → ℕ
fault_code Misuse = 21
fault_code Range = 25
fault_code TooBig = 18

-- The code after a bind.
abbrev pub bind_code : Option BindFault → ℕ
bind_code None = 0
bind_code (Some f) = fault_code f

-- Misuse and range leave the slots; too many bytes make the slot null.
abbrev pub slots_after : Option BindFault → List Slot → ℕ → Slot → List Slot
slots_after None ss i s = slice_set ss (i - 1) s
slots_after (Some Misuse) ss i s = ss
slots_after (Some Range) ss i s = ss
slots_after (Some TooBig) ss i s = slice_set ss (i - 1) slot.Null

-- The answer of a bind: success, or its fault.
abbrev pub fault_answer : Option BindFault → Result (Unit {0}) BindFault
fault_answer None = Ok tt
fault_answer (Some f) = Err f

-- What a bind answers.
unfoldable pub bind_answer : Meaning → ℕ → Slot → Result (Unit {0}) BindFault
bind_answer m i s = fault_answer (bind_fault m i s)

-- The host after a bind: only that slot and the code change.
unfoldable pub bind_after : Meaning → ℕ → Slot → Meaning
bind_after m i s = with_slots m (slots_after (bind_fault m i s) m.slots i s) (bind_code (bind_fault m i s))

-- Reset: the program is at its start, with no current row and no step since.
unfoldable pub reset_after : Meaning → Meaning
reset_after m = with_place m m.start false None m.code

-- Step: what the program gives at its place on the values of the slots.
unfoldable pub ran : Meaning → List ℕ → List ℕ → Outcome × ℕ
ran m txt room = m.program m.place (map (slot_value txt room) m.slots)

-- The answer of a step, by what it gave.
abbrev pub outcome_answer : Outcome → Result Stepped StepFault
outcome_answer (row vs) = Ok Row
outcome_answer done = Ok Done
outcome_answer (failed c) = Err (record { code = c })

-- The current row after a step.
abbrev pub outcome_row : Outcome → Option (List Value)
outcome_row (row vs) = Some vs
outcome_row done = None
outcome_row (failed c) = None

-- The code of a step: SQLite's numbers for a row and done, or the failure's.
abbrev pub outcome_code : Outcome → ℕ
outcome_code (row vs) = 100
outcome_code done = 101
outcome_code (failed c) = c

-- What a step answers.
unfoldable pub step_answer : Meaning → List ℕ → List ℕ → Result Stepped StepFault
step_answer m txt room = outcome_answer (ran m txt room).0

-- The host after a step: slots and copies stay.
unfoldable pub step_after : Meaning → List ℕ → List ℕ → Meaning
step_after m txt room = with_place m (ran m txt room).1 true (outcome_row (ran m txt room).0) (outcome_code (ran m txt room).0)
