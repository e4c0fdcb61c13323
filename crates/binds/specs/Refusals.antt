-- The refusals by number and figures.
use Rattle.std.specs.Prelude.{ℕ}
use Rattle.host.specs.Meaning.{fault_code}
use Rattle.binds.specs.declared.refusal.Refusal.{Refusal}
use Rattle.binds.specs.declared.refusal.Refusal.TheVariants.{WrongState, Length, RowHeld, TooManyValues, Outside, Unpaired, RoomShort, NotBound, StepFailed, StepsSpent}

-- A refusal's number.
abbrev pub refusal_number : Refusal → ℕ
refusal_number WrongState = 1
refusal_number Length = 2
refusal_number RowHeld = 3
refusal_number TooManyValues = 4
refusal_number Outside = 5
refusal_number (Unpaired v) = 6
refusal_number RoomShort = 7
refusal_number (NotBound v f) = 8
refusal_number (StepFailed c n) = 9
refusal_number StepsSpent = 19

-- A refusal's two figures: the value's number, with the host's code; or the host's code, with the buffers returned.
abbrev pub refusal_figures : Refusal → ℕ × ℕ
refusal_figures WrongState = (0, 0)
refusal_figures Length = (0, 0)
refusal_figures RowHeld = (0, 0)
refusal_figures TooManyValues = (0, 0)
refusal_figures Outside = (0, 0)
refusal_figures (Unpaired v) = (v, 0)
refusal_figures RoomShort = (0, 0)
refusal_figures (NotBound v f) = (v, fault_code f)
refusal_figures (StepFailed c n) = (c, n)
refusal_figures StepsSpent = (0, 0)

-- The refusal of a room that is too short for the owned values.
abbrev pub room_short : Refusal
room_short = RoomShort

-- The refusal of more than 32 values.
abbrev pub too_many_values : Refusal
too_many_values = TooManyValues
