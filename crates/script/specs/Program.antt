-- The program of a script: its outcomes in order, whatever the slots hold.
use Rattle.std.specs.Prelude.{◌≡◌, ℕ, ◌+◌, Bool, false, List, [], ◌∷◌, ◌++◌, length, drop, replicate, Some, None, Option}
use Rattle.std.specs.Coded.{Unit-prop, Coded-set, coded_list, coded_ℕ}
use Rattle.std.specs.Option.{IfSome}
use Rattle.values.specs.Value.{Value}
use Rattle.host.specs.Outcome.{Outcome, row, done, failed}
use Rattle.host.specs.Meaning.{Meaning, Program, Copies}
use Rattle.host.specs.declared.Slot.{Slot}
use Rattle.host.specs.declared.Slot.TheVariants as slot
use Rattle.sheet.specs.Sheet.{Sheet, body_lines, together}
use Rattle.sheet.specs.Decode.{values_at}
use Rattle.sheet.specs.Lines.{IsEndOf}
use Rattle.sheet.specs.declared.play.Move.{Move}
use Rattle.sheet.specs.declared.play.Move.TheVariants.{Row, Done, Failed}

-- What a step gives at place i, where the outcomes os are still to come, and the next place. Past the last outcome it is done, and starts over.
abbrev pub gives : ℕ → List Outcome → Outcome × ℕ
gives i [] = (done, 0)
gives i (o ∷ os) = (o, i + 1)

-- The place is the number of the outcome, from 0.
abbrev pub script_program : List Outcome → Program
script_program os i values = gives i (drop i os)

-- A script has no copies yet.
abbrev pub no_copies : Copies
no_copies n = None

-- What a script stands for: all is the sheet's but the slots, the place, whether it was stepped, the current row, the byte limit and the code.
abbrev pub script_meaning : Sheet → List Slot → ℕ → Bool → Option (List Value) → ℕ → ℕ → Meaning
script_meaning x ss place stepped current limit code =
    record { params = length x.params; names = x.names; slots = ss; start = 0; place = place; stepped = stepped; current = current; live = no_copies; count = 0; copy_limit = x.copy_limit; byte_limit = limit; code = code; program = script_program x.outcomes }

-- What it starts with.
unfoldable pub script_start : Sheet → ℕ → Meaning
script_start x limit = script_meaning x (replicate (length x.params) slot.Null) 0 false None limit 0

-- The current row, by what the last step gave.
abbrev pub row_at : ℕ → Option Move → Option (List Value)
row_at columns None = None
row_at columns (Some (Row values)) = Some (values_at columns values.now).0
row_at columns (Some Done) = None
row_at columns (Some (Failed code)) = None

-- The bytes `place` are the end of s, and at their front stand the outcomes os and the last line.
abbrev pub Stands : List ℕ → List ℕ → List Outcome → Type 0
Stands s place os =
    IsEndOf s place ×
    (place ≡ together (body_lines os) ++ drop (length (together (body_lines os))) place)

-- A row's bytes are the end of s.
abbrev pub RowStands : List ℕ → Move → Type 0
RowStands s (Row values) = IsEndOf s values.now
RowStands s Done = Unit {0}
RowStands s (Failed code) = Unit {0}

-- So are those of the last step's row, if it gave one.
abbrev pub LastStands : List ℕ → Option Move → Type 0
LastStands s last = IfSome last (RowStands s)

-- That has one proof at most, so that a host can keep it.
pub LastStands-prop : (s : List ℕ) (last : Option Move) → IsProp (LastStands s last)
LastStands-prop s None = Unit-prop
LastStands-prop s (Some (Row values)) = Coded-set (coded_list coded_ℕ) _ _
LastStands-prop s (Some Done) = Unit-prop
LastStands-prop s (Some (Failed code)) = Unit-prop

-- The outcome that a move stands for.
abbrev pub outcome_of : ℕ → Move → Outcome
outcome_of columns (Row values) = row (values_at columns values.now).0
outcome_of columns Done = done
outcome_of columns (Failed code) = failed code

-- What a step plays at outcome i of the outcomes os, and the bytes where the host is after it.
-- A row's bytes and these are the end of s; the outcome whose number is next stands in front of
-- the latter.
pub record Advanced (s : List ℕ) (columns : ℕ) (os : List Outcome) (i : ℕ) (played : Move)
    (place : List ℕ) (next : ℕ) : Type 0 where
  pub outcome : outcome_of columns played ≡ (gives i (drop i os)).0
  pub row : RowStands s played
  pub index : next ≡ (gives i (drop i os)).1
  pub stands : Stands s place (drop next os)
