-- Calls: how their lines are written, what they may hold, and the turns that they make.
use Rattle.std.specs.Prelude.{◌≡◌, ℕ, ◌<◌, ◌≤◌, List, [], ◌∷◌, ◌++◌, map, length, Some, None, decimal, Option}
use Rattle.std.specs.List.{flat_map, AllByRecursion}
use Rattle.runs.specs.Turns.{Asked, asked}
use Rattle.runs.specs.Turns as run
use Rattle.runs.specs.declared.turns.Call.{Call}
use Rattle.runs.specs.declared.turns.Call.TheVariants.{Bind, Execute, End}
use Rattle.runs.specs.declared.turns.Turn.{Turn}
use Rattle.figures.specs.Reading.{Reads, Lacks}
use Rattle.calls.specs.Items.{Entry, rendered_item, GoodEntry}
use Rattle.calls.specs.Binds.{no_values, with_entries, Roomy, fresh_bytes}

-- A call as its lines give it: a bind for a query with its values, an execute, or an end.
pub data Given : Type 0 where
  bind : ℕ → List Entry → Given
  execute : Given
  end : Given

-- `b 9 1`: the query's number, and how many values follow.
abbrev pub rendered_bind : ℕ × ℕ → List ℕ
rendered_bind h = 98 ∷ (32 ∷ (decimal h.0 ++ (32 ∷ (decimal h.1 ++ (10 ∷ [])))))

-- A bind's first line and its value lines, `x`, or `e`.
abbrev pub call_lines : Given → List ℕ
call_lines (bind query es) = rendered_bind (query, length es) ++ flat_map rendered_item es
call_lines execute = 120 ∷ (10 ∷ [])
call_lines end = 101 ∷ (10 ∷ [])

-- The letter of a call.
abbrev pub call_letter : Given → ℕ
call_letter (bind query es) = 98
call_letter execute = 120
call_letter end = 101

-- The letter by which a turn's call is told.
abbrev pub letter_of_call : Call → ℕ
letter_of_call (Bind query pairs) = 98
letter_of_call Execute = 120
letter_of_call End = 101

-- Query and count are at most 4,294,967,295.
abbrev pub GoodHead : ℕ × ℕ → Type 0
GoodHead h = (h.0 ≤ 4294967295) × (h.1 ≤ 4294967295)

-- A good first line, good value lines, and at most 65,536 bytes of each kind.
abbrev pub GoodCall : Given → Type 0
GoodCall (bind query es) =
    GoodHead (query, length es) × AllByRecursion GoodEntry es × Roomy (with_entries no_values es)
GoodCall execute = Unit {0}
GoodCall end = Unit {0}

-- What the turn of a call asks.
abbrev pub asked_for : Given → Asked
asked_for (bind query es) = run.bind query (with_entries no_values es).pairs
asked_for execute = run.execute
asked_for end = run.end

-- The text that it lends: a bind's borrowed bytes.
abbrev pub text_for : Given → Option (List ℕ)
text_for (bind query es) = Some (with_entries no_values es).text
text_for execute = None
text_for end = None

-- The bytes that it gives: a bind's owned bytes.
abbrev pub given_for : Given → Option (List ℕ)
given_for (bind query es) = Some (with_entries no_values es).given
given_for execute = None
given_for end = None

-- The turn is that of the call.
pub record TurnFor (g : Given) (t : Turn) : Type 0 where
  pub asks : asked t.call ≡ asked_for g
  pub text : fresh_bytes t.lent.text ≡ text_for g
  pub given : fresh_bytes t.lent.given ≡ given_for g

-- s begins with the lines of a good call, whose turn this is; rest is what stands behind them.
-- The turn keeps the room.
pub record TurnRead (s : List ℕ) (t : Turn) (rest : List ℕ) : Type 0 where
  pub call : Given
  pub reads : Reads call_lines GoodCall s call rest
  pub turn : TurnFor call t
  pub room : fresh_bytes t.lent.room ≡ None

-- The turns of calls, one for each; the first lends the room, if there is one to lend,
-- and the others keep it.
abbrev pub TurnsFor : Option (List ℕ) → List Given → List Turn → Type 0
TurnsFor room [] [] = Unit {0}
TurnsFor room [] (t ∷ ts) = ⊥
TurnsFor room (g ∷ gs) [] = ⊥
TurnsFor room (g ∷ gs) (t ∷ ts) =
    TurnFor g t × (fresh_bytes t.lent.room ≡ room) × TurnsFor None gs ts

-- The bytes begin with the lines of good calls, whose letters and turns these are; rest is what
-- stands behind them. If anything does, it begins with no good call.
pub record CallsRead (s room : List ℕ) (turns : List Turn) (rest : List ℕ) : Type 0 where
  pub calls : List Given
  pub good : AllByRecursion GoodCall calls
  pub begins : s ≡ flat_map call_lines calls ++ rest
  pub letters_are : map (λ t. letter_of_call t.call) turns ≡ map call_letter calls
  pub turns_are : TurnsFor (Some room) calls turns
  pub ends : 0 < length rest → Lacks call_lines GoodCall rest
