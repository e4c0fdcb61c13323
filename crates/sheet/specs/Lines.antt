-- What a reader of one line, or of several of a kind, answers.
use Rattle.std.specs.Prelude.{◌≡◌, ℕ, ◌+◌, ◌-◌, ◌<◌, Bool, false, ◌⊎◌, List, ◌∷◌, ◌++◌, length, drop, decimal, ◌≢◌}
use Rattle.std.specs.List.{flat_map, AllByRecursion}
use Rattle.values.specs.Value.{Value, null, long, double, text, blob}
use Rattle.figures.specs.Reading.{Lacks, Block}
use Rattle.host.specs.Outcome.{Outcome}
use Rattle.sheet.specs.Sheet.{done_line, failed_line, row_line, end_line, rendered_value, outcome_lines, body_lines, together, GoodValue, GoodCode, GoodOutcome, Suits}
use Rattle.sheet.specs.declared.lines.Cell.{Cell}
use Rattle.sheet.specs.declared.lines.Cell.TheVariants.{Null, Long, Double, Text, Blob}
use Rattle.sheet.specs.declared.lines.Head.{Head}
use Rattle.sheet.specs.declared.lines.Head.TheVariants.{Row, Done, Failed, End}

-- rest is the last bytes of s: all of them, some, or none.
abbrev pub IsEndOf : List ℕ → List ℕ → Type 0
IsEndOf s rest = rest ≡ drop (length s - length rest) s

-- A reader at the bytes s, where line l begins, read v; what is left is `rest`, where line m begins.
pub record Moved {V : Type 0} (write : V → List ℕ) (Good : V → Type 0)
    (s : List ℕ) (l : ℕ) (v : V) (rest : List ℕ) (m : ℕ) : Type 0 where
  pub good : Good v
  pub begins : s ≡ write v ++ rest
  pub line : m ≡ l + 1

-- At s, where line l begins, no such line stands: the sheet is bad at that line.
pub record Stuck {V : Type 0} (write : V → List ℕ) (Good : V → Type 0)
    (s : List ℕ) (l bad : ℕ) : Type 0 where
  pub line : bad ≡ l
  pub lacks : Lacks write Good s

-- Of n such lines at s, where line l begins, only some stand there:
-- the sheet is bad at the line that follows them.
pub record Breaks {V : Type 0} (write : V → List ℕ) (Good : V → Type 0)
    (s : List ℕ) (l n bad : ℕ) : Type 0 where
  pub there : ℕ
  pub short : there < n
  pub next : List ℕ
  pub front : Block write Good s there next
  pub stuck : Stuck write Good next (l + there) bad

-- What a cell stands for.
abbrev pub cell_of : Cell → Value
cell_of Null = null
cell_of (Long z) = long z
cell_of (Double bits) = double bits
cell_of (Text bytes) = text bytes.now
cell_of (Blob bytes) = blob bytes.now

-- The first line of an outcome, or the last line of a sheet.
abbrev pub rendered_head : Head → List ℕ
rendered_head Row = row_line
rendered_head Done = done_line
rendered_head (Failed code) = failed_line code
rendered_head End = end_line

-- A failure has a good code.
abbrev pub PlainHead : Head → Type 0
PlainHead Row = Unit {0}
PlainHead Done = Unit {0}
PlainHead (Failed code) = GoodCode code
PlainHead End = Unit {0}

-- In a table only rows come before the last line.
abbrev pub SuitsHead : Bool → Head → Type 0
SuitsHead table Row = Unit {0}
SuitsHead table Done = table ≡ false
SuitsHead table (Failed code) = table ≡ false
SuitsHead table End = Unit {0}

-- A head that may stand in a sheet, of a table or of a script.
abbrev pub GoodHead : Bool → Head → Type 0
GoodHead table h = SuitsHead table h × PlainHead h

-- s begins with no good code and byte 10.
abbrev pub NoCode : List ℕ → Type 0
NoCode s = (n : ℕ) (rest : List ℕ) → GoodCode n → s ≢ decimal n ++ (10 ∷ rest)

-- At s stand outcomes of so many columns, good in a table or in a script, and then rest.
pub record Outcomes (s : List ℕ) (columns : ℕ) (table : Bool) (rest : List ℕ) : Type 0 where
  pub items : List Outcome
  pub good : AllByRecursion (GoodOutcome columns) items
  pub suits : AllByRecursion (Suits table) items
  pub begins : s ≡ together (flat_map outcome_lines items) ++ rest

-- At s, where line l begins, stand outcomes,
-- and then no line that may come there, or a row without all its values.
pub record OutcomesBreak (s : List ℕ) (columns : ℕ) (table : Bool) (l bad : ℕ) : Type 0 where
  pub next : List ℕ
  pub front : Outcomes s columns table next
  pub stuck :
      Stuck rendered_head (GoodHead table) next
      (l + length (flat_map outcome_lines front.items)) bad
      ⊎ ((first : List ℕ) × (next ≡ row_line ++ first) ×
      Breaks rendered_value GoodValue first
      (l + length (flat_map outcome_lines front.items) + 1) columns bad)

-- At s stand outcomes and then the last line, and then rest.
pub record Ended (s : List ℕ) (columns : ℕ) (table : Bool) (rest : List ℕ) : Type 0 where
  pub items : List Outcome
  pub good : AllByRecursion (GoodOutcome columns) items
  pub suits : AllByRecursion (Suits table) items
  pub begins : s ≡ together (body_lines items) ++ rest
