-- The content of a sheet, how it is written, what it may hold, and when bytes hold it.
use Rattle.std.specs.Prelude.{◌≡◌, ℕ, ◌-◌, ◌^◌, ◌<◌, ◌≤◌, Bool, false, not, ◌||◌, List, [], ◌∷◌, ◌++◌, map, length, take, decimal, ◌==◌, ◌≢◌, slice_index}
use Rattle.std.specs.Int.Signed.{mag}
use Rattle.std.specs.Int.{IsInRange}
use Rattle.std.specs.Fmt.{signed_decimal}
use Rattle.std.specs.List.{flat_map, AllByRecursion}
use Rattle.values.specs.Value.{Value, null, long, double, text, blob}
use Rattle.host.specs.Outcome.{Outcome, row, done, failed}
use Rattle.figures.specs.Figures.{piece_line, Numeric}
use Rattle.sheet.specs.declared.lines.Heading.{Heading}

-- The names of the columns, the column of each parameter (from 1; 0: none), how many copies may live, and the outcomes.
pub record Sheet : Type 0 where
  pub names : List (List ℕ)
  pub params : List ℕ
  pub copy_limit : ℕ
  pub outcomes : List Outcome

-- The figures of the first line.
abbrev pub heading_of : Sheet → Heading
heading_of s = record { columns = length s.names; parameters = length s.params; copy_limit = s.copy_limit }

-- How it is written: each line with the byte 10 that ends it.

-- `1 1 4`
abbrev pub rendered_heading : Heading → List ℕ
rendered_heading h = decimal h.columns ++ (32 ∷ (decimal h.parameters ++ (32 ∷ (decimal h.copy_limit ++ (10 ∷ [])))))

-- `C 2 id`
abbrev pub rendered_name : List ℕ → List ℕ
rendered_name name = 67 ∷ (32 ∷ piece_line name)

-- `P 1`
abbrev pub rendered_param : ℕ → List ℕ
rendered_param column = 80 ∷ (32 ∷ (decimal column ++ (10 ∷ [])))

-- `N`, `L -5`, `G 4607182418800017408`, `T 2 ab`, `B 0 `
abbrev pub rendered_value : Value → List ℕ
rendered_value null = 78 ∷ (10 ∷ [])
rendered_value (long z) = 76 ∷ (32 ∷ (signed_decimal z ++ (10 ∷ [])))
rendered_value (double bits) = 71 ∷ (32 ∷ (decimal bits ++ (10 ∷ [])))
rendered_value (text bs) = 84 ∷ (32 ∷ piece_line bs)
rendered_value (blob bs) = 66 ∷ (32 ∷ piece_line bs)

-- `R`, before the values of a row
abbrev pub row_line : List ℕ
row_line = 82 ∷ (10 ∷ [])

-- `D`
abbrev pub done_line : List ℕ
done_line = 68 ∷ (10 ∷ [])

-- `F 5`
abbrev pub failed_line : ℕ → List ℕ
failed_line code = 70 ∷ (32 ∷ (decimal code ++ (10 ∷ [])))

-- `E`
abbrev pub end_line : List ℕ
end_line = 69 ∷ (10 ∷ [])

-- The lines of an outcome: a row's values come after its first line, one to a line.
abbrev pub outcome_lines : Outcome → List (List ℕ)
outcome_lines (row vs) = row_line ∷ map rendered_value vs
outcome_lines done = done_line ∷ []
outcome_lines (failed code) = failed_line code ∷ []

-- The lines below the parameters.
abbrev pub body_lines : List Outcome → List (List ℕ)
body_lines os = flat_map outcome_lines os ++ (end_line ∷ [])

-- The lines of a sheet.
unfoldable pub render : Sheet → List (List ℕ)
render s = rendered_heading (heading_of s) ∷ (map rendered_name s.names ++ (map rendered_param s.params ++ body_lines s.outcomes))

-- The bytes of lines.
abbrev pub together : List (List ℕ) → List ℕ
together ls = flat_map (λ l. l) ls

-- What a sheet may hold.

-- At most 16 columns, 32 parameters and 256 copies.
abbrev pub GoodHeading : Heading → Type 0
GoodHeading h = (h.columns ≤ 16) × (h.parameters ≤ 32) × (h.copy_limit ≤ 256)

-- From 1 to 32 bytes, each graphic.
abbrev pub GoodName : List ℕ → Type 0
GoodName name = (1 ≤ length name) × (length name ≤ 32) × ((k : ℕ) → k < length name → IsInRange 33 126 (slice_index name k))

-- One of so many columns, from 1, or 0.
abbrev pub GoodParam : ℕ → ℕ → Type 0
GoodParam columns column = column ≤ columns

-- A signed 64-bit number, a 64-bit pattern that is no NaN, at most 4,096 bytes.
abbrev pub GoodValue : Value → Type 0
GoodValue null = Unit {0}
GoodValue (long z) = mag z < 2 ^ 63
GoodValue (double bits) = (bits < 2 ^ 64) × Numeric bits
GoodValue (text bs) = length bs ≤ 4096
GoodValue (blob bs) = length bs ≤ 4096

-- From 1 to 65,535, and neither the code of a row nor that of done.
abbrev pub GoodCode : ℕ → Type 0
GoodCode code = (1 ≤ code) × (code ≤ 65535) × (code ≢ 100) × (code ≢ 101)

-- A row has one good value to a column.
abbrev pub GoodOutcome : ℕ → Outcome → Type 0
GoodOutcome columns (row vs) = (length vs ≡ columns) × AllByRecursion GoodValue vs
GoodOutcome columns done = Unit {0}
GoodOutcome columns (failed code) = GoodCode code

-- Whether some parameter names a column: then the sheet is a table.
abbrev pub names_column : List ℕ → Bool
names_column [] = false
names_column (column ∷ columns) = not (column == 0) || names_column columns

-- A table has rows only.
abbrev pub Suits : Bool → Outcome → Type 0
Suits table (row vs) = Unit {0}
Suits table done = table ≡ false
Suits table (failed code) = table ≡ false

-- What is so of a sheet as a whole.
pub record WellFormed (s : Sheet) : Type 0 where
  pub heading : GoodHeading (heading_of s)
  pub names : AllByRecursion GoodName s.names
  pub params : AllByRecursion (GoodParam (length s.names)) s.params
  pub outcomes : AllByRecursion (GoodOutcome (length s.names)) s.outcomes
  pub rows : AllByRecursion (Suits (names_column s.params)) s.outcomes

-- The bytes begin with the whole of a well-formed sheet.
pub record Holds (bytes : List ℕ) (sheet : Sheet) : Type 0 where
  pub good : WellFormed sheet
  pub rest : List ℕ
  pub begins : bytes ≡ together (render sheet) ++ rest

-- The bytes begin with the first n lines of some well-formed sheet, or with all of it if it has fewer.
pub record Begins (bytes : List ℕ) (n : ℕ) : Type 0 where
  pub sheet : Sheet
  pub good : WellFormed sheet
  pub rest : List ℕ
  pub begins : bytes ≡ together (take n (render sheet)) ++ rest

-- Refused at a line: the lines before it begin a sheet, and with it they begin none.
pub record RefusedAt (bytes : List ℕ) (line : ℕ) : Type 0 where
  pub some : 1 ≤ line
  pub before : Begins bytes (line - 1)
  pub bad : Begins bytes line → ⊥

-- No bytes are both accepted and refused, and there is one line to refuse at.
abbrev pub Exclusive : Type 0
Exclusive = ((s : List ℕ) (x : Sheet) (n : ℕ) → Holds s x → RefusedAt s n → ⊥) × ((s : List ℕ) (m n : ℕ) → RefusedAt s m → RefusedAt s n → m ≡ n)
