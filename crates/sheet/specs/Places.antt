-- What the parts of an accepted sheet are, and what playing its outcomes answers.
use Rattle.std.specs.Prelude.{◌≡◌, ℕ, zero, suc, ◌<◌, ◌≤◌, Bool, List, [], ◌∷◌, ◌++◌, length, Option, None, MatchOption, slice_index_or}
use Rattle.std.specs.Borrow.{Bor}
use Rattle.std.specs.List.{flat_map, AllByRecursion}
use Rattle.host.specs.Outcome.{Outcome, row, done, failed}
use Rattle.sheet.specs.Sheet.{Sheet, heading_of, rendered_heading, rendered_name, rendered_param, rendered_value, row_line, outcome_lines, body_lines, render, together, GoodOutcome, names_column, Holds}
use Rattle.sheet.specs.declared.lines.Heading.{Heading}
use Rattle.sheet.specs.declared.play.Played.{Played}
use Rattle.sheet.specs.declared.play.Move.{Move}
use Rattle.sheet.specs.declared.play.Move.TheVariants.{Row, Done, Failed}

-- The outcomes os, good ones of so many columns, and then the last line stand at the front of s.
pub record At (s : List ℕ) (columns : ℕ) (os : List Outcome) : Type 0 where
  pub good : AllByRecursion (GoodOutcome columns) os
  pub rest : List ℕ
  pub begins : s ≡ together (body_lines os) ++ rest

-- s holds one sheet, of which the heading has the figures.
-- From `names` on stand its names, its parameters and its outcomes, from `outcomes` on the latter.
-- Behind the last line stands `rest`.
pub record Accepted (s : List ℕ) (heading : Heading) (names outcomes rest : List ℕ)
    (table : Bool) : Type 0 where
  pub sheet : Sheet
  pub holds : Holds s sheet
  pub only : (other : Sheet) → Holds s other → other ≡ sheet
  pub heading_is : heading ≡ heading_of sheet
  pub table_is : table ≡ names_column sheet.params
  pub begins : s ≡ rendered_heading (heading_of sheet) ++ names
  pub names_are :
      names ≡ flat_map rendered_name sheet.names ++ (flat_map rendered_param sheet.params ++ outcomes)
  pub outcomes_are : At outcomes heading.columns sheet.outcomes
  pub ends : outcomes ≡ together (body_lines sheet.outcomes) ++ rest
  pub whole : s ≡ together (render sheet) ++ rest

-- The name of column i, counted from 0, or nothing past the last column.
abbrev pub ByName : Option (Bor (List ℕ)) → List (List ℕ) → ℕ → Type 0
ByName r names i =
    MatchOption r (length names ≤ i)
    (λ name. (i < length names) × (name.now ≡ slice_index_or names i []))

-- An outcome as it is played: a row by the bytes that begin with its values. They are what stands
-- behind its first line in s, and next is what stands behind them.
abbrev pub PlayedAs : List ℕ → Outcome → Move → List ℕ → Type 0
PlayedAs s (row vs) (Row values) next =
    (s ≡ row_line ++ values.now) × (values.now ≡ flat_map rendered_value vs ++ next)
PlayedAs s (row vs) Done next = ⊥
PlayedAs s (row vs) (Failed c) next = ⊥
PlayedAs s done (Row values) next = ⊥
PlayedAs s done Done next = Unit {0}
PlayedAs s done (Failed c) next = ⊥
PlayedAs s (failed code) (Row values) next = ⊥
PlayedAs s (failed code) Done next = ⊥
PlayedAs s (failed code) (Failed c) next = c ≡ code

-- s is the lines of the outcome o, which is played as `move`, and behind them the bytes `next`,
-- where the outcomes os stand.
pub record Next (s : List ℕ) (columns : ℕ) (o : Outcome) (os : List Outcome) (move : Move)
    (next : List ℕ) : Type 0 where
  pub played : PlayedAs s o move next
  pub begins : s ≡ together (outcome_lines o) ++ next
  pub others : At next columns os

-- What playing the next outcome answers, where the outcomes os stand at the front of s:
-- it and what stands behind it; past the last one nothing.
abbrev pub Plays : List ℕ → ℕ → List Outcome → Option Played → Type 0
Plays s columns [] r = MatchOption r (Unit {0}) (λ p. ⊥)
Plays s columns (o ∷ os) r = MatchOption r ⊥ (λ p. Next s columns o os p.outcome p.next.now)

-- What stands behind so many lines of a kind in front of s.
-- Read says what reading one of them gives.
abbrev pub Behind : {T : Type 0} → (Bor (List ℕ) → Option (T × Bor (List ℕ)) → Type 0) →
    List ℕ → ℕ → Option (Bor (List ℕ)) → Type 0
Behind Read s zero r = MatchOption r ⊥ (λ rest. rest.now ≡ s)
Behind {T} Read s (suc n) r =
    (b : Bor (List ℕ)) × (o : Option (T × Bor (List ℕ))) × (b.now ≡ s) × Read b o ×
    MatchOption o (r ≡ None) (λ p. Behind Read p.1.now n r)
