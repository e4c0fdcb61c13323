-- That a sheet is well formed has one proof at most, so that a struct can keep it.
use Rattle.std.specs.Prelude.{ℕ, Bool, List, ◌≢◌}
use Rattle.std.specs.Coded.{×_prop, Π_prop, →_prop, Unit-prop, le_prop, Coded-set, coded_ℕ, coded_bool}
use Rattle.std.specs.List.{AllByRecursion-prop}
use Rattle.values.specs.Value.{Value, null, long, double, text, blob}
use Rattle.host.specs.Outcome.{Outcome, row, done, failed}
use Rattle.sheet.specs.Sheet.{Sheet, heading_of, GoodHeading, GoodName, GoodParam, GoodValue, GoodCode, GoodOutcome, Suits, WellFormed}

-- Each rule has one proof at most.
heading-prop : (s : Sheet) → IsProp (GoodHeading (heading_of s))
heading-prop s u v = λ i. (le_prop u.0 v.0 i, le_prop u.1 v.1 i, le_prop u.2 v.2 i)

name-prop : (name : List ℕ) → IsProp (GoodName name)
name-prop name u v = λ i.
    (le_prop u.0 v.0 i, le_prop u.1 v.1 i, Π_prop (λ k. →_prop (×_prop le_prop le_prop)) u.2 v.2 i)

value-prop : (v : Value) → IsProp (GoodValue v)
value-prop null = Unit-prop
value-prop (long z) = le_prop
value-prop (double bits) = ×_prop le_prop le_prop
value-prop (text bs) = le_prop
value-prop (blob bs) = le_prop

unequal-prop : (m n : ℕ) → IsProp (m ≢ n)
unequal-prop m n = →_prop (λ p. absurd p)

code-prop : (code : ℕ) → IsProp (GoodCode code)
code-prop code u v = λ i. (
  le_prop u.0 v.0 i,
  le_prop u.1 v.1 i,
  unequal-prop code 100 u.2 v.2 i,
  unequal-prop code 101 u.3 v.3 i,
)

outcome-prop : (columns : ℕ) (o : Outcome) → IsProp (GoodOutcome columns o)
outcome-prop columns (row vs) = ×_prop (Coded-set coded_ℕ _ _) (AllByRecursion-prop GoodValue value-prop vs)
outcome-prop columns done = Unit-prop
outcome-prop columns (failed code) = code-prop code

suits-prop : (table : Bool) (o : Outcome) → IsProp (Suits table o)
suits-prop table (row vs) = Unit-prop
suits-prop table done = Coded-set coded_bool _ _
suits-prop table (failed code) = Coded-set coded_bool _ _

-- So have they together.
pub WellFormed-prop : (s : Sheet) → IsProp (WellFormed s)
WellFormed-prop s u v = λ i. record {
  heading = heading-prop s u.heading v.heading i;
  names = AllByRecursion-prop GoodName name-prop s.names u.names v.names i;
  params = AllByRecursion-prop (GoodParam _) (λ k. le_prop) s.params u.params v.params i;
  outcomes = AllByRecursion-prop (GoodOutcome _) (outcome-prop _) s.outcomes u.outcomes v.outcomes i;
  rows = AllByRecursion-prop (Suits _) (suits-prop _) s.outcomes u.rows v.rows i;
}
