-- The laws of a host, kept by a script, since its sheet is well formed.
use Rattle.std.proofs.Common.{◌≡◌, ℕ, zero, suc, ◌≤◌, Bool, List, [], ◌∷◌, length, drop, Option, refl, subst, arith}
use Rattle.std.specs.List.{AllByRecursion}
use Rattle.values.specs.Value.{Value, null, long, double, text, blob}
use Rattle.host.specs.Outcome.{Outcome, row}
use Rattle.host.specs.declared.Slot.{Slot}
use Rattle.host.specs.Sound.{Rowable, Sound}
use Rattle.sheet.specs.Sheet.{Sheet, GoodValue, GoodOutcome}
use Rattle.script.specs.Program.{gives, script_meaning}

-- What a sheet may hold, a row may have.
rowable : (vs : List Value) → AllByRecursion GoodValue vs → AllByRecursion Rowable vs
rowable [] g = tt
rowable (null ∷ vs) g = (tt, rowable vs g.1)
rowable (long z ∷ vs) g = (tt, rowable vs g.1)
rowable (double bits ∷ vs) g = (g.0.1, rowable vs g.1)
rowable (text bs ∷ vs) g = let h = g.0 in (omega arith, rowable vs g.1)
rowable (blob bs ∷ vs) g = let h = g.0 in (omega arith, rowable vs g.1)

-- A good row has one value to a column.
good_row : (columns : ℕ) (o : Outcome) (vs : List Value) → GoodOutcome columns o → o ≡ row vs →
    (length vs ≡ columns) × AllByRecursion Rowable vs
good_row columns o vs g e = let h = subst (GoodOutcome columns) e g in (h.0, rowable vs h.1)

-- So has every row that a step gives, at any place.
row_good : (columns i place : ℕ) (os : List Outcome) (vs : List Value) →
    AllByRecursion (GoodOutcome columns) os → (gives i (drop place os)).0 ≡ row vs →
    (length vs ≡ columns) × AllByRecursion Rowable vs
row_good columns i zero [] vs g e = cc
row_good columns i zero (o ∷ os) vs g e = good_row columns o vs g.0 e
row_good columns i (suc place) [] vs g e = cc
row_good columns i (suc place) (o ∷ os) vs g e = row_good columns i place os vs g.1 e

-- A script of few names and parameters and of good outcomes keeps the laws, whatever its slots hold
-- and wherever it is played.
pub script_sound : (x : Sheet) {ss : List Slot} {place : ℕ} {stepped : Bool}
    {current : Option (List Value)} {limit code : ℕ} → length x.names ≤ 16 →
    length x.params ≤ 32 → AllByRecursion (GoodOutcome (length x.names)) x.outcomes →
    length ss ≡ length x.params → Sound (script_meaning x ss place stepped current limit code)
script_sound x names params outcomes each =
    record {
      few = params;
      each = each;
      named = names;
      rows = λ i values vs e. row_good (length x.names) i i x.outcomes vs outcomes e;
      copies = record { numbers = []; distinct = tt; exact = λ k. refl; many = refl };
    }
