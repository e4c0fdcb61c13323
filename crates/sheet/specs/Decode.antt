-- The content that bytes hold, if they hold a sheet. It tests nothing. Each reader gives what it read and what is left.
use Rattle.std.specs.Prelude.{◌≡◌, ℕ, zero, suc, ◌+◌, ◌-◌, ◌*◌, cond, List, [], ◌∷◌, length, take, drop, ℤ, pos, neg_ℤ, ◌==◌, nat_le}
use Rattle.values.specs.Value.{Value, null, long, double, text, blob}
use Rattle.host.specs.Outcome.{Outcome, row, done, failed}
use Rattle.sheet.specs.Sheet.{Sheet, Holds}
use Rattle.sheet.specs.declared.lines.Heading.{Heading}

-- The digits up to the first byte below them, which is left out.
abbrev pub figure_at : ℕ → List ℕ → ℕ × List ℕ
figure_at n [] = (n, [])
figure_at n (c ∷ cs) = cond (nat_le 48 c) (figure_at (10 * n + (c - 48)) cs) (n, cs)

-- The same with a sign.
abbrev pub number_at : List ℕ → ℤ × List ℕ
number_at [] = (pos 0, [])
number_at (c ∷ cs) = cond (c == 45) (neg_ℤ (pos (figure_at 0 cs).0), (figure_at 0 cs).1) (pos (figure_at 0 (c ∷ cs)).0, (figure_at 0 (c ∷ cs)).1)

-- So many bytes, without the one behind them.
abbrev pub cut : ℕ × List ℕ → List ℕ × List ℕ
cut p = (take p.0 p.1, drop (p.0 + 1) p.1)

-- A length and so many bytes.
abbrev pub piece_at : List ℕ → List ℕ × List ℕ
piece_at s = cut (figure_at 0 s)

-- A value line, by its letter.
abbrev pub front_value : List ℕ → Value × List ℕ
front_value [] = (null, [])
front_value (c ∷ cs) =
    cond (c == 78) (null, drop 1 cs)
    (cond (c == 76) (long (number_at (drop 1 cs)).0, (number_at (drop 1 cs)).1)
    (cond (c == 71) (double (figure_at 0 (drop 1 cs)).0, (figure_at 0 (drop 1 cs)).1)
    (cond (c == 84) (text (piece_at (drop 1 cs)).0, (piece_at (drop 1 cs)).1)
    (blob (piece_at (drop 1 cs)).0, (piece_at (drop 1 cs)).1))))

-- So many value lines.
unfoldable pub values_at : ℕ → List ℕ → List Value × List ℕ
values_at zero s = ([], s)
values_at (suc n) s = ((front_value s).0 ∷ (values_at n (front_value s).1).0, (values_at n (front_value s).1).1)

-- So many lines of columns.
unfoldable pub names_at : ℕ → List ℕ → List (List ℕ) × List ℕ
names_at zero s = ([], s)
names_at (suc n) s = ((piece_at (drop 2 s)).0 ∷ (names_at n (piece_at (drop 2 s)).1).0, (names_at n (piece_at (drop 2 s)).1).1)

-- So many lines of parameters.
unfoldable pub params_at : ℕ → List ℕ → List ℕ × List ℕ
params_at zero s = ([], s)
params_at (suc n) s = ((figure_at 0 (drop 2 s)).0 ∷ (params_at n (figure_at 0 (drop 2 s)).1).0, (params_at n (figure_at 0 (drop 2 s)).1).1)

-- The outcomes, by their letters, at most so many, in so many columns.
unfoldable pub outcomes_at : ℕ → ℕ → List ℕ → List Outcome
outcomes_at zero c s = []
outcomes_at (suc f) c [] = []
outcomes_at (suc f) c (b ∷ s) =
    cond (b == 82) (row (values_at c (drop 1 s)).0 ∷ outcomes_at f c (values_at c (drop 1 s)).1)
    (cond (b == 68) (done ∷ outcomes_at f c (drop 1 s))
    (cond (b == 70) (failed (figure_at 0 (drop 1 s)).0 ∷ outcomes_at f c (figure_at 0 (drop 1 s)).1) []))

-- The three figures of the first line, one after the other.
abbrev pub third_at : ℕ → ℕ → ℕ × List ℕ → Heading × List ℕ
third_at c p q = (record { columns = c; parameters = p; copy_limit = q.0 }, q.1)

-- The first line, once its first two figures are read.
abbrev pub second_at : ℕ → ℕ × List ℕ → Heading × List ℕ
second_at c q = third_at c q.0 (figure_at 0 q.1)

-- The first line, once its first figure is read.
abbrev pub first_at : ℕ × List ℕ → Heading × List ℕ
first_at q = second_at q.0 (figure_at 0 q.1)

-- What stands below the parameters, below the names, and below the first line.
abbrev pub below_params : ℕ → Heading → List (List ℕ) → List ℕ × List ℕ → Sheet
below_params f h ns q = record { names = ns; params = q.0; copy_limit = h.copy_limit; outcomes = outcomes_at f h.columns q.1 }

-- The sheet, once its first line and the names are read.
abbrev pub below_names : ℕ → Heading → List (List ℕ) × List ℕ → Sheet
below_names f h q = below_params f h q.0 (params_at h.parameters q.1)

-- The sheet, once its first line is read.
abbrev pub below_heading : ℕ → Heading × List ℕ → Sheet
below_heading f q = below_names f q.0 (names_at q.0.columns q.1)

-- The whole sheet; it has fewer outcomes than bytes.
unfoldable pub sheet_at : List ℕ → Sheet
sheet_at s = below_heading (length s) (first_at (figure_at 0 s))

-- Where bytes hold a sheet, it is the one that is decoded from them.
abbrev pub Decodes : Type 0
Decodes = (s : List ℕ) (x : Sheet) → Holds s x → sheet_at s ≡ x
