-- One more line of a kind, or one more outcome, behind those that were read.
use Rattle.std.proofs.Common.{◌≡◌, ℕ, ◌+◌, Bool, not, ◌||◌, eqb, ◌⊎◌, List, [], ◌∷◌, ◌++◌, length, sym, ap, ◌∙◌, subst, inl, inr, ⊎_elim, append_assoc, append-nil, arith, length-append}
use Rattle.std.specs.List.{flat_map}
use Rattle.std.proofs.lemmas.Grind.{flat_map-append}
use Rattle.std.proofs.lemmas.List.Folds.{flat_map-map}
use Rattle.std.proofs.Math.Bool.{or_assoc, or-false}
use Rattle.std.proofs.lemmas.List.{length_push, length-map}
use Rattle.figures.specs.Reading.{Block}
use Rattle.host.specs.Outcome.{Outcome, row, done, failed}
use Rattle.figures.proofs.Lists.{all_append}
use Rattle.sheet.specs.Sheet.{rendered_param, rendered_value, outcome_lines, together, names_column, GoodParam, GoodValue, GoodOutcome, Suits}
use Rattle.sheet.specs.Lines.{Moved, Stuck, Breaks, rendered_head, GoodHead, Outcomes, OutcomesBreak}
use Rattle.sheet.specs.declared.lines.Head.{Head}
use Rattle.sheet.specs.declared.lines.Head.TheVariants.{Row, Done, Failed}

-- So many lines stand between s and the bytes t, where line m begins.
pub record Walked {V : Type 0} (write : V → List ℕ) (Good : V → Type 0)
    (s : List ℕ) (l n : ℕ) (t : List ℕ) (m : ℕ) : Type 0 where
  pub block : Block write Good s n t
  pub line : m ≡ l + n

-- And one more.
pub walked_more : {V : Type 0} {write : V → List ℕ} {Good : V → Type 0} {s t u : List ℕ}
    {l n m k : ℕ} {v : V} →
    Walked write Good s l n t m → Moved write Good t m v u k → Walked write Good s l (n + 1) u k
walked_more {write = write} {Good = Good} {s = s} {u = u} {v = v} w x =
    let b = w.block in
    let j = flat_map-append write b.items (v ∷ []) in
    let a = append_assoc (flat_map write b.items) (write v) u in
    let n = append-nil (write v) in
    let lp = length_push b.items v in
    record {
      block = record {
        items = b.items ++ (v ∷ []);
        many = omega (arith, b.many, lp);
        good = all_append Good b.items (v ∷ []) b.good (x.good, tt);
        begins = cc (b.begins, x.begins);
      };
      line = omega (arith, x.line, w.line);
    }

-- Whether some parameter names a column, with one more.
column_push : (xs : List ℕ) (k : ℕ) →
    names_column (xs ++ (k ∷ [])) ≡ (names_column xs || not (eqb k 0))
column_push [] k = or-false (not (eqb k 0))
column_push (x ∷ xs) k =
    ap (λ b. not (eqb x 0) || b) (column_push xs k) ∙
    sym (or_assoc (not (eqb x 0)) (names_column xs) (not (eqb k 0)))

-- So many parameters stand there, and `table` says whether some of them names a column.
pub record Columns (columns : ℕ) (s : List ℕ) (l n : ℕ) (t : List ℕ) (m : ℕ) (table : Bool)
    : Type 0 where
  pub walked : Walked rendered_param (GoodParam columns) s l n t m
  pub told : table ≡ names_column walked.block.items

-- And one more.
pub columns_more : {columns l n m k i : ℕ} {s t u : List ℕ} {table : Bool} →
    Columns columns s l n t m table → Moved rendered_param (GoodParam columns) t m k u i →
    Columns columns s l (n + 1) u i (table || not (eqb k 0))
unfolding walked_more
columns_more {k = k} w x =
    record {
      walked = walked_more w.walked x;
      told = ap (λ b. b || not (eqb k 0)) w.told ∙ sym (column_push w.walked.block.items k);
    }

-- Outcomes stand between s and the bytes t, where line m begins.
pub record Going (s : List ℕ) (columns : ℕ) (table : Bool) (l : ℕ) (t : List ℕ) (m : ℕ)
    : Type 0 where
  pub read : Outcomes s columns table t
  pub line : m ≡ l + length (flat_map outcome_lines read.items)

-- The bytes of some lines and then others.
pub together_append : (xs ys : List (List ℕ)) → together (xs ++ ys) ≡ together xs ++ together ys
together_append = flat_map-append (λ l. l)

-- One more outcome, in so many lines.
pub going_more : {s t u : List ℕ} {columns l m k : ℕ} {table : Bool} → (o : Outcome) →
    Going s columns table l t m → GoodOutcome columns o → Suits table o →
    t ≡ together (outcome_lines o) ++ u → k ≡ m + length (outcome_lines o) →
    Going s columns table l u k
going_more {u = u} {columns = columns} {table = table} o g good suits begins line =
    let x = g.read in
    let j = flat_map-append outcome_lines x.items (o ∷ []) in
    let n = append-nil (outcome_lines o) in
    let b = together_append (flat_map outcome_lines x.items) (outcome_lines o) in
    let a = append_assoc (together (flat_map outcome_lines x.items)) (together (outcome_lines o)) u in
    let ls = length-append (flat_map outcome_lines x.items) (outcome_lines o) in
    let is : flat_map outcome_lines (x.items ++ (o ∷ [])) ≡
    flat_map outcome_lines x.items ++ outcome_lines o = cc in
    record {
      read = record {
        items = x.items ++ (o ∷ []);
        good = all_append (GoodOutcome columns) x.items (o ∷ []) x.good (good, tt);
        suits = all_append (Suits table) x.items (o ∷ []) x.suits (suits, tt);
        begins = cc (x.begins);
      };
      line = omega (arith, ap length is, g.line);
    }

-- A row with all its values.
pub going_row : {s t u w : List ℕ} {columns l m k j : ℕ} {table : Bool} {h : Head} →
    Going s columns table l t m → Moved rendered_head (GoodHead table) t m h u k → h ≡ Row →
    (b : Block rendered_value GoodValue u columns w) × (j ≡ k + columns) →
    Going s columns table l w j
going_row g x e y =
    let vs = y.0.items in
    let v = flat_map-map (λ l. l) rendered_value vs in
    let n = length-map vs rendered_value in
    let a = ap rendered_head e in
    going_more (row vs) g (y.0.many, y.0.good) tt (cc (x.begins, y.0.begins))
    (omega (arith, x.line, y.1, y.0.many))

-- An outcome of one line.
pub going_head : {s t u : List ℕ} {columns l m k : ℕ} {table : Bool} {h : Head} →
    Going s columns table l t m → Moved rendered_head (GoodHead table) t m h u k →
    (h ≡ Done) ⊎ ((code : ℕ) × (h ≡ Failed code)) → Going s columns table l u k
going_head {t = t} {u = u} {m = m} {k = k} {table = table} g x =
    let P : Head → Type 0 = λ z. Moved rendered_head (GoodHead table) t m z u k in
    ⊎_elim
    (λ e. let y = subst P e x in going_more done g tt y.good.0 y.begins (omega (arith, y.line)))
    (λ e.
    let y = subst P e.1 x in
    let n = append-nil (rendered_head (Failed e.0)) in
    going_more (failed e.0) g y.good.1 y.good.0 (cc (y.begins)) (omega (arith, y.line)))

-- No line of an outcome, nor the last line.
pub going_stuck : {s t : List ℕ} {columns l m bad : ℕ} {table : Bool} →
    Going s columns table l t m → Stuck rendered_head (GoodHead table) t m bad →
    OutcomesBreak s columns table l bad
going_stuck {t = t} g x =
    record { next = t; front = g.read; stuck = inl (record { line = x.line ∙ g.line; lacks = x.lacks }) }

-- A row without all its values.
pub going_short : {s t u : List ℕ} {columns l m k bad : ℕ} {table : Bool} {h : Head} →
    Going s columns table l t m → Moved rendered_head (GoodHead table) t m h u k → h ≡ Row →
    Breaks rendered_value GoodValue u k columns bad → OutcomesBreak s columns table l bad
going_short {t = t} {u = u} {columns = columns} {bad = bad} g x e b =
    let y = subst (λ z. Breaks rendered_value GoodValue u z columns bad)
    (x.line ∙ ap (λ z. z + 1) g.line) b in
    record {
      next = t;
      front = g.read;
      stuck = inr (u, x.begins ∙ ap (λ z. rendered_head z ++ u) e, y);
    }
