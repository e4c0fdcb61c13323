-- From what the reader's methods say to acceptance and refusal.
use Rattle.std.proofs.Common.{◌≡◌, ℕ, ◌+◌, ◌-◌, ◌<◌, ◌≤◌, Bool, false, List, [], ◌∷◌, ◌++◌, map, length, sym, refl, ap, ◌∙◌, subst, ⊎_elim, append_assoc, arith, length-append}
use Rattle.std.specs.List.{flat_map, AllByRecursion}
use Rattle.std.proofs.lemmas.List.{length-map}
use Rattle.std.proofs.lemmas.List.Folds.{flat_map-map}
use Rattle.std.proofs.lemmas.Grind.{flat_map-append}
use Rattle.figures.specs.Reading.{Lacks, Block}
use Rattle.sheet.proofs.Runs.{Line, name, param, value, head, written, Left, left, more, Fits, Runs, runs_append, heads, names_run, params_run, values_run, outcomes_run}
use Rattle.sheet.proofs.Whole.{begin, heading_same, refused, refused_first, written_outcomes}
use Rattle.sheet.proofs.Decoded.{sheet_at_lem, render_bytes}
use Rattle.sheet.specs.Sheet.{heading_of, Sheet, rendered_heading, rendered_name, rendered_param, rendered_value, row_line, outcome_lines, together, render, GoodHeading, GoodName, GoodParam, GoodValue, GoodOutcome, Suits, names_column, WellFormed, Holds, RefusedAt, body_lines}
use Rattle.sheet.specs.Decode.{sheet_at}
use Rattle.sheet.specs.Lines.{Moved, Stuck, Breaks, rendered_head, GoodHead, Outcomes, OutcomesBreak, Ended}
use Rattle.sheet.specs.Places.{Accepted}
use Rattle.sheet.specs.declared.lines.Heading.{Heading}
use Rattle.sheet.specs.declared.lines.Head.TheVariants.{Row}

-- The heading and some lines were read of s; state l is reached at the bytes t, where line n begins.
pub record Reached (s : List ℕ) (h : Heading) (l : Left) (t : List ℕ) (n : ℕ) : Type 0 where
  good : GoodHeading h
  lines : List Line
  runs : Runs h.columns (more (begin h)) lines (more l)
  begins : s ≡ rendered_heading h ++ (flat_map written lines ++ t)
  count : n ≡ length lines + 2

reached_on : {s t : List ℕ} {h : Heading} {l : Left} {n : ℕ} (ys : List Line) {k : Left}
    {u : List ℕ} {m : ℕ} →
    Reached s h l t n → Runs h.columns (more l) ys (more k) → t ≡ flat_map written ys ++ u →
    m ≡ n + length ys → Reached s h k u m
reached_on {h = h} {l = l} ys {k = k} {u = u} x r e is =
    let j = flat_map-append written x.lines ys in
    let a = append_assoc (flat_map written x.lines) (flat_map written ys) u in
    record {
      good = x.good;
      lines = x.lines ++ ys;
      runs = runs_append h.columns (more (begin h)) (more l) (more k) x.lines ys x.runs r;
      begins = cc (x.begins);
      count = omega (arith, x.count, length-append x.lines ys);
    }

reached_refused : {s t : List ℕ} {h : Heading} {l : Left} {n bad : ℕ} → Reached s h l t n →
    Lacks written (Fits h.columns l) t → bad ≡ n → RefusedAt s bad
reached_refused {s = s} {t = t} {h = h} {l = l} x f e =
    subst (λ z. RefusedAt s z) (sym (e ∙ x.count)) (refused h s t x.lines l x.good x.runs x.begins f)

-- Which lines may come.
only_names : (c n p v : ℕ) (b : Bool) (s : List ℕ) → 0 < n → Lacks rendered_name GoodName s →
    Lacks written (Fits c (left n p v b)) s
only_names c n p v b s h f (name x) rest g e = f x rest g.1 e
only_names c n p v b s h f (param x) rest g e = absurd (omega (arith, g.0))
only_names c n p v b s h f (value x) rest g e = absurd (omega (arith, g.0))
only_names c n p v b s h f (head x) rest g e = absurd (omega (arith, g.0))

only_params : (c p v : ℕ) (b : Bool) (s : List ℕ) → 0 < p → Lacks rendered_param (GoodParam c) s →
    Lacks written (Fits c (left 0 p v b)) s
only_params c p v b s h f (name x) rest g e = absurd (omega (arith, g.0))
only_params c p v b s h f (param x) rest g e = f x rest g.2 e
only_params c p v b s h f (value x) rest g e = absurd (omega (arith, g.1))
only_params c p v b s h f (head x) rest g e = absurd (omega (arith, g.1))

only_values : (c v : ℕ) (b : Bool) (s : List ℕ) → 0 < v → Lacks rendered_value GoodValue s →
    Lacks written (Fits c (left 0 0 v b)) s
only_values c v b s h f (name x) rest g e = absurd (omega (arith, g.0))
only_values c v b s h f (param x) rest g e = absurd (omega (arith, g.1))
only_values c v b s h f (value x) rest g e = f x rest g.3 e
only_values c v b s h f (head x) rest g e = absurd (omega (arith, g.2))

only_heads : (c : ℕ) (b : Bool) (s : List ℕ) → Lacks rendered_head (GoodHead b) s →
    Lacks written (Fits c (left 0 0 0 b)) s
only_heads c b s f (name x) rest g e = absurd (omega (arith, g.0))
only_heads c b s f (param x) rest g e = absurd (omega (arith, g.1))
only_heads c b s f (value x) rest g e = absurd (omega (arith, g.2))
only_heads c b s f (head x) rest g e = f x rest g.3 e

-- The heading.
pub reached_start : {s r t : List ℕ} {l n : ℕ} {h : Heading} → r ≡ s → l ≡ 1 →
    Moved rendered_heading GoodHeading r l h t n → Reached s h (begin h) t n
reached_start e f m =
    record {
      good = m.good;
      lines = [];
      runs = refl;
      begins = sym e ∙ m.begins;
      count = omega (arith, m.line);
    }

pub heading_refused : {s r : List ℕ} {l bad : ℕ} → r ≡ s → l ≡ 1 →
    Stuck rendered_heading GoodHeading r l bad → RefusedAt s bad
heading_refused {s = s} e f x =
    let no = subst (λ z. Lacks rendered_heading GoodHeading z) e x.lacks in
    subst (λ z. RefusedAt s z) (sym (x.line ∙ f)) (refused_first s no)

-- Some lines of a kind.
block_on : {V : Type 0} {write : V → List ℕ} {Good : V → Type 0} (line : V → Line) {s : List ℕ}
    {h : Heading} {l : Left} {t : List ℕ} {n k : ℕ} {u : List ℕ} {q : Left} →
    Reached s h l t n → (b : Block write Good t k u) →
    Runs h.columns (more l) (map line b.items) (more q) →
    flat_map written (map line b.items) ≡ flat_map write b.items → Reached s h q u (n + k)
block_on line {n = n} {k = k} {u = u} x b r e =
    reached_on (map line b.items) x r (b.begins ∙ ap (λ z. z ++ u) (sym e))
    (omega (arith, length-map b.items line, b.many))

some_names : {s t u : List ℕ} {h : Heading} {c p n k : ℕ} → Reached s h (left c p 0 false) t n →
    (b : Block rendered_name GoodName t k u) → k ≤ c →
    Reached s h (left (c - length b.items) p 0 false) u (n + k)
some_names {h = h} {c = c} {p = p} x b le =
    let r = names_run h.columns c p 0 false b.items (omega (arith, b.many)) b.good in
    block_on name x b r (flat_map-map written name b.items)

pub names_refused : {s t : List ℕ} {h : Heading} {c p n bad : ℕ} →
    Reached s h (left c p 0 false) t n → Breaks rendered_name GoodName t n c bad → RefusedAt s bad
names_refused {h = h} {c = c} {p = p} x y =
    let b = y.front in
    let some : 0 < c - length b.items = omega (arith, y.short, b.many) in
    let no = only_names h.columns (c - length b.items) p 0 false y.next some y.stuck.lacks in
    reached_refused (some_names x b (omega (arith, y.short))) no y.stuck.line

pub all_names : {s t u : List ℕ} {h : Heading} {c p n m : ℕ} → Reached s h (left c p 0 false) t n →
    Block rendered_name GoodName t c u × (m ≡ n + c) → Reached s h (left 0 p 0 false) u m
all_names {s = s} {u = u} {h = h} {c = c} {p = p} {n = n} x y =
    let b = y.0 in
    let e : c - length b.items ≡ 0 = omega (arith, b.many) in
    let all = subst (λ z. Reached s h (left z p 0 false) u (n + c)) e (some_names x b (omega arith)) in
    subst (λ z. Reached s h (left 0 p 0 false) u z) (sym y.1) all

some_params : {s t u : List ℕ} {h : Heading} {p n k : ℕ} → Reached s h (left 0 p 0 false) t n →
    (b : Block rendered_param (GoodParam h.columns) t k u) → k ≤ p →
    Reached s h (left 0 (p - length b.items) 0 (names_column b.items)) u (n + k)
some_params {h = h} {p = p} x b le =
    let r = params_run h.columns p 0 false b.items (omega (arith, b.many)) b.good in
    block_on param x b r (flat_map-map written param b.items)

pub params_refused : {s t : List ℕ} {h : Heading} {p n bad : ℕ} →
    Reached s h (left 0 p 0 false) t n → Breaks rendered_param (GoodParam h.columns) t n p bad →
    RefusedAt s bad
params_refused {h = h} {p = p} x y =
    let b = y.front in
    let t = names_column b.items in
    let some : 0 < p - length b.items = omega (arith, y.short, b.many) in
    let no = only_params h.columns (p - length b.items) 0 t y.next some y.stuck.lacks in
    reached_refused (some_params x b (omega (arith, y.short))) no y.stuck.line

-- What `parameters` gives.
abbrev Params : ℕ → List ℕ → ℕ → ℕ → List ℕ → ℕ → Bool → Type 0
Params columns t n p u m table =
    (b : Block rendered_param (GoodParam columns) t p u) × (table ≡ names_column b.items) × (m ≡ n + p)

pub all_params : {s t u : List ℕ} {h : Heading} {p n m : ℕ} {table : Bool} →
    Reached s h (left 0 p 0 false) t n → Params h.columns t n p u m table →
    Reached s h (left 0 0 0 table) u m
all_params {s = s} {u = u} {h = h} {p = p} {n = n} {table = table} x y =
    let b = y.0 in
    let z : p - length b.items ≡ 0 = omega (arith, b.many) in
    let e : left 0 (p - length b.items) 0 (names_column b.items) ≡ left 0 0 0 table = cc (y.1) in
    let all = subst (λ z. Reached s h z u (n + p)) e (some_params x b (omega arith)) in
    subst (λ z. Reached s h (left 0 0 0 table) u z) (sym y.2) all

-- Some outcomes.
went : {s t u : List ℕ} {h : Heading} {table : Bool} {n : ℕ} → Reached s h (left 0 0 0 table) t n →
    (x : Outcomes t h.columns table u) →
    Reached s h (left 0 0 0 table) u (n + length (flat_map outcome_lines x.items))
went {u = u} {h = h} {table = table} r x =
    let os = x.items in
    let w = written_outcomes os in
    let ls = flat_map heads os in
    let e = ap together w ∙ flat_map-map (λ l. l) written ls in
    reached_on ls r (outcomes_run h.columns table os x.good x.suits) (x.begins ∙ ap (λ z. z ++ u) e)
    (omega (arith, ap length w, length-map ls written))

short_row : {s t first : List ℕ} {h : Heading} {table : Bool} {n bad : ℕ} →
    Reached s h (left 0 0 0 table) t n → t ≡ row_line ++ first →
    Breaks rendered_value GoodValue first (n + 1) h.columns bad → RefusedAt s bad
short_row {h = h} {table = table} {n = n} x e y =
    let c = h.columns in
    let b = y.front in
    let z = reached_on (head Row ∷ []) {k = left 0 0 c table} {m = n + 1} x
    ((refl, refl, refl, (tt, tt)), refl) e (omega arith) in
    let r = values_run c c table b.items (omega (arith, y.short, b.many)) b.good in
    let some : 0 < c - length b.items = omega (arith, y.short, b.many) in
    let no = only_values c (c - length b.items) table y.next some y.stuck.lacks in
    reached_refused (block_on value z b r (flat_map-map written value b.items)) no y.stuck.line

pub outcomes_refused : {s t : List ℕ} {h : Heading} {table : Bool} {n bad : ℕ} →
    Reached s h (left 0 0 0 table) t n → OutcomesBreak t h.columns table n bad → RefusedAt s bad
outcomes_refused {h = h} {table = table} {bad = bad} r x =
    let y = went r x.front in
    ⊎_elim
    (λ (z : Stuck rendered_head (GoodHead table) x.next _ bad).
    reached_refused y (only_heads h.columns table x.next z.lacks) z.line)
    (λ z. short_row y z.1 z.2)
    x.stuck

-- The parts of an accepted sheet.
pub accepted : {s r t u o rest : List ℕ} {l n : ℕ} {h : Heading} {table : Bool} → r ≡ s →
    Moved rendered_heading GoodHeading r l h t n → Block rendered_name GoodName t h.columns u →
    (b : Block rendered_param (GoodParam h.columns) u h.parameters o) →
    table ≡ names_column b.items → Ended o h.columns table rest →
    Accepted s h t o rest table
accepted {s = s} {o = o} {rest = rest} {h = h} e x y z t w =
    let ns = y.items in
    let ps = z.items in
    let os = w.items in
    let cn = y.many in
    let cp = z.many in
    let g0 = x.good.0 in
    let g1 = x.good.1 in
    let sheet : Sheet = record { names = ns; params = ps; copy_limit = h.copy_limit; outcomes = os } in
    let good : WellFormed sheet =
    record {
      heading = (omega arith, omega arith, x.good.2);
      names = y.good;
      params = subst (λ i. AllByRecursion (GoodParam i) ps) (sym cn) z.good;
      outcomes = subst (λ i. AllByRecursion (GoodOutcome i) os) (sym cn) w.good;
      rows = subst (λ i. AllByRecursion (Suits i) os) t w.suits;
    } in
    let hd = heading_same (length ns) (length ps) h.copy_limit h.columns h.parameters h.copy_limit cn cp refl in
    let hr = ap rendered_heading hd in
    let rb = render_bytes sheet rest in
    let e0 = x.begins in
    let e1 = y.begins in
    let e2 = z.begins in
    let e3 = w.begins in
    let whole : s ≡ together (render sheet) ++ rest = cc in
    let holds : Holds s sheet = record { good = good; rest = rest; begins = whole } in
    record {
      sheet = sheet;
      holds = holds;
      only = λ other k. sym (sheet_at_lem s other k) ∙ sheet_at_lem s sheet holds;
      heading_is = sym hd;
      table_is = t;
      begins = cc;
      names_are = cc;
      outcomes_are = record { good = w.good; rest = rest; begins = w.begins };
      ends = w.begins;
      whole = whole;
    }

-- What a checked sheet keeps, of the content x.
pub record Kept (s : List ℕ) (x : Sheet) (heading : Heading) (names outcomes rest : List ℕ)
    (table : Bool) : Type 0 where
  pub good : WellFormed x
  pub headed : heading ≡ heading_of x
  pub tabled : table ≡ names_column x.params
  pub named : names ≡ flat_map rendered_name x.names ++ (flat_map rendered_param x.params ++ outcomes)
  pub stands : outcomes ≡ together (body_lines x.outcomes) ++ rest
  pub whole : s ≡ together (render x) ++ rest

-- It is the content that the decoder gives.
pub kept : {s names outcomes rest : List ℕ} {heading : Heading} {table : Bool} →
    Accepted s heading names outcomes rest table →
    Kept s (sheet_at s) heading names outcomes rest table
kept {s = s} {names = ns} {outcomes = os} {rest = r} {heading = h} {table = t} a =
    subst (λ z. Kept s z h ns os r t) (sym (sheet_at_lem s a.sheet a.holds))
    (record {
      good = a.holds.good;
      headed = a.heading_is;
      tabled = a.table_is;
      named = a.names_are;
      stands = a.ends;
      whole = a.whole;
    })
