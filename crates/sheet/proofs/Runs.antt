-- The lines below the heading as an automaton: which line may come next.
-- Two runs over the same bytes agree; every run is the front of some content's lines; every content runs to its end.
use Rattle.std.proofs.Common.{◌≡◌, ℕ, zero, suc, ◌-◌, ◌^◌, ◌<◌, ◌≤◌, Bool, false, not, ◌||◌, ◌&&◌, cond, eqb, leb, List, [], ◌∷◌, ◌++◌, map, length, get_or, take, drop, replicate, sym, refl, ap, ◌∙◌, subst, append_assoc, arith}
use Rattle.std.specs.List.{flat_map, AllByRecursion}
use Rattle.std.proofs.Math.Bool.{or_assoc, or-false}
use Rattle.std.proofs.lemmas.List.{nil_from_length, length-replicate}
use Rattle.values.specs.Value.{Value, null, long, double, text, blob}
use Rattle.host.specs.Outcome.{Outcome, row, done, failed}
use Rattle.sheet.proofs.Decoded.{line_at, value_at_lem, name_at_lem, param_at_lem}
use Rattle.sheet.specs.Decode.{figure_at, piece_at, front_value}
use Rattle.sheet.specs.Sheet.{rendered_name, rendered_param, rendered_value, GoodName, GoodParam, GoodValue, GoodOutcome, names_column, Suits}
use Rattle.sheet.specs.Lines.{rendered_head, PlainHead, GoodHead}
use Rattle.sheet.specs.declared.lines.Head.{Head}
use Rattle.sheet.specs.declared.lines.Head.TheVariants.{Row, Done, Failed, End}

-- A line below the heading.
pub data Line : Type 0 where
  name : List ℕ → Line
  param : ℕ → Line
  value : Value → Line
  head : Head → Line

abbrev pub written : Line → List ℕ
written (name b) = rendered_name b
written (param k) = rendered_param k
written (value v) = rendered_value v
written (head h) = rendered_head h

-- How many names, parameters and values of a row have still to come, and whether the sheet is a table so far.
pub record Left : Type 0 where
  pub names : ℕ
  pub params : ℕ
  pub values : ℕ
  pub table : Bool

abbrev pub left : ℕ → ℕ → ℕ → Bool → Left
left n p v t = record { names = n; params = p; values = v; table = t }

pub data Want : Type 0 where
  more : Left → Want
  nothing : Want

-- Which lines may come.
abbrev pub Fits : ℕ → Left → Line → Type 0
Fits c l (name b) = (0 < l.names) × GoodName b
Fits c l (param k) = (l.names ≡ 0) × (0 < l.params) × GoodParam c k
Fits c l (value v) = (l.names ≡ 0) × (l.params ≡ 0) × (0 < l.values) × GoodValue v
Fits c l (head h) = (l.names ≡ 0) × (l.params ≡ 0) × (l.values ≡ 0) × GoodHead l.table h

-- And what may come then.
abbrev pub after_head : ℕ → Bool → Head → Want
after_head c t Row = more (left 0 0 c t)
after_head c t Done = more (left 0 0 0 t)
after_head c t (Failed code) = more (left 0 0 0 t)
after_head c t End = nothing

abbrev pub next : ℕ → Left → Line → Want
next c l (name b) = more (left (l.names - 1) l.params l.values l.table)
next c l (param k) = more (left l.names (l.params - 1) l.values (l.table || not (eqb k 0)))
next c l (value v) = more (left l.names l.params (l.values - 1) l.table)
next c l (head h) = after_head c l.table h

-- A kind of line is read in one way, since it is decoded.
abbrev pub Free : {V : Type 0} → (V → List ℕ) → (V → Type 0) → Type 0
Free {V} write Good =
    (x y : V) (r t : List ℕ) → Good x → Good y → write x ++ r ≡ write y ++ t → (x ≡ y) × (r ≡ t)

pub free_by : {V : Type 0} (write : V → List ℕ) (Good : V → Type 0) (read : List ℕ → V × List ℕ) →
    ((v : V) (r : List ℕ) → Good v → read (write v ++ r) ≡ (v, r)) → Free write Good
free_by write Good read law x y r t f g e =
    let p = sym (law x r f) ∙ (ap read e ∙ law y t g) in
    (ap (λ q. q.0) p, ap (λ q. q.1) p)

pub name_free : Free rendered_name GoodName
name_free = free_by rendered_name GoodName (λ l. piece_at (drop 2 l)) name_at_lem

pub value_free : Free rendered_value GoodValue
value_free = free_by rendered_value GoodValue front_value value_at_lem

front_head : List ℕ → Head × List ℕ
front_head [] = (End, [])
front_head (c ∷ cs) =
    cond (eqb c 82) (Row, drop 1 cs)
    (cond (eqb c 68) (Done, drop 1 cs)
    (cond (eqb c 69) (End, drop 1 cs) (Failed (figure_at 0 (drop 1 cs)).0, (figure_at 0 (drop 1 cs)).1)))

head_at_lem : (h : Head) (r : List ℕ) → PlainHead h → front_head (rendered_head h ++ r) ≡ (h, r)
unfolding front_head
head_at_lem Row r g = refl
head_at_lem Done r g = refl
head_at_lem (Failed code) r g =
    let b = g.1 in ap (λ p. (Failed p.0, p.1)) (line_at code r (omega arith))
head_at_lem End r g = refl

pub head_free : Free rendered_head PlainHead
head_free = free_by rendered_head PlainHead front_head head_at_lem

-- Each line that may come has its own letter.
front_line : List ℕ → Line × List ℕ
front_line [] = (head End, [])
front_line (c ∷ cs) =
    cond (eqb c 67) (name (piece_at (drop 1 cs)).0, (piece_at (drop 1 cs)).1)
    (cond (eqb c 80) (param (figure_at 0 (drop 1 cs)).0, (figure_at 0 (drop 1 cs)).1)
    (cond (eqb c 82 || (leb 68 c && leb c 70)) (head (front_head (c ∷ cs)).0, (front_head (c ∷ cs)).1)
    (value (front_value (c ∷ cs)).0, (front_value (c ∷ cs)).1)))

line_at_lem : (c : ℕ) (l : Left) → c < 2 ^ 64 → (x : Line) (r : List ℕ) → Fits c l x →
    front_line (written x ++ r) ≡ (x, r)
unfolding front_line
line_at_lem c l w (name b) r g = ap (λ p. (name p.0, p.1)) (name_at_lem b r g.1)
line_at_lem c l w (param k) r g = ap (λ p. (param p.0, p.1)) (param_at_lem c k r w g.2)
line_at_lem c l w (value null) r g = ap (λ p. (value p.0, p.1)) (value_at_lem null r g.3)
line_at_lem c l w (value (long z)) r g = ap (λ p. (value p.0, p.1)) (value_at_lem (long z) r g.3)
line_at_lem c l w (value (double n)) r g =
    ap (λ p. (value p.0, p.1)) (value_at_lem (double n) r g.3)
line_at_lem c l w (value (text b)) r g = ap (λ p. (value p.0, p.1)) (value_at_lem (text b) r g.3)
line_at_lem c l w (value (blob b)) r g = ap (λ p. (value p.0, p.1)) (value_at_lem (blob b) r g.3)
line_at_lem c l w (head Row) r g = ap (λ p. (head p.0, p.1)) (head_at_lem Row r g.3.1)
line_at_lem c l w (head Done) r g = ap (λ p. (head p.0, p.1)) (head_at_lem Done r g.3.1)
line_at_lem c l w (head (Failed code)) r g =
    ap (λ p. (head p.0, p.1)) (head_at_lem (Failed code) r g.3.1)
line_at_lem c l w (head End) r g = ap (λ p. (head p.0, p.1)) (head_at_lem End r g.3.1)

line_free : (c : ℕ) (l : Left) → c < 2 ^ 64 → Free written (Fits c l)
line_free c l w = free_by written (Fits c l) front_line (line_at_lem c l w)

-- The lines lead from one state to the other.
abbrev pub Runs : ℕ → Want → List Line → Want → Type 0
Runs c q [] m = q ≡ m
Runs c (more l) (x ∷ xs) m = Fits c l x × Runs c (next c l x) xs m
Runs c nothing (x ∷ xs) m = ⊥

pub runs_append : (c : ℕ) (p m q : Want) (xs ys : List Line) → Runs c p xs m → Runs c m ys q →
    Runs c p (xs ++ ys) q
runs_append c p m q [] ys a b = subst (λ z. Runs c z ys q) (sym a) b
runs_append c nothing m q (x ∷ xs) ys a b = absurd a
runs_append c (more l) m q (x ∷ xs) ys a b = (a.0, runs_append c (next c l x) m q xs ys a.1 b)

pub runs_take : (c : ℕ) (q m : Want) (xs : List Line) (n : ℕ) → Runs c q xs m →
    (k : Want) × Runs c q (take n xs) k
runs_take c q m xs zero r = (q, refl)
runs_take c q m [] (suc n) r = (q, refl)
runs_take c nothing m (x ∷ xs) (suc n) r = absurd r
runs_take c (more l) m (x ∷ xs) (suc n) r =
    let k = runs_take c (next c l x) m xs n r.1 in (k.0, (r.0, k.1))

pub record Followed (c : ℕ) (m q : Want) (xs ys : List Line) (r t : List ℕ) : Type 0 where
  pub rest : List Line
  pub is : ys ≡ xs ++ rest
  pub runs : Runs c m rest q
  pub begins : r ≡ flat_map written rest ++ t

pub follow : (c : ℕ) (p m q : Want) (xs ys : List Line) (r t : List ℕ) → c < 2 ^ 64 →
    Runs c p xs m → Runs c p ys q → length xs ≤ length ys →
    flat_map written xs ++ r ≡ flat_map written ys ++ t → Followed c m q xs ys r t
follow c p m q [] ys r t w a b h e =
    record { rest = ys; is = refl; runs = subst (λ z. Runs c z ys q) a b; begins = e }
follow c p m q (x ∷ xs) [] r t w a b h e = absurd (omega arith)
follow c nothing m q (x ∷ xs) (y ∷ ys) r t w a b h e = absurd a
follow c (more l) m q (x ∷ xs) (y ∷ ys) r t w a b h e =
    let i = append_assoc (written x) (flat_map written xs) r in
    let j = append_assoc (written y) (flat_map written ys) t in
    let f = line_free c l w x y (flat_map written xs ++ r) (flat_map written ys ++ t) a.0 b.0 (sym i ∙ (e ∙ j)) in
    let b' : Runs c (next c l x) ys q = subst (λ z. Runs c (next c l z) ys q) (sym f.0) b.1 in
    let n = follow c (next c l x) m q xs ys r t w a.1 b' (omega arith) f.1 in
    let k = f.0 in
    let o = n.is in
    record { rest = n.rest; is = cc; runs = n.runs; begins = n.begins }

-- The lines of a content.
abbrev pub heads : Outcome → List Line
heads (row vs) = head Row ∷ map value vs
heads done = head Done ∷ []
heads (failed code) = head (Failed code) ∷ []

abbrev pub tail_lines : List (List ℕ) → List ℕ → List Value → List Outcome → List Line
tail_lines ns ps vs os =
    map name ns ++ (map param ps ++ (map value vs ++ (flat_map heads os ++ (head End ∷ []))))

pub names_run : (c t p v : ℕ) (b : Bool) (ns : List (List ℕ)) → length ns ≤ t →
    AllByRecursion GoodName ns →
    Runs c (more (left t p v b)) (map name ns) (more (left (t - length ns) p v b))
names_run c t p v b [] h g = let e : t - 0 ≡ t = omega arith in rw e refl
names_run c t p v b (n ∷ ns) h g =
    let e : t - 1 - length ns ≡ t - suc (length ns) = omega arith in
    let i = names_run c (t - 1) p v b ns (omega arith) g.1 in
    ((omega arith, g.0), subst (λ z. Runs c (more (left (t - 1) p v b)) (map name ns) (more (left z p v b))) e i)

pub params_run : (c t v : ℕ) (b : Bool) (ps : List ℕ) → length ps ≤ t →
    AllByRecursion (GoodParam c) ps →
    Runs c (more (left 0 t v b)) (map param ps)
    (more (left 0 (t - length ps) v (b || names_column ps)))
params_run c t v b [] h g =
    let e : t - 0 ≡ t = omega arith in let f = or-false b in let k : left 0 t v b ≡ left 0 (t - 0) v (b || false) = cc in ap more k
params_run c t v b (p ∷ ps) h g =
    let e : t - 1 - length ps ≡ t - suc (length ps) = omega arith in
    let i = params_run c (t - 1) v (b || not (eqb p 0)) ps (omega arith) g.1 in
    let j = subst (λ z. Runs c (more (left 0 (t - 1) v (b || not (eqb p 0)))) (map param ps) (more (left 0 z v ((b || not (eqb p 0)) || names_column ps)))) e i in
    ((refl, omega arith, g.0), subst (λ z. Runs c (more (left 0 (t - 1) v (b || not (eqb p 0)))) (map param ps) (more (left 0 (t - suc (length ps)) v z))) (or_assoc b (not (eqb p 0)) (names_column ps)) j)

pub values_run : (c t : ℕ) (b : Bool) (vs : List Value) → length vs ≤ t →
    AllByRecursion GoodValue vs →
    Runs c (more (left 0 0 t b)) (map value vs) (more (left 0 0 (t - length vs) b))
values_run c t b [] h g = let e : t - 0 ≡ t = omega arith in rw e refl
values_run c t b (v ∷ vs) h g =
    let e : t - 1 - length vs ≡ t - suc (length vs) = omega arith in
    let i = values_run c (t - 1) b vs (omega arith) g.1 in
    ((refl, refl, omega arith, g.0), subst (λ z. Runs c (more (left 0 0 (t - 1) b)) (map value vs) (more (left 0 0 z b))) e i)

pub outcomes_run : (c : ℕ) (b : Bool) (os : List Outcome) → AllByRecursion (GoodOutcome c) os →
    AllByRecursion (Suits b) os →
    Runs c (more (left 0 0 0 b)) (flat_map heads os) (more (left 0 0 0 b))
outcomes_run c b [] g u = refl
outcomes_run c b (row vs ∷ os) g u =
    let many = g.0.0 in
    let e : c - length vs ≡ 0 = omega arith in
    let v = subst (λ z. Runs c (more (left 0 0 c b)) (map value vs) (more (left 0 0 z b))) e (values_run c c b vs (omega arith) g.0.1) in
    ((refl, refl, refl, (tt, tt)), runs_append c (more (left 0 0 c b)) (more (left 0 0 0 b)) (more (left 0 0 0 b)) (map value vs) (flat_map heads os) v (outcomes_run c b os g.1 u.1))
outcomes_run c b (done ∷ os) g u = ((refl, refl, refl, (u.0, tt)), outcomes_run c b os g.1 u.1)
outcomes_run c b (failed code ∷ os) g u =
    ((refl, refl, refl, (u.0, g.0)), outcomes_run c b os g.1 u.1)

pub tail_runs : (c : ℕ) (ns : List (List ℕ)) (ps : List ℕ) (os : List Outcome) →
    AllByRecursion GoodName ns → AllByRecursion (GoodParam c) ps →
    AllByRecursion (GoodOutcome c) os → AllByRecursion (Suits (names_column ps)) os →
    Runs c (more (left (length ns) (length ps) 0 false)) (tail_lines ns ps [] os) nothing
tail_runs c ns ps os f g h u =
    let b = names_column ps in
    let en : length ns - length ns ≡ 0 = omega arith in
    let ep : length ps - length ps ≡ 0 = omega arith in
    let rn = subst (λ z. Runs c (more (left (length ns) (length ps) 0 false)) (map name ns) (more (left z (length ps) 0 false))) en (names_run c (length ns) (length ps) 0 false ns (omega arith) f) in
    let rp = subst (λ z. Runs c (more (left 0 (length ps) 0 false)) (map param ps) (more (left 0 z 0 b))) ep (params_run c (length ps) 0 false ps (omega arith) g) in
    let ro = outcomes_run c b os h u in
    let re : Runs c (more (left 0 0 0 b)) (head End ∷ []) nothing = ((refl, refl, refl, (tt, tt)), refl) in
    let body = runs_append c (more (left 0 0 0 b)) (more (left 0 0 0 b)) nothing (flat_map heads os) (head End ∷ []) ro re in
    let below = runs_append c (more (left 0 (length ps) 0 false)) (more (left 0 0 0 b)) nothing (map param ps) (flat_map heads os ++ (head End ∷ [])) rp body in
    runs_append c (more (left (length ns) (length ps) 0 false)) (more (left 0 (length ps) 0 false)) nothing (map name ns) (map param ps ++ (flat_map heads os ++ (head End ∷ []))) rn below

-- Every run is the front of the lines of some content.
pub record Content (c : ℕ) (l : Left) (xs : List Line) (q : Want) : Type 0 where
  pub ns : List (List ℕ)
  pub ps : List ℕ
  pub vs : List Value
  pub os : List Outcome
  pub rest : List Line
  pub many_ns : length ns ≡ l.names
  pub many_ps : length ps ≡ l.params
  pub many_vs : length vs ≡ l.values
  pub good_ns : AllByRecursion GoodName ns
  pub good_ps : AllByRecursion (GoodParam c) ps
  pub good_vs : AllByRecursion GoodValue vs
  pub good_os : AllByRecursion (GoodOutcome c) os
  pub suit_os : AllByRecursion (Suits (l.table || names_column ps)) os
  pub is : tail_lines ns ps vs os ≡ xs ++ rest

all_copies : {A : Type 0} (P : A → Type 0) (x : A) (n : ℕ) → P x → AllByRecursion P (replicate n x)
all_copies P x zero h = tt
all_copies P x (suc n) h = (h, all_copies P x n h)

plain : (k : ℕ) → k < 1 → (33 ≤ get_or (33 ∷ []) k 0) × (get_or (33 ∷ []) k 0 ≤ 126)
plain zero h = (omega arith, omega arith)
plain (suc k) h = absurd (omega arith)

-- With no parameter left the table is as it is.
suits_none : (b : Bool) (ps : List ℕ) (os : List Outcome) → ps ≡ [] →
    AllByRecursion (Suits (b || names_column ps)) os → AllByRecursion (Suits (b || false)) os
suits_none b ps os e h = subst (λ z. AllByRecursion (Suits (b || names_column z)) os) e h

pub content : (c : ℕ) (l : Left) (xs : List Line) (q : Want) → Runs c (more l) xs q →
    Content c l xs q
content c l [] q r =
    record {
      ns = replicate l.names (33 ∷ []);
      ps = replicate l.params 0;
      vs = replicate l.values null;
      os = [];
      rest = tail_lines (replicate l.names (33 ∷ [])) (replicate l.params 0) (replicate l.values null) [];
      many_ns = length-replicate l.names (33 ∷ []);
      many_ps = length-replicate l.params 0;
      many_vs = length-replicate l.values null;
      good_ns = all_copies GoodName (33 ∷ []) l.names (omega arith, omega arith, plain);
      good_ps = all_copies (GoodParam c) 0 l.params (omega arith);
      good_vs = all_copies GoodValue null l.values tt;
      good_os = tt;
      suit_os = tt;
      is = refl;
    }
content c l (name b ∷ xs) q r =
    let k = content c (left (l.names - 1) l.params l.values l.table) xs q r.1 in
    let f = r.0.0 in
    let m = k.many_ns in
    record {
      ns = b ∷ k.ns;
      ps = k.ps;
      vs = k.vs;
      os = k.os;
      rest = k.rest;
      many_ns = omega arith;
      many_ps = k.many_ps;
      many_vs = k.many_vs;
      good_ns = (r.0.1, k.good_ns);
      good_ps = k.good_ps;
      good_vs = k.good_vs;
      good_os = k.good_os;
      suit_os = k.suit_os;
      is = ap (λ l. name b ∷ l) k.is;
    }
content c l (param p ∷ xs) q r =
    let k = content c (left l.names (l.params - 1) l.values (l.table || not (eqb p 0))) xs q r.1 in
    let f = r.0.0 in
    let g = r.0.1 in
    let m = k.many_ns in
    let n = k.many_ps in
    let z = nil_from_length k.ns (omega arith) in
    let i : tail_lines [] k.ps k.vs k.os ≡ xs ++ k.rest = rw z at k.is in
    record {
      ns = [];
      ps = p ∷ k.ps;
      vs = k.vs;
      os = k.os;
      rest = k.rest;
      many_ns = omega arith;
      many_ps = omega arith;
      many_vs = k.many_vs;
      good_ns = tt;
      good_ps = (r.0.2, k.good_ps);
      good_vs = k.good_vs;
      good_os = k.good_os;
      suit_os = subst (λ z. AllByRecursion (Suits z) k.os) (or_assoc l.table (not (eqb p 0)) (names_column k.ps)) k.suit_os;
      is = ap (λ l. param p ∷ l) i;
    }
content c l (value v ∷ xs) q r =
    let k = content c (left l.names l.params (l.values - 1) l.table) xs q r.1 in
    let f = r.0.0 in
    let g = r.0.1 in
    let h = r.0.2 in
    let m = k.many_ns in
    let n = k.many_ps in
    let o = k.many_vs in
    let zn = nil_from_length k.ns (omega arith) in
    let zp = nil_from_length k.ps (omega arith) in
    let i : tail_lines [] [] k.vs k.os ≡ xs ++ k.rest = rw (zn, zp) at k.is in
    record {
      ns = [];
      ps = [];
      vs = v ∷ k.vs;
      os = k.os;
      rest = k.rest;
      many_ns = omega arith;
      many_ps = omega arith;
      many_vs = omega arith;
      good_ns = tt;
      good_ps = tt;
      good_vs = (r.0.3, k.good_vs);
      good_os = k.good_os;
      suit_os = suits_none l.table k.ps k.os zp k.suit_os;
      is = ap (λ l. value v ∷ l) i;
    }
content c l (head Row ∷ xs) q r =
    let k = content c (left 0 0 c l.table) xs q r.1 in
    let zp = nil_from_length k.ps k.many_ps in
    let i : tail_lines [] [] k.vs k.os ≡ xs ++ k.rest = rw (nil_from_length k.ns k.many_ns, zp) at k.is in
    let a = append_assoc (map value k.vs) (flat_map heads k.os) (head End ∷ []) in
    record {
      ns = [];
      ps = [];
      vs = [];
      os = row k.vs ∷ k.os;
      rest = k.rest;
      many_ns = sym r.0.0;
      many_ps = sym r.0.1;
      many_vs = sym r.0.2;
      good_ns = tt;
      good_ps = tt;
      good_vs = tt;
      good_os = ((k.many_vs, k.good_vs), k.good_os);
      suit_os = (tt, suits_none l.table k.ps k.os zp k.suit_os);
      is = ap (λ l. head Row ∷ l) (a ∙ i);
    }
content c l (head Done ∷ xs) q r =
    let k = content c (left 0 0 0 l.table) xs q r.1 in
    let zp = nil_from_length k.ps k.many_ps in
    let i : tail_lines [] [] [] k.os ≡ xs ++ k.rest = rw (nil_from_length k.ns k.many_ns, zp, nil_from_length k.vs k.many_vs) at k.is in
    record {
      ns = [];
      ps = [];
      vs = [];
      os = done ∷ k.os;
      rest = k.rest;
      many_ns = sym r.0.0;
      many_ps = sym r.0.1;
      many_vs = sym r.0.2;
      good_ns = tt;
      good_ps = tt;
      good_vs = tt;
      good_os = (tt, k.good_os);
      suit_os = (or-false l.table ∙ r.0.3.0, suits_none l.table k.ps k.os zp k.suit_os);
      is = ap (λ l. head Done ∷ l) i;
    }
content c l (head (Failed code) ∷ xs) q r =
    let k = content c (left 0 0 0 l.table) xs q r.1 in
    let zp = nil_from_length k.ps k.many_ps in
    let i : tail_lines [] [] [] k.os ≡ xs ++ k.rest = rw (nil_from_length k.ns k.many_ns, zp, nil_from_length k.vs k.many_vs) at k.is in
    record {
      ns = [];
      ps = [];
      vs = [];
      os = failed code ∷ k.os;
      rest = k.rest;
      many_ns = sym r.0.0;
      many_ps = sym r.0.1;
      many_vs = sym r.0.2;
      good_ns = tt;
      good_ps = tt;
      good_vs = tt;
      good_os = (r.0.3.1, k.good_os);
      suit_os = (or-false l.table ∙ r.0.3.0, suits_none l.table k.ps k.os zp k.suit_os);
      is = ap (λ l. head (Failed code) ∷ l) i;
    }
content c l (head End ∷ []) q r =
    record {
      ns = [];
      ps = [];
      vs = [];
      os = [];
      rest = [];
      many_ns = sym r.0.0;
      many_ps = sym r.0.1;
      many_vs = sym r.0.2;
      good_ns = tt;
      good_ps = tt;
      good_vs = tt;
      good_os = tt;
      suit_os = tt;
      is = refl;
    }
content c l (head End ∷ (x ∷ xs)) q r = absurd r.1
