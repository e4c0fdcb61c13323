-- The decoder gives back the sheet that bytes hold, so that they hold one at most.
use Rattle.std.proofs.Common.{◌≡◌, ℕ, zero, suc, ◌+◌, ◌-◌, ◌*◌, ◌^◌, ◌<◌, true, false, eqb, leb, List, [], ◌∷◌, ◌++◌, map, length, drop, ℤ, pos, negsuc, neg_ℤ, decimal, sym, refl, ap, ◌∙◌, subst, append_assoc, arith, length-append}
use lib.Signed.{mag}
use Rattle.std.specs.Fmt.{signed_decimal}
use Rattle.std.specs.List.{flat_map, AllByRecursion}
use Rattle.std.proofs.lemmas.Bool.{le-leb, lt-leb, ne_eqb}
use Rattle.std.proofs.lemmas.Fmt.{digits_decimal, digits_value-decimal, decimal_nonempty}
use Rattle.std.proofs.lemmas.List.{take_at, drop_at}
use Rattle.std.proofs.lemmas.List.Folds.{flat_map-map}
use Rattle.values.specs.Value.{Value, null, long, double, text, blob}
use Rattle.host.specs.Outcome.{Outcome, row, done, failed}
use Rattle.figures.specs.Figures.{piece_line, read_on}
use Rattle.figures.proofs.Steps.{AllDigits, own}
use Rattle.sheet.proofs.Parts.{flat_stop, flat_piece, flat_heading}
use Rattle.sheet.proofs.Moves.{together_append}
use Rattle.sheet.specs.Sheet.{Sheet, heading_of, rendered_heading, rendered_name, rendered_param, rendered_value, outcome_lines, body_lines, render, together, GoodHeading, GoodName, GoodParam, GoodValue, GoodOutcome, Holds}
use Rattle.sheet.specs.declared.lines.Heading.{Heading}
use Rattle.sheet.specs.Decode.{figure_at, number_at, cut, piece_at, front_value, values_at, names_at, params_at, outcomes_at, first_at, second_at, third_at, below_params, below_names, below_heading, sheet_at}

digits_at : (ds r : List ℕ) (n stop : ℕ) → AllDigits ds → stop < 48 →
    figure_at n (ds ++ (stop ∷ r)) ≡ (read_on n ds, r)
digits_at [] r n stop d low = let e : leb 48 stop ≡ false = lt-leb 48 stop low in rw e refl
digits_at (c ∷ ds) r n stop d low =
    let h = d 0 (omega arith) in
    let e : leb 48 c ≡ true = le-leb 48 c h.0 in
    let i = digits_at ds r (10 * n + (c - 48)) stop (λ k l. d (suc k) (omega arith)) low in
    rw e i

figure_at_lem : (n stop : ℕ) (r : List ℕ) → n < 2 ^ 64 → stop < 48 →
    figure_at 0 (decimal n ++ (stop ∷ r)) ≡ (n, r)
figure_at_lem n stop r h low =
    digits_at (decimal n) r 0 stop (digits_decimal own n h) low ∙ ap (λ m. (m, r)) (digits_value-decimal own n h)

pub line_at : (n : ℕ) (r : List ℕ) → n < 2 ^ 64 →
    figure_at 0 ((decimal n ++ (10 ∷ [])) ++ r) ≡ (n, r)
line_at n r h = ap (figure_at 0) (flat_stop (decimal n) r) ∙ figure_at_lem n 10 r h (omega arith)

plus_at : (ds r : List ℕ) → AllDigits ds → 0 < length ds →
    number_at (ds ++ (10 ∷ r)) ≡
    (pos (figure_at 0 (ds ++ (10 ∷ r))).0, (figure_at 0 (ds ++ (10 ∷ r))).1)
plus_at [] r d some = absurd (omega arith)
plus_at (c ∷ ds) r d some =
    let h = d 0 (omega arith) in
    let e : eqb c 45 ≡ false = ne_eqb c 45 (λ p. omega (arith, h.0)) in
    rw e refl

number_at_lem : (z : ℤ) (r : List ℕ) → mag z < 2 ^ 63 →
    number_at (signed_decimal z ++ (10 ∷ r)) ≡ (z, r)
number_at_lem (pos n) r h =
    let b : n < 2 ^ 64 = omega arith in
    plus_at (decimal n) r (digits_decimal own n b) (decimal_nonempty n b) ∙ ap (λ p. (pos p.0, p.1)) (figure_at_lem n 10 r b (omega arith))
number_at_lem (negsuc n) r h =
    ap (λ p. (neg_ℤ (pos p.0), p.1)) (figure_at_lem (suc n) 10 r (omega arith) (omega arith))

piece_at_lem : (b r : List ℕ) → length b < 2 ^ 64 → piece_at (piece_line b ++ r) ≡ (b, r)
piece_at_lem b r h =
    let f = ap (figure_at 0) (flat_piece (decimal (length b)) b r) ∙ figure_at_lem (length b) 32 (b ++ (10 ∷ r)) h (omega arith) in
    let t = take_at b (10 ∷ r) (length b) refl in
    let a = append_assoc b (10 ∷ []) r in
    let l = length-append b (10 ∷ []) in
    let d : drop (length b + 1) (b ++ (10 ∷ r)) ≡ r = ap (drop (length b + 1)) (sym a) ∙ drop_at (b ++ (10 ∷ [])) r (length b + 1) l in
    ap cut f ∙ cc

pub value_at_lem : (v : Value) (r : List ℕ) → GoodValue v →
    front_value (rendered_value v ++ r) ≡ (v, r)
value_at_lem null r g = refl
value_at_lem (long z) r g =
    ap (λ p. (long p.0, p.1)) (ap number_at (flat_stop (signed_decimal z) r) ∙ number_at_lem z r g)
value_at_lem (double n) r g = ap (λ p. (double p.0, p.1)) (line_at n r g.0)
value_at_lem (text b) r g = ap (λ p. (text p.0, p.1)) (piece_at_lem b r (omega arith))
value_at_lem (blob b) r g = ap (λ p. (blob p.0, p.1)) (piece_at_lem b r (omega arith))

pub values_at_lem : (vs : List Value) (r : List ℕ) → AllByRecursion GoodValue vs →
    values_at (length vs) (flat_map rendered_value vs ++ r) ≡ (vs, r)
unfolding values_at
values_at_lem [] r g = refl
values_at_lem (v ∷ vs) r g =
    let a = append_assoc (rendered_value v) (flat_map rendered_value vs) r in
    let h = ap front_value a ∙ value_at_lem v (flat_map rendered_value vs ++ r) g.0 in
    let i = values_at_lem vs r g.1 in
    ap (λ p. (p.0 ∷ (values_at (length vs) p.1).0, (values_at (length vs) p.1).1)) h ∙ ap (λ p. (v ∷ p.0, p.1)) i

pub name_at_lem : (n r : List ℕ) → GoodName n → piece_at (drop 2 (rendered_name n ++ r)) ≡ (n, r)
name_at_lem n r g = let h = g.1 in piece_at_lem n r (omega arith)

names_from : (ns : List (List ℕ)) (r : List ℕ) → AllByRecursion GoodName ns →
    names_at (length ns) (flat_map rendered_name ns ++ r) ≡ (ns, r)
unfolding names_at
names_from [] r g = refl
names_from (n ∷ ns) r g =
    let a = append_assoc (rendered_name n) (flat_map rendered_name ns) r in
    let h = ap (λ l. piece_at (drop 2 l)) a ∙ name_at_lem n (flat_map rendered_name ns ++ r) g.0 in
    let i = names_from ns r g.1 in
    ap (λ p. (p.0 ∷ (names_at (length ns) p.1).0, (names_at (length ns) p.1).1)) h ∙ ap (λ p. (n ∷ p.0, p.1)) i

pub param_at_lem : (c p : ℕ) (r : List ℕ) → c < 2 ^ 64 → GoodParam c p →
    figure_at 0 (drop 2 (rendered_param p ++ r)) ≡ (p, r)
param_at_lem c p r w g = line_at p r (omega arith)

params_at_lem : (c : ℕ) (ps : List ℕ) (r : List ℕ) → c < 2 ^ 64 → AllByRecursion (GoodParam c) ps →
    params_at (length ps) (flat_map rendered_param ps ++ r) ≡ (ps, r)
unfolding params_at
params_at_lem c [] r w g = refl
params_at_lem c (p ∷ ps) r w g =
    let a = append_assoc (rendered_param p) (flat_map rendered_param ps) r in
    let h = ap (λ l. figure_at 0 (drop 2 l)) a ∙ param_at_lem c p (flat_map rendered_param ps ++ r) w g.0 in
    let i = params_at_lem c ps r w g.1 in
    ap (λ q. (q.0 ∷ (params_at (length ps) q.1).0, (params_at (length ps) q.1).1)) h ∙ ap (λ q. (p ∷ q.0, q.1)) i

pub heading_at_lem : (h : Heading) (r : List ℕ) → GoodHeading h →
    first_at (figure_at 0 (rendered_heading h ++ r)) ≡ (h, r)
heading_at_lem h r g =
    let g0 = g.0 in
    let g1 = g.1 in
    let g2 = g.2 in
    let f1 = ap (figure_at 0) (flat_heading h r) ∙ figure_at_lem h.columns 32 (decimal h.parameters ++ (32 ∷ (decimal h.copy_limit ++ (10 ∷ r)))) (omega arith) (omega arith) in
    let f2 = figure_at_lem h.parameters 32 (decimal h.copy_limit ++ (10 ∷ r)) (omega arith) (omega arith) in
    let f3 = figure_at_lem h.copy_limit 10 r (omega arith) (omega arith) in
    ap first_at f1 ∙ (ap (second_at h.columns) f2 ∙ ap (third_at h.columns h.parameters) f3)

pub row_bytes : (vs : List Value) (os : List Outcome) →
    together (map rendered_value vs ++ flat_map outcome_lines os ++ ((69 ∷ (10 ∷ [])) ∷ [])) ≡
    flat_map rendered_value vs ++ together (body_lines os)
row_bytes vs os =
    let a = ap together (append_assoc (map rendered_value vs) (flat_map outcome_lines os) ((69 ∷ (10 ∷ [])) ∷ [])) in
    let b = together_append (map rendered_value vs) (body_lines os) in
    let d = flat_map-map (λ l. l) rendered_value vs in
    a ∙ (b ∙ ap (λ l. l ++ together (body_lines os)) d)

outcomes_from : (f c : ℕ) (os : List Outcome) (r : List ℕ) → AllByRecursion (GoodOutcome c) os →
    length os < f → outcomes_at f c (together (body_lines os) ++ r) ≡ os
unfolding outcomes_at
outcomes_from zero c os r g h = absurd (omega arith)
outcomes_from (suc f) c [] r g h = refl
outcomes_from (suc f) c (row vs ∷ os) r g h =
    let body = together (body_lines os) in
    let b = append_assoc (flat_map rendered_value vs) body r in
    let e = ap (values_at c) (ap (λ l. l ++ r) (row_bytes vs os) ∙ b) ∙ subst (λ n. values_at n (flat_map rendered_value vs ++ (body ++ r)) ≡ (vs, body ++ r)) g.0.0 (values_at_lem vs (body ++ r) g.0.1) in
    ap (λ p. row p.0 ∷ outcomes_at f c p.1) e ∙ ap (λ l. row vs ∷ l) (outcomes_from f c os r g.1 (omega arith))
outcomes_from (suc f) c (done ∷ os) r g h =
    ap (λ l. done ∷ l) (outcomes_from f c os r g.1 (omega arith))
outcomes_from (suc f) c (failed k ∷ os) r g h =
    let b = g.0.1 in
    let body = together (body_lines os) in
    let a = append_assoc (decimal k ++ (10 ∷ [])) body r in
    let e = ap (figure_at 0) a ∙ line_at k (body ++ r) (omega arith) in
    ap (λ p. failed p.0 ∷ outcomes_at f c p.1) e ∙ ap (λ l. failed k ∷ l) (outcomes_from f c os r g.1 (omega arith))

-- A sheet has more bytes than outcomes.
outcome_long : (o : Outcome) → 0 < length (together (outcome_lines o))
outcome_long (row vs) = omega arith
outcome_long done = omega arith
outcome_long (failed k) = omega arith

pub body_long : (os : List Outcome) → length os < length (together (body_lines os))
body_long [] = omega arith
body_long (o ∷ os) =
    let i = body_long os in
    let a = ap together (append_assoc (outcome_lines o) (flat_map outcome_lines os) ((69 ∷ (10 ∷ [])) ∷ [])) ∙ together_append (outcome_lines o) (body_lines os) in
    let l = ap length a ∙ length-append (together (outcome_lines o)) (together (body_lines os)) in
    let w = outcome_long o in
    omega arith

-- The bytes of a sheet, part by part.
pub render_bytes : (x : Sheet) (r : List ℕ) →
    together (render x) ++ r ≡ rendered_heading (heading_of x) ++
    (flat_map rendered_name x.names ++ (flat_map rendered_param x.params ++ (together (body_lines x.outcomes) ++ r)))
unfolding render
render_bytes x r =
    let ns = x.names in
    let ps = x.params in
    let body = together (body_lines x.outcomes) in
    let h = rendered_heading (heading_of x) in
    let t1 = together_append (map rendered_name ns) (map rendered_param ps ++ body_lines x.outcomes) in
    let t2 = together_append (map rendered_param ps) (body_lines x.outcomes) in
    let tn = flat_map-map (λ l. l) rendered_name ns in
    let tp = flat_map-map (λ l. l) rendered_param ps in
    let a1 = append_assoc h (flat_map rendered_name ns ++ (flat_map rendered_param ps ++ body)) r in
    let a2 = append_assoc (flat_map rendered_name ns) (flat_map rendered_param ps ++ body) r in
    let a3 = append_assoc (flat_map rendered_param ps) body r in
    let all : together (map rendered_name ns ++ (map rendered_param ps ++ body_lines x.outcomes)) ≡ flat_map rendered_name ns ++ (flat_map rendered_param ps ++ body) = cc in
    ap (λ l. (h ++ l) ++ r) all ∙ cc

-- The bytes hold one sheet at most.
pub sheet_at_lem : (s : List ℕ) (x : Sheet) → Holds s x → sheet_at s ≡ x
unfolding sheet_at
sheet_at_lem s x h =
    let ns = x.names in
    let ps = x.params in
    let os = x.outcomes in
    let hd = heading_of x in
    let body = together (body_lines os) in
    let r = h.rest in
    let h0 = h.good.heading.0 in
    let h1 = h.good.heading.1 in
    let h2 = h.good.heading.2 in
    let t3 = body ++ r in
    let t2 = flat_map rendered_param ps ++ t3 in
    let t1 = flat_map rendered_name ns ++ t2 in
    let e : s ≡ rendered_heading hd ++ t1 = h.begins ∙ render_bytes x r in
    let f = length s in
    let first : first_at (figure_at 0 s) ≡ (hd, t1) = ap (λ l. first_at (figure_at 0 l)) e ∙ heading_at_lem hd t1 h.good.heading in
    let names = names_from ns t2 h.good.names in
    let params = params_at_lem (length ns) ps t3 (omega arith) h.good.params in
    let ls = ap length e ∙ length-append (rendered_heading hd) t1 in
    let l1 = length-append (flat_map rendered_name ns) t2 in
    let l2 = length-append (flat_map rendered_param ps) t3 in
    let l3 = length-append body r in
    let lo = body_long os in
    let outcomes = outcomes_from f (length ns) os r h.good.outcomes (omega arith) in
    ap (below_heading f) first ∙ (ap (below_names f hd) names ∙ (ap (below_params f hd ns) params ∙ ap (λ l. record { names = ns; params = ps; copy_limit = x.copy_limit; outcomes = l }) outcomes))
