-- The rendering of a sheet by its lines, and what a line that cannot come says of the whole.
use Rattle.std.proofs.Common.{◌≡◌, ℕ, suc, ◌+◌, ◌-◌, ◌^◌, ◌<◌, ◌≤◌, false, List, [], ◌∷◌, ◌++◌, map, length, take, sym, refl, ap, ◌∙◌, subst, ⊎_elim, append_assoc, arith, length-append}
use Rattle.std.specs.List.{flat_map, AllByRecursion}
use Rattle.std.proofs.lemmas.List.{map-append, take-map, take_at, take_all, length-take-le, nil_from_length}
use Rattle.std.proofs.lemmas.Simd.{map-map}
use Rattle.std.proofs.lemmas.List.Folds.{flat_map-map}
use Rattle.std.proofs.lemmas.Bool.{cases_lt}
use Rattle.host.specs.Outcome.{Outcome, row, done, failed}
use Rattle.sheet.proofs.Decoded.{heading_at_lem}
use Rattle.sheet.specs.Decode.{figure_at, first_at}
use Rattle.sheet.proofs.Runs.{Free, free_by, Line, name, param, value, head, written, Left, left, Want, more, nothing, Fits, Runs, runs_take, follow, heads, tail_lines, tail_runs, content}
use Rattle.sheet.specs.Sheet.{Sheet, heading_of, rendered_heading, outcome_lines, body_lines, render, together, GoodHeading, GoodParam, GoodOutcome, WellFormed, RefusedAt}
use Rattle.figures.specs.Reading.{Lacks}
use Rattle.sheet.specs.declared.lines.Heading.{Heading}
use Rattle.sheet.specs.declared.lines.Head.TheVariants.{End}

written_outcome : (o : Outcome) → outcome_lines o ≡ map written (heads o)
written_outcome (row vs) = ap (λ l. (82 ∷ (10 ∷ [])) ∷ l) (sym (map-map written value vs))
written_outcome done = refl
written_outcome (failed code) = refl

pub written_outcomes : (os : List Outcome) →
    flat_map outcome_lines os ≡ map written (flat_map heads os)
written_outcomes [] = refl
written_outcomes (o ∷ os) =
    let a = written_outcome o in
    let b = written_outcomes os in
    let m = map-append written (heads o) (flat_map heads os) in
    cc

written_body : (os : List Outcome) → body_lines os ≡ map written (tail_lines [] [] [] os)
written_body os =
    let a = written_outcomes os in
    let m = map-append written (flat_map heads os) (head End ∷ []) in
    cc

written_sheet : (s : Sheet) →
    render s ≡ rendered_heading (heading_of s) ∷ map written
    (tail_lines s.names s.params [] s.outcomes)
unfolding render
written_sheet s =
    let a = map-map written name s.names in
    let b = written_body s.outcomes in
    let d = map-map written param s.params in
    let m = map-append written (map name s.names) (map param s.params ++ tail_lines [] [] [] s.outcomes) in
    let n = map-append written (map param s.params) (tail_lines [] [] [] s.outcomes) in
    ap (λ l. rendered_heading (heading_of s) ∷ l) (cc)

abbrev pub heading : ℕ → ℕ → ℕ → Heading
heading c p m = record { columns = c; parameters = p; copy_limit = m }

pub heading_same : (a b c d e f : ℕ) → a ≡ d → b ≡ e → c ≡ f → heading a b c ≡ heading d e f
heading_same a b c d e f x y z = cc

heading_free : Free rendered_heading GoodHeading
heading_free = free_by rendered_heading GoodHeading (λ l. first_at (figure_at 0 l)) heading_at_lem

-- The first lines of a sheet.
front_lines : (s : Sheet) (n : ℕ) →
    together (take (suc n) (render s)) ≡ rendered_heading (heading_of s) ++ flat_map written
    (take n (tail_lines s.names s.params [] s.outcomes))
front_lines s n =
    let t = tail_lines s.names s.params [] s.outcomes in
    let a = ap (λ l. together (take (suc n) l)) (written_sheet s) in
    let b = ap together (take-map written n t) in
    let m = flat_map-map (λ l. l) written (take n t) in
    a ∙ ap (λ l. rendered_heading (heading_of s) ++ l) (b ∙ m)

-- Refused: the lines so far are the front of some sheet, and no next line is.
empty_sheet : Sheet
empty_sheet = record { names = []; params = []; copy_limit = 0; outcomes = [] }

pub refused_first : (s : List ℕ) → Lacks rendered_heading GoodHeading s → RefusedAt s 1
unfolding empty_sheet
refused_first s no-heading =
    record {
      some = omega arith;
      before = record { sheet = empty_sheet; good = record { heading = (omega arith, omega arith, omega arith); names = tt; params = tt; outcomes = tt; rows = tt }; rest = s; begins = refl };
      bad = λ b.
          let x = b.sheet in
          let f = front_lines x 0 in
          let a = append_assoc (rendered_heading (heading_of x)) [] b.rest in
          no-heading (heading_of x) b.rest b.good.heading (b.begins ∙ (ap (λ l. l ++ b.rest) f ∙ a));
    }

no_step : (c : ℕ) (l : Left) (rest : List Line) (q : Want) (r t : List ℕ) →
    Lacks written (Fits c l) r → Runs c (more l) rest q → 0 < length rest →
    r ≡ flat_map written rest ++ t → ⊥
no_step c l [] q r t lacks runs some e = omega arith
no_step c l (x ∷ xs) q r t lacks runs some e =
    lacks x (flat_map written xs ++ t) runs.0 (e ∙ append_assoc (written x) (flat_map written xs) t)

no_more : (c : ℕ) (l : Left) (rest : List Line) → Runs c nothing rest (more l) → ⊥
no_more c l [] e = let z : ◌≡◌ {A = ℕ} 0 1 = cc in omega arith
no_more c l (x ∷ xs) e = e

abbrev pub begin : Heading → Left
begin h = left h.columns h.parameters 0 false

-- A sheet with these lines in front.
record Fronted (h : Heading) (xs : List Line) : Type 0 where
  sheet : Sheet
  good : WellFormed sheet
  is : heading_of sheet ≡ h
  rest : List Line
  lines : tail_lines sheet.names sheet.params [] sheet.outcomes ≡ xs ++ rest

fronted : (h : Heading) (xs : List Line) (l : Left) → GoodHeading h →
    Runs h.columns (more (begin h)) xs (more l) → Fronted h xs
fronted h xs l good runs =
    let k = content h.columns (begin h) xs (more l) runs in
    let many = k.many_ns in
    let manyp = k.many_ps in
    let z : k.vs ≡ [] = nil_from_length k.vs k.many_vs in
    let is : tail_lines k.ns k.ps [] k.os ≡ xs ++ k.rest = rw z at k.is in
    let g0 = good.0 in
    let g1 = good.1 in
    let hd = heading_same (length k.ns) (length k.ps) h.copy_limit h.columns h.parameters h.copy_limit many manyp refl in
    record {
      sheet = record { names = k.ns; params = k.ps; copy_limit = h.copy_limit; outcomes = k.os };
      good = record {
        heading = (omega arith, omega arith, good.2);
        names = k.good_ns;
        params = subst (λ i. AllByRecursion (GoodParam i) k.ps) (sym many) k.good_ps;
        outcomes = subst (λ i. AllByRecursion (GoodOutcome i) k.os) (sym many) k.good_os;
        rows = k.suit_os;
      };
      is = hd;
      rest = k.rest;
      lines = is;
    }

sheet_runs : (s : Sheet) → WellFormed s →
    Runs (length s.names) (more (begin (heading_of s))) (tail_lines s.names s.params [] s.outcomes)
    nothing
sheet_runs s g =
    tail_runs (length s.names) s.names s.params s.outcomes g.names g.params g.outcomes g.rows

pub refused : (h : Heading) (s r : List ℕ) (xs : List Line) (l : Left) → GoodHeading h →
    Runs h.columns (more (begin h)) xs (more l) →
    s ≡ rendered_heading h ++ (flat_map written xs ++ r) → Lacks written (Fits h.columns l) r →
    RefusedAt s (length xs + 2)
refused h s r xs l good runs e lacks =
    let k = fronted h xs l good runs in
    let n = length xs in
    let c = h.columns in
    let small = good.0 in
    let wide : c < 2 ^ 64 = omega arith in
    let up : n + 2 - 1 ≡ suc n = omega arith in
    let f = front_lines k.sheet n in
    let t : take n (tail_lines k.sheet.names k.sheet.params [] k.sheet.outcomes) ≡ xs = ap (take n) k.lines ∙ take_at xs k.rest n refl in
    let a = append_assoc (rendered_heading h) (flat_map written xs) r in
    let b : s ≡ together (take (suc n) (render k.sheet)) ++ r = e ∙ (sym a ∙ ap (λ l. l ++ r) (ap (λ z. rendered_heading z ++ flat_map written xs) (sym k.is) ∙ (ap (λ l. rendered_heading (heading_of k.sheet) ++ flat_map written l) (sym t) ∙ sym f))) in
    record {
      some = omega arith;
      before = rw up (record { sheet = k.sheet; good = k.good; rest = r; begins = b });
      bad = λ w.
          let x = w.sheet in
          let t = tail_lines x.names x.params [] x.outcomes in
          let p : length xs + 2 ≡ suc (suc n) = omega arith in
          let y : s ≡ together (take (suc (suc n)) (render x)) ++ w.rest = rw p at w.begins in
          let fx = front_lines x (suc n) in
          let ax = append_assoc (rendered_heading (heading_of x)) (flat_map written (take (suc n) t)) w.rest in
          let hf = heading_free h (heading_of x) (flat_map written xs ++ r) (flat_map written (take (suc n) t) ++ w.rest) good w.good.heading (sym e ∙ (y ∙ (ap (λ l. l ++ w.rest) fx ∙ ax))) in
          let full : Runs c (more (begin h)) t nothing = subst (λ (i : Heading). Runs i.columns (more (begin i)) t nothing) (sym hf.0) (sheet_runs x w.good) in
          ⊎_elim
          (λ (longer : n < length t).
          let part = runs_take c (more (begin h)) nothing t (suc n) full in
          let lt = length-take-le (suc n) t (omega arith) in
          let fo = follow c (more (begin h)) (more l) part.0 xs (take (suc n) t) r w.rest wide runs part.1 (omega arith) hf.1 in
          let li = ap length fo.is ∙ length-append xs fo.rest in
          no_step c l fo.rest part.0 r w.rest lacks fo.runs (omega arith) fo.begins)
          (λ (shorter : length t ≤ n).
          let all = take_all (suc n) t (omega arith) in
          let e2 : flat_map written t ++ w.rest ≡ flat_map written xs ++ r = ap (λ z. flat_map written z ++ w.rest) (sym all) ∙ sym hf.1 in
          let fo = follow c (more (begin h)) nothing (more l) t xs w.rest r wide full runs shorter e2 in
          no_more c l fo.rest fo.runs)
          (cases_lt n (length t));
    }
