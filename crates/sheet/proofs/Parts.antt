-- From the figures and pieces of a line to the line.
use Rattle.std.proofs.Common.{◌≡◌, ℕ, ◌<◌, List, [], ◌∷◌, ◌++◌, length, get_or, drop, decimal, sym, ap, ◌∙◌, append_assoc, arith}
use Rattle.std.specs.Int.{IsInRange}
use Rattle.figures.specs.Figures.{Figured, NoFigure, Pieced}
use Rattle.figures.specs.Reading.{Lacks}
use Rattle.figures.proofs.Steps.{figure_free, piece_free}
use Rattle.sheet.specs.Sheet.{rendered_heading, rendered_name, GoodHeading, GoodName, GoodCode}
use Rattle.sheet.specs.Lines.{NoCode}
use Rattle.sheet.specs.declared.lines.Heading.{Heading}

pub flat_stop : (ds r : List ℕ) → (ds ++ (10 ∷ [])) ++ r ≡ ds ++ (10 ∷ r)
flat_stop ds r = simp append_assoc

pub flat_piece : (ds bs r : List ℕ) → (ds ++ (32 ∷ (bs ++ (10 ∷ [])))) ++ r ≡ ds ++ (32 ∷ (bs ++ (10 ∷ r)))
flat_piece ds bs r = simp append_assoc

flat_three : (a b d r : List ℕ) → (a ++ (32 ∷ (b ++ (32 ∷ (d ++ (10 ∷ [])))))) ++ r ≡ a ++ (32 ∷ (b ++ (32 ∷ (d ++ (10 ∷ r)))))
flat_three a b d r = simp append_assoc

pub flat_heading : (h : Heading) (r : List ℕ) → rendered_heading h ++ r ≡ decimal h.columns ++ (32 ∷ (decimal h.parameters ++ (32 ∷ (decimal h.copy_limit ++ (10 ∷ r)))))
flat_heading h r = flat_three (decimal h.columns) (decimal h.parameters) (decimal h.copy_limit) r

-- The heading.
first_same : (s t : List ℕ) (n : ℕ) (h : Heading) (rest : List ℕ) → Figured 32 16 s n t → GoodHeading h → s ≡ rendered_heading h ++ rest → t ≡ decimal h.parameters ++ (32 ∷ (decimal h.copy_limit ++ (10 ∷ rest)))
first_same s t n h rest f g e =
    let b = g.0 in
    let small = f.small in
    (figure_free n h.columns 32 32 t (decimal h.parameters ++ (32 ∷ (decimal h.copy_limit ++ (10 ∷ rest)))) (omega arith) (omega arith) (omega arith) (omega arith) (sym f.begins ∙ (e ∙ flat_heading h rest))).rests

pub heading_second : (s t : List ℕ) (n : ℕ) → Figured 32 16 s n t → NoFigure 32 32 t → Lacks rendered_heading GoodHeading s
heading_second s t n f lacks = λ h rest g e. lacks h.parameters (decimal h.copy_limit ++ (10 ∷ rest)) g.1 (first_same s t n h rest f g e)

pub heading_third : (s t u : List ℕ) (n m : ℕ) → Figured 32 16 s n t → Figured 32 32 t m u → NoFigure 10 256 u → Lacks rendered_heading GoodHeading s
heading_third s t u n m f k lacks = λ h rest g e.
    let b = g.1 in
    let small = k.small in
    let same = figure_free m h.parameters 32 32 u (decimal h.copy_limit ++ (10 ∷ rest)) (omega arith) (omega arith) (omega arith) (omega arith) (sym k.begins ∙ first_same s t n h rest f g e) in
    lacks h.copy_limit rest g.2 same.rests

-- A name.
pub name_other : (s t bs r : List ℕ) → s ≡ 67 ∷ (32 ∷ t) → Pieced 1 32 t bs r → (((k : ℕ) → k < length bs → IsInRange 33 126 (get_or bs k 0)) → ⊥) → Lacks rendered_name GoodName s
name_other s t bs r o p no_graphic = λ b rest g e.
    let h = g.1 in
    let high = p.high in
    let is = (piece_free bs b r rest (omega arith) (omega arith) (sym p.begins ∙ (ap (drop 2) (sym o ∙ e) ∙ flat_piece (decimal (length b)) b rest))).0 in
    no_graphic (rw is g.2)

-- A code of a failure.
pub code_other : (s r : List ℕ) (code : ℕ) → Figured 10 65535 s code r → (GoodCode code → ⊥) → NoCode s
code_other s r code p bad = λ other rest g e.
    let h = g.1 in
    let small = p.small in
    let same = figure_free code other 10 10 r rest (omega arith) (omega arith) (omega arith) (omega arith) (sym p.begins ∙ e) in
    bad (rw same.figures g)
