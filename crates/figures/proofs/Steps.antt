-- A figure in front of bytes against the run of digits there; figures, pieces and signed figures are read in one way.
use Rattle.std.proofs.Common.{◌≡◌, ℕ, suc, ◌+◌, ◌-◌, ◌*◌, ◌^◌, ◌<◌, ◌≤◌, List, [], ◌∷◌, ◌++◌, length, get_or, take, drop, ℤ, pos, negsuc, decimal, sym, refl, ap, ◌∙◌, ⊎_elim, arith, length-append, rules}
use lib.Signed.{mag}
use Rattle.std.specs.Int.{IsInRange}
use Rattle.std.specs.Fmt.{signed_decimal}
use Rattle.std.proofs.lemmas.Str.Parse.{IsNumeralModel, numerals_by_fold, tells_by_index, digits_value_short}
use Rattle.std.proofs.lemmas.Fmt.{decimal_digit, digits_decimal, digits_value-decimal, decimal_nonempty, first_decimal, decimal-digits_value, length-decimal-le}
use Rattle.std.proofs.lemmas.List.{get_or_at, get_or-take, length-take-le, take-append-drop, take_rest, drop_more, take_more, take_at, append_cancel_left, get_or-drop, drop_at, get_or_append_left}
use Rattle.std.proofs.lemmas.Grind.{common_steps}
use Rattle.std.proofs.lemmas.List.Prefix.{front_reads}
use Rattle.std.proofs.lemmas.Bool.{cases_lt}
use Rattle.figures.specs.Figures.{stop_byte, read_on, Run, Figured, NoFigure, NoPiece, NoNumber}
use Rattle.figures.specs.declared.Stop.{Stop}
use Rattle.figures.specs.declared.Stop.TheVariants.{Space, Line}

abbrev pub AllDigits : List ℕ → Type 0
AllDigits ds = (i : ℕ) → i < length ds → IsInRange 48 57 (get_or ds i 0)

pub own : IsNumeralModel AllDigits (read_on 0)
own = numerals_by_fold _ tells_by_index read_on (search rules)

pub read_on_push : (xs : List ℕ) (n c : ℕ) → read_on n (xs ++ (c ∷ [])) ≡ 10 * read_on n xs + (c - 48)
read_on_push [] n c = refl
read_on_push (x ∷ xs) n c = read_on_push xs (10 * n + (x - 48)) c

pub taken_digits : (s : List ℕ) (i : ℕ) → i ≤ length s → ((k : ℕ) → k < i → IsInRange 48 57 (get_or s k 0)) → AllDigits (take i s)
taken_digits s i h d k l =
    let e = length-take-le i s h in
    let f : k < i = omega arith in
    rw get_or-take (d k f)

pub run_below : (s : List ℕ) (n i : ℕ) → i ≤ length s → i ≤ 19 → ((k : ℕ) → k < i → IsInRange 48 57 (get_or s k 0)) → n ≡ read_on 0 (take i s) → n < 10 ^ 19
run_below s n i h j d e =
    let l = length-take-le i s h in
    let v = digits_value_short own (take i s) 19 (taken_digits s i h d) (omega arith) in
    omega arith

pub run_more : (s : List ℕ) (n i : ℕ) → i < length s → n ≡ read_on 0 (take i s) → 10 * n + (get_or s i 0 - 48) ≡ read_on 0 (take (i + 1) s)
run_more s n i h e =
    let t = take_more s i 0 h in
    let p = read_on_push (take i s) 0 (get_or s i 0) in
    let q = ap (read_on 0) t in
    omega arith

-- a run of digits does not pass a byte below them
run_le : (s ds rest : List ℕ) (stop i : ℕ) → stop < 48 → s ≡ ds ++ (stop ∷ rest) → ((k : ℕ) → k < i → IsInRange 48 57 (get_or s k 0)) → i ≤ length ds
run_le s ds rest stop i low e d =
    ⊎_elim
    (λ (h : length ds < i). let a = d (length ds) h in let g = ap (λ l. get_or l (length ds) 0) e ∙ get_or_at ds stop rest 0 (length ds) refl in absurd (omega arith))
    (λ h. h)
    (cases_lt (length ds) i)

front_digits : (s ds rest : List ℕ) → s ≡ ds ++ rest → AllDigits ds → (k : ℕ) → k < length ds → IsInRange 48 57 (get_or s k 0)
front_digits s ds rest e d k h = let r = front_reads 0 s ds rest e k h in let a = d k h in (omega arith, omega arith)

same_digits : (ds es r t : List ℕ) (a b : ℕ) → a < 48 → b < 48 → AllDigits ds → AllDigits es → ds ++ (a ∷ r) ≡ es ++ (b ∷ t) → ds ≡ es
same_digits ds es r t a b la lb d f e =
    let s = ds ++ (a ∷ r) in
    let x = run_le s es t b (length ds) lb e (front_digits s ds (a ∷ r) refl d) in
    let y = run_le s ds r a (length es) la refl (front_digits s es (b ∷ t) e f) in
    let z : length ds ≡ length es = omega arith in
    sym (take_at ds (a ∷ r) (length ds) refl) ∙ (ap (take (length ds)) e ∙ take_at es (b ∷ t) (length ds) (sym z))

-- a figure and the byte behind it are read in one way
pub record Same (m n a b : ℕ) (r t : List ℕ) : Type 0 where
  pub figures : m ≡ n
  pub stops : a ≡ b
  pub rests : r ≡ t

pub figure_free : (m n a b : ℕ) (r t : List ℕ) → m < 2 ^ 64 → n < 2 ^ 64 → a < 48 → b < 48 → decimal m ++ (a ∷ r) ≡ decimal n ++ (b ∷ t) → Same m n a b r t
figure_free m n a b r t hm hn la lb e =
    let d = same_digits (decimal m) (decimal n) r t a b la lb (digits_decimal own m hm) (digits_decimal own n hn) e in
    let v = digits_value-decimal own m hm in
    let w = digits_value-decimal own n hn in
    let f : decimal m ++ (a ∷ r) ≡ decimal m ++ (b ∷ t) = cc in
    let g = append_cancel_left (decimal m) (a ∷ r) (b ∷ t) f in
    record { figures = cc; stops = cc; rests = cc }

-- what a figure in front says of the run of digits there
pub record Seen (s : List ℕ) (n i stop m : ℕ) : Type 0 where
  pub value : n ≡ m
  pub some : 0 < i
  pub inside : i < length s
  pub stop_is : get_or s i 0 ≡ stop
  pub plain : get_or s 0 0 ≡ 48 → i ≤ 1

first_is : (m : ℕ) → m < 2 ^ 64 → get_or (decimal m) 0 0 ≡ 48 → length (decimal m) ≤ 1
first_is m h e =
    ⊎_elim
    (λ (p : 0 < m). let f = first_decimal m p h in absurd (omega arith))
    (λ (p : m ≤ 0). let f = ap length (decimal_digit m (omega arith)) in omega arith)
    (cases_lt 0 m)

pub seen : (s rest : List ℕ) (n i stop m : ℕ) → stop < 48 → m < 2 ^ 64 → Run s n i → s ≡ decimal m ++ (stop ∷ rest) → Seen s n i stop m
seen s rest n i stop m low big r e =
    let ds = decimal m in
    let small : m < 10 ^ 20 = omega arith in
    let dd = digits_decimal own m big in
    let len = length-decimal-le 20 m (omega arith) small big in
    let fit = ap length e ∙ length-append ds (stop ∷ rest) in
    let up = run_le s ds rest stop i low e r.digits in
    let down : length ds ≤ i =
    ⊎_elim
    (λ (h : i < length ds). absurd (r.stops (omega arith) (omega arith) (front_digits s ds (stop ∷ rest) e dd i h)))
    (λ h. h)
    (cases_lt i (length ds)) in
    let is : i ≡ length ds = omega arith in
    let t : take i s ≡ ds = ap (take i) e ∙ take_at ds (stop ∷ rest) i (sym is) in
    let v : n ≡ m = r.value ∙ (ap (read_on 0) t ∙ digits_value-decimal own m big) in
    let g = ap (λ l. get_or l i 0) e ∙ get_or_at ds stop rest 0 i (sym is) in
    let some = decimal_nonempty m big in
    let z = front_reads 0 s ds (stop ∷ rest) e 0 some in
    record { value = v; some = omega arith; inside = omega arith; stop_is = g; plain = λ p. omega (arith, first_is m big (omega arith)) }

-- no figure stands in front where what one would say of the run of digits is not so
pub no_figure : (s : List ℕ) (n i stop most : ℕ) → stop < 48 → most < 2 ^ 64 → Run s n i → ((m : ℕ) → Seen s n i stop m → m ≤ most → ⊥) → NoFigure stop most s
no_figure s n i stop most low small r not m rest h e = not m (seen s rest n i stop m low (omega arith) r e) h

-- the first byte behind the run of digits
pub behind : (s : List ℕ) (i : ℕ) → get_or (take (length s - i) (drop i s)) 0 0 ≡ get_or s i 0
behind s i = let a : i + 0 ≡ i = omega arith in ap (λ l. get_or l 0 0) (take_rest s i) ∙ (get_or-drop i s 0 0 ∙ ap (λ k. get_or s k 0) a)

pub figured : (s : List ℕ) (n i stop most : ℕ) → Run s n i → most < 2 ^ 64 → 0 < i → i < length s → (get_or s 0 0 ≡ 48 → i ≤ 1) → n ≤ most → get_or s i 0 ≡ stop → Figured stop most s n (drop 1 (drop i s))
figured s n i stop most r small some inside plain le is =
    let w = r.within in
    let l = length-take-le i s w in
    let td = taken_digits s i w r.digits in
    let z : get_or (take i s) 0 0 ≡ get_or s 0 0 = rw get_or-take in
    let v = r.value in
    let d = decimal-digits_value own (take i s) td (omega arith) (λ p. let q = plain (omega arith) in omega arith) (omega arith) in
    let e : decimal n ≡ take i s = ap decimal v ∙ d in
    let a = take-append-drop i s in
    let m = drop_more s i 0 inside in
    let t = ap (drop 1) m in
    record { small = le; begins = cc }

-- the bytes as a figure read there writes them
pub figure_begins : (s : List ℕ) (n i stop : ℕ) → Run s n i → n < 2 ^ 64 → 0 < i → i < length s → (get_or s 0 0 ≡ 48 → i ≤ 1) → get_or s i 0 ≡ stop → s ≡ decimal n ++ (stop ∷ drop 1 (drop i s))
figure_begins s n i stop r small some inside plain is = let f = figured s n i stop n r small some inside plain (omega arith) is in f.begins

-- behind the figure of a piece stand its bytes and the end of the line
pub piece_seen : (s bs rest behind : List ℕ) (most n : ℕ) → most < 2 ^ 64 → Figured 32 most s n behind → length bs ≤ most → s ≡ decimal (length bs) ++ (32 ∷ (bs ++ (10 ∷ rest))) → (n ≡ length bs) × (behind ≡ bs ++ (10 ∷ rest))
piece_seen s bs rest behind most n small f h e =
    let same = figure_free n (length bs) 32 32 behind (bs ++ (10 ∷ rest)) (omega (arith, f.small)) (omega arith) (omega arith) (omega arith) (sym f.begins ∙ e) in
    (same.figures, same.rests)

-- no piece stands in front where what one would say of the bytes behind its length is not so
pub no_piece : (s after : List ℕ) (least most n : ℕ) → most < 2 ^ 64 → Figured 32 most s n after → ((bs rest : List ℕ) → n ≡ length bs → after ≡ bs ++ (10 ∷ rest) → least ≤ length bs → ⊥) → NoPiece least most s
no_piece s after least most n small f not bs rest low high e =
    let p = piece_seen s bs rest after most n small f high e in
    not bs rest p.0 p.1 low

digit_first : (n : ℕ) (rest : List ℕ) → n < 2 ^ 64 → 48 ≤ get_or (decimal n ++ rest) 0 0
digit_first n rest h =
    let l = decimal_nonempty n h in
    let d = digits_decimal own n h 0 l in
    let g = get_or_append_left (decimal n) rest 0 0 l in
    omega arith

pub minus_seen : (s rest : List ℕ) (stop : ℕ) (z : ℤ) → mag z < 2 ^ 63 → get_or s 0 0 ≡ 45 → s ≡ signed_decimal z ++ (stop ∷ rest) → (m : ℕ) × (0 < m) × (m ≤ 2 ^ 63) × (drop 1 s ≡ decimal m ++ (stop ∷ rest))
minus_seen s rest stop (pos n) h is e = let d = digit_first n (stop ∷ rest) (omega arith) in absurd (omega (arith, ap (λ l. get_or l 0 0) e))
minus_seen s rest stop (negsuc n) h is e = (suc n, omega arith, omega arith, ap (drop 1) e)

-- no signed figure stands in front behind a minus where what one would say of the figure there is not so
pub no_minus : (s : List ℕ) (stop : ℕ) → get_or s 0 0 ≡ 45 → ((m : ℕ) (rest : List ℕ) → 0 < m → m ≤ 2 ^ 63 → drop 1 s ≡ decimal m ++ (stop ∷ rest) → ⊥) → NoNumber stop s
no_minus s stop is not z rest h e = let f = minus_seen s rest stop z h is e in not f.0 rest f.1 f.2 f.3

-- a piece, and a signed figure, are read in one way
pub piece_free : (b d r t : List ℕ) → length b < 2 ^ 64 → length d < 2 ^ 64 → decimal (length b) ++ (32 ∷ (b ++ (10 ∷ r))) ≡ decimal (length d) ++ (32 ∷ (d ++ (10 ∷ t))) → (b ≡ d) × (r ≡ t)
piece_free b d r t hb hd e =
    let same = figure_free (length b) (length d) 32 32 (b ++ (10 ∷ r)) (d ++ (10 ∷ t)) hb hd (omega arith) (omega arith) e in
    let x = same.rests in
    let p = take_at b (10 ∷ r) (length b) refl in
    let q = take_at d (10 ∷ t) (length b) (sym same.figures) in
    let u = drop_at b (10 ∷ r) (length b) refl in
    let v = drop_at d (10 ∷ t) (length b) (sym same.figures) in
    let w : 10 ∷ r ≡ 10 ∷ t = sym u ∙ (ap (drop (length b)) x ∙ v) in
    (sym p ∙ (ap (take (length b)) x ∙ q), cc)

pub number_free : (y z : ℤ) (stop : ℕ) (r t : List ℕ) → stop < 48 → mag y < 2 ^ 63 → mag z < 2 ^ 63 → signed_decimal y ++ (stop ∷ r) ≡ signed_decimal z ++ (stop ∷ t) → (y ≡ z) × (r ≡ t)
number_free (pos m) (pos n) stop r t low hy hz e =
    let same = figure_free m n stop stop r t (omega arith) (omega arith) low low e in (ap pos same.figures, same.rests)
number_free (pos m) (negsuc n) stop r t low hy hz e = let d = digit_first m (stop ∷ r) (omega arith) in absurd (omega (arith, ap (λ l. get_or l 0 0) e))
number_free (negsuc m) (pos n) stop r t low hy hz e = let d = digit_first n (stop ∷ t) (omega arith) in absurd (omega (arith, ap (λ l. get_or l 0 0) e))
number_free (negsuc m) (negsuc n) stop r t low hy hz e =
    let same = figure_free (suc m) (suc n) stop stop r t (omega arith) (omega arith) low low (ap (drop 1) e) in
    let f = same.figures in
    let g : m ≡ n = omega arith in
    (ap negsuc g, same.rests)

-- Both bytes that end a figure are below the digits.
pub stop_low : (stop : Stop) → stop_byte stop < 48
stop_low Space = omega arith
stop_low Line = omega arith

-- What shows that a figure was read.
pub ruleset figure_steps = (common_steps, figure_begins, behind, take_rest)
