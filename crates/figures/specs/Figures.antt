-- Figures, signed figures and pieces in front of bytes, by how they are written.
use Rattle.std.specs.Prelude.{◌≡◌, ℕ, ◌+◌, ◌-◌, ◌*◌, ◌%◌, ◌^◌, ◌<◌, ◌≤◌, List, [], ◌∷◌, ◌++◌, length, take, ℤ, decimal, ◌≢◌, slice_index}
use Rattle.std.specs.Int.Signed.{mag}
use Rattle.std.specs.Int.{IsInRange}
use Rattle.std.specs.Fmt.{signed_decimal}
use Rattle.figures.specs.declared.Stop.{Stop}
use Rattle.figures.specs.declared.Stop.TheVariants.{Space, Line}

-- The byte that ends a figure.
abbrev pub stop_byte : Stop → ℕ
stop_byte Space = 32
stop_byte Line = 10

-- The number that n and then the digits write.
abbrev pub read_on : ℕ → List ℕ → ℕ
read_on n [] = n
read_on n (c ∷ cs) = read_on (10 * n + (c - 48)) cs

-- The longest run of at most 20 digits in front of s: i digits, which write n.
pub record Run (s : List ℕ) (n i : ℕ) : Type 0 where
  pub within : i ≤ length s
  pub short : i ≤ 20
  pub digits : (k : ℕ) → k < i → IsInRange 48 57 (slice_index s k)
  pub value : n ≡ read_on 0 (take i s)
  pub stops : i < length s → i < 20 → IsInRange 48 57 (slice_index s i) → ⊥

-- s begins with the figure n, at most `most`, and the byte `stop`; rest is what stands behind them.
pub record Figured (stop most : ℕ) (s : List ℕ) (n : ℕ) (rest : List ℕ) : Type 0 where
  pub small : n ≤ most
  pub begins : s ≡ decimal n ++ (stop ∷ rest)

-- s begins with no figure of at most `most` and the byte `stop`.
abbrev pub NoFigure : ℕ → ℕ → List ℕ → Type 0
NoFigure stop most s = (n : ℕ) (rest : List ℕ) → n ≤ most → s ≢ decimal n ++ (stop ∷ rest)

-- s begins with a length from `least` to `most`, byte 32, so many bytes bs, and byte 10; rest is what stands behind them.
pub record Pieced (least most : ℕ) (s bs rest : List ℕ) : Type 0 where
  pub low : least ≤ length bs
  pub high : length bs ≤ most
  pub begins : s ≡ decimal (length bs) ++ (32 ∷ (bs ++ (10 ∷ rest)))

-- s begins with no such piece.
abbrev pub NoPiece : ℕ → ℕ → List ℕ → Type 0
NoPiece least most s = (bs rest : List ℕ) → least ≤ length bs → length bs ≤ most → s ≢ decimal (length bs) ++ (32 ∷ (bs ++ (10 ∷ rest)))

-- s begins with the signed 64-bit figure z and the byte `stop`; rest is what stands behind them.
-- (`mag` is n at both n and -(n + 1), so that below 2 ^ 63 are exactly these numbers.)
pub record Numbered (stop : ℕ) (s : List ℕ) (z : ℤ) (rest : List ℕ) : Type 0 where
  pub small : mag z < 2 ^ 63
  pub begins : s ≡ signed_decimal z ++ (stop ∷ rest)

-- s begins with no such figure and byte.
abbrev pub NoNumber : ℕ → List ℕ → Type 0
NoNumber stop s = (z : ℤ) (rest : List ℕ) → mag z < 2 ^ 63 → s ≢ signed_decimal z ++ (stop ∷ rest)

-- A length, a space, so many bytes and the end of the line, as they are written.
abbrev pub piece_line : List ℕ → List ℕ
piece_line bs = decimal (length bs) ++ (32 ∷ (bs ++ (10 ∷ [])))

-- The bit pattern of a number: without its sign, no more than infinity's.
abbrev pub Numeric : ℕ → Type 0
Numeric bits = bits % 2 ^ 63 ≤ 9218868437227405312

-- s begins with no bit pattern of a number and byte 10.
abbrev pub NoDouble : List ℕ → Type 0
NoDouble s = (n : ℕ) (rest : List ℕ) → n < 2 ^ 64 → Numeric n → s ≢ decimal n ++ (10 ∷ rest)
