-- What a reader of one thing, or of several of a kind, says of the bytes in front of it. A contract
-- names both cases, `MatchOption r (Lacks ..) (λ p. Reads ..)`, since what was read is seen in
-- several ways: as it is, by its bytes, or as the value of a cell.
use Rattle.std.specs.Prelude.{◌≡◌, ℕ, List, ◌++◌, length, ◌≢◌}
use Rattle.std.specs.List.{flat_map, AllByRecursion}

-- s begins with a good v as it is written; rest is what stands behind it.
pub record Reads {V : Type 0} (write : V → List ℕ) (Good : V → Type 0) (s : List ℕ) (v : V) (rest : List ℕ) : Type 0 where
  pub good : Good v
  pub begins : s ≡ write v ++ rest

-- s begins with no good v as it is written.
abbrev pub Lacks : {V : Type 0} → (V → List ℕ) → (V → Type 0) → List ℕ → Type 0
Lacks {V} write Good s = (v : V) (rest : List ℕ) → Good v → s ≢ write v ++ rest

-- s begins with n good ones, one after the other; rest is what stands behind them.
pub record Block {V : Type 0} (write : V → List ℕ) (Good : V → Type 0) (s : List ℕ) (n : ℕ) (rest : List ℕ) : Type 0 where
  pub items : List V
  pub many : length items ≡ n
  pub good : AllByRecursion Good items
  pub begins : s ≡ flat_map write items ++ rest
