-- Tests in a fixed order.
use Rattle.std.specs.Prelude.{Bool, cond, List, [], ◌∷◌, Some, None, Option}

-- Of a list of conditions, each with what it leads to: the first one that holds.
abbrev pub first_of : {R : Type 0} → List (Bool × R) → Option R
first_of [] = None
first_of (c ∷ cs) = cond c.0 (Some c.1) (first_of cs)
