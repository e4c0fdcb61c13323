-- A host whose slots are made null.
use Rattle.std.specs.Prelude.{ℕ, zero, suc, ◌+◌, List, [], ◌∷◌}
use Rattle.host.specs.Meaning.{Meaning, bind_after, reset_after}
use Rattle.host.specs.declared.Slot.TheVariants as slot

-- Slots made null, one after the other.
unfoldable pub nulled : Meaning → List ℕ → Meaning
nulled m [] = m
nulled m (i ∷ is) = nulled (bind_after m i slot.Null) is

-- The host once a binding is given back: reset, and each slot that took text or bytes null.
abbrev pub cleared : Meaning → List ℕ → Meaning
cleared m is = nulled (reset_after m) is

-- So many numbers, from one on.
unfoldable pub count_up : ℕ → ℕ → List ℕ
count_up i zero = []
count_up i (suc n) = i ∷ count_up (i + 1) n
