-- Taking the values of a bind up, over plain values.
use Rattle.std.proofs.Common.{◌≡◌, ℕ, ◌+◌, true, List, [], ◌∷◌, length, None, refl, arith}
use Rattle.std.proofs.lemmas.Grind.{common_steps}
use Rattle.host.specs.Meaning.{Meaning}
use Rattle.binds.specs.Pairs.{Pair, borrowed_span, owned_span, all_fit, all_inside, span_length}
use Rattle.binds.specs.Tried.{one_after, bind_from}

-- values inside their buffers: the borrowed ones, and the owned ones
pub inside_parts : (txt given : ℕ) (ps : List Pair) → all_inside txt given ps ≡ true → (all_fit txt borrowed_span ps ≡ true) × (all_fit given owned_span ps ≡ true)
inside_parts txt given [] e = (refl, refl)
inside_parts txt given (p ∷ ps) e =
    let again = inside_parts txt given ps in
    grind (arith, common_steps)

-- where no value is refused, all are bound
pub all_bound : (m : Meaning) (n at : ℕ) (ps : List Pair) → (bind_from m n at ps).why ≡ None → (bind_from m n at ps).bound ≡ n + length ps
unfolding bind_from
all_bound m n at [] e = omega arith
all_bound m n at (p ∷ ps) e =
    let again = all_bound (one_after m (n + 1) at p) (n + 1) (at + span_length (owned_span p.1)) ps in
    grind arith
