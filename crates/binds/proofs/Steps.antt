-- One turn of each loop of a return, over plain values.
use Rattle.std.proofs.Common.{◌≡◌, ℕ, List, [], ◌∷◌, ◌++◌, refl, sym, ap, ◌∙◌, map-id}
use Rattle.std.specs.Prelude.{Option}
use Rattle.std.specs.Iterator.{Drains}
use Rattle.std.proofs.lemmas.Iterator.{YieldsList, items_from_drains}
use Rattle.host.specs.Meaning.{Meaning, bind_after}
use Rattle.host.specs.declared.Slot.TheVariants as slot
use Rattle.binds.specs.declared.collector.Span.{Span}
use Rattle.binds.specs.Leases.{zeroed, zeroed_span}
use Rattle.binds.specs.Cleared.{nulled}

pub nulled_none : (m : Meaning) → nulled m [] ≡ m
unfolding nulled
nulled_none m = refl

pub nulled_more : (m : Meaning) (xs : List ℕ) (i : ℕ) → nulled m (xs ++ (i ∷ [])) ≡ bind_after (nulled m xs) i slot.Null
unfolding nulled
nulled_more m [] i = refl
nulled_more m (x ∷ xs) i = nulled_more (bind_after m x slot.Null) xs i

pub zeroed_none : (room : List ℕ) → zeroed [] room ≡ room
unfolding zeroed
zeroed_none room = refl

pub zeroed_more : (xs : List Span) (x : Span) (room : List ℕ) → zeroed (xs ++ (x ∷ [])) room ≡ zeroed_span x (zeroed xs room)
unfolding zeroed
zeroed_more [] x room = refl
zeroed_more (y ∷ xs) x room = zeroed_more xs x (zeroed_span y room)

-- the slots that an iterator gives, made null
pub nulled_drained : {S : Type 0} {steps : S → Option ℕ → S → Type 0} {s : S} {all : List ℕ} (m : Meaning) (n : Meaning) → ((xs : List ℕ) × Drains steps s xs × (n ≡ nulled m xs)) → YieldsList steps (λ x. x) s all → n ≡ nulled m all
nulled_drained {S} {steps} {s} {all} m n d y =
    let e = items_from_drains d.0 (d.1.1.0, d.1.1.1, λ _. (d.1.0, d.1.1.2)) y in
    d.2 ∙ ap (nulled m) (sym (map-id d.0) ∙ e)
