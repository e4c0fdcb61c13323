-- What is left of bytes is the end of them.
use Rattle.std.proofs.Common.{◌≡◌, ℕ, ◌+◌, ◌-◌, List, ◌++◌, length, drop, sym, refl, ap, ◌∙◌, arith, length-append, length-drop}
use Rattle.std.proofs.lemmas.List.{drop_at, drop-drop}
use Rattle.sheet.specs.Lines.{IsEndOf}

-- What is behind some of them is.
pub end_behind : (s front rest : List ℕ) → s ≡ front ++ rest → IsEndOf s rest
end_behind s front rest e =
    let l = ap length e ∙ length-append front rest in
    let n : length s - length rest ≡ length front = omega (arith, l) in
    sym (ap (λ k. drop k s) n ∙ (ap (drop (length front)) e ∙ drop_at front rest (length front) refl))

-- The end of an end is.
pub end_of_end : (s t u : List ℕ) → IsEndOf s t → IsEndOf t u → IsEndOf s u
end_of_end s t u a b =
    let m = length s - length t in
    let n = length t - length u in
    let lt = ap length a ∙ length-drop m s in
    let lu = ap length b ∙ length-drop n t in
    let e : m + n ≡ length s - length u = omega (arith, lt, lu) in
    b ∙ (ap (drop n) a ∙ (drop-drop n m s ∙ ap (λ k. drop k s) e))
