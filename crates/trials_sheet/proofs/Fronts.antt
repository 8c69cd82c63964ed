-- The front of a row into which a sheet was printed. Assumes nothing.
use Rattle.std.proofs.Common.{◌≡◌, ℕ, List, ◌++◌, length, take, drop, Ok, Option, ap, ◌∙◌, arith, take_all}
use Rattle.std.proofs.lemmas.List.{take-append-le}
use Rattle.denials.specs.Checks.{Decided}
use Rattle.denials.specs.Told.{told}
use Rattle.denials.proofs.Passing.{promised}

-- the bytes written are what the sheet prints
pub front : (o : Option (ℕ × List ℕ)) (n : ℕ) (out row prints : List ℕ) (Q : Type 0) → Decided told o (Ok n) (λ m. (m ≡ length prints) × (out ≡ prints ++ drop m row)) Q → take n out ≡ prints
front o n out row prints Q h =
    let p = promised told o n (λ m. (m ≡ length prints) × (out ≡ prints ++ drop m row)) Q h in
    ap (take n) p.1 ∙ take-append-le n prints (drop n row) (omega (arith, p.0)) ∙ take_all n prints (omega (arith, p.0))
