use Rattle.std.proofs.Common.{◌≡◌, ℕ, zero, suc, List, ℤ, refl}
use Rattle.std.proofs.Output.{has_written_of_eq}
use Rattle.certificate.specs.Sheets.{number_below, low_says}
use Rattle.certificate.proofs.sheets.Sheet.write_low.Goals as goal

-- some are told
some : (shown : ℤ → List ℕ) (z n : ℕ) → (n ≡ 0 → ⊥) → number_below shown z n ≡ low_says shown z n
some shown z zero not_none = absurd (not_none refl)
some shown z (suc n) not_none = refl

pub returns : goal.returns
returns g c = λ plain ok. has_written_of_eq _ _ _ _ _ (rw c.of_level-lowest.ensures (some g.T.Certified.shown g.T.OwnUnit.zero _ c.if-low-eq0.false)) (c.writeln.ensures.writes plain ok)
