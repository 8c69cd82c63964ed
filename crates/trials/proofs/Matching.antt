-- Points against pairs of numbers. Assumes nothing.
use Rattle.std.proofs.Common.{◌≡◌, ℕ, ◌<◌, List, map, length, get_or, sym, ◌∙◌}
use Rattle.std.proofs.lemmas.List.{length-map, get_or-map, ext_get_or}
use Rattle.tables.specs.declared.points.Point.{Point}
use Rattle.trials.specs.Looks.{point_of}

module _ (ps : List Point) (qs : List (ℕ × ℕ)) where
  -- rows of one length that have the same point at every place are equal
  pub all_same : length ps ≡ length qs → ((k : ℕ) → k < length ps → get_or ps k (point_of (0, 0)) ≡ point_of (get_or qs k (0, 0))) → ps ≡ map point_of qs
  all_same n each =
      ext_get_or (point_of (0, 0)) ps (map point_of qs) (n ∙ sym (length-map qs point_of))
      (λ k h. each k h ∙ sym (get_or-map point_of qs k (0, 0) (point_of (0, 0)) (rw n at h)))
