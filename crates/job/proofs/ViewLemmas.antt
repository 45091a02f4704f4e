-- One list seen by two views.
use Rattle.std.proofs.Common.{◌≡◌, List, [], ◌∷◌, map, refl, ap, ◌∙◌}

-- a list seen through two views in turn is seen as through two others that agree on each element
pub same_views : {X Y V Z : Type 0} (f : X → Y) (g : Y → Z) (h : X → V) (k : V → Z) (xs : List X) → ((x : X) → g (f x) ≡ k (h x)) → map g (map f xs) ≡ map k (map h xs)
same_views f g h k [] e = refl
same_views f g h k (x ∷ xs) e = ap (λ z. z ∷ map g (map f xs)) (e x) ∙ ap (λ zs. k (h x) ∷ zs) (same_views f g h k xs e)
