-- Words for texts that are put together from pieces. They are opaque, so that a long text keeps its pieces apart in a proof.
use Rattle.std.specs.Prelude.{ℕ, suc, List, [], ◌∷◌, ◌++◌}

-- one text and then another
infixr 40 ◌&◌
unfoldable pub ◌&◌ : List ℕ → List ℕ → List ℕ
a & b = a ++ b

-- the texts of the members, each with its place, counted from k
unfoldable pub each : {A : Type 0} → (ℕ → A → List ℕ) → ℕ → List A → List ℕ
each f k [] = []
each f k (x ∷ xs) = f k x & each f (suc k) xs
