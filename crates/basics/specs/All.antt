-- A rule with several clauses, as a list of tests that all answer yes. Assumes nothing.
use Rattle.std.specs.Prelude.{Bool, true, ◌&&◌, List, [], ◌∷◌}

unfoldable pub all : List Bool → Bool
all [] = true
all (t ∷ []) = t
all (t ∷ u ∷ ts) = t && all (u ∷ ts)
