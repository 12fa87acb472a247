-- The order of lists of bytes: the first byte that differs decides.
use Rattle.std.specs.Prelude.{ℕ, Bool, true, false, cond, List, [], ◌∷◌, eqb, ltb}

-- the first list is at most the second: at the first byte that differs it has the smaller one, or it ends first, or no byte differs
unfoldable pub lex_leb : List ℕ → List ℕ → Bool
lex_leb [] ys = true
lex_leb (x ∷ xs) [] = false
lex_leb (x ∷ xs) (y ∷ ys) = cond (eqb x y) (lex_leb xs ys) (ltb x y)
