-- What the code answers, and what is due: a law that takes both and their equation, so that a wrong answer fails by that equation. Assumes
-- nothing.
use mathlib.Core.Path.{◌≡◌, ap, ◌∙◌}

-- an answer made from a part, where the part is the one that is wanted
pub due : {A B : Type 0} (f : A → B) (made wanted : A) {g : B} → f wanted ≡ g → made ≡ wanted → f made ≡ g
due f made wanted e same = ap f same ∙ e
