-- How items are spread over groups: each group takes items in order until the next one would not fit. Over any item and any test.
use Rattle.std.specs.Prelude.{Bool, cond, List, [], ◌∷◌, ◌++◌}

module _ {A : Type 0} (fits : List A → Bool) where
  -- the first group, where these are taken already
  unfoldable pub first_group : (taken : List A) → List A → List A
  first_group taken [] = taken
  first_group taken (a ∷ rest) = cond (fits (taken ++ a ∷ [])) (first_group (taken ++ a ∷ []) rest) taken

  -- all groups, where these are in the first one already: an item that does not fit begins the next group
  unfoldable pub groups_from : (taken : List A) → List A → List (List A)
  groups_from taken [] = taken ∷ []
  groups_from taken (a ∷ rest) = cond (fits (taken ++ a ∷ [])) (groups_from (taken ++ a ∷ []) rest) (taken ∷ groups_from (a ∷ []) rest)

  -- the groups of some items: one, with nothing in it, where there is no item
  abbrev pub groups : List A → List (List A)
  groups items = groups_from [] items

  -- the groups of what is left: none where nothing is
  abbrev pub more : List A → List (List A)
  more [] = []
  more (a ∷ rest) = groups (a ∷ rest)
