-- The lengths of records are those at their places, so their sizes are tested on the lengths. Assumes nothing.
use Prim.Native.Nat.{ℕ, zero, suc, ◌+◌, ◌<◌, ◌≤◌}
use native.Mathlib.Omega.{arith}
use mathlib.Core.Path.{◌≡◌, refl, sym, ap, ap₂, ◌∙◌}
use mathlib.Core.Bool.{Bool, ◌&&◌}
use mathlib.Core.List.{List, [], ◌∷◌, ◌++◌, map}
use lib.ListN.{length, get_or, take}
use lib.Seq.{take-suc}
use lib.Dec.{leb}
use Rattle.message.specs.Rules.{record_sizes}
use Rattle.message.specs.Reading.{part_at, records_at, records_of_places, PlacesInside}
use Rattle.message.specs.declared.Places.{Places}
use Rattle.message_rules.specs.Good.{sizes_good}
use Rattle.message_rules.proofs.Places.{part_length}

-- the sizes of records are their lengths
sizes_map : (rs : List (List ℕ)) → record_sizes rs ≡ sizes_good (map length rs)
unfolding record_sizes
sizes_map [] = refl
sizes_map (r ∷ rs) = ap (λ (b : Bool). leb 1 (length r) && leb (length r) 300 && b) (sizes_map rs)

map_snoc : (rs : List (List ℕ)) (r : List ℕ) → map length (rs ++ (r ∷ [])) ≡ map length rs ++ (length r ∷ [])
map_snoc [] r = refl
map_snoc (q ∷ rs) r = ap (λ (ns : List ℕ). length q ∷ ns) (map_snoc rs r)

-- the lengths of the records at some places
lengths_at : (s starts lens : List ℕ) (n : ℕ) → n ≤ length lens → ((i : ℕ) → i < n → get_or starts i 0 + get_or lens i 0 ≤ length s)
    → map length (records_at s starts lens n) ≡ take n lens
unfolding records_at
lengths_at s starts lens zero h inside = refl
lengths_at s starts lens (suc n) h inside =
    map_snoc (records_at s starts lens n) (part_at s (get_or starts n 0) (get_or lens n 0))
    ∙ ap₂ (λ (ns : List ℕ) (x : ℕ). ns ++ (x ∷ []))
    (lengths_at s starts lens n (omega arith) (λ i less. inside i (omega arith)))
    (part_length s (get_or starts n 0) (get_or lens n 0) (inside n (omega arith)))
    ∙ sym (take-suc lens n 0 (omega arith))

-- so the sizes of the records are tested on the lengths
pub sizes_of : (s : List ℕ) (places : Places) → places.count ≤ length places.lens → PlacesInside s places
    → sizes_good (take places.count places.lens) ≡ record_sizes (records_of_places s places)
sizes_of s places h p =
    sym (sizes_map (records_of_places s places)
    ∙ ap sizes_good (lengths_at s places.starts places.lens places.count h p.inside))
