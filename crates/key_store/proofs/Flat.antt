-- A key written at its place in a flat array, as a list of keys: it stands between the keys before that place and those after. Assumes
-- nothing.
use Prim.Native.Nat.{ℕ, suc, ◌+◌, ◌-◌, ◌*◌, ◌≤◌}
use native.Mathlib.Nat.{le_refl}
use native.Mathlib.Omega.{arith}
use mathlib.Core.Path.{◌≡◌, sym, ap, ap₂, ◌∙◌}
use mathlib.Core.List.{List, ◌∷◌, ◌++◌}
use lib.ListN.{length, take, drop, length-drop}
use lib.Seq.{take_at, drop_at, length-take-le}
use Rattle.key_index.specs.View.{chunks}
use Rattle.key_index.proofs.Chunks.{chunks_append, chunks_only, chunks_take, take_chunks, drop_chunks}
use Rattle.key_store.specs.Move.{key_at_place}

-- a key before the others
chunks_first : (n : ℕ) (key b : List ℕ) → length key ≡ 9 → chunks (suc n) (key ++ b) ≡ key ∷ chunks n b
unfolding chunks
chunks_first n key b l = ap₂ (λ (k r : List ℕ). k ∷ chunks n r) (take_at key b 9 l) (drop_at key b 9 l)

-- the first n keys do not see what follows them
chunks_cut : (n : ℕ) (b c : List ℕ) → 9 * n ≤ length b → chunks n (take (9 * n) b ++ c) ≡ chunks n b
chunks_cut n b c h = chunks_only n (take (9 * n) b ++ c) b (take_at (take (9 * n) b) c (9 * n) (length-take-le (9 * n) b h))

pub chunks_place : (from to : ℕ) (key b : List ℕ) → length key ≡ 9 → from ≤ to → 9 * suc to ≤ length b
    → chunks (suc to) (key_at_place from to key b) ≡ take from (chunks to b) ++ key ∷ drop from (chunks to b)
unfolding key_at_place
chunks_place from to key b l h long =
    let n = to - from in
    let e : suc to ≡ from + suc n = omega arith in
    let f : from + n ≡ to = omega arith in
    let front = take (9 * from) b in
    let back = drop (9 * from) b in
    let rest = take (9 * n) back ++ drop (9 * suc to) b in
    ap (λ (k : ℕ). chunks k (front ++ (key ++ rest))) e
    ∙ chunks_append from (suc n) front (key ++ rest) (length-take-le (9 * from) b (omega arith))
    ∙ ap₂ (λ (x y : List (List ℕ)). x ++ y)
    (chunks_take from from b (le_refl from) ∙ sym (take_chunks from n b) ∙ ap (λ (k : ℕ). take from (chunks k b)) f)
    (chunks_first n key rest l
    ∙ ap (λ (x : List (List ℕ)). key ∷ x)
    (chunks_cut n back (drop (9 * suc to) b) (omega (arith, length-drop (9 * from) b))
    ∙ sym (drop_chunks from n b)
    ∙ ap (λ (k : ℕ). drop from (chunks k b)) f))
