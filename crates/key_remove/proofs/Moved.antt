-- The keys behind a place, copied one place down: the array then has the keys before the place and those behind it, by the laws on the keys
-- of joined arrays. Assumes nothing.
use Prim.Native.Nat.{ℕ, suc, ◌+◌, ◌-◌, ◌*◌, ◌≤◌, ◌<◌}
use native.Mathlib.Nat.{le_refl}
use native.Mathlib.Omega.{arith}
use mathlib.Core.Path.{◌≡◌, sym, ap, ap₂, ◌∙◌}
use mathlib.Core.List.{List, ◌++◌, append_assoc}
use lib.ListN.{length, take, drop, length-drop}
use lib.Seq.{paste, take_at, length-take-le}
use Rattle.std.specs.List.{copy_within}
use Rattle.key_index.specs.View.{chunks}
use Rattle.key_index.proofs.Chunks.{chunks_take, chunks_only, chunks_append, take_chunks, drop_chunks}
use Rattle.key_remove.specs.Remove.{without_at}

module _ (old : List ℕ) (place : ℕ) where
  keys_after : (m : ℕ) (rest : List ℕ) → 9 * (suc place + m) ≤ length old
      → chunks (place + m) (take (9 * place) old ++ (take (9 * m) (drop (9 * suc place) old) ++ rest))
      ≡ without_at place (chunks (suc place + m) old)
  unfolding without_at
  keys_after m rest l =
      let a = take (9 * place) old in
      let s = drop (9 * suc place) old in
      let b = take (9 * m) s in
      let k : suc place + m ≡ place + suc m = omega arith in
      let long : length a ≡ 9 * place = length-take-le (9 * place) old (omega arith) in
      let front : chunks place a ≡ take place (chunks (suc place + m) old) =
      chunks_take place place old (le_refl place) ∙ sym (ap (λ (n : ℕ). take place (chunks n old)) k ∙ take_chunks place (suc m) old) in
      let back : chunks m (b ++ rest) ≡ drop (suc place) (chunks (suc place + m) old) =
      chunks_only m (b ++ rest) s (take_at b rest (9 * m) (length-take-le (9 * m) s (omega (arith, length-drop (9 * suc place) old))))
      ∙ sym (drop_chunks (suc place) m old) in
      chunks_append place m a (b ++ rest) long ∙ ap₂ (λ (x y : List (List ℕ)). x ++ y) front back

  -- with the keys behind it copied to its place, the key there is gone
  pub moved_keys : (count : ℕ) (keys : List ℕ) → place < count → 9 * count ≤ length old
      → keys ≡ copy_within old (place * 9 + 9) (count * 9) (place * 9)
      → chunks (count - 1) keys ≡ without_at place (chunks count old)
  moved_keys count keys h l moved =
      let m = count - 1 - place in
      let c : count ≡ suc place + m = omega arith in
      let d : count - 1 ≡ place + m = omega arith in
      let at : place * 9 ≡ 9 * place = omega arith in
      let from : place * 9 + 9 ≡ 9 * suc place = omega arith in
      let n : count * 9 - (place * 9 + 9) ≡ 9 * m = omega arith in
      let rest = drop (9 * place + 9 * m) old in
      ap₂ chunks d
      (moved
      ∙ ap₂ (λ (i j : ℕ). paste old (place * 9) (drop j old) i) n from
      ∙ ap (λ (i : ℕ). paste old i (drop (9 * suc place) old) (9 * m)) at
      ∙ append_assoc (take (9 * place) old) (take (9 * m) (drop (9 * suc place) old)) rest)
      ∙ keys_after m rest (omega arith)
      ∙ sym (ap (λ (i : ℕ). without_at place (chunks i old)) c)
