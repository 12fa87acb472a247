-- Parts of the message: a part to the end, and bytes from a place on. Assumes nothing.
use Prim.Native.Nat.{ℕ, ◌+◌, ◌-◌, ◌≤◌}
use native.Mathlib.Omega.{arith}
use mathlib.Core.Path.{◌≡◌, sym, ap, ◌∙◌}
use mathlib.Core.List.{List}
use lib.ListN.{length, take, drop, length-drop}
use lib.Seq.{take_all}
use Rattle.octets.specs.Parts.{bytes_at}
use Rattle.octets.proofs.Parts.{bytes_at_part, bytes_at_rest}

-- a part that goes to the end of what follows a place
pub part_rest : (s : List ℕ) (n : ℕ) → take (length s - n) (drop n s) ≡ drop n s
part_rest s n = take_all (length s - n) (drop n s) (rw length-drop (omega arith))

-- bytes from a place on are the part there, or the rest, where the place is the right one
pub bytes_part : (n from j : ℕ) (s : List ℕ) {r : List ℕ} → r ≡ bytes_at n j s → j ≡ from → from + n ≤ length s → r ≡ take n (drop from s)
bytes_part n from j s is same h = is ∙ ap (λ (k : ℕ). bytes_at n k s) same ∙ bytes_at_part n from s h

pub bytes_rest : (n from j : ℕ) (s : List ℕ) {r : List ℕ} → r ≡ bytes_at n j s → j ≡ from → length s ≡ from + n → r ≡ drop from s
bytes_rest n from j s is same h = is ∙ ap (λ (k : ℕ). bytes_at n k s) same ∙ bytes_at_rest n from s (sym h)
