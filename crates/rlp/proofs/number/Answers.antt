-- `rlp::number` meets its contract: std's number of eight bytes is the number of the eight bytes, and zeros in front do not change it.
-- Assumes nothing.
use Prim.Native.Nat.{ℕ, ◌-◌, ◌≤◌}
use native.Mathlib.Omega.{arith}
use mathlib.Core.List.{List, ◌++◌, append-nil}
use mathlib.Core.Path.{◌≡◌, ap, ◌∙◌}
use lib.ListN.{length, take, drop, replicate, length-append, length-take, length-drop, drop_of_length-le}
use Rattle.std.specs.Int.{w64, from_be_bytes}
use Rattle.octets.specs.Bytes.{be}
use Rattle.octets.proofs.Parts.{bytes_at_all}
use Rattle.rlp.proofs.Cases.{be_behind}
use borrow.Author.Rules.{rules}
use Rattle.rlp.proofs.number.Goals as goal

eight_be : (b : List ℕ) → length b ≡ 8 → from_be_bytes w64 b ≡ be b
unfolding be
eight_be b h = omega (arith, ap be (bytes_at_all 8 b h))

-- bytes in the place of the last n of eight zeros
abbrev eight : ℕ → List ℕ → List ℕ
eight n s = take (8 - n) (replicate 8 0) ++ (s ++ drop (8 - (8 - n)) (drop (8 - n) (replicate 8 0)))

eight_is : (s : List ℕ) → eight (length s) s ≡ take (8 - length s) (replicate 8 0) ++ s
eight_is s =
    let zeros : List ℕ = replicate 8 0 in
    ap (λ (l : List ℕ). take (8 - length s) zeros ++ l)
    (ap (λ (l : List ℕ). s ++ l) (drop_of_length-le (drop (8 - length s) zeros) (omega (arith, length-drop (8 - length s) zeros))) ∙ append-nil s)

eight_length : (s : List ℕ) → length s ≤ 8 → length (eight (length s) s) ≡ 8
eight_length s h =
    let zeros : List ℕ = replicate 8 0 in
    ap (length {A = ℕ}) (eight_is s) ∙ omega (arith, length-append (take (8 - length s) zeros) s, length-take (8 - length s) zeros)

pub returns : goal.returns
returns c =
    let s = c.args.s.now in
    let part = c.copy_from_slice.new.self in
    let same : part ≡ s = search rules in
    let all : eight (length s) part ≡ eight (length s) s = ap (eight (length s)) same in
    c.from_be_bytes.ensures
    ∙ eight_be (eight (length s) part) (ap (length {A = ℕ}) all ∙ eight_length s c.requires)
    ∙ ap be (all ∙ eight_is s)
    ∙ be_behind 8 (8 - length s) s
