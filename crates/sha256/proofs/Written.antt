-- Bytes as the code writes them: the block that the message ends in, the length in bits, and the words of a hash. Assumes nothing.
use Prim.Native.Nat.{ℕ, zero, suc, ◌+◌, ◌-◌, ◌*◌, ◌%◌, ◌^◌, ◌<◌}
use native.Mathlib.Numerals.{add-one}
use native.Mathlib.Omega.{arith}
use mathlib.Core.Path.{◌≡◌, refl, sym, ap, ap₂, ◌∙◌}
use mathlib.Core.List.{List, [], ◌∷◌, ◌++◌, append_assoc, append-nil}
use lib.ListN.{length, get_or, set, take, drop, replicate, length-append, drop_of_length-le, length-replicate}
use lib.Seq.{set_at, take_at, drop-append-add, append_snoc, take-suc, length-take-le}
use Rattle.octets.specs.Bytes.{Bytes, be_bytes}
use Rattle.octets.specs.Buffer.{placed}
use Rattle.octets.proofs.Buffers.{placed_room}
use native.Mathlib.Nat.{mul_comm}
use mir.Syntax.{w64}
use Rattle.std.specs.Int.{to_be_bytes}
use Rattle.octets.proofs.Numbers.{be_bytes_length, be_bytes_bytes, be_bytes_std, be_bytes_mod, bytes_append}
use Rattle.sha256.specs.Hash.{word_bytes}

-- zeros without the first k of them
zeros_left : (k n m : ℕ) → n ≡ k + m → drop k (replicate {A = ℕ} n 0) ≡ replicate m 0
zeros_left zero n m e = let same : n ≡ m = omega arith in ap (λ (j : ℕ). replicate j 0) same
zeros_left (suc k) zero m e = absurd (omega arith)
zeros_left (suc k) (suc n) m e = zeros_left k n m (omega arith)

-- some bytes at the front of 64 zeros, and 128 behind them
pub begun_block : (l block : List ℕ) (i n v : ℕ) → i ≡ n → length l ≡ n → n < 64 → block ≡ placed (replicate 64 0) 0 l → v ≡ 128
    → set block i v ≡ l ++ (128 ∷ []) ++ replicate (63 - n) 0
begun_block l block i n v at h k e is =
    ap (λ (j : ℕ). set block j v) at
    ∙ ap₂ (λ (x : List ℕ) (w : ℕ). set x n w)
    (e
    ∙ placed_room (replicate 64 0) 0 l (omega arith)
    ∙ ap (λ (x : List ℕ). l ++ x) (zeros_left (0 + length l) 64 (suc (63 - n)) (omega arith)))
    is
    ∙ set_at l 0 (replicate (63 - n) 0) 128 n h
    ∙ sym (append_snoc l 128 (replicate (63 - n) 0))

-- eight bytes at the end of a block
pub ended_block : (block count last : List ℕ) → length block ≡ 64 → length count ≡ 8 → last ≡ placed block 56 count → last ≡ take 56 block ++ count
ended_block block count last h k e =
    e
    ∙ placed_room block 56 count (omega arith)
    ∙ ap (λ (l : List ℕ). take 56 block ++ count ++ l) (drop_of_length-le block {i = 56 + length count} (omega arith))
    ∙ append-nil (take 56 block ++ count)

-- the length in bits as std writes it down, which wraps
pub bits_are : (n bits : ℕ) (bytes : List ℕ) → bytes ≡ to_be_bytes w64 bits → bits ≡ n * 8 % 2 ^ 64 → bytes ≡ be_bytes 8 (8 * n)
bits_are n bits bytes is e =
    is
    ∙ ap (to_be_bytes w64) e
    ∙ be_bytes_std 8 (n * 8 % 256 ^ 8)
    ∙ be_bytes_mod 8 (n * 8)
    ∙ ap (be_bytes 8) (mul_comm n 8)

-- words joined
word_bytes_append : (xs ys : List ℕ) → word_bytes (xs ++ ys) ≡ word_bytes xs ++ word_bytes ys
unfolding word_bytes
word_bytes_append [] ys = refl
word_bytes_append (x ∷ xs) ys =
    ap (λ (l : List ℕ). be_bytes 4 x ++ l) (word_bytes_append xs ys) ∙ sym (append_assoc (be_bytes 4 x) (word_bytes xs) (word_bytes ys))

-- four bytes to a word
pub word_bytes_length : (ws : List ℕ) → length (word_bytes ws) ≡ 4 * length ws
unfolding word_bytes
word_bytes_length [] = refl
word_bytes_length (w ∷ ws) =
    omega (arith, length-append (be_bytes 4 w) (word_bytes ws), be_bytes_length 4 w, word_bytes_length ws)

pub word_bytes_bytes : (ws : List ℕ) → Bytes (word_bytes ws)
unfolding word_bytes
word_bytes_bytes [] = tt
word_bytes_bytes (w ∷ ws) = bytes_append (be_bytes 4 w) (word_bytes ws) (be_bytes_bytes 4 w) (word_bytes_bytes ws)

one_word : (w : ℕ) → word_bytes (w ∷ []) ≡ be_bytes 4 w
unfolding word_bytes
one_word w = append-nil (be_bytes 4 w)

-- one word of a hash more
pub digest_more : (ws out four : List ℕ) (i : ℕ) → length ws ≡ 8 → i < 8 → out ≡ word_bytes (take i ws) ++ replicate (32 - 4 * i) 0
    → four ≡ be_bytes 4 (get_or ws i 0)
    → placed out (4 * i) four ≡ word_bytes (take (i + 1) ws) ++ replicate (32 - 4 * (i + 1)) 0
digest_more ws out four i h k e is =
    let front = word_bytes (take i ws) in
    let zeros : List ℕ = replicate (32 - 4 * i) 0 in
    let long : length front ≡ 4 * i = word_bytes_length (take i ws) ∙ ap (λ (n : ℕ). 4 * n) (length-take-le i ws (omega arith)) in
    let size : length four ≡ 4 = ap length is ∙ be_bytes_length 4 (get_or ws i 0) in
    let all : length out ≡ 32 = ap length e ∙ length-append front zeros ∙ omega (arith, length-replicate {A = ℕ} (32 - 4 * i) 0) in
    let at : 4 * i + length four ≡ length front + 4 = omega arith in
    placed_room out (4 * i) four (omega arith)
    ∙ ap₂ (λ (x y : List ℕ). x ++ four ++ y)
    (ap (take (4 * i)) e ∙ take_at front zeros (4 * i) long)
    (ap₂ (λ (n : ℕ) (l : List ℕ). drop n l) at e
    ∙ drop-append-add front zeros 4
    ∙ zeros_left 4 (32 - 4 * i) (32 - 4 * (i + 1)) (omega arith))
    ∙ ap (λ (l : List ℕ). l ++ replicate (32 - 4 * (i + 1)) 0)
    (ap (λ (l : List ℕ). front ++ l) (is ∙ sym (one_word (get_or ws i 0)))
    ∙ sym (word_bytes_append (take i ws) (get_or ws i 0 ∷ []))
    ∙ ap word_bytes (sym (take-suc ws i 0 (omega arith)) ∙ ap (λ (n : ℕ). take n ws) (sym (add-one i))))
