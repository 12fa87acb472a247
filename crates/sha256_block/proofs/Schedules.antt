-- The schedule as the code fills it in, the words so far and then zeros: how many words there are, one word more, and that zeros behind
-- a short block do not count. Assumes nothing.
use Rattle.std.proofs.Common.{◌≡◌, ℕ, zero, suc, ◌+◌, ◌-◌, ◌*◌, ◌<◌, ◌≤◌, List, [], ◌∷◌, ◌++◌, length, get_or, set, replicate, sym, refl, ap, ◌∙◌, ap₂, zero-add, add-zero, add-one, arith, take, drop, lit<, w32, get_or-take, get_or-drop, length-append}
use lib.ListN.{get_or-append}
use Rattle.std.specs.Simd.{first_chunks}
use Rattle.std.specs.Int.{from_be_bytes}
use Rattle.octets.specs.Bytes.{be}
use lib.Seq.{set_at, append_snoc}
use Rattle.octets.specs.Parts.{bytes_at}
use Rattle.octets.proofs.Parts.{bytes_at_get, chunk_at}
use Rattle.sha256_block.specs.Block.{word_at, first_words, next_word, schedule}

first_length : (block : List ℕ) (n : ℕ) → length (first_words block n) ≡ n
unfolding first_words
first_length block zero = refl
first_length block (suc n) = omega (arith, length-append (first_words block n) (word_at block n ∷ []), first_length block n)

schedule_length : (block : List ℕ) (n : ℕ) → length (schedule block n) ≡ n + 16
unfolding schedule
schedule_length block zero = first_length block 16
schedule_length block (suc n) =
    omega (arith, length-append (schedule block n) (next_word (schedule block n) n ∷ []), schedule_length block n)

-- a word in the place of the first zero
word_more : (l : List ℕ) (n m m' v : ℕ) → length l ≡ n → m ≡ suc m' → set (l ++ replicate m 0) n v ≡ l ++ (v ∷ []) ++ replicate m' 0
word_more l n m m' v h e =
    ap (λ (k : ℕ). set (l ++ replicate k 0) n v) e
    ∙ set_at l 0 (replicate m' 0) v n h
    ∙ sym (append_snoc l v (replicate m' 0))

-- one word of the block more
pub first_more : (block ws : List ℕ) (n v : ℕ) → n < 64 → ws ≡ first_words block n ++ replicate (64 - n) 0 → v ≡ word_at block n
    → set ws n v ≡ first_words block (n + 1) ++ replicate (64 - (n + 1)) 0
unfolding first_words
first_more block ws n v h e is =
    ap₂ (λ (x : List ℕ) (w : ℕ). set x n w) e is
    ∙ word_more (first_words block n) n (64 - n) (64 - (n + 1)) (word_at block n) (first_length block n) (omega arith)
    ∙ ap (λ (k : ℕ). first_words block k ++ replicate (64 - (n + 1)) 0) (sym (add-one n))

-- zeros behind the words do not count for the next one
next_same : (l zs : List ℕ) (n : ℕ) → n + 14 < length l → next_word (l ++ zs) n ≡ next_word l n
unfolding next_word
next_same l zs n h =
    let e0 = get_or-append l zs 0 n (omega arith) in
    let e1 = get_or-append l zs 0 (n + 1) (omega arith) in
    let e9 = get_or-append l zs 0 (n + 9) (omega arith) in
    let e14 = get_or-append l zs 0 (n + 14) (omega arith) in
    cc

-- one more of the others
pub schedule_more : (block ws : List ℕ) (n v : ℕ) → n < 48 → ws ≡ schedule block n ++ replicate (48 - n) 0 → v ≡ next_word ws n
    → set ws (n + 16) v ≡ schedule block (n + 1) ++ replicate (48 - (n + 1)) 0
unfolding schedule
schedule_more block ws n v h e is =
    ap₂ (λ (x : List ℕ) (w : ℕ). set x (n + 16) w) e
    (is
    ∙ ap (λ (x : List ℕ). next_word x n) e
    ∙ next_same (schedule block n) (replicate (48 - n) 0) n (omega (arith, schedule_length block n)))
    ∙ word_more (schedule block n) (n + 16) (48 - n) (48 - (n + 1)) (next_word (schedule block n) n) (schedule_length block n) (omega arith)
    ∙ ap (λ (k : ℕ). schedule block k ++ replicate (48 - (n + 1)) 0) (sym (add-one n))

-- blocks that agree in their first bytes have the same words
word_same : (a b : List ℕ) (n : ℕ) → ((i : ℕ) → i < 4 * suc n → get_or a i 0 ≡ get_or b i 0) → word_at a n ≡ word_at b n
unfolding word_at
word_same a b n h =
    let e0 = h (4 * n) (omega arith) in
    let e1 = h (4 * n + 1) (omega arith) in
    let e2 = h (4 * n + 2) (omega arith) in
    let e3 = h (4 * n + 3) (omega arith) in
    cc

words_same : (a b : List ℕ) (n : ℕ) → ((i : ℕ) → i < 4 * n → get_or a i 0 ≡ get_or b i 0) → first_words a n ≡ first_words b n
unfolding first_words
words_same a b zero h = refl
words_same a b (suc n) h =
    ap₂ (λ (l : List ℕ) (w : ℕ). l ++ (w ∷ [])) (words_same a b n (λ i k. h i (omega arith))) (word_same a b n h)

-- a block that is filled up with zeros has the words of the block
pub filled_words : (block : List ℕ) (m : ℕ) → 64 ≤ m → first_words (bytes_at m 0 block) 16 ≡ first_words block 16
filled_words block m h =
    words_same (bytes_at m 0 block) block 16
    (λ i k. bytes_at_get m 0 block i (omega arith) ∙ ap (λ (j : ℕ). get_or block j 0) (zero-add i))

-- so have its first 64 bytes
pub front_words : (block front : List ℕ) → front ≡ take 64 block → first_words front 16 ≡ first_words block 16
front_words block front e = words_same front block 16 (λ i k. ap (λ (l : List ℕ). get_or l i 0) e ∙ get_or-take 64 block i 0 (omega arith))

-- byte j of part t of a block in parts of four
part_at : (xs : List ℕ) (k t j : ℕ) → t < k → j < 4 → get_or (get_or (first_chunks 4 k xs) t []) j 0 ≡ get_or xs (4 * t + j) 0
part_at xs k t j h l =
    ap (λ (p : List ℕ). get_or p j 0) (chunk_at 4 k xs t h)
    ∙ get_or-take 4 (drop (4 * t) xs) j 0 l
    ∙ get_or-drop (4 * t) xs j 0

-- the number of a part is the word there
pub word_is : (block : List ℕ) (parts : List (List ℕ)) → parts ≡ first_chunks 4 16 block → (t r : ℕ) → t < 16
    → r ≡ from_be_bytes w32 (get_or parts t []) → r ≡ word_at block t
unfolding word_at be
word_is block parts are t r h is =
    let at : (j : ℕ) → j < 4 → get_or (get_or parts t []) j 0 ≡ get_or block (4 * t + j) 0 =
    λ j l. ap (λ (p : List (List ℕ)). get_or (get_or p t []) j 0) are ∙ part_at block 16 t j h l in
    let e0 : get_or (get_or parts t []) 0 0 ≡ get_or block (4 * t) 0 = at 0 (lit< tt) ∙ ap (λ (i : ℕ). get_or block i 0) (add-zero (4 * t)) in
    let e1 = at 1 (lit< tt) in
    let e2 = at 2 (lit< tt) in
    let e3 = at 3 (lit< tt) in
    omega arith
