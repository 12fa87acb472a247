-- Laws on the exclusive or of lists of bytes and on distances. Each goes byte by byte, from the law on two numbers; that a number
-- comes back when it is exclusive-ored twice goes digit by digit. Assumes nothing.
use Prim.Native.Nat.{ℕ, zero, suc, ◌+◌, ◌*◌, ◌/◌, ◌%◌, ◌<◌}
use native.Mathlib.Nat.{suc_inj, suc-ne-zero, mod-lt, div-add-mod'}
use native.Mathlib.Omega.{arith}
use mathlib.Core.Path.{◌≡◌, refl, sym, ap, ap₂, ◌∙◌}
use mathlib.Core.List.{List, [], ◌∷◌}
use lib.Dec.{lit<}
use lib.Arith.{bin_ind}
use lib.Bits.{bit_xor, differ, xor_step, xor_shr, xor_mod, xor_zero_l, xor_self, xor_comm, xor_lt}
use lib.ListN.{length, get_or, replicate}
use Rattle.octets.specs.Bytes.{Bytes, be}
use Rattle.distance.specs.Distance.{xor_of, distance_of}
use Rattle.octets.proofs.Numbers.{be_inj, be_zeros}

-- one digit comes back
digit_undo : (x y : ℕ) → x < 2 → y < 2 → differ (bit_xor x y) y ≡ x
digit_undo zero zero h k = refl
digit_undo zero (suc zero) h k = refl
digit_undo (suc zero) zero h k = refl
digit_undo (suc zero) (suc zero) h k = refl
digit_undo (suc (suc x)) y h k = absurd (omega arith)
digit_undo zero (suc (suc y)) h k = absurd (omega arith)
digit_undo (suc zero) (suc (suc y)) h k = absurd (omega arith)

-- a number comes back when it is exclusive-ored twice
pub bit_undo : (a b : ℕ) → bit_xor (bit_xor a b) b ≡ a
bit_undo =
    bin_ind (λ (a : ℕ). (b : ℕ) → bit_xor (bit_xor a b) b ≡ a)
    (λ b. ap (λ (n : ℕ). bit_xor n b) (xor_zero_l b) ∙ xor_self b)
    (λ n ih b.
    xor_step (bit_xor n b) b
    ∙ ap₂ (λ (p q : ℕ). p * 2 + q)
    (ap (λ (m : ℕ). bit_xor m (b / 2)) (xor_shr n b 1) ∙ ih (b / 2))
    (ap (λ (m : ℕ). differ m (b % 2)) (xor_mod n b 1) ∙ digit_undo (n % 2) (b % 2) (mod-lt n (lit< tt)) (mod-lt b (lit< tt)))
    ∙ div-add-mod' n 2)

-- the exclusive or of equally many bytes has as many
pub xor_of_length : (a b : List ℕ) → length a ≡ length b → length (xor_of a b) ≡ length a
unfolding xor_of
xor_of_length [] b l = refl
xor_of_length (x ∷ a) [] l = absurd (suc-ne-zero (length a) l)
xor_of_length (x ∷ a) (y ∷ b) l = ap suc (xor_of_length a b (suc_inj l))

-- equally many bytes, each the exclusive or of the two there, are the exclusive or
pub xor_of_each : (a b d : List ℕ) → length a ≡ length b → length d ≡ length a
    → ((i : ℕ) → i < length d → get_or d i 0 ≡ bit_xor (get_or a i 0) (get_or b i 0)) → d ≡ xor_of a b
unfolding xor_of
xor_of_each [] b [] l m h = refl
xor_of_each [] b (z ∷ d) l m h = absurd (suc-ne-zero (length d) m)
xor_of_each (x ∷ a) b [] l m h = absurd (suc-ne-zero (length a) (sym m))
xor_of_each (x ∷ a) [] (z ∷ d) l m h = absurd (suc-ne-zero (length a) l)
xor_of_each (x ∷ a) (y ∷ b) (z ∷ d) l m h =
    ap₂ (λ (w : ℕ) (ws : List ℕ). w ∷ ws) (h 0 (omega arith)) (xor_of_each a b d (suc_inj l) (suc_inj m) (λ i k. h (suc i) (omega arith)))

-- the exclusive or of bytes is bytes
pub xor_of_bytes : (a b : List ℕ) → Bytes a → Bytes b → Bytes (xor_of a b)
unfolding xor_of
xor_of_bytes [] b h k = tt
xor_of_bytes (x ∷ a) [] h k = tt
xor_of_bytes (x ∷ a) (y ∷ b) h k = (xor_lt 8 x y h.0 k.0, xor_of_bytes a b h.1 k.1)

-- the exclusive or does not depend on the order of the two
pub xor_of_comm : (a b : List ℕ) → xor_of a b ≡ xor_of b a
unfolding xor_of
xor_of_comm [] [] = refl
xor_of_comm [] (y ∷ b) = refl
xor_of_comm (x ∷ a) [] = refl
xor_of_comm (x ∷ a) (y ∷ b) = ap₂ (λ (z : ℕ) (zs : List ℕ). z ∷ zs) (xor_comm x y) (xor_of_comm a b)

-- the exclusive or undoes itself
pub xor_of_undo : (a b : List ℕ) → length a ≡ length b → xor_of (xor_of a b) b ≡ a
unfolding xor_of
xor_of_undo [] b l = refl
xor_of_undo (x ∷ a) [] l = absurd (suc-ne-zero (length a) l)
xor_of_undo (x ∷ a) (y ∷ b) l = ap₂ (λ (z : ℕ) (zs : List ℕ). z ∷ zs) (bit_undo x y) (xor_of_undo a b (suc_inj l))

-- values with the same exclusive or are the same
pub xor_of_inj : (node a b : List ℕ) → length node ≡ length a → length node ≡ length b → xor_of node a ≡ xor_of node b → a ≡ b
xor_of_inj node a b l m e = sym (back a l) ∙ ap (λ (d : List ℕ). xor_of d node) e ∙ back b m
  where
    back : (z : List ℕ) → length node ≡ length z → xor_of (xor_of node z) node ≡ z
    back z n = ap (λ (d : List ℕ). xor_of d node) (xor_of_comm node z) ∙ xor_of_undo z node (sym n)

-- the exclusive or of a value with itself is zeros
pub xor_of_self : (a : List ℕ) → xor_of a a ≡ replicate (length a) 0
unfolding xor_of
xor_of_self [] = refl
xor_of_self (x ∷ a) = ap₂ (λ (z : ℕ) (zs : List ℕ). z ∷ zs) (xor_self x) (xor_of_self a)

-- two ids at the same distance from a node are the same
pub distance_inj : (node a b : List ℕ) → length node ≡ length a → length node ≡ length b → Bytes node → Bytes a → Bytes b
    → distance_of node a ≡ distance_of node b → a ≡ b
distance_inj node a b l m hn ha hb e =
    xor_of_inj node a b l m
    (be_inj (xor_of node a) (xor_of node b) (xor_of_length node a l ∙ sym (xor_of_length node b m)) (xor_of_bytes node a hn ha)
    (xor_of_bytes node b hn hb) e)

-- an id is at distance 0 from itself
pub distance_self : (a : List ℕ) → distance_of a a ≡ 0
distance_self a = ap be (xor_of_self a) ∙ be_zeros (length a)

-- ids at distance 0 are the same
pub distance_zero : (a b : List ℕ) → length a ≡ length b → Bytes a → Bytes b → distance_of a b ≡ 0 → a ≡ b
distance_zero a b l ha hb e = sym (distance_inj a b a l refl ha hb ha (e ∙ sym (distance_self a)))
