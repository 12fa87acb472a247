-- What the rules count as present, counted by numbers and lengths. Assumes nothing.
use Prim.Native.Nat.{ℕ, suc, ◌+◌}
use native.Mathlib.Omega.{arith}
use mathlib.Core.Path.{◌≡◌, refl, sym}
use mathlib.Core.Bool.{Bool, true, false}
use mathlib.Core.List.{List, [], ◌∷◌}
use lib.Dec.{ltb}
use lib.ListN.{length}
use borrow.Author.Tests.{lt-ltb}
use mir.Val.{bool_byte}
use Rattle.message.specs.Rules.{one, present, connected}
use Rattle.message_rules.specs.Things.{things_of}

-- something is there where the length is not 0
pub present_length : {A : Type 0} (xs : List A) → present xs ≡ ltb 0 (length xs)
present_length [] = refl
present_length (x ∷ xs) = sym (lt-ltb 0 (suc (length xs)) (omega arith))

-- the things of FoundContent
pub things_three : (connection : List ℕ) (records : List (List ℕ)) (content : List ℕ)
    → one (connected connection) + one (present records) + one (present content) ≡ things_of connection (length records) (length content)
unfolding things_of
things_three connection records content = rw (present_length records, present_length content)

-- the things of Store
pub things_two : (connection content : List ℕ) → one (connected connection) + one (present content) ≡ things_of connection 0 (length content)
unfolding things_of
things_two connection content = rw (present_length content) (omega arith)

-- a test as a number
pub test_one : (b : Bool) → bool_byte b ≡ one b
test_one true = refl
test_one false = refl
