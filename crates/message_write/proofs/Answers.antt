-- What each way out of a function that writes answers and leaves: a refusal with the buffer as it was, or the bytes at its front. Assumes nothing.
use Prim.Native.Nat.{ℕ, ◌≤◌}
use native.Mathlib.Nat.{zero-add}
use mathlib.Core.Path.{◌≡◌, refl, sym, ap, subst, ◌∙◌}
use mathlib.Core.Bool.{Bool, true, false, cond}
use mathlib.Core.List.{List, ◌++◌}
use lib.Dec.{ltb}
use lib.ListN.{length, drop}
use borrow.Author.Tests.{ltb-false}
use Rattle.std.specs.Prelude.{Result, Ok, Err}
use Rattle.refusal.specs.Says.{says_of}
use Rattle.refusal.specs.Outcome.{Outcome, given, refusal, refused}
use Rattle.refusal.specs.Buffer.{Writes, counted, written}
use Rattle.refusal.proofs.Outcomes.{given_not}
use Rattle.refusal.specs.declared.Refusal.{Refusal}
use Rattle.message_write.specs.Write.{fitting}
use Rattle.message_write.specs.Parts.{Put, sized}

-- a refusal leaves the buffer as it was
pub refused_writes : {o : Outcome (List ℕ)} (why : Refusal) (d : List ℕ) → o ≡ refusal (says_of why) → Writes o (Err why) d d
refused_writes why d e = record { answered = sym (ap counted e); buffer = sym (ap (λ (k : Outcome (List ℕ)). written k d) e) }

-- the refusal of a part is that of the whole
pub passed_on : {o : Outcome (List ℕ)} {r : Result ℕ Refusal} (why : Refusal) (d : List ℕ) → r ≡ Err why → o ≡ refusal (says_of why) → Writes o r d d
passed_on {o} why d is e = subst (λ (k : Result ℕ Refusal). Writes o k d d) (sym is) (refused_writes why d e)

-- the same bytes are written
pub writes_as : {o o' : Outcome (List ℕ)} {r : Result ℕ Refusal} {d a : List ℕ} → Writes o' r d a → o ≡ o' → Writes o r d a
writes_as {r = r} {d = d} {a = a} w e = subst (λ (k : Outcome (List ℕ)). Writes k r d a) (sym e) w

-- what an accepted size is, and what it is below
pub record Accepted (k n room : ℕ) : Type 0 where
  pub same : k ≡ n
  pub short : n ≤ 1280
  pub fits : n ≤ room

pub size_accepted : (k n room : ℕ) → given k ≡ sized n room → Accepted k n room
size_accepted k n room e = go (ltb 1280 n) (ltb room n) refl refl e
  where
    go : (a b : Bool) → ltb 1280 n ≡ a → ltb room n ≡ b → given k ≡ cond a (refused 2) (cond b (refused 13) (given n)) → Accepted k n room
    go true b p q e = given_not e
    go false true p q e = given_not e
    go false false p q e = record { same = cc; short = ltb-false 1280 n p; fits = ltb-false room n q }

-- bytes of a size that was tested
module _ (bytes : List ℕ) (n room : ℕ) (long : length bytes ≡ n) where
  pub size_refused : (why : Refusal) → refusal (says_of why) ≡ sized n room → fitting bytes room ≡ refusal (says_of why)
  size_refused why e = rw long (go (ltb 1280 n) (ltb room n) e)
    where
      go : (a b : Bool) → refusal (says_of why) ≡ cond a (refused 2) (cond b (refused 13) (given n))
          → cond a (refused 2) (cond b (refused 13) (given bytes)) ≡ refusal (says_of why)
      go true b e = cc
      go false true e = cc
      go false false e = given_not (sym e)

  pub size_given : (k : ℕ) → given k ≡ sized n room → fitting bytes room ≡ given bytes
  size_given k e = rw long (go (ltb 1280 n) (ltb room n) e)
    where
      go : (a b : Bool) → given k ≡ cond a (refused 2) (cond b (refused 13) (given n)) → cond a (refused 2) (cond b (refused 13) (given bytes)) ≡ given bytes
      go true b e = given_not e
      go false true e = given_not e
      go false false e = refl

-- bytes at the front of the buffer are written
pub wrote : (bytes d a : List ℕ) (n k : ℕ) → length bytes ≡ n → given k ≡ sized n (length d) → Put d 0 bytes a → (m : ℕ) → m ≡ n
    → Writes (fitting bytes (length d)) (Ok m) d a
wrote bytes d a n k long e p m is =
    writes_as
    (record { answered = ap given (is ∙ sym long); buffer = p.value ∙ ap (λ (j : ℕ). bytes ++ drop j d) (zero-add (length bytes)) })
    (size_given bytes n (length d) long k e)
