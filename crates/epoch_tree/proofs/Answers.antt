-- What `root` and `proof` answer, and what they leave in the buffer. Assumes nothing.
use Prim.Native.Nat.{ℕ, ◌<◌, ◌≤◌}
use native.Mathlib.Nat.{zero-add}
use native.Mathlib.Omega.{arith}
use mathlib.Core.Path.{◌≡◌, refl, sym, ap, subst, ◌∙◌}
use mathlib.Core.Bool.{true, false}
use mathlib.Core.List.{List, ◌++◌}
use lib.ListN.{length, drop}
use borrow.Author.Tests.{le-leb, lt-leb, lt-ltb, le-ltb}
use Rattle.refusal.specs.Says.{says_of}
use Rattle.refusal.specs.Outcome.{Outcome, given, refusal}
use Rattle.refusal.specs.Buffer.{Writes}
use Rattle.refusal.specs.declared.Refusal.{Refusal}
use Rattle.refusal.specs.declared.Refusal.TheVariants.{InputLength, NoSuchPlace, ShortBuffer}
use Rattle.std.specs.Prelude.{Ok, Err}
use Rattle.octets.specs.Buffer.{placed}
use Rattle.octets.proofs.Buffers.{placed_room}
use Rattle.accumulator.specs.Records.{are_records, record_count, epoch_root, epoch_proof, flat, root_of, proof_of}
use Rattle.accumulator.proofs.Epochs.{length_epoch, length_flat_proof}

-- a refused call leaves the buffer as it was
writes_refused : {o : Outcome (List ℕ)} (wanted : Refusal) → o ≡ refusal (says_of wanted) → (why : Refusal) → why ≡ wanted → (out : List ℕ) → Writes o (Err why) out out
writes_refused {o = o} wanted e why is out =
    let says : o ≡ refusal (says_of why) = e ∙ ap (λ (w : Refusal). refusal (says_of w)) (sym is) in
    subst (λ (x : Outcome (List ℕ)). Writes x (Err why) out out) (sym says) (record { answered = refl; buffer = refl })

-- one that is answered puts its bytes at the start
writes_bytes : {o : Outcome (List ℕ)} (bytes : List ℕ) → o ≡ given bytes → (size : ℕ) → length bytes ≡ size → (n : ℕ) → n ≡ size → (out after : List ℕ) → size ≤ length out
    → after ≡ placed out 0 bytes → Writes o (Ok n) out after
writes_bytes bytes e size long n is out after room placed =
    subst (λ (x : Outcome (List ℕ)). Writes x (Ok n) out after) (sym e)
    (record {
      answered = ap given (is ∙ sym long);
      buffer = placed ∙ placed_room out 0 bytes (omega arith) ∙ ap (λ (k : ℕ). bytes ++ drop k out) (zero-add (length bytes));
    })

module _ (records : List ℕ) where
  -- the lengths of the records are tested first
  pub root_length : are_records records ≡ false → (why : Refusal) → why ≡ InputLength → (out : List ℕ) → Writes (root_of records (length out)) (Err why) out out
  unfolding root_of
  root_length bad why is out = writes_refused InputLength (rw bad) why is out

  pub root_short : are_records records ≡ true → (why : Refusal) → why ≡ ShortBuffer → (out : List ℕ) → length out < 32 → Writes (root_of records (length out)) (Err why) out out
  unfolding root_of
  root_short good why is out short = writes_refused ShortBuffer (rw (good, lt-leb 32 (length out) short)) why is out

  pub root_written : are_records records ≡ true → (n : ℕ) → n ≡ 32 → (out after bytes : List ℕ) → 32 ≤ length out → after ≡ placed out 0 bytes → bytes ≡ epoch_root records
      → Writes (root_of records (length out)) (Ok n) out after
  unfolding root_of
  root_written good n is out after bytes room puts e =
      writes_bytes (epoch_root records) (rw (good, le-leb 32 (length out) room)) 32 (length_epoch records) n is out after room (puts ∙ ap (placed out 0) e)

  module _ (position : ℕ) where
    pub proof_length : are_records records ≡ false → (why : Refusal) → why ≡ InputLength → (out : List ℕ) → Writes (proof_of records position (length out)) (Err why) out out
    unfolding proof_of
    proof_length bad why is out = writes_refused InputLength (rw bad) why is out

    -- then the position
    pub proof_nowhere : are_records records ≡ true → record_count records ≤ position → (why : Refusal) → why ≡ NoSuchPlace → (out : List ℕ)
        → Writes (proof_of records position (length out)) (Err why) out out
    unfolding proof_of
    proof_nowhere good past why is out = writes_refused NoSuchPlace (rw (good, le-ltb position (record_count records) past)) why is out

    module _ (good : are_records records ≡ true) (there : position < record_count records) where
      -- then the room
      pub proof_short : (why : Refusal) → why ≡ ShortBuffer → (out : List ℕ) → length out < 480 → Writes (proof_of records position (length out)) (Err why) out out
      unfolding proof_of
      proof_short why is out short =
          writes_refused ShortBuffer (rw (good, lt-ltb position (record_count records) there, lt-leb 480 (length out) short)) why is out

      pub proof_written : (n : ℕ) → n ≡ 480 → (out after bytes : List ℕ) → 480 ≤ length out → after ≡ placed out 0 bytes → bytes ≡ flat (epoch_proof records position)
          → Writes (proof_of records position (length out)) (Ok n) out after
      unfolding proof_of
      proof_written n is out after bytes room puts e =
          writes_bytes (flat (epoch_proof records position)) (rw (good, lt-ltb position (record_count records) there, le-leb 480 (length out) room)) 480 (length_flat_proof records position there) n is out after room
          (puts ∙ ap (placed out 0) e)
