-- `key_remove::remove` meets its contract: the tests say what the call comes to, and the keys around the place found are those that stay.
-- Assumes nothing.
use Prim.Native.Nat.{ℕ, ◌-◌, ◌*◌, ◌≤◌, ◌<◌}
use native.Mathlib.Omega.{arith}
use mathlib.Core.Path.{◌≡◌, sym, ap, ap₂, ◌∙◌}
use mathlib.Core.List.{List}
use lib.ListN.{length}
use borrow.Author.Rules.{rules}
use Rattle.std.specs.Prelude.{Err}
use Rattle.key_index.specs.View.{key_limit, view, with_keys, chunks}
use Rattle.key_index.specs.declared.KeyIndex.{KeyIndex}
use Rattle.key_index.proofs.Chunks.{chunks_length}
use Rattle.key_remove.specs.Remove.{removed, without_at, remove_of}
use Rattle.key_remove.specs.Answer.{now, given_by, meaning_of, remove_for}
use Rattle.key_remove.proofs.remove.Goals as goal
use Rattle.key_remove.proofs.remove.Goals.{In_ok-place, Start}

-- the keys around a place are those of the index afterwards; `at`, `all` and `n` are what the code has
taken : (index : KeyIndex) (bytes keys : List ℕ) (place at all n : ℕ)
    → remove_of key_limit (view index) bytes ≡ removed (with_keys (view index) (without_at place (chunks index.count index.keys)))
    → chunks (all - 1) keys ≡ without_at at (chunks all index.keys)
    → at ≡ place → all ≡ index.count → n ≡ index.count - 1
    → now (with_keys (view index) (chunks n keys)) ≡ remove_for key_limit index bytes
taken index bytes keys place at all n e moved a b c =
    let d : n ≡ all - 1 = omega arith in
    ap (λ (l : List (List ℕ)). now (with_keys (view index) l))
    (ap (λ (m : ℕ). chunks m keys) d ∙ moved ∙ ap₂ (λ (i m : ℕ). without_at i (chunks m index.keys)) a b)
    ∙ ap (given_by index) (sym e)

inside : (c : In_ok-place) → (c.in_ok-place.place < c.args.index.now.count) × (c.args.index.now.count ≤ key_limit)
inside c =
    let i = c.args.index.now in
    let n = chunks_length i.count i.keys in
    let s = c.seek.ensures.inside _ c.in_ok-place.was in
    (omega (arith, s.0), omega (arith, s.1))

size : (c : Start) → length c.args.index.now.keys ≡ 9 * key_limit
size c = search rules

pub without_at-requires : goal.without_at-requires
without_at-requires c =
    let i = inside (goal.at.without_at-requires c).In_ok-place in
    record { place_lt_count = (omega (arith, i.0), i.1); len = size (goal.at.without_at-requires c).Start }

pub overflow_sub-index : goal.overflow_sub-index
overflow_sub-index c =
    let i = inside (goal.at.overflow_sub-index c).In_ok-place in
    omega (arith, i.0)

pub returns-in_err-place : goal.returns-in_err-place
returns-in_err-place c =
    let k : c.from_residual.result ≡ Err c.in_err-place.field-0.0 = search rules in
    ap (λ r. meaning_of r c.args.index.now) k ∙ ap (given_by c.args.index.now) (sym (c.seek.ensures.refuses _ c.in_err-place.was))

pub returns : goal.returns
returns c =
    taken c.args.index.now _ _ c.in_ok-place.place _ _ _ (c.seek.ensures.finds _ c.in_ok-place.was) c.without_at.ensures
    (omega arith) (omega arith) (omega arith)
