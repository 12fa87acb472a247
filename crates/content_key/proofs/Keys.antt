-- What any bytes come to as a key: the three cases of `key_of`.
-- Assumes nothing.
use mathlib.Core.Path.{◌≡◌}
use mathlib.Core.List.{List}
use Prim.Native.Nat.{ℕ, ◌<◌, ◌≤◌}
use borrow.Author.Tests.{eq-eqb, ne_eqb, le-leb, lt-leb}
use lib.ListN.{length, get_or}
use Rattle.refusal.specs.Outcome.{given, refused}
use Rattle.content_key.specs.Key.{key_of}

pub key_length : (s : List ℕ) → (length s ≡ 9 → ⊥) → key_of s ≡ refused 7
unfolding key_of
key_length s h = rw (ne_eqb (length s) 9 h)

pub key_selector : (s : List ℕ) → length s ≡ 9 → 1 < get_or s 0 0 → key_of s ≡ refused 8
unfolding key_of
key_selector s h t = rw (eq-eqb (length s) 9 h, lt-leb (get_or s 0 0) 1 t)

pub key_given : (s : List ℕ) → length s ≡ 9 → get_or s 0 0 ≤ 1 → key_of s ≡ given s
unfolding key_of
key_given s h t = rw (eq-eqb (length s) 9 h, le-leb (get_or s 0 0) 1 t)
