-- `key_store::put` meets its contract: the two ways out are laws of `proofs/Putting.antt`, once the arrays are known to be bytes. Assumes
-- nothing.
use Prim.Native.Nat.{ℕ, ◌-◌, ◌*◌, ◌<◌}
use native.Mathlib.Omega.{arith}
use mathlib.Core.Path.{◌≡◌}
use lib.ListN.{length, get_or}
use mir.Val.{Fits}
use mir.Syntax.{w8}
use borrow.Author.Rules.{rules}
use Rattle.octets.proofs.Numbers.{bytes_all}
use Rattle.key_index.specs.View.{key_limit}
use Rattle.key_index.specs.Keys.{NineBytes}
use Rattle.key_index.proofs.Rules.{good_count}
use Rattle.key_store.proofs.Putting.{place_most, place_within, full_answer}
use Rattle.key_store.proofs.put.Goals as goal
use Rattle.key_store.proofs.put.Goals.{Start}

size : (c : Start) → length c.args.index.now.keys ≡ 9 * key_limit
size c = search rules

nine : (c : Start) → NineBytes c.args.fitting.key
nine c =
    let k = c.args.fitting.key in
    let key : (j : ℕ) → get_or k j 0 < 256 = λ j. let f : Fits w8 (get_or k j 0) = search rules in omega arith in
    record { size = search rules; bytes = bytes_all k key }

pub insert-requires : goal.insert-requires
insert-requires c =
    let a = c.args in
    let start = (goal.at.insert-requires c).Start in
    let h = place_most key_limit a.index.now a.fitting.key (nine start) a.fitting.place c.requires in
    record { from_le_to = (omega arith, omega arith); len = size start }

pub insert-requires-2 : goal.insert-requires-2
insert-requires-2 c =
    let a = c.args in
    let start = (goal.at.insert-requires-2 c).Start in
    let h = place_within (key_limit - 1) a.index.now a.fitting.key (nine start) a.fitting.place c.requires (omega (arith, size start)) in
    record { from_le_to = (omega arith, omega arith); len = size start }

pub returns : goal.returns
returns c =
    let a = c.args in
    let i = a.index.now in
    let start = (goal.at.returns c).Start in
    let few = good_count key_limit i.node i.cap i.keys i.count c.requires.kept in
    full_answer (key_limit - 1) i a.fitting.key (nine start) a.fitting.place c.requires (omega arith) (omega (arith, size start)) a.fitting.payload _ _ _ _ _ _ _
    c.insert-2.ensures c.key_at-last.ensures (omega arith) (omega arith) (omega arith) (omega arith) (search rules)
