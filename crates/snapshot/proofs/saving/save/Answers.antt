-- What the check does not find alone of `saving::save`; the invariant beside it says how the loop goes. Assumes nothing.
use Prim.Native.Nat.{ℕ, ◌+◌, ◌*◌, ◌≤◌}
use native.Mathlib.Omega.{arith}
use mathlib.Core.Path.{◌≡◌, sym, ap, ◌∙◌}
use mathlib.Core.Bool.{true}
use mathlib.Core.List.{List, []}
use lib.ListN.{length, get_or}
use lib.Seq.{take_all}
use borrow.Author.Rules.{rules}
use Rattle.key_index.specs.View.{key_limit, view}
use Rattle.key_index.specs.Good.{good}
use Rattle.key_index.proofs.Chunks.{chunks_length}
use Rattle.key_index.proofs.Rules.{good_count, good_facts}
use Rattle.snapshot.specs.Text.{snapshot_of}
use Rattle.snapshot.proofs.Writing.{saved_length, saving_start, saving_next, saving_end, save_bad, save_short, save_written}
use Rattle.snapshot.proofs.saving.save.Goals as goal
use Rattle.snapshot.proofs.saving.save.Goals.{Else-not-is_good, After-held-held, Start}

node_size : (c : Start) → length c.args.index.now.node ≡ 32
node_size c = search rules

cap_size : (c : Start) → length c.args.index.now.cap ≡ 32
cap_size c = search rules

keys_size : (c : Start) → length c.args.index.now.keys ≡ 9 * key_limit
keys_size c = search rules

-- past the first test the index is good, and has few keys
is_good : (c : Else-not-is_good) → good key_limit (view c.args.index.now) ≡ true
is_good c = sym c.is_good.ensures ∙ c.if-not-is_good.false

few : (c : Else-not-is_good) → c.args.index.now.count ≤ key_limit
few c = let i = c.args.index.now in good_count key_limit i.node i.cap i.keys i.count (is_good c)

size : (c : Start) → c.args.index.now.count ≤ key_limit → length (snapshot_of (view c.args.index.now)) ≡ 135 + 21 * c.args.index.now.count
size c f =
    let i = c.args.index.now in
    saved_length i.node i.cap i.keys i.count (node_size c) (cap_size c) (omega (arith, keys_size c))

-- the keys that the loop goes over
all : (c : After-held-held) → c.held-held.result.now ≡ (view c.args.index.now).keys
all c =
    let v = view c.args.index.now in
    c.held-held.ensures.keys ∙ take_all key_limit v.keys (good_facts key_limit v (sym c.is_good.ensures ∙ c.if-not-is_good.false)).few

many : (c : After-held-held) → length c.held-held.result.now ≡ c.args.index.now.count
many c = ap (length {A = List ℕ}) (all c) ∙ chunks_length c.args.index.now.count c.args.index.now.keys

pub returns-then-not-is_good : goal.returns-then-not-is_good
returns-then-not-is_good c =
    save_bad key_limit (view c.args.index.now) c.args.out.now (sym c.is_good.ensures ∙ c.if-not-is_good.true)

pub overflow_mul-size : goal.overflow_mul-size
overflow_mul-size c =
    let f = few (goal.at.overflow_mul-size c).Else-not-is_good in
    search rules

pub overflow_add-size : goal.overflow_add-size
overflow_add-size c =
    let f = few (goal.at.overflow_add-size c).Else-not-is_good in
    search rules

pub returns-then-out-size : goal.returns-then-out-size
returns-then-out-size c =
    let e = (goal.at.returns-then-out-size c).Else-not-is_good in
    let n = size (goal.at.returns-then-out-size c).Start (few e) in
    save_short key_limit (view c.args.index.now) c.args.out.now (is_good e) (omega (arith, n, c.if-out-size.true))

pub write_header-requires : goal.write_header-requires
write_header-requires c =
    let f = few (goal.at.write_header-requires c).Else-not-is_good in
    search rules

pub loop-i-init : goal.loop-i-init
loop-i-init c =
    let i = c.args.index.now in
    let s = (goal.at.loop-i-init c).Start in
    let f = few (goal.at.loop-i-init c).Else-not-is_good in (
      saving_start i.node i.cap i.keys i.count c.args.out.now _ (node_size s) (cap_size s) c.if-out-size.false
          c.write_header.ensures f (omega (arith, keys_size s)),
      search rules,
    )

pub write_key-requires : goal.write_key-requires
write_key-requires c =
    let n = many (goal.at.write_key-requires c).After-held-held in
    let s = c.loop-i.invariant.0.fits in
    omega (arith, c.loop-i.invariant.1)

pub loop-i-preserved : goal.loop-i-preserved
loop-i-preserved c =
    let h = (goal.at.loop-i-preserved c).After-held-held in (
      saving_next _ _ _ _ _ _ _ c.loop-i.invariant.0 (omega (arith, many h)) _ (ap (λ (l : List (List ℕ)). get_or l c.loop-i.i []) (all h)) _ c.write_key.ensures,
      search rules,
    )

pub returns : goal.returns
returns c =
    let i = c.args.index.now in
    let s = (goal.at.returns c).Start in
    let e = (goal.at.returns c).Else-not-is_good in
    let n = size s (few e) in
    let fits = c.if-out-size.false in
    save_written key_limit (view i) c.args.out.now (is_good e) (135 + 21 * i.count) n fits _
    (saving_end i.node i.cap i.keys i.count c.args.out.now _ (node_size s) (cap_size s) fits
    c.write_header.ensures _ _ c.loop-i.invariant.0 (omega (arith, many (goal.at.returns c).After-held-held)))
