-- The laws that `runs` asks of a setting, for the box: different keys have different distances, and no refusal of a key, of content or of a
-- text has number 0. Assumes nothing.
use Prim.Native.Nat.{ℕ, ◌<◌}
use native.Mathlib.Omega.{arith}
use mathlib.Core.Path.{◌≡◌, refl, sym, ap, subst, ◌∙◌}
use mathlib.Core.Bool.{Bool, true, false, cond}
use mathlib.Core.Logic.{◌↔◌, ◌⊎◌, inl, inr}
use mathlib.Core.List.{List}
use mathlib.Core.Option.{some}
use lib.Dec.{eqb, leb}
use lib.ListN.{length}
use borrow.Author.Tests.{eqb-true, leb-true, leb-false}
use Rattle.refusal.specs.Says.{Said, only, at_line, number_in}
use Rattle.refusal.specs.Outcome.{Outcome, given, refusal, refused}
use Rattle.content_key.specs.Key.{selector_of, block_of, key_of}
use Rattle.rlp.specs.Content.{content_of}
use Rattle.rlp.specs.declared.Payload.{Payload}
use Rattle.rlp.proofs.Contents.{refused_by}
use Rattle.runs.specs.Setting.{Laws}
use Rattle.key_index.specs.Good.{away_from}
use Rattle.key_store.specs.Store.{examine_of}
use Rattle.key_store.proofs.Facts.{away_inj}
use Rattle.key_store.proofs.Answers.{examine_future, examine_known}
use Rattle.snapshot.specs.Load.{Loading, bad_line, loaded, load_of}
use Rattle.demands.specs.Box.{Owner, ValidOwner, ValidKey, Raw, Brought, key_from, fault_in, fault_of, view_in, text_from}
use Rattle.demands.specs.Setting.{box}

-- keys are equal exactly when they are at one distance
pub same_distance : (o : Owner) (j k : List ℕ) → ValidOwner o → ValidKey j → ValidKey k
    → (j ≡ k) ↔ (away_from o.node j ≡ away_from o.node k)
same_distance o j k valid p q = (ap (away_from o.node), away_inj o.node j k valid.node_size valid.node_bytes p.nine q.nine)

-- what is read as a key is one, and has the bytes that were read
pub key_is : (raw : Raw) (k : List ℕ) → key_from raw ≡ given k → (raw.bytes ≡ k) × ValidKey k
unfolding key_of
key_is raw k e = go (eqb (length raw.bytes) 9) refl (leb (selector_of raw.bytes) 1) refl e
  where
    go : (s : Bool) → eqb (length raw.bytes) 9 ≡ s → (t : Bool) → leb (selector_of raw.bytes) 1 ≡ t
        → cond s (cond t (given raw.bytes) (refused 8)) (refused 7) ≡ given k → (raw.bytes ≡ k) × ValidKey k
    go true l true t f =
        let same : raw.bytes ≡ k = cc in (
          same,
          subst ValidKey same
              (record {
                nine = record { size = eqb-true (length raw.bytes) 9 l; bytes = raw.each };
                selector = leb-true (selector_of raw.bytes) 1 t;
              }),
        )
    go true l false t f = let z : ◌≡◌ {A = ℕ} 0 1 = cc in absurd (omega arith)
    go false l t q f = let z : ◌≡◌ {A = ℕ} 0 1 = cc in absurd (omega arith)

-- what is not is refused by 7 or 8
key_number : (raw : Raw) (r : Said) → key_from raw ≡ refusal r → 0 < number_in r
unfolding key_of
key_number raw r e = go (eqb (length raw.bytes) 9) (leb (selector_of raw.bytes) 1) e
  where
    go : (s t : Bool) → cond {A = Outcome (List ℕ)} s (cond t (given raw.bytes) (refused 8)) (refused 7) ≡ refusal r → 0 < number_in r
    go true true f = let z : ◌≡◌ {A = ℕ} 0 1 = cc in absurd (omega arith)
    go true false f = let z : only 8 ≡ r = cc in rw (sym z) (omega arith)
    go false t f = let z : only 7 ≡ r = cc in rw (sym z) (omega arith)

-- content by 16 or 9
content_number : (content : List ℕ) (r : Said) → content_of content ≡ refusal r → 0 < number_in r
content_number content r e = number (refused_by content r e)
  where
    number : (r ≡ only 16) ⊎ (r ≡ only 9) → 0 < number_in r
    number (inl n) = rw n (omega arith)
    number (inr n) = rw n (omega arith)

-- a key with its content by 17 before that
examine_number : (key content : List ℕ) (newest : ℕ) (r : Said) → examine_of key content newest ≡ refusal r → 0 < number_in r
examine_number key content newest r e = go (leb (block_of key) newest) refl
  where
    go : (t : Bool) → leb (block_of key) newest ≡ t → 0 < number_in r
    go true t = content_number content r (sym (examine_known key content newest (leb-true (block_of key) newest t)) ∙ e)
    go false t =
        let z : only 17 ≡ r = cc (sym (examine_future key content newest (leb-false (block_of key) newest t)) ∙ e) in rw (sym z) (omega arith)

fault_number : (key : List ℕ) (brought : Brought) (r : Said) → fault_of key brought ≡ some r → 0 < number_in r
fault_number key brought r e = go (examine_of key brought.content brought.newest) refl e
  where
    go : (o : Outcome Payload) → examine_of key brought.content brought.newest ≡ o → fault_in o ≡ some r → 0 < number_in r
    go (given payload) c f = let z : ◌≡◌ {A = ℕ} 0 1 = cc in absurd (omega arith)
    go (refusal says) c f = let z : says ≡ r = cc in rw (sym z) (examine_number key brought.content brought.newest says c)

-- a text by 14
text_number : (text : List ℕ) (r : Said) → text_from text ≡ refusal r → 0 < number_in r
text_number text r e = go (load_of text) e
  where
    go : (l : Loading) → view_in l ≡ refusal r → 0 < number_in r
    go (bad_line line) f = let z : at_line 14 line ≡ r = cc in rw (sym z) (omega arith)
    go (loaded v) f = let z : ◌≡◌ {A = ℕ} 0 1 = cc in absurd (omega arith)

pub laws : Laws box
laws = record {
  limit_positive = λ o. omega arith;
  same_distance = same_distance;
  key_in_valid = λ o raw k e. (key_is raw k e).1;
  key_in_number = λ o raw r e. key_number raw r e;
  fault_number = λ o k brought r e. fault_number k brought r e;
  text_in_number = text_number;
}
