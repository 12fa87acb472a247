-- What the check does not find alone of `sha256::digest`; the invariants beside it say how the loop goes. Assumes nothing.
use borrow.Author.Rules.{rules}
use Prim.Native.Nat.{ℕ, ◌*◌, ◌-◌}
use mathlib.Core.Path.{◌≡◌, refl, ap, ◌∙◌}
use mathlib.Core.List.{◌++◌, append-nil}
use lib.ListN.{take, replicate}
use Rattle.octets.proofs.Numbers.{be_bytes_std}
use Rattle.sha256.specs.Hash.{words_of, word_bytes}
use Rattle.sha256.proofs.Written.{digest_more}
use Rattle.sha256.proofs.digest.Goals as goal

pub loop-i-init : goal.loop-i-init
unfolding word_bytes
loop-i-init c = (search rules, refl)

pub loop-i-preserved : goal.loop-i-preserved
unfolding words_of
loop-i-preserved c = (
  search rules,
  c.put.ensures.out_after
      ∙ digest_more (words_of c.args.state) c.loop-i.out _ c.loop-i.i refl (search rules) c.loop-i.invariant.1 (c.to_be_bytes.ensures ∙ be_bytes_std 4 _),
)

pub returns : goal.returns
unfolding words_of
returns c =
    let words = words_of c.args.state in
    let all : c.loop-i.i ≡ 8 = search rules in
    c.loop-i.invariant.1 ∙ ap (λ (k : ℕ). word_bytes (take k words) ++ replicate (32 - 4 * k) 0) all ∙ append-nil (word_bytes words)
