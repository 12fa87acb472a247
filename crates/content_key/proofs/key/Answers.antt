-- `content_key::key` meets its contract: each test that led to a `return` is a case of `key_of`, and the nine bytes of a list of nine are the list.
-- Assumes nothing.
use borrow.Author.Rules.{rules}
use mathlib.Core.Path.{◌≡◌, sym, ◌∙◌, ap}
use lib.ListN.{length}
use Rattle.refusal.specs.Outcome.{given}
use Rattle.content_key.proofs.Keys.{key_length, key_selector, key_given}
use Rattle.octets.proofs.Parts.{bytes_at_all}
use Rattle.content_key.proofs.key.Goals as goal

pub returns-then-bytes-ne9 : goal.returns-then-bytes-ne9
returns-then-bytes-ne9 c = sym (key_length c.args.bytes.now c.if-bytes-ne9.true)

pub returns-then-bytes-gt1 : goal.returns-then-bytes-gt1
returns-then-bytes-gt1 c = sym (key_selector c.args.bytes.now (search rules) (search rules))

pub returns : goal.returns
returns c =
    let s = c.args.bytes.now in
    let n : length s ≡ 9 = search rules in
    ap given (c.part.ensures ∙ bytes_at_all 9 s n) ∙ sym (key_given s n (search rules))
