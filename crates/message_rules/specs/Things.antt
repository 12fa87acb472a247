-- How many things a message carries, where it may carry only one.
use Rattle.std.specs.Prelude.{ℕ, ◌+◌, List, ltb}
use Rattle.message.specs.Rules.{one, connected}

-- how many are present of a connection id that is not zero, records, and content, the last two by their number and length
unfoldable pub things_of : List ℕ → ℕ → ℕ → ℕ
things_of connection records content = one (connected connection) + one (ltb 0 records) + one (ltb 0 content)
