-- What an answer of `reply` stands for: how many messages were written, the length of each, and the whole buffer.
use Rattle.std.specs.Prelude.{ℕ, ◌-◌, ◌≡◌, List, ◌++◌, map, length, replicate, Result}
use Rattle.refusal.specs.Outcome.{Outcome, outcome_of, map_outcome}
use Rattle.refusal.specs.Buffer.{written}
use Rattle.refusal.specs.declared.Refusal.{Refusal}
use Rattle.message.specs.Values.{Message}
use Rattle.message.specs.Encode.{encode}
use Rattle.replies.specs.Reply.{bytes_of}
use Rattle.reply.specs.declared.Messages.{Messages}

-- some numbers in 33 places, with zeros behind them
abbrev pub in33 : List ℕ → List ℕ
in33 ns = ns ++ replicate (33 - length ns) 0

-- how many bytes a message has
abbrev pub size_of : Message → ℕ
size_of m = length (encode m)

-- how many messages, and the length of each
abbrev pub told_of : List Message → Messages
told_of messages = record { count = length messages; lens = in33 (map size_of messages) }

-- an answer and a buffer, before and after a call that is to send these messages
pub record Replies (messages : Outcome (List Message)) (answer : Result Messages Refusal) (before after : List ℕ) : Type 0 where
  pub answered : outcome_of answer ≡ map_outcome told_of messages
  pub buffer : after ≡ written (map_outcome bytes_of messages) before
