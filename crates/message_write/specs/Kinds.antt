-- The messages of one shape, and their type bytes.
use Rattle.std.specs.Prelude.{ℕ, List}
use Rattle.message.specs.Values.{Message, ping, pong, find_content, offer, accept}
use Rattle.message_write.specs.declared.Probe.{Probe}
use Rattle.message_write.specs.declared.Probe.TheVariants.{Ping, Pong}
use Rattle.message_write.specs.declared.KeyMessage.{KeyMessage}
use Rattle.message_write.specs.declared.KeyMessage.TheVariants.{FindContent, Offer, Accept}

abbrev pub probe_of : Probe → List ℕ → Message
probe_of Ping radius = ping radius
probe_of Pong radius = pong radius

abbrev pub key_message_of : KeyMessage → List ℕ → Message
key_message_of FindContent key = find_content key
key_message_of Offer key = offer key
key_message_of Accept key = accept key

-- the type byte
abbrev pub probe_type : Probe → ℕ
probe_type Ping = 1
probe_type Pong = 2

abbrev pub key_type : KeyMessage → ℕ
key_type FindContent = 5
key_type Offer = 7
key_type Accept = 8
