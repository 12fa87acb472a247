-- All the marked cases of document 01 hold: what the inputs come to, all together, is what is expected. It computes. Assumes nothing.
use mathlib.Core.Path.{◌≡◌, refl}
use mathlib.Core.List.{map}
use Rattle.octets.specs.Bytes.{be, le, be_bytes, le_bytes}
use Rattle.octets.specs.Equal.{same_bytes, holds, all_different}
use Rattle.content_key.specs.Id.{reverse_bits, id_of}
use Rattle.content_key.specs.Key.{key_of}
use Rattle.rlp.specs.Content.{long_header, header_in, content_of}
use Rattle.message.specs.Records.{offset_of, records_of}
use Rattle.message.specs.Rules.{record_sizes, rules_of}
use Rattle.message.specs.Decode.{rest_of, found_nodes_of, layout_of, decode}
use Rattle.demands.specs.Examples.{computed, examples}

pub all_hold : map computed examples ≡ examples
unfolding examples id_of reverse_bits be_bytes le_bytes key_of be le long_header header_in content_of decode layout_of rest_of found_nodes_of offset_of records_of rules_of record_sizes holds all_different same_bytes
all_hold = refl
