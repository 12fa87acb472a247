-- `message_read::read` meets its contract: the tests of the whole message, and then the function of its type. Assumes nothing.
use native.Mathlib.Omega.{arith}
use mathlib.Core.Path.{refl}
use borrow.Author.Rules.{rules}
use Rattle.refusal.specs.declared.Refusal.TheVariants.{EmptyMessage, LongMessage, MessageType}
use Rattle.message_read.proofs.Answers.{read_as_lem, refused_to, passed_on}
use Rattle.message_read.proofs.Containers.{decode_empty, decode_long, decode_type, decode_body}
use Rattle.message_read.proofs.Shapes.{ping_good, ping_bad, pong_good, pong_bad, distances_good, distances_bad, find_content_good, find_content_bad, offer_good, offer_bad, accept_good, accept_bad}
use Rattle.message_read.proofs.read.Goals as goal

pub returns-then-is_empty : goal.returns-then-is_empty
returns-then-is_empty c = refused_to EmptyMessage (decode_empty c.args.message.now (search rules))

pub returns-then-message-gt1280 : goal.returns-then-message-gt1280
returns-then-message-gt1280 c = refused_to LongMessage (decode_long c.args.message.now (search rules))

pub returns-in_ok-radius-in-1 : goal.returns-in_ok-radius-in-1
returns-in_ok-radius-in-1 c = read_as_lem (decode_body c.args.message.now 1 (search rules) (search rules) c.in-1.is refl) (ping_good _ _ c.in_ok-radius-in-1.ensures)

pub returns-in_err-radius-in-1 : goal.returns-in_err-radius-in-1
returns-in_err-radius-in-1 c = passed_on _ (search rules) (read_as_lem (decode_body c.args.message.now 1 (search rules) (search rules) c.in-1.is refl) (ping_bad _ _ c.in_err-radius-in-1.ensures))

pub returns-in_ok-radius-in-2 : goal.returns-in_ok-radius-in-2
returns-in_ok-radius-in-2 c = read_as_lem (decode_body c.args.message.now 2 (search rules) (search rules) c.in-2.is refl) (pong_good _ _ c.in_ok-radius-in-2.ensures)

pub returns-in_err-radius-in-2 : goal.returns-in_err-radius-in-2
returns-in_err-radius-in-2 c = passed_on _ (search rules) (read_as_lem (decode_body c.args.message.now 2 (search rules) (search rules) c.in-2.is refl) (pong_bad _ _ c.in_err-radius-in-2.ensures))

pub returns-in_ok-distances-in-3 : goal.returns-in_ok-distances-in-3
returns-in_ok-distances-in-3 c = read_as_lem (decode_body c.args.message.now 3 (search rules) (search rules) c.in-3.is refl) (distances_good _ _ c.in_ok-distances-in-3.ensures)

pub returns-in_err-distances-in-3 : goal.returns-in_err-distances-in-3
returns-in_err-distances-in-3 c = passed_on _ (search rules) (read_as_lem (decode_body c.args.message.now 3 (search rules) (search rules) c.in-3.is refl) (distances_bad _ _ c.in_err-distances-in-3.ensures))

pub returns-in_ok-key-in-5 : goal.returns-in_ok-key-in-5
returns-in_ok-key-in-5 c = read_as_lem (decode_body c.args.message.now 5 (search rules) (search rules) c.in-5.is refl) (find_content_good _ _ c.in_ok-key-in-5.ensures)

pub returns-in_err-key-in-5 : goal.returns-in_err-key-in-5
returns-in_err-key-in-5 c = passed_on _ (search rules) (read_as_lem (decode_body c.args.message.now 5 (search rules) (search rules) c.in-5.is refl) (find_content_bad _ _ c.in_err-key-in-5.ensures))

pub returns-in_ok-key-in-7 : goal.returns-in_ok-key-in-7
returns-in_ok-key-in-7 c = read_as_lem (decode_body c.args.message.now 7 (search rules) (search rules) c.in-7.is refl) (offer_good _ _ c.in_ok-key-in-7.ensures)

pub returns-in_err-key-in-7 : goal.returns-in_err-key-in-7
returns-in_err-key-in-7 c = passed_on _ (search rules) (read_as_lem (decode_body c.args.message.now 7 (search rules) (search rules) c.in-7.is refl) (offer_bad _ _ c.in_err-key-in-7.ensures))

pub returns-in_ok-key-in-8 : goal.returns-in_ok-key-in-8
returns-in_ok-key-in-8 c = read_as_lem (decode_body c.args.message.now 8 (search rules) (search rules) c.in-8.is refl) (accept_good _ _ c.in_ok-key-in-8.ensures)

pub returns-in_err-key-in-8 : goal.returns-in_err-key-in-8
returns-in_err-key-in-8 c = passed_on _ (search rules) (read_as_lem (decode_body c.args.message.now 8 (search rules) (search rules) c.in-8.is refl) (accept_bad _ _ c.in_err-key-in-8.ensures))

pub returns-in-4 : goal.returns-in-4
returns-in-4 c = read_as_lem (decode_body c.args.message.now 4 (search rules) (search rules) c.in-4.is refl) c.found_nodes.ensures

pub returns-in-6 : goal.returns-in-6
returns-in-6 c = read_as_lem (decode_body c.args.message.now 6 (search rules) (search rules) c.in-6.is refl) c.found_content.ensures

pub returns-in-9 : goal.returns-in-9
returns-in-9 c = read_as_lem (decode_body c.args.message.now 9 (search rules) (search rules) c.in-9.is refl) c.store.ensures

pub returns-in_default : goal.returns-in_default
returns-in_default c =
    refused_to MessageType (decode_type c.args.message.now (search rules) (search rules) (λ low high. omega arith))
