-- `content::alone` meets its contract: a message without records keeps the rules and is short enough. Assumes nothing.
use mathlib.Core.List.{[]}
use mathlib.Core.Path.{◌≡◌}
use lib.ListN.{length}
use borrow.Author.Rules.{rules}
use Rattle.reply.proofs.Contents.{content_replies, lent_nothing, single_rules, single_size}
use Rattle.reply.proofs.content.alone.Goals as goal

pub returns : goal.returns
returns c =
    let four : length c.args.connection ≡ 4 = search rules in
    content_replies c.args.connection c.args.content.now c.args.content.now [] [] [] (lent_nothing c.args.content.now)
    (single_rules _ _ c.requires) (single_size _ _ c.requires four) c.write_found_content.ensures c.one.ensures
