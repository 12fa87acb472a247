-- What the caller lends, as the definitions of a reply take it.
use Rattle.replies.specs.Reply as replies
use Rattle.reply.specs.declared.Lent.{Lent}

abbrev pub lending : Lent → replies.Lent
lending l = record { own = l.own.now; content = l.content.now; connection = l.connection }
