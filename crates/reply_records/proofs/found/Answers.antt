-- `reply_records::found` meets its contract: the records gathered are those of the entries that the places stand for. Assumes nothing.
use Rattle.std.proofs.Common.{List, ◌∷◌, map, subst, arith}
use Rattle.routing_table.specs.View.{no_entry}
use Rattle.routing_table.specs.declared.Entry.{Entry}
use Rattle.routing_table.proofs.Firsts.{length_firsts}
use Rattle.replies.specs.Chosen.{entry_record}
use Rattle.reply_records.specs.Records.{Holds, Whole, sent}
use Rattle.reply_records.proofs.found.Goals as goal

pub returns : goal.returns
returns g c =
    let t = c.args.table.now in
    let n = length_firsts no_entry t.count t.entries in
    record {
      whole = λ test tells few.
          let s = c.nearest-order.ensures.stands test tells in
          subst Whole (s.are (omega arith)) c.gather.ensures.whole;
      records = λ test tells few.
          let s = c.nearest-order.ensures.stands test tells in
          subst (λ (es : List Entry). Holds (sent (c.args.own.now ∷ map entry_record es)) c.gather.result) (s.are (omega arith)) c.gather.ensures.records;
    }
