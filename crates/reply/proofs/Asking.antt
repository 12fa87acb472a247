-- What is due to a FindNode: a refusal where our own record is asked for and cannot be sent, else the messages of the records due. Assumes nothing.
use Prim.Native.Nat.{ℕ}
use mathlib.Core.Path.{◌≡◌, sym, ap, subst, ◌∙◌}
use mathlib.Core.Bool.{Bool, true, false}
use mathlib.Core.Logic.{⊎_elim}
use mathlib.Core.List.Memᴰ
use mathlib.Core.List.{List, ◌∷◌, map}
use lib.ListN.{length}
use borrow.Author.Tests.{le-leb}
use Rattle.refusal.specs.Outcome.{given, refused}
use Rattle.distance.specs.Distance.{asked_of}
use Rattle.routing_table.specs.View.{View}
use Rattle.routing_table.specs.Rules.{◌among◌}
use Rattle.replies.specs.Chosen.{nearest_by, entry_record, once}
use Rattle.replies.specs.Nodes.{is_asked, sendable, nodes_reply}
use Rattle.replies.proofs.Once.{Sendable}
use Rattle.reply.specs.Ready.{messages_of}

-- our own record and others that can be sent
pub with_own : (own : List ℕ) (rs : List (List ℕ)) → Sendable own → ((r : List ℕ) → r among rs → Sendable r) → (r : List ℕ) → r among (own ∷ rs)
    → Sendable r
with_own own rs o f r m = ⊎_elim (λ e. subst Sendable (sym e) o) (f r) (Memᴰ.cases_cons m)

module _ (v : View) (own distances : List ℕ) where
  -- the records of the entries asked for
  abbrev pub asked_records : List (List ℕ)
  asked_records = map entry_record (nearest_by v.own (is_asked v distances) v)

  module _ (asked : Bool) (is : asked ≡ asked_of distances 0) where
    pub nodes_refused : asked ≡ true → sendable own ≡ false → nodes_reply v own distances ≡ refused 23
    unfolding nodes_reply
    nodes_refused e w = rw (sym is ∙ e, w)

    pub nodes_own : asked ≡ true → Sendable own → (rs : List (List ℕ)) → rs ≡ once (own ∷ asked_records)
        → nodes_reply v own distances ≡ given (messages_of rs)
    unfolding nodes_reply
    nodes_own e s rs q =
        rw (sym is ∙ e, le-leb 1 (length own) s.0, le-leb (length own) 300 s.1) (ap (λ (l : List (List ℕ)). given (messages_of l)) (sym q))

    pub nodes_others : asked ≡ false → (rs : List (List ℕ)) → rs ≡ once asked_records → nodes_reply v own distances ≡ given (messages_of rs)
    unfolding nodes_reply
    nodes_others e rs q = rw (sym is ∙ e) (ap (λ (l : List (List ℕ)). given (messages_of l)) (sym q))
