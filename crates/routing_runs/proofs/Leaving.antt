-- Who leaves at a call and why, from what the call does; what a refused call does; and that our own id stays put. Assumes nothing.
use Prim.Native.Nat.{ℕ, ◌≤◌}
use mathlib.Core.Path.{◌≡◌, refl, sym, ap, subst, ◌∙◌}
use mathlib.Core.Bool.{true≢false}
use mathlib.Core.Logic.{◌⊎◌, inl, inr, ⊎_elim}
use mathlib.Core.List.Memᴰ.{append_left as in_front}
use mathlib.Core.List.Memᴰ.{cast}
use mathlib.Core.List.Memᴰ.{map as mapped}
use mathlib.Core.List.{List, [], ◌∷◌, ◌++◌, map}
use Rattle.refusal.specs.Says.{Said}
use Rattle.nearest.proofs.Lists.{middle_among, middle_self}
use Rattle.routing_table.specs.View.{View, entry_id, contact_id, entry_ids, replacement_ids}
use Rattle.routing_table.specs.Rules.{◌among◌, log_of}
use Rattle.routing_table.specs.declared.Contact.{Contact}
use Rattle.routing_table.specs.declared.Entry.{Entry}
use Rattle.routing_calls.specs.Change.{entry_of}
use Rattle.routing_runs.specs.Step.{Call, failed, Answer, refused, replaced}
use Rattle.routing_runs.specs.Leaving.{MostRecent, LongestUnseen, GivesWay, BecomesEntry, MakesWay}
use Rattle.routing_runs.specs.Refusing.{Refusing}
use Rattle.routing_runs.proofs.Done.{EntryAt, exchanged, Done, refusing, renewed, moved, added, waiting, making_way, counting, flagging, exchanging}
use Rattle.routing_runs.proofs.Around.{in_self, in_cases}

-- the id of one in a list is still there where x makes place for one with its id
id_stays : {A : Type 0} {l : List A} {a : A} (f : A → List ℕ) (front : List A) (x y : A) (back : List A) → l ≡ front ++ x ∷ back → f x ≡ f y
    → a among l → f a among map f (front ++ y ∷ back)
id_stays {a = a} f front x y back stands same m =
    ⊎_elim (λ (q : a ≡ x). cast (ap f q ∙ same) (mapped f (middle_self front y back))) (λ n. mapped f (middle_among front y back n))
    (in_cases front x back stands m)

-- the entry at its place gives way to the most recent replacement
gives_way : {v : View} {id : List ℕ} {front back : List Entry} {e : Entry} {by : Contact} {ahead behind : List Contact}
    → EntryAt v id front e back → 2 ≤ e.failures → MostRecent v (log_of v e.contact) by ahead behind
    → GivesWay v (failed id) (exchanged v (front ++ entry_of by ∷ back) (ahead ++ behind)) (replaced by.id) e
gives_way {front = front} {back = back} {by = by} {ahead = ahead} {behind = behind} at third recent = record {
  its_failure = ap failed (sym at.named);
  third = third;
  by = by;
  front = ahead;
  back = behind;
  recent = recent;
  named = refl;
  instead = middle_self front (entry_of by) back;
  left = refl;
}

module _ {v : View} where
  -- an entry leaves only so
  pub entry_leaves_lem : {c : Call} {w : View} {a : Answer} (e : Entry) → Done v c w a → e among v.entries
      → ¬ (e.contact.id among entry_ids w) → GivesWay v c w a e
  entry_leaves_lem d (refusing why) m gone = absurd (gone (mapped entry_id m))
  entry_leaves_lem d (renewed {c = c} fits front e back at) m gone =
      absurd (gone (id_stays entry_id front e (entry_of c) back at.stands at.named m))
  entry_leaves_lem d (moved fits front old back at) m gone = absurd (gone (mapped entry_id m))
  entry_leaves_lem d (added {c = c} fits new room few) m gone = absurd (gone (mapped entry_id (in_front (entry_of c ∷ []) m)))
  entry_leaves_lem d (waiting fits new full room few) m gone = absurd (gone (mapped entry_id m))
  entry_leaves_lem d (making_way fits front out back new full oldest) m gone = absurd (gone (mapped entry_id m))
  entry_leaves_lem d (counting front e back at few) m gone =
      absurd (gone (id_stays entry_id front e _ back at.stands refl m))
  entry_leaves_lem d (flagging front e back at third none) m gone =
      absurd (gone (id_stays entry_id front e _ back at.stands refl m))
  entry_leaves_lem d (exchanging front e back at third {by = by} ahead behind recent) m gone =
      ⊎_elim (λ (q : d ≡ e). subst (GivesWay v _ _ _) (sym q) (gives_way at third recent))
      (λ (n : d among front ++ back). absurd (gone (mapped entry_id (middle_among front (entry_of by) back n))))
      (in_cases front e back at.stands m)

  -- a replacement leaves only by becoming an entry or making way
  pub replacement_leaves_lem : {c : Call} {w : View} {a : Answer} (out : Contact) → Done v c w a → out among v.replacements
      → ¬ (out.id among replacement_ids w) → BecomesEntry v c w a out ⊎ MakesWay v c w a out
  unfolding gives_way
  replacement_leaves_lem d (refusing why) m gone = absurd (gone (mapped contact_id m))
  replacement_leaves_lem d (renewed fits front e back at) m gone = absurd (gone (mapped contact_id m))
  replacement_leaves_lem d (moved {c = c} fits front old back at) m gone =
      ⊎_elim (λ (q : d ≡ old). absurd (gone (cast (ap contact_id q ∙ at.named) (mapped contact_id (middle_self (front ++ back) c [])))))
      (λ (n : d among front ++ back). absurd (gone (mapped contact_id (in_front (c ∷ []) n))))
      (in_cases front old back at.stands m)
  replacement_leaves_lem d (added fits new room few) m gone = absurd (gone (mapped contact_id m))
  replacement_leaves_lem d (waiting {c = c} fits new full room few) m gone = absurd (gone (mapped contact_id (in_front (c ∷ []) m)))
  replacement_leaves_lem d (making_way {c = c} fits front out back new full oldest) m gone =
      ⊎_elim
      (λ (q : d ≡ out). inr (record {
        newcomer = c;
        sighting = refl;
        new = new;
        front = front;
        back = back;
        oldest = subst (λ (x : Contact). LongestUnseen v (log_of v c) x front back) (sym q) oldest;
        stands = refl;
        now = refl;
      }))
      (λ (n : d among front ++ back). absurd (gone (mapped contact_id (in_front (c ∷ []) n))))
      (in_cases front out back oldest.stands m)
  replacement_leaves_lem d (counting front e back at few) m gone = absurd (gone (mapped contact_id m))
  replacement_leaves_lem d (flagging front e back at third none) m gone = absurd (gone (mapped contact_id m))
  replacement_leaves_lem d (exchanging front e back at third {by = by} ahead behind recent) m gone =
      ⊎_elim
      (λ (q : d ≡ by). inl (record {
        failing = e;
        was = in_self front e back at.stands;
        way = gives_way at third recent;
        itself = sym q;
      }))
      (λ (n : d among ahead ++ behind). absurd (gone (mapped contact_id n)))
      (in_cases ahead by behind recent.stands m)

  -- a refused call changes nothing, and has its reason
  pub refused_done : {c : Call} {w : View} {a : Answer} (r : Said) → Done v c w a → a ≡ refused r → (w ≡ v) × Refusing v c r
  refused_done r (refusing {call = call} {r = said} why) e = let same : said ≡ r = cc in (refl, subst (Refusing v call) same why)
  refused_done r (renewed fits front x back at) e = absurd (true≢false cc)
  refused_done r (moved fits front old back at) e = absurd (true≢false cc)
  refused_done r (added fits new room few) e = absurd (true≢false cc)
  refused_done r (waiting fits new full room few) e = absurd (true≢false cc)
  refused_done r (making_way fits front out back new full oldest) e = absurd (true≢false cc)
  refused_done r (counting front x back at few) e = absurd (true≢false cc)
  refused_done r (flagging front x back at third none) e = absurd (true≢false cc)
  refused_done r (exchanging front x back at third ahead behind recent) e = absurd (true≢false cc)

  -- our own id stays put
  pub owner_stays : {c : Call} {w : View} {a : Answer} → Done v c w a → w.own ≡ v.own
  owner_stays (refusing why) = refl
  owner_stays (renewed fits front e back at) = refl
  owner_stays (moved fits front old back at) = refl
  owner_stays (added fits new room few) = refl
  owner_stays (waiting fits new full room few) = refl
  owner_stays (making_way fits front out back new full oldest) = refl
  owner_stays (counting front e back at few) = refl
  owner_stays (flagging front e back at third none) = refl
  owner_stays (exchanging front e back at third ahead behind recent) = refl
