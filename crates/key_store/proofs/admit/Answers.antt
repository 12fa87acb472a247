-- What the check does not find alone of `key_store::admit`: the keys of a good index are sorted, and a key that passes the tests fits. The laws
-- named in the source answer the other ways out. Assumes nothing.
use Prim.Native.Nat.{ℕ, ◌≤◌}
use native.Mathlib.Omega.{arith}
use mathlib.Core.Path.{◌≡◌, refl, sym, ap, subst, ◌∙◌}
use mathlib.Core.List.{List}
use lib.Seq.{take_all}
use Rattle.std.specs.Option.{is_some}
use Rattle.std.proofs.lemmas.Grind.{common_steps}
use Rattle.octets.specs.Bytes.{be}
use Rattle.key_index.specs.View.{key_limit, view}
use Rattle.key_index.specs.Good.{away_from, radius_of}
use Rattle.key_index.specs.Keys.{Each, NineBytes}
use Rattle.key_index.specs.Rules.{SortedFrom}
use Rattle.key_index.proofs.Places.{place_held}
use Rattle.key_index.proofs.Rules.{good_facts, good_count}
use Rattle.key_store.specs.Judge.{Fits}
use Rattle.key_store.specs.Move.{nearer}
use Rattle.key_store.proofs.Answers.{admit_put}
use Rattle.key_store.proofs.Verdicts.{fitting_says}
use Rattle.key_store.proofs.admit.Goals as goal
use Rattle.key_store.proofs.admit.Goals.{After-held}

-- the keys that the search goes over are those of the index
all : (c : After-held) → c.held.result.now ≡ (view c.args.index.now).keys
all c =
    let v = view c.args.index.now in
    c.held.ensures.keys ∙ take_all key_limit v.keys (good_facts key_limit v c.requires).few

pub nearer_keys-place-requires : goal.nearer_keys-place-requires
nearer_keys-place-requires c =
    let v = view c.args.index.now in
    subst (λ (l : List (List ℕ)). SortedFrom v.node 0 l) (sym (all (goal.at.nearer_keys-place-requires c).After-held)) (good_facts key_limit v c.requires).each.sorted

pub returns : goal.returns
returns c =
    let index = c.args.index.now in
    let v = view index in
    let key = c.args.key in
    let held = all (goal.at.returns c).After-held in
    let few : index.count ≤ key_limit = good_count key_limit index.node index.cap index.keys index.count c.requires in
    let reach : c.reach.result ≡ radius_of key_limit v = c.reach.ensures few in
    let far : be c.away-far.result ≡ away_from v.node key = ap be c.away-far.ensures in
    let fits : Fits key_limit v key c.nearer_keys-place.result = record {
      kept = c.requires;
      made = record {
        size = c.nearer_keys-place.ensures.id.0;
        node = c.nearer_keys-place.ensures.id.1;
        each = subst (Each NineBytes) held c.held.ensures.nine;
      };
      new = sym (c.is_some.ensures ∙ ap is_some c.find.ensures ∙ place_held key v.keys) ∙ c.if-is_some.false;
      near = grind (arith, common_steps);
      at =
          c.nearer_keys-place.ensures.count
          ∙ ap (λ (d : ℕ). nearer v.node d c.held.result.now) far
          ∙ ap (nearer v.node (away_from v.node key)) held;
    } in
    fitting_says key_limit _ _ _ refl (admit_put key_limit v key c.args.payload fits.new fits.near) fits
