-- FoundContent messages: one with content or a connection id, and one with records; and when each is due. Assumes nothing.
use Prim.Native.Nat.{ℕ, ◌+◌, ◌≤◌, ◌<◌}
use native.Mathlib.Decide.{ℕ_discrete}
use native.Mathlib.Omega.{arith}
use mathlib.Core.Path.{◌≡◌, refl, sym, ap, subst, ◌∙◌}
use mathlib.Core.Bool.{Bool, true, false, ◌&&◌}
use mathlib.Core.Logic.{◌⊎◌, ⊎_elim}
use mathlib.Core.List.{List, [], ◌∷◌}
use mathlib.Core.Option.{Option, some}
use lib.Dec.{leb, lit≤}
use lib.ListN.{length, take}
use borrow.Author.Tests.{le-leb, lt-leb, lt-ltb, le-ltb}
use Rattle.refusal.specs.Outcome.{given, refused}
use Rattle.refusal.proofs.Outcomes.{given_not}
use Rattle.refusal.specs.Buffer.{Writes}
use Rattle.refusal.specs.declared.Refusal.{Refusal}
use Rattle.std.specs.Prelude.{Option as Maybe, Some, None, Result}
use Rattle.octets.specs.Bytes.{le}
use Rattle.octets.specs.Equal.{all_different}
use Rattle.octets.specs.Parts.{bytes_at}
use Rattle.octets.proofs.Parts.{bytes_at_all}
use Rattle.content_key.specs.Key.{key_of}
use Rattle.content_key.proofs.Keys.{key_length}
use Rattle.message.specs.Values.{found_content}
use Rattle.message.specs.Encode.{joined}
use Rattle.message.specs.Rules.{one, present, connected, record_sizes, rules_of}
use Rattle.message_write.specs.Lent.{lent}
use Rattle.message_write.specs.Write.{bytes_for_lent}
use Rattle.key_index.specs.View as keys
use Rattle.key_index.specs.Search.{place_of}
use Rattle.key_index.specs.Calls.{is_held}
use Rattle.key_index.proofs.Places.{at_held, nothing_held}
use Rattle.replies.specs.Groups.{first_group}
use Rattle.replies.specs.Room.{room, bytes_with}
use Rattle.replies.specs.Content.{no_connection, held_reply, content_fit}
use Rattle.replies.specs.Reply.{in_room}
use Rattle.replies.proofs.Groups.{first_split, first_fits, first_take}
use Rattle.replies.proofs.Once.{part_sizes, part_different}
use Rattle.replies.proofs.Sizes.{content_length, content_is, content_room, room_true, none_fits}
use Rattle.replies.proofs.Content.{held_refused}
use Rattle.replies.proofs.Replies.{no_connection_lem}
use Rattle.reply.specs.Answer.{size_of, Replies}
use Rattle.reply.specs.Ready.{First, Fair, Single, one_of}
use Rattle.reply.specs.declared.Messages.{Messages}
use Rattle.reply.specs.declared.groups.Group.{Group}
use Rattle.reply.proofs.Taking.{Of}
use Rattle.reply.proofs.Answers.{one_replies}

-- a message whose records are lent
pub content_replies : {before after : List ℕ} {w : Result ℕ Refusal} {r : Result Messages Refusal} (connection content bytes starts lens : List ℕ) (rs : List (List ℕ))
    → lent bytes starts lens ≡ some rs
    → rules_of (found_content connection rs content) ≡ given (found_content connection rs content) → size_of (found_content connection rs content) ≤ 1280
    → Writes (bytes_for_lent (λ (qs : List (List ℕ)). found_content connection qs content) (lent bytes starts lens) (length before)) w before after
    → r ≡ one_of w → Replies (in_room (length before) (given (found_content connection rs content ∷ []))) r before after
content_replies {before} {after} {w} connection content bytes starts lens rs e rules small p is =
    one_replies (found_content connection rs content) rules small
    (subst (λ (o : Option (List (List ℕ))). Writes (bytes_for_lent (λ (qs : List (List ℕ)). found_content connection qs content) o (length before)) w before after) e p)
    is

-- one without records
pub lent_nothing : (bytes : List ℕ) → lent bytes [] [] ≡ some []
unfolding lent
lent_nothing bytes = refl

module _ (connection content : List ℕ) (s : Single connection content) where
  pub single_rules : rules_of (found_content connection [] content) ≡ given (found_content connection [] content)
  unfolding rules_of record_sizes all_different
  single_rules = rw s.one

  pub single_size : length connection ≡ 4 → size_of (found_content connection [] content) ≤ 1280
  unfolding joined
  single_size l = let small = s.small in omega (arith, content_length connection [] content l)

one_most : (t : Bool) → leb (0 + 0 + one t) 1 ≡ true
one_most true = refl
one_most false = refl

pub single_content : (content : List ℕ) → length content ≤ 1267 → Single no_connection content
single_content content h = record { one = rw no_connection_lem (one_most (present content)); small = h }

first_most : (t : Bool) → leb (one t + 0 + 0) 1 ≡ true
first_most true = refl
first_most false = refl

pub single_connection : (connection : List ℕ) → Single connection []
single_connection connection = record { one = first_most (connected connection); small = omega arith }

-- which one is due for a key that is held
module _ (content connection : List ℕ) where
  pub held_content : 1 ≤ length content → length content ≤ 1267 → held_reply content connection ≡ given (found_content no_connection [] content ∷ [])
  unfolding held_reply
  held_content h k = rw (le-leb 1 (length content) h, le-leb (length content) 1267 k)

  not_lent : (length content ≡ 0) ⊎ (1267 < length content) → (leb 1 (length content) && leb (length content) 1267) ≡ false
  not_lent w =
      ⊎_elim (λ (e : length content ≡ 0). rw (lt-leb 1 (length content) (omega arith)))
      (λ (h : 1267 < length content). rw (le-leb 1 (length content) (omega arith), lt-leb (length content) 1267 h)) w

  pub held_connection : (length content ≡ 0) ⊎ (1267 < length content) → 0 < le connection
      → held_reply content connection ≡ given (found_content connection [] [] ∷ [])
  unfolding held_reply
  held_connection w h = rw (not_lent w, lt-ltb 0 (le connection) h)

  pub held_none : (length content ≡ 0) ⊎ (1267 < length content) → le connection ≡ 0 → held_reply content connection ≡ refused 23
  held_none w e = held_refused content connection (not_lent w) (le-ltb 0 (le connection) (omega arith))

-- one with the first group of some records
middle_most : (t : Bool) → leb (0 + one t + 0) 1 ≡ true
middle_most true = refl
middle_most false = refl

module _ (rs : List (List ℕ)) (fair : Fair rs) where
  abbrev pub group : List (List ℕ)
  group = first_group content_fit [] rs

  fits : (length group ≤ 32) × (bytes_with 13 group ≤ 1280)
  fits = room_true 13 group (sym (content_is group) ∙ first_fits content_fit [] rs (content_is [] ∙ none_fits 13 (lit≤ tt)))

  pub group_rules : rules_of (found_content no_connection group []) ≡ given (found_content no_connection group [])
  unfolding rules_of
  group_rules =
      let e = first_split content_fit [] rs in
      rw (
        le-leb (length group) 32 fits.0,
        part_sizes rs [] group _ e fair.sizes,
        part_different rs [] group _ e fair.different,
        no_connection_lem,
        middle_most (present group),
      )

  pub group_size : size_of (found_content no_connection group []) ≤ 1280
  group_size = let f = fits.1 in omega (arith, content_length no_connection group [] refl)

-- the first group by the lengths of the records
pub group_part : (lens : List ℕ) (rs : List (List ℕ)) → Of lens rs → (head : ℕ) → head ≡ 13 → (g : Group) → First head lens g
    → take g.taken rs ≡ first_group content_fit [] rs
group_part lens rs e head is g f =
    let n : g.taken ≡ length (first_group (room 13) [] rs) = f.taken rs e ∙ ap (λ (k : ℕ). length (first_group (room k) [] rs)) is in
    ap (λ (k : ℕ). take k rs) n ∙ sym (first_take (room 13) rs)
    ∙ ap (λ (fit : List (List ℕ) → Bool). first_group fit [] rs) (sym content_room)

-- what is read as a key has nine bytes
nine_bytes : (key : List ℕ) → key_of key ≡ given key → length key ≡ 9
nine_bytes key is = by (ℕ_discrete (length key) 9)
  where
    by : Dec (length key ≡ 9) → length key ≡ 9
    by (yes h) = h
    by (no h) = given_not (sym is ∙ key_length key h)

-- and these are the key
pub nine_is : (key nine : List ℕ) → key_of key ≡ given key → nine ≡ bytes_at 9 0 key → nine ≡ key
nine_is key nine is read = read ∙ bytes_at_all 9 key (nine_bytes key is)

-- whether it is held, by where it is found
module _ (held : keys.View) (key nine : List ℕ) (same : nine ≡ key) (p : Maybe ℕ) (found : p ≡ place_of nine held.keys) where
  there : place_of key held.keys ≡ p
  there = ap (λ (k : List ℕ). place_of k held.keys) (sym same) ∙ sym found

  pub is_held_lem : {i : ℕ} → p ≡ Some i → is_held key held ≡ true
  is_held_lem {i} e = at_held key held.keys i (there ∙ e)

  pub not_held : p ≡ None → is_held key held ≡ false
  not_held e = nothing_held key held.keys (there ∙ e)
