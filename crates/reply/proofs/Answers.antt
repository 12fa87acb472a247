-- What each way out of a function answers and leaves: a refusal with the buffer as it was, or messages at its front. Assumes nothing.
use Prim.Native.Nat.{ℕ, ◌≤◌, ◌<◌}
use mathlib.Core.Path.{◌≡◌, refl, sym, ap, ap₂, subst, ◌∙◌}
use mathlib.Core.Bool.{Bool, true, false, cond}
use mathlib.Core.List.{List, [], ◌∷◌, ◌++◌}
use lib.Dec.{ltb}
use lib.ListN.{length, drop, replicate}
use borrow.Author.Tests.{lt-ltb, le-ltb}
use Rattle.refusal.specs.Says.{says_of}
use Rattle.refusal.specs.Outcome.{Outcome, given, refusal, refused, outcome_of, map_outcome}
use Rattle.refusal.specs.Buffer.{Writes}
use Rattle.refusal.proofs.Outcomes.{given_not}
use Rattle.refusal.specs.declared.Refusal.{Refusal}
use Rattle.std.specs.Prelude.{Result, Ok, Err}
use Rattle.message.specs.Values.{Message}
use Rattle.message.specs.Encode.{encode}
use Rattle.message.specs.Rules.{rules_of}
use Rattle.message_write.specs.Write.{bytes_for}
use Rattle.replies.specs.Reply.{bytes_of, in_room}
use Rattle.reply.specs.Answer.{told_of, size_of, Replies}
use Rattle.reply.specs.Ready.{Sent, one_of}
use Rattle.reply.specs.declared.Messages.{Messages}
use Rattle.reply.proofs.Sending.{bytes_one}

-- the same messages are due
pub replies_as : {o o' : Outcome (List Message)} {r : Result Messages Refusal} {d a : List ℕ} → Replies o' r d a → o ≡ o' → Replies o r d a
replies_as {r = r} {d = d} {a = a} p e = subst (λ (k : Outcome (List Message)). Replies k r d a) (sym e) p

-- a refusal leaves the buffer as it was
pub refused_replies : {o : Outcome (List Message)} {r : Result Messages Refusal} (right : Refusal) (d : List ℕ) → r ≡ Err right → o ≡ refusal (says_of right)
    → Replies o r d d
refused_replies right d is e = replies_as (record { answered = ap outcome_of is; buffer = refl }) e

-- messages have room, or not
module _ (ms : List Message) (room : ℕ) where
  pub room_short : room < length (bytes_of ms) → in_room room (given ms) ≡ refused 13
  room_short h = rw (lt-ltb room (length (bytes_of ms)) h)

  pub room_fits : length (bytes_of ms) ≤ room → in_room room (given ms) ≡ given ms
  room_fits h = rw (le-ltb room (length (bytes_of ms)) h)

-- messages that are written
pub sent_replies : {before after : List ℕ} {r : Result Messages Refusal} (ms : List Message) → length (bytes_of ms) ≤ length before → (m : Messages)
    → r ≡ Ok m → m.count ≡ length ms → Sent ms m.lens before after → Replies (in_room (length before) (given ms)) r before after
sent_replies {before} ms h m is n s =
    replies_as
    (record {
      answered = ap outcome_of is ∙ ap₂ (λ (k : ℕ) (l : List ℕ). given (record { count = k; lens = l })) n s.sizes;
      buffer = s.buffer;
    })
    (room_fits ms (length before) h)

-- one message that is written, or for which there is no room
module _ (m : Message) (rules : rules_of m ≡ given m) (small : size_of m ≤ 1280) where
  due : (t : Bool) (w : Result ℕ Refusal) (before after : List ℕ) → Writes (cond t (refused 13) (given (encode m))) w before after
      → Replies (cond t (refused 13) (given (m ∷ []))) (one_of w) before after
  due true (Ok n) before after p = given_not p.answered
  due true (Err why) before after p = record { answered = ap (map_outcome (λ (n : ℕ). told_of [])) p.answered; buffer = p.buffer }
  due false (Ok n) before after p =
      let e : n ≡ size_of m = cc in
      record {
        answered = ap (λ (k : ℕ). given (record { count = 1; lens = k ∷ replicate 32 0 })) e;
        buffer = p.buffer ∙ ap (λ (l : List ℕ). l ++ drop (length l) before) (sym (bytes_one m));
      }
  due false (Err why) before after p = given_not (sym p.answered)

  pub one_replies : {before after : List ℕ} {w : Result ℕ Refusal} {r : Result Messages Refusal} → Writes (bytes_for m (length before)) w before after → r ≡ one_of w
      → Replies (in_room (length before) (given (m ∷ []))) r before after
  one_replies {before} {after} {w} {r} p is =
      let room = length before in
      let b : bytes_for m room ≡ cond (ltb room (size_of m)) (refused 13) (given (encode m)) = rw (rules, le-ltb 1280 (size_of m) small) in
      replies_as
      (subst (λ (x : Result Messages Refusal). Replies (cond (ltb room (size_of m)) (refused 13) (given (m ∷ []))) x before after) (sym is)
      (due (ltb room (size_of m)) w before after (subst (λ (o : Outcome (List ℕ)). Writes o w before after) b p)))
      (ap (λ (l : List ℕ). cond (ltb room (length l)) (refused 13) (given (m ∷ []))) (bytes_one m))
