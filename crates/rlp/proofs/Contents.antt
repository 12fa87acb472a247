-- What content comes to, by what RLP writes. It is accepted exactly when it is the header of a payload's length and then that payload, at the
-- place that is given; it ends early exactly when it is not empty, not acceptable, and some bytes more would make it acceptable; all else is
-- wrong. Assumes nothing.
use Prim.Native.Nat.{ℕ, ◌+◌, ◌-◌, ◌≤◌, ◌<◌}
use native.Mathlib.Decide.{dec_lt}
use native.Mathlib.Omega.{arith}
use mathlib.Core.List.{List, [], ◌∷◌, ◌++◌, append_assoc}
use mathlib.Core.Logic.{◌⊎◌, ◌↔◌, inl, inr, ⊎_elim}
use mathlib.Core.Path.{◌≡◌, refl, sym, ap, ap₂, subst, ◌∙◌}
use lib.ListN.{length, drop, replicate, length-append, length-drop, length-replicate}
use lib.Seq.{take_all}
use Rattle.refusal.specs.Says.{Said, only}
use Rattle.refusal.specs.Outcome.{Outcome, given, refusal, refused}
use Rattle.refusal.proofs.Outcomes.{given_not}
use Rattle.octets.specs.Bytes.{Bytes}
use Rattle.octets.proofs.Numbers.{bytes_append, bytes_replicate}
use Rattle.rlp.specs.Content.{Header, Wrong, Cut, Whole, place, header_in, content_of}
use Rattle.rlp.specs.Written.{header_of, payload_in, Placed, Acceptable, Completes, EndsEarly, IsWrong}
use Rattle.rlp.specs.declared.Payload.{Payload}
use Rattle.rlp.proofs.Cases.{first_none, filled_early, filled_over, filled_whole, content_by_lem}
use Rattle.rlp.proofs.Headers.{never, header_more, header_within, header_written, written_header, header_cut}

-- content, and what it comes to
data Examines (s : List ℕ) : Outcome Payload → Type 0 where
  wrong : header_in s ≡ Wrong → Examines s (refused 9)
  cut : header_in s ≡ Cut → Examines s (refused 16)
  early : (p : Payload) → header_in s ≡ Whole p → length s < p.start + p.len → Examines s (refused 16)
  over : (p : Payload) → header_in s ≡ Whole p → p.start + p.len < length s → Examines s (refused 9)
  fits : (p : Payload) → header_in s ≡ Whole p → length s ≡ p.start + p.len → Examines s (given p)

-- content with a whole header, by its length
module _ (s : List ℕ) (p : Payload) (e : header_in s ≡ Whole p) where
  content_early : length s < p.start + p.len → content_of s ≡ refused 16
  content_early h = let w = header_within s p e in content_by_lem s (Whole p) e ∙ filled_early p (length s - p.start) (omega arith)

  content_over : p.start + p.len < length s → content_of s ≡ refused 9
  content_over h = content_by_lem s (Whole p) e ∙ filled_over p (length s - p.start) (omega arith)

  content_fits : length s ≡ p.start + p.len → content_of s ≡ given p
  content_fits h = content_by_lem s (Whole p) e ∙ filled_whole p (length s - p.start) (omega arith)

-- all content is one of these
examines : (s : List ℕ) → Examines s (content_of s)
examines s = by (header_in s) refl
  where
    sized : (p : Payload) → header_in s ≡ Whole p → Dec (length s < p.start + p.len) → Dec (p.start + p.len < length s) → Examines s (content_of s)
    sized p e (yes h) d = subst (Examines s) (sym (content_early s p e h)) (early p e h)
    sized p e (no h) (yes l) = subst (Examines s) (sym (content_over s p e l)) (over p e l)
    sized p e (no h) (no l) = subst (Examines s) (sym (content_fits s p e (omega arith))) (fits p e (omega arith))

    by : (h : Header) → header_in s ≡ h → Examines s (content_of s)
    by Wrong e = subst (Examines s) (sym (content_by_lem s Wrong e)) (wrong e)
    by Cut e = subst (Examines s) (sym (content_by_lem s Cut e)) (cut e)
    by (Whole p) e = sized p e (dec_lt (length s) (p.start + p.len)) (dec_lt (p.start + p.len) (length s))

-- the place that is given is the payload's,
given_placed : (s : List ℕ) → Bytes s → (p : Payload) → content_of s ≡ given p → Placed s p
given_placed s bytes p e = go (examines s) e
  where
    placed : header_in s ≡ Whole p → length s ≡ p.start + p.len → Placed s p
    placed h l =
        let w = header_written s bytes p h in
        let n : length (drop p.start s) ≡ length s - p.start = length-drop p.start s in
        let all : payload_in s p ≡ drop p.start s = take_all p.len (drop p.start s) (omega arith) in
        record {
          whole = w.whole ∙ ap (λ (t : List ℕ). header_of p.len ++ t) (sym all);
          len = ap (length {A = ℕ}) all ∙ omega arith;
          start = w.start;
          small = w.small;
        }

    go : {o : Outcome Payload} → Examines s o → o ≡ given p → Placed s p
    go (wrong h) f = given_not (sym f)
    go (cut h) f = given_not (sym f)
    go (early q h l) f = given_not (sym f)
    go (over q h l) f = given_not (sym f)
    go (fits q h l) f = let same : q ≡ p = cc in placed (h ∙ ap Whole same) (l ∙ ap (λ (r : Payload). r.start + r.len) same)

-- and the payload's place is given
pub placed_given : (s : List ℕ) (p : Payload) → Placed s p → content_of s ≡ given p
placed_given s p d =
    let h : header_in s ≡ Whole p =
    ap header_in d.whole ∙ written_header p.len (payload_in s p) d.small ∙ ap (λ (start : ℕ). Whole (place start p.len)) d.start in
    content_fits s p h
    (ap (length {A = ℕ}) d.whole ∙ length-append (header_of p.len) (payload_in s p) ∙ ap₂ ◌+◌ d.start d.len)

-- content is accepted exactly when it is the header of a payload's length and then that payload, at the place that is given
pub given_iff : (s : List ℕ) → Bytes s → (p : Payload) → (content_of s ≡ given p) ↔ Placed s p
given_iff s bytes p = (given_placed s bytes p, placed_given s p)

-- 16 is not 9
apart : {B : Type 0} → ◌≡◌ {A = Outcome Payload} (refused 16) (refused 9) → B
apart e = absurd (let z : ◌≡◌ {A = ℕ} 16 9 = cc in omega arith)

-- what is not empty has a byte
not_empty : (s : List ℕ) → ¬ (s ≡ []) → 0 < length s
not_empty [] n = absurd (n refl)
not_empty (b ∷ rest) n = omega arith

-- what is wrong stays wrong, whatever follows it
pub wrong_more : (s more : List ℕ) → ¬ (s ≡ []) → content_of s ≡ refused 9 → content_of (s ++ more) ≡ refused 9
wrong_more s more some e = go (examines s) e
  where
    go : {o : Outcome Payload} → Examines s o → o ≡ refused 9 → content_of (s ++ more) ≡ refused 9
    go (wrong h) f = content_by_lem (s ++ more) Wrong (header_more s more Wrong (not_empty s some) h (λ c. never (cc)))
    go (cut h) f = apart f
    go (early p h l) f = apart f
    go (over p h l) f =
        content_over (s ++ more) p (header_more s more (Whole p) (not_empty s some) h (λ c. never (cc))) (omega (arith, length-append s more))
    go (fits p h l) f = given_not f

-- a whole header is completed by zeros
whole_completes : (s : List ℕ) → Bytes s → (p : Payload) → header_in s ≡ Whole p → length s ≤ p.start + p.len
    → Acceptable (s ++ replicate (p.start + p.len - length s) 0)
whole_completes s bytes p e l =
    let w = header_within s p e in
    let more : List ℕ = replicate (p.start + p.len - length s) 0 in
    let n : length more ≡ p.start + p.len - length s = length-replicate (p.start + p.len - length s) 0 in (
      p,
      given_placed (s ++ more) (bytes_append s more bytes (bytes_replicate (p.start + p.len - length s) 0 (omega arith))) p
          (content_fits (s ++ more) p
          (header_more s more (Whole p) (omega arith) e (λ c. never (cc)))
          (omega (arith, length-append s more))),
    )

-- and so is a cut one, once its length bytes are there
cut_completes : (s : List ℕ) → Bytes s → header_in s ≡ Cut → Completes s
cut_completes s bytes e =
    let f = header_cut s e in
    let more = f.more in
    let p = f.payload in
    let zeros : List ℕ = replicate (p.start + p.len - length (s ++ more)) 0 in (
      more ++ zeros,
      bytes_append more zeros f.bytes (bytes_replicate (p.start + p.len - length (s ++ more)) 0 (omega arith)),
      subst Acceptable (append_assoc s more zeros)
          (whole_completes (s ++ more) (bytes_append s more bytes f.bytes) p f.header (omega arith)),
    )

-- content that is refused is not acceptable
refused_not : (s : List ℕ) (n : ℕ) → content_of s ≡ refused n → ¬ Acceptable s
refused_not s n e a = given_not (sym (placed_given s a.0 a.1) ∙ e)

early_ends : (s : List ℕ) → Bytes s → content_of s ≡ refused 16 → EndsEarly s
early_ends s bytes e = record { some = some; not = refused_not s 16 e; more = go (examines s) e }
  where
    some : ¬ (s ≡ [])
    some n = apart (sym e ∙ content_by_lem s Wrong (first_none s (ap (length {A = ℕ}) n)))

    go : {o : Outcome Payload} → Examines s o → o ≡ refused 16 → Completes s
    go (wrong h) f = apart (sym f)
    go (cut h) f = cut_completes s bytes h
    go (early p h l) f =
        (replicate (p.start + p.len - length s) 0, bytes_replicate (p.start + p.len - length s) 0 (omega arith), whole_completes s bytes p h (omega arith))
    go (over p h l) f = apart (sym f)
    go (fits p h l) f = given_not f

-- content gets 16 exactly when it ends early
pub early_iff : (s : List ℕ) → Bytes s → (content_of s ≡ refused 16) ↔ EndsEarly s
early_iff s bytes = (early_ends s bytes, λ h. go h (examines s) refl)
  where
    clash : EndsEarly s → content_of s ≡ refused 9 → ⊥
    clash h e = refused_not (s ++ h.more.0) 9 (wrong_more s h.more.0 h.some e) h.more.2

    go : EndsEarly s → {o : Outcome Payload} → Examines s o → content_of s ≡ o → o ≡ refused 16
    go h (wrong x) e = absurd (clash h e)
    go h (cut x) e = refl
    go h (early p x l) e = refl
    go h (over p x l) e = absurd (clash h e)
    go h (fits p x l) e = absurd (h.not (p, given_placed s bytes p e))

-- and 9 exactly when it is wrong
pub wrong_iff : (s : List ℕ) → Bytes s → (content_of s ≡ refused 9) ↔ IsWrong s
wrong_iff s bytes = (λ e. record { not = refused_not s 9 e; never = never s e }, λ h. go h (examines s) refl)
  where
    never : (l : List ℕ) → content_of l ≡ refused 9 → (l ≡ []) ⊎ (¬ Completes l)
    never [] e = inl refl
    never (b ∷ rest) e = inr (λ c. refused_not ((b ∷ rest) ++ c.0) 9 (wrong_more (b ∷ rest) c.0 (λ n. absurd (omega (arith, ap (length {A = ℕ}) n))) e) c.2)

    clash : IsWrong s → content_of s ≡ refused 16 → ⊥
    clash h e = let f = early_ends s bytes e in ⊎_elim f.some (λ n. n f.more) h.never

    go : IsWrong s → {o : Outcome Payload} → Examines s o → content_of s ≡ o → o ≡ refused 9
    go h (wrong x) e = refl
    go h (cut x) e = absurd (clash h e)
    go h (early p x l) e = absurd (clash h e)
    go h (over p x l) e = refl
    go h (fits p x l) e = absurd (h.not (p, given_placed s bytes p e))

-- so a refusal says 16 or 9 and nothing else
pub refused_by : (s : List ℕ) (says : Said) → content_of s ≡ refusal says → (says ≡ only 16) ⊎ (says ≡ only 9)
refused_by s says e = go (examines s) e
  where
    go : {o : Outcome Payload} → Examines s o → o ≡ refusal says → (says ≡ only 16) ⊎ (says ≡ only 9)
    go (wrong x) f = inr (cc)
    go (cut x) f = inl (cc)
    go (early p x l) f = inl (cc)
    go (over p x l) f = inr (cc)
    go (fits p x l) f = given_not f
