-- Bytes put into a buffer: where they have room, no bytes, and one part behind another. Assumes nothing.
use Prim.Native.Nat.{ℕ, ◌+◌, ◌≤◌}
use native.Mathlib.Numerals.{unary_clauses}
use native.Mathlib.Omega.{arith}
use mathlib.Core.Path.{◌≡◌, refl, sym, ap, ap₂, ◌∙◌}
use mathlib.Core.List.{List, [], ◌++◌, append_assoc, append-nil}
use lib.ListN.{length, take, drop, take-append-drop, length-append, length-drop}
use lib.Seq.{length-take-le, take_at, drop_at, drop-drop}
use Rattle.octets.specs.Buffer.{placed}
use Rattle.octets.proofs.Buffers.{placed_room}
use Rattle.message_write.specs.Parts.{Put}

-- bytes placed where they have room
pub put_placed : (d : List ℕ) (at : ℕ) (bytes after : List ℕ) → at + length bytes ≤ length d → after ≡ placed d at bytes → Put d at bytes after
put_placed d at bytes after room is =
    let value : after ≡ take at d ++ bytes ++ drop (at + length bytes) d = is ∙ placed_room d at bytes room in
    record {
      fits = room;
      kept = omega (
        arith,
        ap length value,
        length-append (take at d ++ bytes) (drop (at + length bytes) d),
        length-append (take at d) bytes,
        length-take-le at d (omega arith),
        length-drop (at + length bytes) d,
      );
      value = value;
    }

-- nothing is put
pub put_none : (d : List ℕ) (at : ℕ) → at ≤ length d → Put d at [] d
put_none d at room =
    record { fits = omega arith; kept = refl; value = simp (append-nil, unary_clauses) (sym (take-append-drop at d)) }

-- one part behind another
pub put_more : (d : List ℕ) (at : ℕ) (w m : List ℕ) → Put d at w m → (to : ℕ) → to ≡ at + length w → (v a : List ℕ) → Put m to v a
    → Put d at (w ++ v) a
put_more d at w m p to is v a q =
    record {
      fits = omega (arith, both, p.kept, q.fits);
      kept = q.kept ∙ p.kept;
      value = q.value
          ∙ ap₂ (λ (x y : List ℕ). x ++ v ++ y) head tail
          ∙ ap (λ (l : List ℕ). l ++ drop (at + length (w ++ v)) d) (append_assoc (take at d) w v);
    }
  where
    both : length (w ++ v) ≡ length w + length v
    both = length-append w v

    front : length (take at d ++ w) ≡ to
    front = omega (arith, length-append (take at d) w, length-take-le at d (omega (arith, p.fits)), is)

    head : take to m ≡ take at d ++ w
    head = ap (take to) p.value ∙ take_at (take at d ++ w) (drop (at + length w) d) to front

    tail : drop (to + length v) m ≡ drop (at + length (w ++ v)) d
    tail =
        let sum : at + length w + length v ≡ at + length (w ++ v) = omega (arith, both) in
        sym (drop-drop (length v) to m)
        ∙ ap (drop (length v)) (ap (drop to) p.value ∙ drop_at (take at d ++ w) (drop (at + length w) d) to front)
        ∙ drop-drop (length v) (at + length w) d
        ∙ ap (λ (k : ℕ). drop k d) sum
