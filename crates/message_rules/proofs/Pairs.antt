-- The search for two equal records among those at some places: the laws of `octets/proofs/Pairs.antt`, where two records are compared as
-- parts of the bytes. Assumes nothing.
use Prim.Native.Nat.{ℕ, ◌<◌, ◌≤◌, ◌+◌}
use mathlib.Core.Path.{◌≡◌, refl, sym, ap, ap₂, ◌∙◌}
use mathlib.Core.Bool.{Bool, true, false, not}
use mathlib.Core.List.{List, []}
use lib.ListN.{get_or}
use Rattle.octets.proofs.Pairs as pairs
use Rattle.message.specs.Rules.{same_bytes, all_different}
use Rattle.message.specs.Reading.{records_of_places}
use Rattle.message.specs.declared.Places.{Places}
use Rattle.message_rules.proofs.Places.{between, part_between, records_length, record_at_lem}

-- before a row, and inside one
abbrev pub Clear : List (List ℕ) → ℕ → ℕ → Type 0
Clear rs n i = pairs.Clear same_bytes rs n i

abbrev pub Row : List (List ℕ) → ℕ → ℕ → ℕ → Type 0
Row rs n i j = pairs.Row same_bytes [] rs n i j

-- the records at some places
module _ (s : List ℕ) (places : Places) where
  abbrev starts : List ℕ
  starts = places.starts

  abbrev lens : List ℕ
  lens = places.lens

  abbrev n : ℕ
  n = places.count

  abbrev pub records : List (List ℕ)
  records = records_of_places s places

  -- before the first row
  pub clear_start : Clear records n 0
  clear_start = pairs.clear_start same_bytes [] records n (records_length s starts lens n) 0 refl

  module _ (i : ℕ) (c : Clear records n i) where
    -- after the last row no two are equal
    pub clear_end : n ≤ i → false ≡ not (all_different same_bytes records)
    clear_end h = sym (ap not (pairs.clear_end same_bytes [] records n i c h))

    -- before the first record of a row
    pub row_start : i < n → Row records n i (i + 1)
    row_start h = pairs.row_start same_bytes [] records n i c h

  module _ (i j : ℕ) (r : Row records n i j) where
    -- after the last record of a row
    pub row_end : n ≤ j → Clear records n (i + 1)
    row_end h = pairs.row_end same_bytes [] records n i j r h

    -- a comparison of two records
    module _ (h : j < n) (b : Bool)
        (is : b ≡ same_bytes (between s (get_or starts i 0) (get_or lens i 0)) (between s (get_or starts j 0) (get_or lens j 0))) where
      compared : same_bytes (get_or records i []) (get_or records j []) ≡ b
      compared =
          ap₂ same_bytes
          (record_at_lem s starts lens n i r.here ∙ sym (part_between s (get_or starts i 0) (get_or lens i 0)))
          (record_at_lem s starts lens n j h ∙ sym (part_between s (get_or starts j 0) (get_or lens j 0)))
          ∙ sym is

      -- they differ: the rest of the row is left
      pub row_next : b ≡ false → Row records n i (j + 1)
      row_next e = pairs.row_next same_bytes [] records n i j r h (compared ∙ e)

      -- they are equal: the search is over
      pub pair_found : b ≡ true → (found : Bool) → found ≡ true → found ≡ not (all_different same_bytes records)
      pair_found e found told = told ∙ sym (ap not (pairs.pair_found same_bytes [] records n i j r h (compared ∙ e)))
