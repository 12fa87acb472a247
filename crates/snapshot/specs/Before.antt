-- The reader of the boxes before document 02's request 6, as it was: it knows kind 01 alone. It serves one law, that such a box refuses every
-- text of kind 11 at its first line, and nothing is computed by it.
use Rattle.std.specs.Prelude.{ℕ, Bool, cond, ◌&&◌, List, eqb, leb, get_or, take, drop}
use Rattle.snapshot.specs.Load.{Loading, bad_line, is_frame, frame_of, after_frame, keys_of}

unfoldable pub is_header_before : List ℕ → Bool
is_header_before text = is_frame 66 text && eqb (get_or (frame_of 66 text) 0 0) 1 && leb (get_or (frame_of 66 text) 65 0) 240

unfoldable pub load_before : List ℕ → Loading
load_before text =
    cond (is_header_before text)
    (keys_of (take 32 (drop 1 (frame_of 66 text))) (take 32 (drop 33 (frame_of 66 text))) 2 0 (get_or (frame_of 66 text) 65 0) (after_frame 66 text))
    (bad_line 1)
