-- One call of the box: storing, removing and reloading at the box's limit, on views. A refused call leaves the view as it was. Where the
-- payload of stored content stands is no part of demand 3.
use Rattle.std.specs.Prelude.{cond}
use Rattle.refusal.specs.Says.{only, at_line}
use Rattle.runs.specs.Views.{View, Answer, store, remove, reload, refused, stored, evicted, removed, reloaded}
use Rattle.runs.specs.Runs.{Step}
use Rattle.key_index.specs.View.{key_limit}
use Rattle.key_index.specs.Good.{good}
use Rattle.key_store.specs.Store.{Storing, store_of}
use Rattle.key_remove.specs.Remove.{Removing, remove_of}
use Rattle.snapshot.specs.Load.{Loading, bad_line, loaded, load_of}
use Rattle.demands.specs.Box.{grouped, spread}
use Rattle.demands.specs.Setting.{box}

abbrev pub after_store : View box → Storing → View box × Answer box
after_store v (Storing.refused says) = (v, refused says)
after_store v (Storing.stored payload w) = (grouped w, stored)
after_store v (Storing.evicted payload key w) = (grouped w, evicted key)

abbrev pub after_remove : View box → Removing → View box × Answer box
after_remove v (Removing.refused says) = (v, refused says)
after_remove v (Removing.removed w) = (grouped w, removed)

abbrev pub after_reload : View box → Loading → View box × Answer box
after_reload v (bad_line line) = (v, refused (at_line 14 line))
after_reload v (loaded w) = (grouped w, reloaded)

abbrev pub step : Step box
step v (store raw brought) = after_store v (store_of key_limit (spread v) raw.bytes brought.content brought.newest)
step v (remove raw) = after_remove v (remove_of key_limit (spread v) raw.bytes)
step v (reload text) = cond (good key_limit (spread v)) (after_reload v (load_of text)) (v, refused (only 0))
