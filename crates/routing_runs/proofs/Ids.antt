-- The rules of a table but for its failures and records speak of ids alone: what happens to them where an id comes, leaves, or moves. Assumes nothing.
use Prim.Native.Nat.{ℕ, suc, ◌+◌, ◌≤◌, ◌<◌}
use native.Mathlib.Decide.{ℕ_discrete}
use native.Mathlib.Omega.{arith}
use mathlib.Core.Path.{◌≡◌, sym, ap, subst, ◌∙◌}
use mathlib.Core.Logic.{⊎_elim}
use mathlib.Core.List.Memᴰ
use mathlib.Core.List.{List, [], ◌∷◌, ◌++◌, map-append, append_assoc}
use lib.ListN.{length, length-append}
use lib.Seq.{append_snoc}
use Rattle.distance.specs.Distance.{log_distance_of}
use Rattle.nearest.proofs.Lists.{middle_among, middle_self, length_middle}
use Rattle.routing_table.specs.View.{logs_of}
use Rattle.routing_table.specs.Places.{count_of}
use Rattle.routing_table.specs.Rules.{◌among◌, Different}
use Rattle.routing_table.proofs.Counts.{count_none, count_same, count_other, count_append}
use Rattle.routing_runs.proofs.Distinct.{different_out, different_in, different_end, different_behind}

-- our own id, the entries' ids, the replacements' ids
pub record IdRules (own : List ℕ) (es cs : List (List ℕ)) : Type 0 where
  pub entries_most : length es ≤ 128
  pub entries_each : (d : ℕ) → count_of d (logs_of own es) ≤ 16
  pub replacements_most : length cs ≤ 16
  pub replacements_each : (d : ℕ) → count_of d (logs_of own cs) ≤ 4
  pub full : (id : List ℕ) → id among cs → count_of (log_distance_of own id) (logs_of own es) ≡ 16
  pub different : Different (own ∷ es ++ cs)

module _ (own : List ℕ) where
  abbrev log : List ℕ → ℕ
  log id = log_distance_of own id

  -- how many of the ids are of a log distance
  abbrev often : ℕ → List (List ℕ) → ℕ
  often d ids = count_of d (logs_of own ids)

  often_append : (d : ℕ) (xs ys : List (List ℕ)) → often d (xs ++ ys) ≡ often d xs + often d ys
  often_append d xs ys = ap (count_of d) (map-append (log_distance_of own) xs ys) ∙ count_append d (logs_of own xs) (logs_of own ys)

  -- an id of the log distance counts, and no other
  often_same : (d : ℕ) (id : List ℕ) → d ≡ log id → often d (id ∷ []) ≡ 1
  often_same d id e = count_same d (log id) [] e ∙ ap suc (count_none d)

  often_other : (d : ℕ) (id : List ℕ) → (d ≡ log id → ⊥) → often d (id ∷ []) ≡ 0
  often_other d id n = count_other d (log id) [] n ∙ count_none d

  -- wherever it stands
  often_middle : (d : ℕ) (xs : List (List ℕ)) (id : List ℕ) (ys : List (List ℕ)) → often d (xs ++ id ∷ ys) ≡ often d (id ∷ []) + often d (xs ++ ys)
  often_middle d xs id ys = omega (arith, often_append d xs (id ∷ ys), often_append d (id ∷ []) ys, often_append d xs ys)

  -- an id more at the end keeps a limit that was not reached
  often_room : (most : ℕ) (xs : List (List ℕ)) (id : List ℕ) → ((d : ℕ) → often d xs ≤ most) → often (log id) xs < most
      → (d : ℕ) → often d (xs ++ id ∷ []) ≤ most
  often_room most xs id each room d = go (ℕ_discrete d (log id))
    where
      go : Dec (d ≡ log id) → often d (xs ++ id ∷ []) ≤ most
      go (yes e) =
          let r : often d xs < most = subst (λ (n : ℕ). often n xs < most) (sym e) room in
          omega (arith, often_append d xs (id ∷ []), often_same d id e)
      go (no n) = omega (arith, often_append d xs (id ∷ []), often_other d id n, each d)

  module _ {es : List (List ℕ)} where
    -- a replacement leaves
    pub leaves : (front : List (List ℕ)) (x : List ℕ) (back : List (List ℕ)) → IdRules own es (front ++ x ∷ back) → IdRules own es (front ++ back)
    leaves front x back r = record {
      entries_most = r.entries_most;
      entries_each = r.entries_each;
      replacements_most = omega (arith, r.replacements_most, length_middle front x back);
      replacements_each = λ d. omega (arith, r.replacements_each d, often_middle d front x back);
      full = λ id m. r.full id (middle_among front x back m);
      different = (different_behind (own ∷ es) front x back r.different).1;
    }

    -- a newcomer waits
    pub waits : {cs : List (List ℕ)} (id : List ℕ) → IdRules own es cs → ¬ (id among (own ∷ es ++ cs)) → 16 ≤ often (log id) es
        → often (log id) cs < 4 → length cs < 16 → IdRules own es (cs ++ id ∷ [])
    waits {cs} id r n f each most = record {
      entries_most = r.entries_most;
      entries_each = r.entries_each;
      replacements_most = omega (arith, length-append cs (id ∷ []));
      replacements_each = often_room 4 cs id r.replacements_each each;
      full = λ j m. ⊎_elim (r.full j) (full_same j) (Memᴰ.append_cases cs m);
      different = subst Different (append_assoc (own ∷ es) cs (id ∷ [])) (different_end (own ∷ es ++ cs) id n r.different);
    }
      where
        full_same : (j : List ℕ) → j among (id ∷ []) → often (log j) es ≡ 16
        full_same j m =
            subst (λ (i : List ℕ). often (log i) es ≡ 16) (sym (Memᴰ.eq_of_singleton m)) (omega (arith, r.entries_each (log id)))

    -- a replacement leaves and another of its log distance waits
    pub instead : (front : List (List ℕ)) (x : List ℕ) (back : List (List ℕ)) (id : List ℕ) → IdRules own es (front ++ x ∷ back) → log x ≡ log id
        → ¬ (id among (own ∷ es ++ (front ++ back))) → IdRules own es (front ++ back ++ id ∷ [])
    instead front x back id r e n =
        let f : often (log id) es ≡ 16 = subst (λ (d : ℕ). often d es ≡ 16) e (r.full x (middle_self front x back)) in
        waits id (leaves front x back r) n (omega arith)
        (omega (arith, r.replacements_each (log id), often_middle (log id) front x back, often_same (log id) x (sym e)))
        (omega (arith, r.replacements_most, length_middle front x back))

    -- a newcomer becomes an entry
    pub enters : {cs : List (List ℕ)} (id : List ℕ) → IdRules own es cs → ¬ (id among (own ∷ es ++ cs)) → often (log id) es < 16 → length es < 128
        → IdRules own (es ++ id ∷ []) cs
    enters {cs} id r n each most = record {
      entries_most = omega (arith, length-append es (id ∷ []));
      entries_each = often_room 16 es id r.entries_each each;
      replacements_most = r.replacements_most;
      replacements_each = r.replacements_each;
      full = λ j m.
          omega (arith, r.full j m, often_append (log j) es (id ∷ []), often_other (log j) id (apart j (r.full j m)));
      different = subst Different (sym (append_snoc (own ∷ es) id cs)) (different_in (own ∷ es) id cs n r.different);
    }
      where
        apart : (j : List ℕ) → often (log j) es ≡ 16 → log j ≡ log id → ⊥
        apart j f e = let g : often (log id) es ≡ 16 = subst (λ (d : ℕ). often d es ≡ 16) e f in omega arith

  -- an entry leaves and a replacement of its log distance has its place
  module _ (front : List (List ℕ)) (x : List ℕ) (back ahead : List (List ℕ)) (y : List ℕ) (behind : List (List ℕ)) where
    logs_stay : log y ≡ log x → logs_of own (front ++ y ∷ back) ≡ logs_of own (front ++ x ∷ back)
    logs_stay e =
        map-append (log_distance_of own) front (y ∷ back) ∙ ap (λ (d : ℕ). logs_of own front ++ d ∷ logs_of own back) e
        ∙ sym (map-append (log_distance_of own) front (x ∷ back))

    ids_stay : Different (own ∷ (front ++ x ∷ back) ++ (ahead ++ y ∷ behind)) → Different (own ∷ (front ++ y ∷ back) ++ (ahead ++ behind))
    ids_stay d =
        let rest = back ++ (ahead ++ behind) in
        let a = different_behind (own ∷ front ++ x ∷ back) ahead y behind d in
        let b = different_out (own ∷ front) x rest (subst Different (append_assoc (own ∷ front) (x ∷ back) (ahead ++ behind)) a.1) in
        subst Different (sym (append_assoc (own ∷ front) (y ∷ back) (ahead ++ behind)))
        (different_in (own ∷ front) y rest
        (λ m. a.0 (subst (λ (l : List (List ℕ)). y among l) (sym (append_assoc (own ∷ front) (x ∷ back) (ahead ++ behind))) (middle_among (own ∷ front) x rest m)))
        b.1)

    pub exchange : IdRules own (front ++ x ∷ back) (ahead ++ y ∷ behind) → log y ≡ log x → IdRules own (front ++ y ∷ back) (ahead ++ behind)
    exchange r e =
        let s = leaves ahead y behind r in
        record {
          entries_most = omega (arith, s.entries_most, length_middle front x back, length_middle front y back);
          entries_each = λ d. subst (λ (l : List ℕ). count_of d l ≤ 16) (sym (logs_stay e)) (s.entries_each d);
          replacements_most = s.replacements_most;
          replacements_each = s.replacements_each;
          full = λ id m. ap (count_of (log id)) (logs_stay e) ∙ s.full id m;
          different = ids_stay r.different;
        }
