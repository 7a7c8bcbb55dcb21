-- The values of a module's loads, one load after another.
use Rattle.std.proofs.Common.{◌≡◌, ℕ, ◌+◌, ◌<◌, ◌≤◌, List, [], ◌∷◌, ◌++◌, length, map, drop, get_or, Option, Some, None, Result, Ok, Err, sym, ap, subst, ◌∙◌}
use Rattle.std.specs.declared.sync.Arc.{Arc}
use Rattle.std.specs.declared.alloc.Global.{Global}
use Rattle.std.proofs.lemmas.List.{map_push}
use Rattle.bq_load_order.specs.declared.outcome.Outcome.{Outcome}
use Rattle.bq_load_order.specs.Outcome.{load_values}
use Rattle.bq_load_order.specs.SharedOutcomes.{seen_value, slot, value_in}
use Rattle.bq_load_order.specs.Slots.{found_at, or_failed}
use Rattle.bq_load_order.proofs.Values.{before, values_begin, values_next, values_stop, values_end}
use Rattle.bq_load_order.proofs.Filled.{slot_read}

module _ {M N V F : Type 0} (see : M → V) (see_fault : N → F) (found : List (Option (Outcome (Arc M Global) (Arc N Global)))) (loads : List ℕ) where
  abbrev meant : Arc M Global → V
  meant a = see a.value

  abbrev all : List ℕ → Result (List V) ℕ
  all = load_values (found_at (map (slot see see_fault) found))

  -- these are the values of the first i loads
  abbrev pub Imported : ℕ → List (Arc M Global) → Type 0
  Imported i vs = all loads ≡ before (map (λ a. see a.value) vs) (all (drop i loads))

  pub imports_begin : (vs : List (Arc M Global)) → vs ≡ [] → Imported 0 vs
  imports_begin vs e = subst (Imported 0) (sym e) (values_begin (found_at (map (slot see see_fault) found)) loads)

  -- what the slot of a load says of its value
  value_at : (l : ℕ) → l < length found → (s : Option (Outcome (Arc M Global) (Arc N Global))) → s ≡ get_or found l s
      → (r : Option (Arc M Global)) → seen_value see r ≡ value_in (or_failed (slot see see_fault s)) → value_in (found_at (map (slot see see_fault) found) l) ≡ seen_value see r
  value_at l known s read r e = ap (λ o. value_in (or_failed o)) (slot_read see see_fault found l s known read) ∙ sym e

  pub imports_next : (i : ℕ) (old new : List (Arc M Global)) (a : Arc M Global) → i < length loads → get_or loads i 0 < length found
      → (s : Option (Outcome (Arc M Global) (Arc N Global))) → s ≡ get_or found (get_or loads i 0) s
      → (r : Option (Arc M Global)) → seen_value see r ≡ value_in (or_failed (slot see see_fault s)) → r ≡ Some a → new ≡ old ++ a ∷ [] → Imported i old → Imported (i + 1) new
  imports_next i old new a h known s read r e is more so =
      let value : value_in (found_at (map (slot see see_fault) found) (get_or loads i 0)) ≡ Some (see a.value) = value_at (get_or loads i 0) known s read r e ∙ ap (seen_value see) is in
      subst (Imported (i + 1)) (sym more)
      (values_next (found_at (map (slot see see_fault) found)) loads i (map meant old) (see a.value) h value so
      ∙ ap (λ vs. before vs (all (drop (i + 1) loads))) (sym (map_push meant old a)))

  pub imports_stop : (i : ℕ) (old : List (Arc M Global)) → i < length loads → get_or loads i 0 < length found
      → (s : Option (Outcome (Arc M Global) (Arc N Global))) → s ≡ get_or found (get_or loads i 0) s
      → (r : Option (Arc M Global)) → seen_value see r ≡ value_in (or_failed (slot see see_fault s)) → r ≡ None → Imported i old → Err (get_or loads i 0) ≡ all loads
  imports_stop i old h known s read r e is so =
      sym (values_stop (found_at (map (slot see see_fault) found)) loads i (map meant old) h (value_at (get_or loads i 0) known s read r e ∙ ap (seen_value see) is) so)

  pub imports_end : (i : ℕ) (old : List (Arc M Global)) → length loads ≤ i → Imported i old → Ok (map (λ a. see a.value) old) ≡ all loads
  imports_end i old h so = sym (values_end (found_at (map (slot see see_fault) found)) loads i (map meant old) h so)
