-- The line of the first load of a file, one load after another.
use Rattle.std.proofs.Common.{◌≡◌, ◌∙◌, ◌+◌, ◌<◌, ◌≤◌, ℕ, true, false, List, [], ◌∷◌, None, Some, length, drop, get_or, slice_get, refl, sym, ap}
use Rattle.std.specs.Prelude.{bytes_eq, if◌then◌else◌}
use Rattle.std.proofs.lemmas.List.{drop_more}
use Rattle.std.proofs.Math.ListN.{drop_of_length-le}
use Rattle.bq_label.specs.Label.{LabelParts, full_form}
use Rattle.bq_resolve_scope.specs.declared.loads.LoadStmt.{LoadStmt}
use Rattle.bq_load_discover.proofs.Steps.{none_further}
use Rattle.bq_load.specs.Results.{line_of_load}
use Rattle.bq_load.proofs.Imported.{drop_at}

module _ (l : LabelParts) (loads : List LoadStmt) (ls : List LabelParts) (i : ℕ) (s : LoadStmt) (h : i < length loads) (is : s ≡ get_or loads i s) (all : ℕ) (before : line_of_load l (drop i loads) (drop i ls) ≡ all) where
  left : drop i loads ≡ s ∷ drop (i + 1) loads
  left = drop_more loads i s h ∙ ap (λ (z : LoadStmt). z ∷ drop (i + 1) loads) (sym is)

  this_load : (k : LabelParts) → Some k ≡ slice_get ls i → (if bytes_eq (full_form l) (full_form k) then s.line else line_of_load l (drop (i + 1) loads) (drop (i + 1) ls)) ≡ all
  unfolding line_of_load
  this_load k at =
      sym (ap (λ (z : List LoadStmt). line_of_load l z (k ∷ drop (i + 1) ls)) left) ∙ (sym (ap (λ (z : List LabelParts). line_of_load l (drop i loads) z) (drop_at ls i k (sym at))) ∙ before)

  pub is_named : (k : LabelParts) → Some k ≡ slice_get ls i → bytes_eq (full_form l) (full_form k) ≡ true → s.line ≡ all
  is_named k at same = sym (rw same refl) ∙ this_load k at

  pub is_other : (k : LabelParts) → Some k ≡ slice_get ls i → bytes_eq (full_form l) (full_form k) ≡ false → line_of_load l (drop (i + 1) loads) (drop (i + 1) ls) ≡ all
  is_other k at other = sym (rw other refl) ∙ this_load k at

  pub no_file : None ≡ slice_get ls i → 0 ≡ all
  unfolding line_of_load
  no_file none =
      sym (ap (λ (z : List LabelParts). line_of_load l (s ∷ drop (i + 1) loads) z) (drop_of_length-le ls (none_further ls i (sym none))))
      ∙ (sym (ap (λ (z : List LoadStmt). line_of_load l z (drop i ls)) left) ∙ before)

pub no_load : (l : LabelParts) (loads : List LoadStmt) (ls : List LabelParts) (i : ℕ) (all : ℕ) → length loads ≤ i → line_of_load l (drop i loads) (drop i ls) ≡ all → 0 ≡ all
unfolding line_of_load
no_load l loads ls i all h before = sym (ap (λ (z : List LoadStmt). line_of_load l z (drop i ls)) (drop_of_length-le loads h)) ∙ before
