-- What a file gets of the modules that it loads, one load after another, by the places of the files that its loads name.
use Rattle.std.proofs.Common.{◌≡◌, ◌∙◌, ◌+◌, ◌<◌, ◌≤◌, ℕ, List, [], ◌∷◌, Option, None, Some, Result, Ok, Err, length, drop, get_or, slice_get, refl, sym, ap, inr}
use Rattle.std.specs.Prelude.{option_and_then}
use Rattle.std.specs.List.{Contains}
use Rattle.std.proofs.lemmas.List.{drop_more}
use Rattle.std.proofs.lemmas.Option.{slice_get_within, get_or_from_slice_get}
use Rattle.std.proofs.Math.ListN.{drop_of_length-le}
use Rattle.bq_base.specs.declared.fault.LoadFault.{LoadFault}
use Rattle.bq_base.specs.declared.fault.Fault.{Fault}
use Rattle.bq_label.specs.Label.{LabelParts}
use Rattle.bq_label_set.specs.Labels.{with_labels}
use Rattle.bq_label_set.proofs.Added.{each_label_once, the_labels_added}
use Rattle.bq_label_set.proofs.Numbers.{the_number}
use Rattle.bq_resolve_scope.specs.declared.loads.LoadStmt.{LoadStmt}
use Rattle.bq_value.specs.Datum.{Datum}
use Rattle.bq_load_front.specs.Resolved.{◌>>=◌}
use Rattle.bq_load_front.specs.NamedFiles.{place_named}
use Rattle.bq_load_discover.specs.Edges.{number_in}
use Rattle.bq_load_discover.proofs.Lists.{place_of}
use Rattle.bq_load_discover.proofs.Steps.{none_further}
use Rattle.bq_load.specs.Views.{ModuleView}
use Rattle.bq_load.specs.Imports.{LoadedParts, clause_values, imports, module_named}

-- what stands at a place is the first of what is left from there on
pub drop_at : {X : Type 0} (xs : List X) (i : ℕ) (x : X) → slice_get xs i ≡ Some x → drop i xs ≡ x ∷ drop (i + 1) xs
drop_at {X} xs i x e = drop_more xs i x (slice_get_within xs i x e) ∙ ap (λ (z : X). z ∷ drop (i + 1) xs) (get_or_from_slice_get xs i x x e)

named_at : (f : LabelParts → Option ℕ) (o : Option LabelParts) (p : ℕ) → Some p ≡ option_and_then f o → (l : LabelParts) × (o ≡ Some l) × (f l ≡ Some p)
named_at f None p e = absurd (cc)
named_at f (Some l) p e = (l, refl, sym e)

has_place : (ls : List LabelParts) (l : LabelParts) → Contains ls l → None ≡ number_in (with_labels [] ls) l → ⊥
has_place ls l c none =
    let p = place_of (with_labels [] ls) l ((the_labels_added [] ls l).1 (inr c)) in
    let is : number_in (with_labels [] ls) l ≡ Some p.0 = the_number (with_labels [] ls) l p.0 (each_label_once ls) p.1 in
    let no : None ≡ Some p.0 = none ∙ is in
    cc

-- a load that names no file is past the last label
none_left : (ls : List LabelParts) (i : ℕ) (o : Option LabelParts) → slice_get ls i ≡ o → None ≡ option_and_then (number_in (with_labels [] ls)) o → drop i ls ≡ []
none_left ls i None e none = drop_of_length-le ls (none_further ls i e)
none_left ls i (Some l) e none = absurd (has_place ls l (i, slice_get_within ls i l e, get_or_from_slice_get ls i l l e) none)

module _ (x : LoadedParts) (loads : List LoadStmt) (ls : List LabelParts) (files : x.files ≡ with_labels [] ls) (i : ℕ) (s : LoadStmt) (h : i < length loads) (is : s ≡ get_or loads i s) (done : List Datum) (all : Result (List Datum) (Fault LoadFault))
    (before : imports x done (drop i loads) (drop i ls) ≡ all) where
  abbrev rest : List Datum → Result (List Datum) (Fault LoadFault)
  rest vs = imports x vs (drop (i + 1) loads) (drop (i + 1) ls)

  left : drop i loads ≡ s ∷ drop (i + 1) loads
  left = drop_more loads i s h ∙ ap (λ (z : LoadStmt). z ∷ drop (i + 1) loads) (sym is)

  this_load : (place : ℕ) → Some place ≡ place_named ls i → clause_values x.resolved (slice_get x.modules place) s.line done s.clauses >>= rest ≡ all
  unfolding imports module_named
  this_load place at =
      let n = named_at (number_in (with_labels [] ls)) (slice_get ls i) place at in
      let named : module_named x n.0 ≡ slice_get x.modules place =
      ap (λ (z : List LabelParts). option_and_then (slice_get x.modules) (number_in z n.0)) files ∙ ap (option_and_then (slice_get x.modules)) n.2 in
      sym (ap (λ (z : Option ModuleView). clause_values x.resolved z s.line done s.clauses >>= rest) named)
      ∙ (sym (ap (λ (z : List LoadStmt). imports x done z (n.0 ∷ drop (i + 1) ls)) left)
      ∙ (sym (ap (λ (z : List LabelParts). imports x done (drop i loads) z) (drop_at ls i n.0 n.1)) ∙ before))

  -- the clauses of a load have values
  pub next_load : (place : ℕ) → Some place ≡ place_named ls i → (now : List Datum) → clause_values x.resolved (slice_get x.modules place) s.line done s.clauses ≡ Ok now → imports x now (drop (i + 1) loads) (drop (i + 1) ls) ≡ all
  next_load place at now e = sym (ap (λ (z : Result (List Datum) (Fault LoadFault)). z >>= rest) e) ∙ this_load place at

  -- a clause is bad
  pub bad_load : (place : ℕ) → Some place ≡ place_named ls i → (why : Fault LoadFault) → clause_values x.resolved (slice_get x.modules place) s.line done s.clauses ≡ Err why → all ≡ Err why
  bad_load place at why e = sym (this_load place at) ∙ ap (λ (z : Result (List Datum) (Fault LoadFault)). z >>= rest) e

  -- there are no more labels
  pub no_file : None ≡ place_named ls i → all ≡ Ok done
  unfolding imports
  no_file none =
      sym before
      ∙ (ap (λ (z : List LoadStmt). imports x done z (drop i ls)) left ∙ ap (λ (z : List LabelParts). imports x done (s ∷ drop (i + 1) loads) z) (none_left ls i (slice_get ls i) refl none))

-- there are no more loads
pub no_load : (x : LoadedParts) (loads : List LoadStmt) (ls : List LabelParts) (i : ℕ) (done : List Datum) (all : Result (List Datum) (Fault LoadFault)) → length loads ≤ i → imports x done (drop i loads) (drop i ls) ≡ all → all ≡ Ok done
unfolding imports
no_load x loads ls i done all h before = sym before ∙ ap (λ (z : List LoadStmt). imports x done z (drop i ls)) (drop_of_length-le loads h)
