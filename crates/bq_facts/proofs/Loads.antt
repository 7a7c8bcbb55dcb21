-- A list of loads, one load after another.
use Rattle.std.proofs.Common.{◌≡◌, ◌∙◌, ◌+◌, ◌<◌, ◌≤◌, ℕ, zero, suc, Bool, true, false, List, [], ◌∷◌, ◌++◌, None, Some, length, drop, get_or, slice_get, refl, sym, ap, append_assoc, append-nil, arith, ne_eqb}
use Rattle.std.specs.Prelude.{◌==◌, if◌then◌else◌}
use Rattle.std.specs.List.{flat_map, join_by, zip}
use Rattle.std.proofs.lemmas.List.{drop_more}
use Rattle.std.proofs.lemmas.Option.{get_or_from_slice_get, slice_get_within}
use Rattle.std.proofs.Math.ListN.{drop_of_length-le}
use Rattle.bq_label.specs.Label.{LabelParts}
use Rattle.bq_resolve_scope.specs.declared.loads.LoadStmt.{LoadStmt}
use Rattle.bq_package_values.specs.JsonParts.{comma}
use Rattle.bq_facts.specs.ModuleLine.{comma_before, load_object}

-- the loads that are left after so many
abbrev further : List (LoadStmt × LabelParts) → List ℕ
further ps = flat_map (λ p. comma ++ load_object p) ps

abbrev pub left : ℕ → List LoadStmt → List LabelParts → List ℕ
left n loads files = if n == 0 then join_by load_object comma (zip loads files) else further (zip loads files)

-- no place after another is the first
later : (n : ℕ) (loads : List LoadStmt) (files : List LabelParts) → left (n + 1) loads files ≡ further (zip loads files)
later n loads files = ap (λ b. if b then join_by load_object comma (zip loads files) else further (zip loads files)) (ne_eqb (n + 1) 0 (λ e. omega (arith, e)))

more_by : (first : Bool) (p : LoadStmt × LabelParts) (ps : List (LoadStmt × LabelParts))
    → (if first then join_by load_object comma (p ∷ ps) else further (p ∷ ps)) ≡ (if first then [] else comma) ++ (load_object p ++ further ps)
more_by true p ps = refl
more_by false p ps = append_assoc comma (load_object p) (further ps)

left_more : (n : ℕ) (s : LoadStmt) (ss : List LoadStmt) (l : LabelParts) (ls : List LabelParts) → left n (s ∷ ss) (l ∷ ls) ≡ comma_before n ++ (load_object (s, l) ++ left (n + 1) ss ls)
left_more n s ss l ls = more_by (n == 0) (s, l) (zip ss ls) ∙ ap (λ t. comma_before n ++ (load_object (s, l) ++ t)) (sym (later n ss ls))

none_by : (first : Bool) → (if first then join_by load_object comma [] else further []) ≡ []
none_by true = refl
none_by false = refl

left_none : (n : ℕ) (ls : List LabelParts) → left n [] ls ≡ []
left_none n ls = none_by (n == 0)

left_no_file : (n : ℕ) (ss : List LoadStmt) → left n ss [] ≡ []
left_no_file n [] = none_by (n == 0)
left_no_file n (s ∷ ss) = none_by (n == 0)

none_further : {X : Type 0} (xs : List X) (n : ℕ) → slice_get xs n ≡ None → length xs ≤ n
none_further [] n e = omega arith
none_further (x ∷ xs) zero e = absurd (cc)
none_further (x ∷ xs) (suc n) e = let h : length xs ≤ n = none_further xs n e in omega (arith, h)

drop_at : {X : Type 0} (xs : List X) (i : ℕ) (x : X) → slice_get xs i ≡ Some x → drop i xs ≡ x ∷ drop (i + 1) xs
drop_at {X} xs i x e = drop_more xs i x (slice_get_within xs i x e) ∙ ap (λ (z : X). z ∷ drop (i + 1) xs) (get_or_from_slice_get xs i x x e)

module _ (loads : List LoadStmt) (ls : List LabelParts) (i : ℕ) (text all : List ℕ) (before : text ++ left i (drop i loads) (drop i ls) ≡ all) where
  pub next_load : (s : LoadStmt) → i < length loads → s ≡ get_or loads i s → (l : LabelParts) → Some l ≡ slice_get ls i → (with_comma with_load : List ℕ) → with_comma ≡ text ++ comma_before i
      → with_load ≡ with_comma ++ load_object (s, l) → with_load ++ left (i + 1) (drop (i + 1) loads) (drop (i + 1) ls) ≡ all
  next_load s h is l at with_comma with_load e1 e2 =
      let rest = left (i + 1) (drop (i + 1) loads) (drop (i + 1) ls) in
      let these : drop i loads ≡ s ∷ drop (i + 1) loads = drop_more loads i s h ∙ ap (λ (z : LoadStmt). z ∷ drop (i + 1) loads) (sym is) in
      ap (λ t. t ++ rest) (e2 ∙ ap (λ t. t ++ load_object (s, l)) e1)
      ∙ append_assoc (text ++ comma_before i) (load_object (s, l)) rest
      ∙ append_assoc text (comma_before i) (load_object (s, l) ++ rest)
      ∙ ap (λ t. text ++ t) (sym (left_more i s (drop (i + 1) loads) l (drop (i + 1) ls)))
      ∙ ap (λ (z : List LabelParts). text ++ left i (s ∷ drop (i + 1) loads) z) (sym (drop_at ls i l (sym at)))
      ∙ ap (λ (z : List LoadStmt). text ++ left i z (drop i ls)) (sym these)
      ∙ before

  pub no_file : None ≡ slice_get ls i → text ≡ all
  no_file none =
      sym (append-nil text)
      ∙ ap (λ t. text ++ t) (sym (left_no_file i (drop i loads)))
      ∙ ap (λ (z : List LabelParts). text ++ left i (drop i loads) z) (sym (drop_of_length-le ls (none_further ls i (sym none))))
      ∙ before

  pub no_load : length loads ≤ i → text ≡ all
  no_load h =
      sym (append-nil text)
      ∙ ap (λ t. text ++ t) (sym (left_none i (drop i ls)))
      ∙ ap (λ (z : List LoadStmt). text ++ left i z (drop i ls)) (sym (drop_of_length-le loads h))
      ∙ before
