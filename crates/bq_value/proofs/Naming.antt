-- The kind of a rule is the name of the first global that holds it.
use Rattle.std.proofs.Common.{◌≡◌, ◌≢◌, ◌∙◌, ap, sym, refl, cond, ◌&&◌, ◌++◌, ◌==◌, ℕ, Bool, true, false, List, [], ◌∷◌, Option, Some, None, is_some, slice_get}
use Rattle.std.proofs.lemmas.Bool.{eqb-true, ne_eqb, eq-eqb}
use Rattle.std.specs.Prelude.{fold}
use Rattle.std.specs.Map.{lookup}
use Rattle.std.specs.Option.{option_or}
use Rattle.bq_value_datum.specs.Class.{Class}
use Rattle.bq_value_datum.specs.Datum.{Datum, none, boolean, int, string, tuple, range, cell, function, built_in, rule_function, attribute}
use Rattle.bq_value_content.specs.Contents.{Contents, items, pairs, rule}
use Rattle.bq_value_datum.specs.Same.{same}
use Rattle.bq_value_content.specs.Kinds.{Kinds, kind_at, is_rule, rule_number, with_kind, kinds_from, kinds_of, first_holding}
use Rattle.bq_value.specs.Cells.{StoreView, FrozenView, module_at, cell_of, content_at, kind_of, frozen, added}
use Rattle.bq_value.proofs.Freezes.{at_loaded}
use Rattle.bq_value.proofs.Cases.{brought, kind_in, with_loaded}

or_none : {A : Type 0} (o : Option A) → option_or o None ≡ o
or_none (Some x) = refl
or_none None = refl

-- of two names the first counts
one_by : {A : Type 0} (o : Option A) (x : A) (r : Option A) (b : Bool) → option_or (option_or o (cond b (Some x) None)) r ≡ option_or o (cond b (Some x) r)
one_by (Some y) x r true = refl
one_by (Some y) x r false = refl
one_by None x r true = refl
one_by None x r false = refl

appended_by : (o : Option (List ℕ)) (x y : List ℕ) (p b : Bool) → cond b (Some x) (option_or o (cond p (Some y) None)) ≡ option_or (cond b (Some x) o) (cond p (Some y) None)
appended_by o x y p true = refl
appended_by o x y p false = refl

-- one more name at the end
kind_appended : (n j : ℕ) (name : List ℕ) (ks : Kinds) → kind_at n (ks ++ (j, name) ∷ []) ≡ option_or (kind_at n ks) (cond (n == j) (Some name) None)
kind_appended n j name [] = refl
kind_appended n j name (k ∷ ks) = ap (λ o. cond (n == k.0) (Some k.1) o) (kind_appended n j name ks) ∙ appended_by (kind_at n ks) k.1 name (n == j) (n == k.0)

-- the name, where it is for the rule of this number
abbrev named : ℕ → Option ℕ → List ℕ → Option (List ℕ)
named n None name = None
named n (Some j) name = cond (n == j) (Some name) None

there : (o : Option (List ℕ)) (name : List ℕ) (p : Bool) → (p ≡ true → is_some o ≡ true) → o ≡ option_or o (cond p (Some name) None)
there (Some x) name p h = refl
there None name false h = refl
there None name true h = absurd (no (h refl))
  where
    no : false ≡ true → ⊥
    no e = cc

kind_with_by : (n j : ℕ) (name : List ℕ) (ks : Kinds) (b : Bool) → is_some (kind_at j ks) ≡ b → kind_at n (cond b ks (ks ++ (j, name) ∷ [])) ≡ option_or (kind_at n ks) (cond (n == j) (Some name) None)
kind_with_by n j name ks true e = there (kind_at n ks) name (n == j) (λ p. ap (λ k. is_some (kind_at k ks)) (eqb-true n j p) ∙ e)
kind_with_by n j name ks false e = kind_appended n j name ks

kind_with : (n : ℕ) (ks : Kinds) (m : Option ℕ) (name : List ℕ) → kind_at n (with_kind ks m name) ≡ option_or (kind_at n ks) (named n m name)
unfolding with_kind
kind_with n ks None name = sym (or_none (kind_at n ks))
kind_with n ks (Some j) name = kind_with_by n j name ks (is_some (kind_at j ks)) refl

module _ (own : ℕ) (cells : List Contents) (n : ℕ) (class : Class) (holds : slice_get cells n ≡ Some (rule class)) where
  -- another cell, where this one holds no rule
  apart : (j : ℕ) (name : List ℕ) (p : Bool) → (n == j) ≡ p → is_rule (slice_get cells j) ≡ false → None ≡ cond p (Some name) None
  apart j name false e none_here = refl
  apart j name true e none_here = absurd (clash (sym none_here ∙ ap (λ k. is_rule (slice_get cells k)) (sym (eqb-true n j e)) ∙ ap is_rule holds))
    where
      clash : false ≡ true → ⊥
      clash e = cc

  own_rule : (j : ℕ) (name : List ℕ) (r : Bool) → is_rule (slice_get cells j) ≡ r → named n (cond r (Some j) None) name ≡ cond (n == j) (Some name) None
  own_rule j name true e = refl
  own_rule j name false e = apart j name (n == j) refl e

  of_cell : (home j : ℕ) (name : List ℕ) (b : Bool) → (home == own) ≡ b → named n (cond (b && is_rule (slice_get cells j)) (Some j) None) name ≡ cond ((own == home) && (n == j)) (Some name) None
  of_cell home j name true e =
      own_rule j name (is_rule (slice_get cells j)) refl ∙ ap (λ b. cond (b && (n == j)) (Some name) None) (sym (eq-eqb own home (sym (eqb-true home own e))))
  of_cell home j name false e = ap (λ b. cond (b && (n == j)) (Some name) None) (sym (ne_eqb own home (λ same. clash (sym e ∙ eq-eqb home own (sym same)))))
    where
      clash : false ≡ true → ⊥
      clash e = cc

  -- a value names the rule where it is the rule
  names_it : (v : Datum) (name : List ℕ) → named n (rule_number own cells v) name ≡ cond (same (cell own n) v) (Some name) None
  unfolding rule_number
  names_it (cell home j) name = of_cell home j name (home == own) refl
  names_it none name = refl
  names_it (boolean b) name = refl
  names_it (int i) name = refl
  names_it (string s) name = refl
  names_it (tuple vs) name = refl
  names_it (range a b c) name = refl
  names_it (function m p s vs) name = refl
  names_it (built_in s) name = refl
  names_it (rule_function f) name = refl
  names_it (attribute a) name = refl

  kind_from : (ks : Kinds) (names : List (List ℕ)) (vs : List Datum) → kind_at n (kinds_from own cells ks names vs) ≡ option_or (kind_at n ks) (first_holding (cell own n) names vs)
  kind_from ks [] vs = sym (or_none (kind_at n ks))
  kind_from ks (name ∷ names) [] = sym (or_none (kind_at n ks))
  kind_from ks (name ∷ names) (v ∷ vs) =
      kind_from (with_kind ks (rule_number own cells v) name) names vs
      ∙ (ap (λ o. option_or o (first_holding (cell own n) names vs))
      (kind_with n ks (rule_number own cells v) name ∙ ap (option_or (kind_at n ks)) (names_it v name))
      ∙ one_by (kind_at n ks) name (first_holding (cell own n) names vs) (same (cell own n) v))

  pub first_named : (names : List (List ℕ)) (vs : List Datum) → kind_at n (kinds_of own cells names vs) ≡ first_holding (cell own n) names vs
  unfolding kinds_of
  first_named names vs = kind_from [] names vs

own_cell : (s : StoreView) (number : ℕ) (c : Contents) → content_at s s.own number ≡ Some c → slice_get s.cells number ≡ Some c
unfolding content_at
own_cell s number c e = ap (λ b. cond b (slice_get s.cells number) (cell_of number (module_at s.own s.loaded))) (sym (eq-eqb s.own s.own refl)) ∙ e

pub frozen_kind : (s : StoreView) (names : List (List ℕ)) (gs : List Datum) (number : ℕ) (class : Class) → content_at s s.own number ≡ Some (rule class)
    → kind_at number (frozen s names gs).cells.kinds ≡ first_holding (cell s.own number) names gs
frozen_kind s names gs number class e = first_named s.own s.cells number class (own_cell s number (rule class) e) names gs

pub loaded_kind : (s t : StoreView) (names : List (List ℕ)) (gs : List Datum) (number : ℕ) (class : Class) → t.own ≢ s.own → module_at t.own s.loaded ≡ None → content_at t t.own number ≡ Some (rule class)
    → kind_of (with_loaded (fold added s.loaded (brought (frozen t names gs))) s) t.own number ≡ first_holding (cell t.own number) names gs
unfolding kind_of
loaded_kind s t names gs number class apart absent e =
    let f : FrozenView = frozen t names gs in
    ap (λ b. cond b None (kind_in number (module_at t.own (fold added s.loaded (brought f))))) (ne_eqb t.own s.own apart)
    ∙ (ap (kind_in number) (at_loaded t.own s.loaded (brought f) ∙ ap (λ o. option_or o (module_at t.own (brought f))) absent)
    ∙ (ap (λ b. kind_in number (cond b (Some f.cells) (module_at t.own f.reached))) (eq-eqb t.own t.own refl)
    ∙ frozen_kind t names gs number class e))

pub own_kind : (s : StoreView) (number : ℕ) → kind_of s s.own number ≡ None
unfolding kind_of
own_kind s number = ap (λ b. cond b None (kind_in number (module_at s.own s.loaded))) (eq-eqb s.own s.own refl)
