-- The attributes of a rule as they are read one after another.
use Rattle.std.proofs.Common.{◌≡◌, ◌∙◌, sym, ap, refl, subst, ℕ, ◌+◌, false, List, [], ◌∷◌, Some, None, Ok, drop}
use Rattle.std.specs.Prelude.{◌++◌}
use Rattle.bq_value_datum.specs.Class.{Class, has_attribute, extended}
use Rattle.bq_value_datum.specs.declared.attribute.Attribute.{Attribute}
use Rattle.bq_value.specs.Datum.{Datum, string}
use Rattle.bq_value.specs.Pairs.{found, HasNoKeyTwice}
use Rattle.bq_package_attributes.specs.Rule.{entry}
use Rattle.bq_package_values.specs.Steps.{in_turn}
use Rattle.bq_package_attributes.proofs.DictEntries.{entry_is}
use Rattle.bq_package_attributes.proofs.DistinctNames.{AreNew, new_to_none, still_new}

-- the pairs that are left decide, and their keys name no attribute so far
pub record Left (ps : List (Datum × Datum)) (i : ℕ) (x : Class) : Type 0 where
  pub same : in_turn entry [] ps ≡ in_turn entry x (drop i ps)
  pub once : HasNoKeyTwice (drop i ps)
  pub new : AreNew x (drop i ps)

pub first : (ps : List (Datum × Datum)) → HasNoKeyTwice ps → Left ps 0 []
first ps once = record { same = refl; once = once; new = new_to_none ps }

module _ (ps : List (Datum × Datum)) (i : ℕ) (x : Class) (p : Datum × Datum) (n : List ℕ) (a : Attribute) (at : drop i ps ≡ p ∷ drop (i + 1) ps) (is : entry p ≡ Ok (n, a)) (left : Left ps i x) where
  key_is : p.0 ≡ string n
  key_is = ap (λ q. q.0) (entry_is p (n, a) is)

  pub is_new : has_attribute x n ≡ false
  is_new = (subst (AreNew x) at left.new).0 n key_is

  pub next : Left ps (i + 1) (x ++ (n, a) ∷ [])
  unfolding in_turn
  next =
      let once = subst HasNoKeyTwice at left.once in
      let absent : found (string n) (drop (i + 1) ps) ≡ None = ap (λ k. found k (drop (i + 1) ps)) (sym key_is) ∙ once.0 in
      let step : in_turn entry x (p ∷ drop (i + 1) ps) ≡ in_turn entry (x ++ (n, a) ∷ []) (drop (i + 1) ps) = rw is refl in
      record { same = left.same ∙ ap (in_turn entry x) at ∙ step; once = once.1; new = still_new x n a (drop (i + 1) ps) (subst (AreNew x) at left.new).1 absent }

  -- there is one attribute more
  pub more_is : (more : Class) → Some more ≡ extended x n a → Left ps (i + 1) more
  unfolding extended
  more_is more grown =
      let whole : Some more ≡ Some (x ++ (n, a) ∷ []) = grown ∙ (rw is_new refl) in
      let e : x ++ (n, a) ∷ [] ≡ more = cc in
      subst (Left ps (i + 1)) e next

  pub none_missing : None ≡ extended x n a → ⊥
  unfolding extended
  none_missing none = let bad : None ≡ Some (x ++ (n, a) ∷ []) = none ∙ (rw is_new refl) in cc
