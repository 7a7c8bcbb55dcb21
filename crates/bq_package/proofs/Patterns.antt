-- What an answer in place of a pattern says.
use Rattle.std.proofs.Common.{◌≡◌, ◌∙◌, ◌<◌, ◌+◌, ℕ, Bool, true, false, cond, List, [], ◌∷◌, ◌++◌, Result, Ok, Err, length, drop, get_or, refl, sym, ap}
use Rattle.std.proofs.lemmas.List.{drop_more}
use Rattle.bq_base.specs.Fault.{fault_at}
use Rattle.bq_base.specs.declared.fault.Fault.{Fault}
use Rattle.bq_base.specs.declared.fault.EvalFault.{EvalFault}
use Rattle.bq_base.specs.declared.fault.EvalFault.TheVariants.{GlobPattern}
use Rattle.bq_label_glob.specs.Pattern.{is_pattern, pattern_of}
use Rattle.bq_package_values.specs.Steps.{and_then, in_turn}
use Rattle.bq_package.specs.Glob.{pattern}

pub pattern_ok : (text p : List ℕ) → pattern_of text ≡ Ok p → pattern text ≡ Ok p
unfolding pattern_of
pattern_ok text p h = by (is_pattern text) h
  where
    by : (b : Bool) → cond b (Ok text) (Err (fault_at GlobPattern 0)) ≡ Ok p → cond b (Ok text) (Err GlobPattern) ≡ Ok p
    by true e = let same : text ≡ p = cc in rw same refl
    by false e = absurd (cc)

pub pattern_err : (text : List ℕ) (why : Fault EvalFault) → pattern_of text ≡ Err why → pattern text ≡ Err GlobPattern
unfolding pattern_of
pattern_err text why h = by (is_pattern text) h
  where
    by : (b : Bool) → cond b (Ok text) (Err (fault_at GlobPattern 0)) ≡ Err why → cond b (Ok text) (Err GlobPattern) ≡ Err GlobPattern
    by true e = absurd (cc)
    by false e = refl

-- ---- the steps of the walk

module _ (texts : List (List ℕ)) (i : ℕ) (t : List ℕ) (done : List (List ℕ)) (within : i < length texts) (at : t ≡ get_or texts i t) where
  left : drop i texts ≡ t ∷ drop (i + 1) texts
  left = drop_more texts i t within ∙ ap (λ (z : List ℕ). z ∷ drop (i + 1) texts) (sym at)

  turned : (r : Result (List ℕ) EvalFault) → pattern t ≡ r → in_turn pattern done (drop i texts) ≡ and_then r (λ y. in_turn pattern (done ++ y ∷ []) (drop (i + 1) texts))
  unfolding in_turn
  turned r is = ap (in_turn pattern done) left ∙ ap (λ (z : Result (List ℕ) EvalFault). and_then z (λ y. in_turn pattern (done ++ y ∷ []) (drop (i + 1) texts))) is

  pub one_more : (p : List ℕ) (more : List (List ℕ)) → pattern_of t ≡ Ok p → more ≡ done ++ p ∷ [] → in_turn pattern done (drop i texts) ≡ in_turn pattern more (drop (i + 1) texts)
  one_more p more h grown = turned (Ok p) (pattern_ok t p h) ∙ ap (λ (z : List (List ℕ)). in_turn pattern z (drop (i + 1) texts)) (sym grown)

  pub none_more : (why : Fault EvalFault) → pattern_of t ≡ Err why → in_turn pattern done (drop i texts) ≡ Err GlobPattern
  none_more why h = turned (Err GlobPattern) (pattern_err t why h)
