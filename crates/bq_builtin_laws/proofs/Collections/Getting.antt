-- `get` only looks.
use Rattle.std.proofs.Common.{◌≡◌, ◌∙◌, refl, sym, ap, subst, ℕ, ◌⊎◌, inl, inr, Bool, true, false, cond, List, [], ◌∷◌, map, Option, Some, Ok, Err}
use Rattle.std.specs.List.{Contains}
use Rattle.std.proofs.lemmas.List.Elements.{Contains-append_left, Contains-append_right, Contains-push}
use Rattle.bq_value.specs.Datum.{Datum, or_none}
use Rattle.bq_value.specs.Pairs.{found}
use Rattle.bq_value.specs.Same.{same}
use Rattle.bq_value.specs.KeyWalk.{walked_at, keyed}
use Rattle.bq_value.specs.Looked.{Looked, max_levels}
use Rattle.bq_builtin_machine.specs.Action.{Run, done, following, ◌>>=◌, pure}
use Rattle.bq_builtin_machine.specs.Cells.{content}
use Rattle.bq_builtin_machine.specs.Machine.{with_steps, after_walk, key}
use Rattle.bq_builtin_machine.specs.State.{State}
use Rattle.bq_builtin_methods.specs.Arguments.{one_or_two}
use Rattle.bq_builtin_methods.specs.Dict.{pairs_in, or_value, get}
use Rattle.bq_builtin_laws.specs.Collections.Laws.{IsDict}
use Rattle.bq_builtin_laws.specs.Collections.Looks.{OnlyLooks}

abbrev values : List (Datum × Datum) → List Datum
values ps = map (λ p. p.1) ps

-- the value of a key, or the value for a key that isn't there
value_or : (k d : Datum) (ps : List (Datum × Datum)) → Contains (values ps) (or_value d (found k ps)) ⊎ (or_value d (found k ps) ≡ d)
value_or k d [] = inr refl
value_or k d (p ∷ ps) = by (same k p.0) (value_or k d ps)
  where
    by : (b : Bool) → Contains (values ps) (or_value d (found k ps)) ⊎ (or_value d (found k ps) ≡ d)
        → Contains (values (p ∷ ps)) (or_value d (cond b (Some p.1) (found k ps))) ⊎ (or_value d (cond b (Some p.1) (found k ps)) ≡ d)
    by true later = inl (Contains-append_left (p.1 ∷ []) (values ps) p.1 (Contains-push [] p.1))
    by false (inl c) = inl (Contains-append_right (p.1 ∷ []) (values ps) (or_value d (found k ps)) c)
    by false (inr e) = inr e

module _ (home number : ℕ) (ps : List (Datum × Datum)) (k : Datum) (o : Option Datum) (answer : Datum) (s t : State) (known : IsDict s home number ps) where
  -- what is left to do with the key
  abbrev with_key : Datum → State → Run State Datum
  with_key q = pairs_in home number >>= λ qs. pure (or_value (or_none o) (found q qs))

  by_key : (r : Looked Datum) → following (after_walk r s) with_key ≡ done answer t → OnlyLooks ps o answer s t
  unfolding pairs_in content
  by_key (Err why) h = absurd (cc)
  by_key (Ok x) h =
      let now : State = with_steps x.1 s in
      let e : with_key x.0 now ≡ done (or_value (or_none o) (found x.0 ps)) now = rw known refl in
      let both : done (or_value (or_none o) (found x.0 ps)) now ≡ done answer t = sym e ∙ h in
      let is : or_value (or_none o) (found x.0 ps) ≡ answer = cc in
      let ends : now ≡ t = cc in
      record {
        value = subst (λ (v : Datum). Contains (values ps) v ⊎ (v ≡ or_none o)) is (value_or x.0 (or_none o) ps);
        same = ap (λ (z : State). z.store) (sym ends);
      }

  pub looks : (args : List Datum) → one_or_two args ≡ Ok (k, o) → get home number args s ≡ done answer t → OnlyLooks ps o answer s t
  unfolding get key
  looks args asked h =
      let e : get home number args s ≡ following (after_walk (keyed k (walked_at max_levels s.steps k)) s) with_key = rw asked refl in
      by_key (keyed k (walked_at max_levels s.steps k)) (sym e ∙ h)
