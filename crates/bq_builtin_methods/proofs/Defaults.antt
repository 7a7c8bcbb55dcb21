-- What a dict has after `setdefault` and `pop`.
use Rattle.std.proofs.Common.{◌≡◌, ◌∙◌, sym, refl, ap, ℕ, ◌+◌, Bool, true, false, cond, [], ◌∷◌, length, Option, Some, None, Result, Ok, Err}
use Rattle.bq_base.specs.declared.fault.EvalFault.{EvalFault}
use Rattle.bq_builtin_strings.specs.Length.{within}
use Rattle.bq_value.specs.Datum.{Datum}
use Rattle.bq_value.specs.Same.{same}
use Rattle.bq_value.specs.SameLaws.{same-true}
use Rattle.bq_value.specs.Pairs.{found, put, without, HasNoKeyTwice}
use Rattle.bq_value.proofs.Puts.{found_put}
use Rattle.bq_builtin_methods.specs.Dict.{with_default, taken_out}
use Rattle.bq_builtin_machine.specs.Answer.{and_then}
use Rattle.bq_builtin_methods.specs.CollectionLaws.{Dict}
use Rattle.bq_builtin_methods.proofs.Cases.{taken_out_by, with_default_by}

answer_is : (v w : Datum) (ps qs : Dict) → ◌≡◌ {A = Result (Datum × Dict) EvalFault} (Ok (v, ps)) (Ok (w, qs)) → (v ≡ w) × (ps ≡ qs)
answer_is v w ps qs e =
    let is : ◌≡◌ {A = Datum × Dict} (v, ps) (w, qs) = cc in
    (ap (λ r. r.0) is, ap (λ r. r.1) is)

put_default : (k d v : Datum) (ps qs : Dict) (r : Result ℕ EvalFault) → and_then {B = Datum × Dict} r (λ n. Ok (d, put k d ps)) ≡ Ok (v, qs) → found k qs ≡ Some v
put_default k d v ps qs (Ok n) e =
    let is = answer_is d v (put k d ps) qs e in
    ap (found k) (sym is.1) ∙ found_put k d ps ∙ ap (λ x. Some x) is.0
put_default k d v ps qs (Err why) e = absurd (cc)

default_by : (k d v : Datum) (ps qs : Dict) (o : Option Datum) → found k ps ≡ o → with_default_by o k d ps ≡ Ok (v, qs) → found k qs ≡ Some v
default_by k d v ps qs (Some w) here e =
    let is = answer_is w v ps qs e in
    ap (found k) (sym is.1) ∙ here ∙ ap (λ x. Some x) is.0
default_by k d v ps qs None here e = put_default k d v ps qs (within (length ps + 1)) e

pub default_found : (k d v : Datum) (ps qs : Dict) → with_default k d ps ≡ Ok (v, qs) → found k qs ≡ Some v
unfolding with_default
default_found k d v ps qs e = default_by k d v ps qs (found k ps) refl e

gone_by : (k : Datum) (p : Datum × Datum) (ps : Dict) (b : Bool) → same k p.0 ≡ b → found p.0 ps ≡ None → found k (without k ps) ≡ None → found k (cond b ps (p ∷ without k ps)) ≡ None
gone_by k p ps true e once rest = ap (λ (j : Datum). found j ps) (same-true k p.0 e) ∙ once
gone_by k p ps false e once rest = ap (λ b. cond b (Some p.1) (found k (without k ps))) e ∙ rest

gone : (k : Datum) (ps : Dict) → HasNoKeyTwice ps → found k (without k ps) ≡ None
gone k [] h = refl
gone k (p ∷ ps) h = gone_by k p ps (same k p.0) refl h.0 (gone k ps h.1)

default_or_fault : (k v : Datum) (d : Option Datum) (ps qs : Dict) → found k ps ≡ None → taken_out_by None k d ps ≡ Ok (v, qs) → found k qs ≡ None
default_or_fault k v (Some d) ps qs absent e = ap (found k) (sym (answer_is d v ps qs e).1) ∙ absent
default_or_fault k v None ps qs absent e = absurd (cc)

popped_by : (k v : Datum) (d : Option Datum) (ps qs : Dict) (o : Option Datum) → found k ps ≡ o → HasNoKeyTwice ps → taken_out_by o k d ps ≡ Ok (v, qs) → found k qs ≡ None
popped_by k v d ps qs (Some w) here once e = ap (found k) (sym (answer_is w v (without k ps) qs e).1) ∙ gone k ps once
popped_by k v d ps qs None here once e = default_or_fault k v d ps qs here e

pub popped_gone : (k v : Datum) (d : Option Datum) (ps qs : Dict) → HasNoKeyTwice ps → taken_out k d ps ≡ Ok (v, qs) → found k qs ≡ None
unfolding taken_out
popped_gone k v d ps qs once e = popped_by k v d ps qs (found k ps) refl once e
