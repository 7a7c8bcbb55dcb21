-- A call that declares a target gives each attribute that has to be given.
use Rattle.std.proofs.Common.{◌≡◌, ◌≢◌, ◌∙◌, refl, sym, ap, subst, ℕ, zero, suc, ◌<◌, Bool, true, false, cond, List, [], ◌∷◌, ◌++◌, map, length, Option, Some, None, Ok, arith}
use Rattle.std.specs.Prelude.{not, ◌||◌, slice_index_or}
use Rattle.std.specs.List.{Contains, list_all}
use Rattle.bq_base.proofs.Choices.{left_of, right_of}
use Rattle.bq_label.specs.Label.{LabelParts}
use Rattle.bq_label.proofs.Orders.{at_head, in_tail}
use Rattle.bq_value_datum.specs.Class.{Class}
use Rattle.bq_package_target.specs.declared.target.Target.{Target}
use Rattle.bq_package_target.specs.declared.value.GivenAttribute.{GivenAttribute}
use Rattle.bq_value.specs.Datum.{Datum, none, string}
use Rattle.bq_value.specs.Pairs.{found}
use Rattle.bq_value.specs.Same.{same}
use Rattle.bq_value.specs.SameLaws.{same-true}
use Rattle.bq_builtin_machine.specs.Args.{Passed}
use Rattle.bq_builtin_machine.specs.Binding.{bind}
use Rattle.bq_package_values.proofs.Steps.{both_ok}
use Rattle.bq_package_attributes.specs.Arguments.{nothing_given, is_none, keyword, with_arguments}
use Rattle.bq_package_attributes.specs.Declarations.{keywords_alone, is_met, gives, gives_mandatory, defaults, if_whole, target, declaration}
use Rattle.bq_package_attributes.proofs.GivenKeywords.{keywords_keep_their_order}
use Rattle.bq_eval_laws.specs.RuleCalls.CallPlace.{CallPlace, target_declared}
use Rattle.bq_eval_laws.specs.RuleCalls.Given.{IsGivenBy, EachMandatoryIsGiven}
use Rattle.bq_package_attributes.proofs.DeclarationCases.{is_value}

-- ---- an argument that is there

-- an argument as the pair of a dict
abbrev pair : List ℕ × Datum → Datum × Datum
pair a = (string a.0, a.1)

not_true : (b : Bool) → not b ≡ true → b ≡ false
not_true true e = absurd (cc)
not_true false e = refl

not_none : (v : Datum) → is_none v ≡ false → v ≢ none
not_none v h e = let is : is_none v ≡ true = ap is_none e in cc

given_by : (named : List (List ℕ × Datum)) (name : List ℕ) → is_value (found (string name) (map pair named)) ≡ true → IsGivenBy named name
given_by [] name h = absurd (cc)
given_by (x ∷ xs) name h = by (same (string name) (string x.0)) refl h (λ later. given_by xs name later)
  where
    by : (b : Bool) → same (string name) (string x.0) ≡ b → is_value (cond b (Some x.1) (found (string name) (map pair xs))) ≡ true → (is_value (found (string name) (map pair xs)) ≡ true → IsGivenBy xs name) → IsGivenBy (x ∷ xs) name
    by true e is later =
        let called : x.0 ≡ name = sym (ap keyword (same-true (string name) (string x.0) e)) in
        record {
          value = x.1;
          written = subst (λ (n : List ℕ). Contains (x ∷ xs) (n, x.1)) called (at_head x xs);
          some = not_none x.1 (not_true (is_none x.1) is);
        }
    by false e is later =
        let rest = later is in
        record { value = rest.value; written = in_tail x xs (name, rest.value) rest.written; some = rest.some }

-- ---- the call

met_at : {A : Type 0} (p : A → Bool) (xs : List A) (x : A) (k : ℕ) → list_all p xs ≡ true → k < length xs → slice_index_or xs k x ≡ x → p x ≡ true
met_at p [] x k all within at = absurd (omega arith)
met_at p (y ∷ ys) x zero all within at = ap p (sym at) ∙ left_of (p y) (list_all p ys) all
met_at p (y ∷ ys) x (suc k) all within at = met_at p ys x k (right_of (p y) (list_all p ys) all) (omega arith) at

given_if : (must given : Bool) → must ≡ true → (not must || given) ≡ true → given ≡ true
given_if true given h e = e
given_if false given h e = absurd (cc)

whole_by : (whole : Bool) (rule : List ℕ) (class : Class) (line : ℕ) (name : Option LabelParts) (gs : List GivenAttribute) (t : Target) → if_whole whole rule class line name gs ≡ Ok t → whole ≡ true
whole_by whole rule class line None gs t h = absurd (cc)
whole_by true rule class line (Some l) gs t h = refl
whole_by false rule class line (Some l) gs t h = absurd (cc)

pub each_is_given : (x : CallPlace) (rule : List ℕ) (line : ℕ) (passed : Passed) (t : Target) → target_declared x rule line passed ≡ Ok t → EachMandatoryIsGiven x.class passed.named
unfolding declaration target gives_mandatory
each_is_given x rule line passed t h e known must =
    let r = both_ok (bind keywords_alone passed) (λ b. target x.own x.packages x.store x.class rule line b.keywords) t h in
    let kw = r.0.keywords in
    let q = both_ok (with_arguments x.own x.packages x.store x.class nothing_given kw) (λ g. if_whole (gives_mandatory x.class kw) rule x.class line g.name (g.attributes ++ defaults kw x.class)) t r.2 in
    let whole = whole_by (gives_mandatory x.class kw) rule x.class line q.0.name (q.0.attributes ++ defaults kw x.class) t q.2 in
    let met = met_at (is_met kw) x.class e known.0 whole known.1 known.2 in
    let is : gives kw e.0 ≡ true = given_if e.1.is_mandatory (gives kw e.0) must met in
    let order : kw ≡ map pair passed.named = keywords_keep_their_order passed r.0 r.1 in
    given_by passed.named e.0 (subst (λ (ks : List (Datum × Datum)). is_value (found (string e.0) ks) ≡ true) order is)
