-- Keyword arguments keep their order, and the first faulty one decides.
use Rattle.std.proofs.Common.{◌≡◌, ◌∙◌, ℕ, Bool, true, false, cond, List, [], ◌∷◌, ◌++◌, Option, Some, None, Result, Ok, Err, refl, sym, ap, map, append_assoc, append-nil}
use Rattle.std.specs.Prelude.{is_some}
use Rattle.bq_base.specs.declared.fault.EvalFault.{EvalFault}
use Rattle.bq_base.specs.declared.fault.EvalFault.TheVariants.{Args}
use Rattle.bq_label.specs.declared.packages.BuildFile.{BuildFile}
use Rattle.bq_label.specs.Label.{PackageParts}
use Rattle.bq_value_datum.specs.Class.{Class}
use Rattle.bq_value.specs.Datum.{Datum, string}
use Rattle.bq_value.specs.Same.{same}
use Rattle.bq_value.specs.Pairs.{found, put}
use Rattle.bq_value.specs.Cells.{StoreView}
use Rattle.bq_builtin_machine.specs.Binding.{BoundView, Binding, take_keyword, take_named, take_all_named, and_bind, if_complete, placed, too_many, bind}
use Rattle.bq_package_attributes.specs.declared.arguments.Given.{Given}
use Rattle.bq_package_values.specs.Steps.{and_then}
use Rattle.bq_package_attributes.specs.Arguments.{with_argument, with_arguments}
use Rattle.bq_package_attributes.specs.Declarations.{keywords_alone}
use Rattle.bq_package_attributes.specs.DeclarationLaws.{KeywordsKeepTheirOrder, IsFirstFaulty, TheFirstFaultyArgumentDecides}

-- ---- the order

pub put_new : (k v : Datum) (ps : List (Datum × Datum)) → found k ps ≡ None → put k v ps ≡ ps ++ (k, v) ∷ []
put_new k v [] h = refl
put_new k v (p ∷ ps) h = by (same k p.0) h (put_new k v ps)
  where
    by : (b : Bool) → cond b (Some p.1) (found k ps) ≡ None → (found k ps ≡ None → put k v ps ≡ ps ++ (k, v) ∷ []) → cond b ((p.0, v) ∷ ps) (p ∷ put k v ps) ≡ p ∷ (ps ++ (k, v) ∷ [])
    by true e later = absurd (cc)
    by false e later = ap (λ z. p ∷ z) (later e)

keyword_by : (name : List ℕ) (v : Datum) (b c : BoundView) (there : Option Datum) → found (string name) b.keywords ≡ there
    → cond (is_some there) (Err Args) (Ok (record b { keywords = put (string name) v b.keywords })) ≡ Ok c → c.keywords ≡ b.keywords ++ (string name, v) ∷ []
keyword_by name v b c (Some w) is h = absurd (cc)
keyword_by name v b c None is h =
    let e : record b { keywords = put (string name) v b.keywords } ≡ c = cc in
    ap (λ (x : BoundView). x.keywords) (sym e) ∙ put_new (string name) v b.keywords is

keyword_last : (name : List ℕ) (v : Datum) (b c : BoundView) → take_named keywords_alone name v b ≡ Ok c → c.keywords ≡ b.keywords ++ (string name, v) ∷ []
unfolding take_named take_keyword
keyword_last name v b c h = keyword_by name v b c (found (string name) b.keywords) refl h

bound_both : (r : Binding) (next : BoundView → Binding) (c : BoundView) → and_bind r next ≡ Ok c → (b : BoundView) × (r ≡ Ok b) × (next b ≡ Ok c)
bound_both (Ok b) next c h = (b, refl, h)
bound_both (Err why) next c h = absurd (cc)

all_in_order : (named : List (List ℕ × Datum)) (b c : BoundView) → take_all_named keywords_alone named b ≡ Ok c → c.keywords ≡ b.keywords ++ map (λ a. (string a.0, a.1)) named
unfolding take_all_named
all_in_order [] b c h = let e : b ≡ c = cc in ap (λ (x : BoundView). x.keywords) (sym e) ∙ sym (append-nil b.keywords)
all_in_order (x ∷ xs) b c h =
    let r = bound_both (take_named keywords_alone x.0 x.1 b) (take_all_named keywords_alone xs) c h in
    let last = keyword_last x.0 x.1 b r.0 r.1 in
    all_in_order xs r.0 c r.2 ∙ (ap (λ z. z ++ map (λ (a : List ℕ × Datum). (string a.0, a.1)) xs) last ∙ append_assoc b.keywords ((string x.0, x.1) ∷ []) (map (λ (a : List ℕ × Datum). (string a.0, a.1)) xs))

pub keywords_keep_their_order : KeywordsKeepTheirOrder
unfolding bind
keywords_keep_their_order p b h = by (too_many keywords_alone p.positional) h
  where
    by : (many : Bool) → cond many (Err Args) (and_bind (take_all_named keywords_alone p.named (placed keywords_alone p.positional)) (if_complete keywords_alone)) ≡ Ok b
        → b.keywords ≡ map (λ a. (string a.0, a.1)) p.named
    by true e = absurd (cc)
    by false e =
        let r = bound_both (take_all_named keywords_alone p.named (placed keywords_alone p.positional)) (if_complete keywords_alone) b e in
        let same : r.0 ≡ b = cc in
        ap (λ (x : BoundView). x.keywords) (sym same) ∙ all_in_order p.named (placed keywords_alone p.positional) r.0 r.1

-- ---- the first faulty one

module _ (own : PackageParts) (packages : List BuildFile) (store : StoreView) (class : Class) where
  first_by : (g : Given) (x : Datum × Datum) (xs : List (Datum × Datum)) (why : EvalFault) (r : Result Given EvalFault) → with_argument own packages store class g x ≡ r
      → ((more : Given) → with_arguments own packages store class more xs ≡ Err why → IsFirstFaulty own packages store class more xs why)
      → and_then r (λ more. with_arguments own packages store class more xs) ≡ Err why → IsFirstFaulty own packages store class g (x ∷ xs) why
  unfolding with_arguments
  first_by g x xs why (Err other) is later h =
      record { before = []; argument = x; after = xs; given = g; cut = refl; read = refl; bad = is ∙ h }
  first_by g x xs why (Ok more) is later h =
      let l = later more h in
      record { before = x ∷ l.before; argument = l.argument; after = l.after; given = l.given; cut = ap (λ z. x ∷ z) l.cut; read = rw is l.read; bad = l.bad }

  first : (g : Given) (xs : List (Datum × Datum)) (why : EvalFault) → with_arguments own packages store class g xs ≡ Err why → IsFirstFaulty own packages store class g xs why
  unfolding with_arguments
  first g [] why h = absurd (cc)
  first g (x ∷ xs) why h = first_by g x xs why (with_argument own packages store class g x) refl (λ more e. first more xs why e) h

pub the_first_faulty_argument_decides : TheFirstFaultyArgumentDecides
the_first_faulty_argument_decides own packages store class g xs why h = first own packages store class g xs why h
