-- The target that a call declares has each attribute that has to be given.
use Rattle.std.proofs.Common.{◌≡◌, ◌∙◌, ℕ, zero, suc, ◌<◌, length, arith, Bool, true, false, cond, List, [], ◌∷◌, ◌++◌, Option, Some, None, Ok, inl, inr, refl, sym, ap, subst, codes}
use Rattle.std.specs.Prelude.{◌||◌, ◌&&◌, not, if◌then◌else◌, bytes_eq, slice_index_or}
use Rattle.std.specs.List.{Contains, list_all, flat_map}
use Rattle.std.proofs.lemmas.List.Folds.{list_any-append}
use Rattle.std.proofs.lemmas.List.Elements.{Contains-append_left, Contains-append_right}
use Rattle.std.proofs.lemmas.Slice.Eq.{bytes_eq-Decides}
use Rattle.bq_base.specs.declared.fault.EvalFault.TheVariants as f
use Rattle.bq_label.specs.declared.packages.BuildFile.{BuildFile}
use Rattle.bq_label.specs.Label.{PackageParts, LabelParts}
use Rattle.bq_label.proofs.Orders.{at_head, head_or_tail}
use Rattle.bq_predeclared.specs.declared.attribute_type.AttributeType.{AttributeType}
use Rattle.bq_value_datum.specs.Class.{Class}
use Rattle.bq_value_datum.specs.AttributeValue.{names_outputs}
use Rattle.bq_value_datum.specs.declared.attribute.Attribute.{Attribute}
use Rattle.bq_value.specs.Datum.{Datum, string}
use Rattle.bq_value.specs.Same.{same}
use Rattle.bq_value.specs.SameLaws.{same-true}
use Rattle.bq_value.specs.Pairs.{found}
use Rattle.bq_value.specs.Cells.{StoreView}
use Rattle.bq_builtin_machine.specs.Args.{Passed}
use Rattle.bq_builtin_machine.specs.Binding.{BoundView, Binding, bind}
use Rattle.bq_package_target.specs.declared.target.Target.{Target}
use Rattle.bq_value_datum.specs.declared.attribute_value.AttributeValue.{AttributeValue}
use Rattle.bq_value_datum.specs.declared.attribute_value.AttributeValue.TheVariants as a
use Rattle.bq_package_target.specs.declared.value.GivenAttribute.{GivenAttribute}
use Rattle.bq_package_target.specs.Value.{attribute_type}
use Rattle.bq_package_attributes.specs.declared.arguments.Given.{Given}
use Rattle.bq_package_values.specs.declared.label_texts.TextKind.TheVariants as k
use Rattle.bq_package_values.specs.Steps.{and_then}
use Rattle.bq_package_values.specs.Texts.{text_in}
use Rattle.bq_package_values.specs.LabelTexts.{label}
use Rattle.bq_package_values.specs.Values.{value_as}
use Rattle.bq_package_attributes.specs.Arguments.{nothing_given, is_none, keyword, with_value, with_label, with_name, with_attribute, with_argument, with_arguments}
use Rattle.bq_package_attributes.specs.Declarations.{keywords_alone, gives, is_met, gives_mandatory, default_for, defaults, if_whole, target_of, target, declaration}
use Rattle.bq_package_attributes.specs.DeclarationLaws.{has_attribute, MandatoryAttributesAreGiven, DefaultsAreGiven}
use Rattle.bq_package_values.proofs.Steps.{both_ok, then_ok, then_true}
use Rattle.bq_package_attributes.proofs.DeclarationCases.{default_by, is_value, with_attribute_by}

-- ---- one attribute more

either_true : (b : Bool) → (b || true) ≡ true
either_true true = refl
either_true false = refl

name_is : (name : List ℕ) → bytes_eq name name ≡ true
name_is name = (bytes_eq-Decides name name).1 refl

has_last : (gs : List GivenAttribute) (name : List ℕ) (v : AttributeValue) → has_attribute (gs ++ record { name = name; value = v } ∷ []) name ≡ true
has_last gs name v =
    let g : GivenAttribute = record { name = name; value = v } in
    rw (list_any-append (λ (a : GivenAttribute). bytes_eq name a.name) gs (g ∷ []), name_is name) (either_true (has_attribute gs name))

has_still : (gs : List GivenAttribute) (g : GivenAttribute) (name : List ℕ) → has_attribute gs name ≡ true → has_attribute (gs ++ g ∷ []) name ≡ true
has_still gs g name h = rw (list_any-append (λ (a : GivenAttribute). bytes_eq name a.name) gs (g ∷ []), h) refl

-- what an argument adds: nothing where it is `None`, else an attribute of its name
record Adds (name : List ℕ) (v : Datum) (g after : Given) : Type 0 where
  still : (other : List ℕ) → has_attribute g.attributes other ≡ true → has_attribute after.attributes other ≡ true
  there : is_none v ≡ false → has_attribute after.attributes name ≡ true

adds_nothing : (name : List ℕ) (v : Datum) (g after : Given) → is_none v ≡ true → g ≡ after → Adds name v g after
adds_nothing name v g after h e = subst (Adds name v g) e (record { still = λ other past. past; there = λ no. absurd (cc) })

name_adds : (own : PackageParts) (packages : List BuildFile) (v : Datum) (g after : Given) → with_name own packages v g ≡ Ok after → Adds (codes "name") v g after
unfolding with_name
name_adds own packages v g after h = by (is_none v) refl h
  where
    by : (b : Bool) → is_none v ≡ b → cond b (Ok g) (and_then (text_in f.AttributeType v) (λ text. and_then (label own packages k.Name text) (λ l. Ok (with_label text l g)))) ≡ Ok after → Adds (codes "name") v g after
    by true is e = let same : g ≡ after = cc in adds_nothing (codes "name") v g after is same
    by false is e =
        let r = both_ok (text_in f.AttributeType v) (λ text. and_then (label own packages k.Name text) (λ l. Ok (with_label text l g))) after e in
        let q = both_ok (label own packages k.Name r.0) (λ l. Ok (with_label r.0 l g)) after r.2 in
        let same : with_label r.0 q.0 g ≡ after = cc in
        subst (Adds (codes "name") v g) same (record {
          still = λ other past. has_still g.attributes (record { name = codes "name"; value = a.String r.0 }) other past;
          there = λ no. has_last g.attributes (codes "name") (a.String r.0);
        })

attribute_adds : (own : PackageParts) (packages : List BuildFile) (store : StoreView) (kind : Option AttributeType) (name : List ℕ) (v : Datum) (g after : Given)
    → with_attribute_by own packages store kind name v g ≡ Ok after → Adds name v g after
attribute_adds own packages store None name v g after h = absurd (cc)
attribute_adds own packages store (Some kind) name v g after h = by (is_none v) refl h
  where
    by : (b : Bool) → is_none v ≡ b → cond b (Ok g) (and_then (value_as own packages store kind v) (λ value. Ok (with_value name value g))) ≡ Ok after → Adds name v g after
    by true is e = let same : g ≡ after = cc in adds_nothing name v g after is same
    by false is e =
        let r = both_ok (value_as own packages store kind v) (λ value. Ok (with_value name value g)) after e in
        let same : with_value name r.0 g ≡ after = cc in
        subst (Adds name v g) same (record {
          still = λ other past. has_still g.attributes (record { name = name; value = r.0 }) other past;
          there = λ no. has_last g.attributes name r.0;
        })

module _ (own : PackageParts) (packages : List BuildFile) (store : StoreView) (class : Class) where
  argument_adds : (g after : Given) (x : Datum × Datum) → with_argument own packages store class g x ≡ Ok after → Adds (keyword x.0) x.1 g after
  unfolding with_argument with_attribute
  argument_adds g after x h = by (bytes_eq (keyword x.0) (codes "name")) refl h
    where
      by : (b : Bool) → bytes_eq (keyword x.0) (codes "name") ≡ b
          → cond b (with_name own packages x.1 g) (with_attribute own packages store class (keyword x.0) x.1 g) ≡ Ok after → Adds (keyword x.0) x.1 g after
      by true is e = subst (λ (name : List ℕ). Adds name x.1 g after) (sym ((bytes_eq-Decides (keyword x.0) (codes "name")).0 is)) (name_adds own packages x.1 g after e)
      by false is e = attribute_adds own packages store (attribute_type class (keyword x.0)) (keyword x.0) x.1 g after e

  still_all : (g after : Given) (xs : List (Datum × Datum)) → with_arguments own packages store class g xs ≡ Ok after → (name : List ℕ) → has_attribute g.attributes name ≡ true
      → has_attribute after.attributes name ≡ true
  unfolding with_arguments
  still_all g after [] h name past = let same : g ≡ after = cc in subst (λ (z : Given). has_attribute z.attributes name ≡ true) same past
  still_all g after (x ∷ xs) h name past =
      let r = both_ok (with_argument own packages store class g x) (λ more. with_arguments own packages store class more xs) after h in
      let adds = argument_adds g r.0 x r.1 in
      still_all r.0 after xs r.2 name (adds.still name past)

  -- an argument that is there and isn't `None` is an attribute
  there_all : (g after : Given) (xs : List (Datum × Datum)) (name : List ℕ) → with_arguments own packages store class g xs ≡ Ok after → is_value (found (string name) xs) ≡ true
      → has_attribute after.attributes name ≡ true
  unfolding with_arguments
  there_all g after [] name h is = absurd (cc)
  there_all g after (x ∷ xs) name h is =
      let r = both_ok (with_argument own packages store class g x) (λ more. with_arguments own packages store class more xs) after h in
      by (same (string name) x.0) refl is r.0 r.1 r.2 (λ value. there_all r.0 after xs name r.2 value)
    where
      by : (b : Bool) → same (string name) x.0 ≡ b → is_value (cond b (Some x.1) (found (string name) xs)) ≡ true → (more : Given) → with_argument own packages store class g x ≡ Ok more
          → with_arguments own packages store class more xs ≡ Ok after → (is_value (found (string name) xs) ≡ true → has_attribute after.attributes name ≡ true) → has_attribute after.attributes name ≡ true
      by true key value more read rest later =
          let adds = argument_adds g more x read in
          let called : name ≡ keyword x.0 = ap keyword (same-true (string name) x.0 key) in
          let there = adds.there (not_true (is_none x.1) value) in
          still_all more after xs rest name (subst (λ (n : List ℕ). has_attribute more.attributes n ≡ true) (sym called) there)
        where
          not_true : (b : Bool) → not b ≡ true → b ≡ false
          not_true true e = absurd (cc)
          not_true false e = refl
      by false key value more read rest later = later value

-- ---- the target

met_at : {A : Type 0} (p : A → Bool) (xs : List A) (x : A) (k : ℕ) → list_all p xs ≡ true → k < length xs → slice_index_or xs k x ≡ x → p x ≡ true
met_at p [] x k all within at = absurd (omega arith)
met_at p (y ∷ ys) x zero all within at = ap p (sym at) ∙ first (p y) (list_all p ys) all
  where
    first : (a b : Bool) → (a && b) ≡ true → a ≡ true
    first true b h = refl
    first false b h = absurd (cc)
met_at p (y ∷ ys) x (suc k) all within at = met_at p ys x k (second (p y) (list_all p ys) all) (omega arith) at
  where
    second : (a b : Bool) → (a && b) ≡ true → b ≡ true
    second true b h = h
    second false b h = absurd (cc)

given_if : (must given : Bool) → must ≡ true → (not must || given) ≡ true → given ≡ true
given_if true given h e = e
given_if false given h e = absurd (cc)

whole_by : (whole : Bool) (rule : List ℕ) (class : Class) (line : ℕ) (name : Option LabelParts) (gs : List GivenAttribute) (t : Target) → if_whole whole rule class line name gs ≡ Ok t → (whole ≡ true) × (t.attributes ≡ gs)
whole_by whole rule class line None gs t h = absurd (cc)
whole_by whole rule class line (Some l) gs t h =
    (then_true whole (target_of rule class line l gs) t f.MissingAttribute h, ap (λ (z : Target). z.attributes) (sym (then_ok whole (target_of rule class line l gs) t f.MissingAttribute h)))

-- what a call that declares a target is made of
record Declares (own : PackageParts) (packages : List BuildFile) (store : StoreView) (class : Class) (p : Passed) (t : Target) : Type 0 where
  pub bound : BoundView
  pub is : bind keywords_alone p ≡ Ok bound
  pub given : Given
  pub read : with_arguments own packages store class nothing_given bound.keywords ≡ Ok given
  pub whole : gives_mandatory class bound.keywords ≡ true
  pub attributes : t.attributes ≡ given.attributes ++ defaults bound.keywords class

declares : (own : PackageParts) (packages : List BuildFile) (store : StoreView) (class : Class) (rule : List ℕ) (line : ℕ) (p : Passed) (t : Target) → declaration own packages store class rule line p ≡ Ok t
    → Declares own packages store class p t
unfolding declaration target
declares own packages store class rule line p t h =
    let r = both_ok (bind keywords_alone p) (λ b. target own packages store class rule line b.keywords) t h in
    let kw = r.0.keywords in
    let q = both_ok (with_arguments own packages store class nothing_given kw) (λ g. if_whole (gives_mandatory class kw) rule class line g.name (g.attributes ++ defaults kw class)) t r.2 in
    let w = whole_by (gives_mandatory class kw) rule class line q.0.name (q.0.attributes ++ defaults kw class) t q.2 in
    record { bound = r.0; is = r.1; given = q.0; read = q.1; whole = w.0; attributes = w.1 }

has_before : (gs more : List GivenAttribute) (name : List ℕ) → has_attribute gs name ≡ true → has_attribute (gs ++ more) name ≡ true
has_before gs more name h = rw (list_any-append (λ (a : GivenAttribute). bytes_eq name a.name) gs more, h) refl

pub mandatory_attributes_are_given : MandatoryAttributesAreGiven
unfolding gives_mandatory
mandatory_attributes_are_given own packages store class rule line p t h e known must =
    let d = declares own packages store class rule line p t h in
    let kw = d.bound.keywords in
    let met = met_at (is_met kw) class e known.0 d.whole known.1 known.2 in
    let there = there_all own packages store class nothing_given d.given kw e.0 d.read (given_if e.1.is_mandatory (gives kw e.0) must met) in
    subst (λ (gs : List GivenAttribute). has_attribute gs e.0 ≡ true) (sym d.attributes) (has_before d.given.attributes (defaults kw class) e.0 there)

-- ---- defaults

default_kept : (names : Bool) (one : GivenAttribute) → names ≡ false → (if names then [] else one ∷ []) ≡ one ∷ []
default_kept true one h = absurd (cc)
default_kept false one h = refl

default_there : (keywords : List (Datum × Datum)) (e : List ℕ × Attribute) (v : AttributeValue) → gives keywords e.0 ≡ false → e.1.default ≡ Some v → names_outputs v ≡ false
    → default_for keywords e ≡ record { name = e.0; value = v } ∷ []
unfolding default_for
default_there keywords e v lacks is none = rw lacks (ap (default_by false e.0) is ∙ default_kept (names_outputs v) (record { name = e.0; value = v }) none)

in_part : {X Y : Type 0} (f : X → List Y) (xs : List X) (x : X) (y : Y) → Contains xs x → Contains (f x) y → Contains (flat_map f xs) y
in_part f [] x y known inside = absurd (let within = known.1 in omega arith)
in_part f (z ∷ xs) x y known inside = elim (head_or_tail z xs x known) [
  | inl e ↦ Contains-append_left (f z) (flat_map f xs) y (subst (λ w. Contains (f w) y) (sym e) inside)
  | inr later ↦ Contains-append_right (f z) (flat_map f xs) y (in_part f xs x y later inside)
]

-- an attribute that isn't given has its default
pub defaults_are_given : DefaultsAreGiven
defaults_are_given own packages store class rule line p b t h bound e known lacks v is none =
    let d = declares own packages store class rule line p t h in
    let same : d.bound ≡ b = same_ok (bind keywords_alone p) d.bound b d.is bound in
    let one : GivenAttribute = record { name = e.0; value = v } in
    let at : Contains (default_for b.keywords e) one = subst (λ (gs : List GivenAttribute). Contains gs one) (sym (default_there b.keywords e v lacks is none)) (at_head one []) in
    let there : Contains (defaults b.keywords class) one = in_part (default_for b.keywords) class e one known at in
    subst (λ (gs : List GivenAttribute). Contains gs one) (sym (d.attributes ∙ ap (λ (c : BoundView). d.given.attributes ++ defaults c.keywords class) same)) (Contains-append_right d.given.attributes (defaults b.keywords class) one there)
  where
    same_ok : (r : Binding) (x y : BoundView) → r ≡ Ok x → r ≡ Ok y → x ≡ y
    same_ok r x y f g = cc
