-- Targets in the order of their labels, and places among them.
use Rattle.std.proofs.Common.{◌≡◌, ◌≢◌, ◌⊎◌, ◌∙◌, ◌<◌, ◌≤◌, ℕ, Bool, true, false, List, [], length, get_or, inl, inr, nat_eq, refl, sym, ap, subst, arith}
use Rattle.std.proofs.lemmas.Bool.{cases_Bool, false≢true}
use Rattle.std.proofs.lemmas.Bool.Decides.{nat_tests}
use Rattle.std.proofs.lemmas.List.{get_or-map, get_or_read}
use Rattle.std.proofs.lemmas.Map.Keys.{Less-from_sorted}
use Rattle.std.specs.Ordering.{nat_cmp, is_lt}
use Rattle.std.specs.Cmp.Lexicographic.{slice_cmp, nat_list_cmp_total}
use Rattle.std.specs.declared.cmp.Ordering.{Ordering}
use Rattle.std.specs.declared.cmp.Ordering.TheVariants.{Less, Equal, Greater}
use Rattle.bq_package_target.specs.declared.target.Target.{Target}
use Rattle.bq_package_target.specs.declared.target.TargetKind.TheVariants as kind
use Rattle.bq_query_function.specs.Order.{text_of, texts_of, by_text, is_below, AreInOrder}

-- any target, for a place where there is none
pub no_one : Target
no_one = record { label = record { repo = []; «package» = []; name = [] }; kind = kind.Source; attributes = []; line = 0 }

less_from : (o : Ordering) → is_lt o ≡ true → o ≡ Less
less_from Less h = refl
less_from Equal h = absurd (false≢true h)
less_from Greater h = absurd (false≢true h)

below_by : (b : Bool) → (b ≡ true → ⊥) → b ≡ false
below_by true n = absurd (n refl)
below_by false n = refl

below_chain : (a b c : List ℕ) → slice_cmp nat_cmp a b ≡ Less → is_below b c ≡ true → is_below a c ≡ true
below_chain a b c h g = ap is_lt (nat_list_cmp_total.trans a b c h (less_from (slice_cmp nat_cmp b c) g))

above_chain : (a b c : List ℕ) → slice_cmp nat_cmp a b ≡ Less → is_below a c ≡ false → is_below b c ≡ false
above_chain a b c h g = below_by (is_below b c) (λ k. false≢true (sym g ∙ below_chain a b c h k))

pub below_less : (a b c : List ℕ) → is_below a b ≡ true → slice_cmp nat_cmp b c ≡ Less → is_below a c ≡ true
below_less a b c h g = ap is_lt (nat_list_cmp_total.trans a b c (less_from (slice_cmp nat_cmp a b) h) g)

equal_or_less : (a b : ℕ) → a ≤ b → (a ≡ b) ⊎ (a < b)
equal_or_less a b h = elim (cases_Bool (nat_eq a b)) [
  | inl y ↦ inl (grind (arith, nat_tests))
  | inr n ↦ inr (let other : a ≢ b = λ e. false≢true (sym n ∙ grind (arith, nat_tests)) in omega arith)
]

abbrev pub text_at : List Target → ℕ → List ℕ
text_at targets k = get_or (texts_of targets) k []

pub text_is : (targets : List Target) (k : ℕ) → k < length targets → text_at targets k ≡ text_of (get_or targets k no_one)
text_is targets k h = get_or-map text_of targets k no_one [] h

pub read_is : (targets : List Target) (m : ℕ) (t : Target) → m < length targets → t ≡ get_or targets m t → text_at targets m ≡ text_of t
read_is targets m t h e = text_is targets m h ∙ ap text_of (sym (get_or_read targets m t h e no_one))

module _ (targets : List Target) (order : AreInOrder targets) where
  -- of two places the later has the greater label
  pub rises : (i j : ℕ) → i < j → j < length targets → slice_cmp nat_cmp (text_at targets i) (text_at targets j) ≡ Less
  rises i j h l = rw (text_is targets i (omega arith), text_is targets j l) (Less-from_sorted by_text targets i j no_one order h l)

  -- all up to a label that is below a text are below it
  pub up_to : (text : List ℕ) (m k : ℕ) → m < length targets → is_below (text_at targets m) text ≡ true → k ≤ m → is_below (text_at targets k) text ≡ true
  up_to text m k l h e = elim (equal_or_less k m e) [
    | inl same ↦ subst (λ (j : ℕ). is_below (text_at targets j) text ≡ true) (sym same) h
    | inr less ↦ below_chain (text_at targets k) (text_at targets m) text (rises k m less l) h
  ]

  -- all from a label that isn't on are not
  pub from_on : (text : List ℕ) (m k : ℕ) → is_below (text_at targets m) text ≡ false → m ≤ k → k < length targets → is_below (text_at targets k) text ≡ false
  from_on text m k h e l = elim (equal_or_less m k e) [
    | inl same ↦ subst (λ (j : ℕ). is_below (text_at targets j) text ≡ false) same h
    | inr less ↦ above_chain (text_at targets m) (text_at targets k) text (rises m k less l) h
  ]
