-- What a tree whose keys are read as names has for each name once it has got a key.
use Rattle.std.proofs.Common.{◌≡◌, ◌∙◌, ℕ, Bool, true, false, cond, List, Option, bytes_eq, sym, ap, subst, inl, inr}
use Rattle.std.specs.BTreeMap.{BTreeMap, get_by, UpdatesBy}
use Rattle.std.specs.Cmp.{eq_by_cmp_equiv}
use Rattle.std.specs.Cmp.Lexicographic.{slice_cmp, nat_list_cmp_total}
use Rattle.std.specs.Map.{lookup, IsKeyTest, AreApart, KeepsOthers}
use Rattle.std.specs.Ordering.{is_eq, nat_cmp}
use Rattle.std.proofs.lemmas.Bool.{cases_Bool}
use Rattle.std.proofs.lemmas.Cmp.{nat_list_eq_equiv}
use Rattle.std.proofs.lemmas.Map.Text.{is_eq-slice_cmp}
use Rattle.std.proofs.lemmas.Slice.Eq.{bytes_eq-Decides}

others : {K X : Type 0} (eq : K → K → Bool) (test : K → Bool) (old new : List (K × X)) → KeepsOthers eq test old new → (other : K → Bool) → IsKeyTest eq other → AreApart test other → lookup other new ≡ lookup other old
unfolding KeepsOthers
others eq test old new h = h

apart : (a b k : List ℕ) → bytes_eq a b ≡ false → is_eq (slice_cmp nat_cmp a k) ≡ true → is_eq (slice_cmp nat_cmp b k) ≡ false
apart a b k n y =
    is_eq-slice_cmp b k ∙ (nat_list_eq_equiv.symm b k ∙ (sym (nat_list_eq_equiv.congr a k b (sym (is_eq-slice_cmp a k) ∙ y)) ∙ n))

taken : {A : Type 0} (b : Bool) (x y z : A) → b ≡ true → z ≡ x → z ≡ cond b x y
taken true x y z e h = h
taken false x y z e h = absurd (let no : ⊥ = cc in no)

left : {A : Type 0} (b : Bool) (x y z : A) → b ≡ false → z ≡ y → z ≡ cond b x y
left true x y z e h = absurd (let no : ⊥ = cc in no)
left false x y z e h = h

module _ {K X : Type 0} (name : K → List ℕ) where
  abbrev at : BTreeMap K X → List ℕ → Option X
  at m a = get_by (λ k. slice_cmp nat_cmp a (name k)) m

  pub updated_place : (a : List ℕ) (m n : BTreeMap K X) (w : Option X) → UpdatesBy (λ x y. slice_cmp nat_cmp (name x) (name y)) (λ k. slice_cmp nat_cmp a (name k)) m n w → (b : List ℕ) → at n b ≡ cond (bytes_eq a b) w (at m b)
  updated_place a m n w h b = elim (cases_Bool (bytes_eq a b)) [
    | inl y ↦ taken (bytes_eq a b) w (at m b) (at n b) y (ap (at n) (sym ((bytes_eq-Decides a b).0 y)) ∙ h.1)
    | inr o ↦
        left (bytes_eq a b) w (at m b) (at n b) o
        (others _ _ _ _ h.3 _ (λ x y. (eq_by_cmp_equiv nat_list_cmp_total).congr b (name x) (name y)) (λ k. apart a b (name k) o))
  ]
