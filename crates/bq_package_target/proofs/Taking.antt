-- Names that are taken one after another.
use Rattle.std.proofs.Common.{◌≡◌, ◌≤◌, ℕ, Bool, true, false, not, List, [], ◌∷◌, ◌++◌, length, take, refl, sym, ap, subst, ◌∙◌, inl, inr, arith, append-nil, append_assoc}
use Rattle.std.specs.Str.{bytes_eq}
use Rattle.std.specs.List.{IsDistinct}
use Rattle.std.proofs.lemmas.Bool.{cases_Bool}
use Rattle.std.proofs.lemmas.List.{take-append-le, take_all, length-take}
use Rattle.std.proofs.lemmas.Map.Keys.{IsDistinct-push}
use Rattle.std.specs.Cmp.Lexicographic.{nat_list_eq_equiv}
use Rattle.bq_package_target.specs.Names.{with_name, are_new}
use Rattle.bq_base_texts.specs.NameSet.{has}

-- what an answer of `add` says of the name
pub was_there : (b c : Bool) → c ≡ not b → c ≡ false → b ≡ true
was_there true c e f = refl
was_there false c e f = cc

pub was_new : (b c : Bool) → c ≡ not b → c ≡ true → b ≡ false
was_new false c e f = refl
was_new true c e f = cc

pub with_new : (names : List (List ℕ)) (n : List ℕ) → has names n ≡ false → with_name names n ≡ names ++ n ∷ []
unfolding with_name
with_new names n h = rw h refl

pub with_old : (names : List (List ℕ)) (n : List ℕ) → has names n ≡ true → with_name names n ≡ names
unfolding with_name
with_old names n h = rw h refl

pub none_new : (names : List (List ℕ)) → are_new names [] ≡ true
unfolding are_new
none_new names = refl

pub new_more : (names : List (List ℕ)) (n : List ℕ) (ns : List (List ℕ)) → has names n ≡ false → are_new names (n ∷ ns) ≡ are_new (with_name names n) ns
unfolding are_new
new_more names n ns h = rw (with_new names n h, h) refl

pub new_less : (names : List (List ℕ)) (n : List ℕ) (ns : List (List ℕ)) → has names n ≡ true → are_new names (n ∷ ns) ≡ false
unfolding are_new
new_less names n ns h = rw h refl

pub all_more : (names : List (List ℕ)) (n : List ℕ) (ns : List (List ℕ)) → has names n ≡ false → names ++ n ∷ ns ≡ with_name names n ++ ns
all_more names n ns h = rw (with_new names n h) (sym (append_assoc names (n ∷ []) ns))

-- what was there first is there still
pub front_more : (names : List (List ℕ)) (n : List ℕ) (first : List (List ℕ)) → take (length first) names ≡ first → take (length first) (with_name names n) ≡ first
front_more names n first e = elim (cases_Bool (has names n)) [
  | inl h ↦ rw (with_old names n h) e
  | inr h ↦
      let long : length first ≤ length names = omega (arith, length-take (length first) names, ap length e) in
      rw (with_new names n h, take-append-le (length first) names (n ∷ []) long) e
]

pub front_is : (names : List (List ℕ)) → take (length names) names ≡ names
front_is names = take_all (length names) names (omega arith)

-- names that are new among distinct ones are distinct with them
pub distinct_from_new : (names ns : List (List ℕ)) → IsDistinct bytes_eq names → are_new names ns ≡ true → IsDistinct bytes_eq (names ++ ns)
distinct_from_new names [] d e = rw (append-nil names) d
distinct_from_new names (n ∷ ns) d e = elim (cases_Bool (has names n)) [
  | inl h ↦ let no : true ≡ false = sym e ∙ new_less names n ns h in absurd (cc)
  | inr h ↦
      let is : with_name names n ≡ names ++ n ∷ [] = with_new names n h in
      let more : are_new (names ++ n ∷ []) ns ≡ true = ap (λ (z : List (List ℕ)). are_new z ns) (sym is) ∙ (sym (new_more names n ns h) ∙ e) in
      let all : IsDistinct bytes_eq ((names ++ n ∷ []) ++ ns) = distinct_from_new (names ++ n ∷ []) ns (IsDistinct-push nat_list_eq_equiv names n d h) more in
      subst (λ (z : List (List ℕ)). IsDistinct bytes_eq z) (append_assoc names (n ∷ []) ns) all
]

-- `names` are the first names and those of all names but the ones that are left; up to here all were new
pub record Takes (first all names left : List (List ℕ)) : Type 0 where
  pub new : are_new first all ≡ are_new names left
  pub all_in : first ++ all ≡ names ++ left
  pub front : take (length first) names ≡ first

pub takes_none : (first all : List (List ℕ)) → Takes first all first all
takes_none first all = record { new = refl; all_in = refl; front = front_is first }

pub takes_more : (first all names left : List (List ℕ)) (n : List ℕ) → Takes first all names (n ∷ left) → has names n ≡ false → Takes first all (with_name names n) left
takes_more first all names left n t h = record {
  new = t.new ∙ new_more names n left h;
  all_in = t.all_in ∙ all_more names n left h;
  front = front_more names n first t.front;
}

pub takes_stop : (first all names left : List (List ℕ)) (n : List ℕ) → Takes first all names (n ∷ left) → has names n ≡ true → are_new first all ≡ false
takes_stop first all names left n t h = t.new ∙ new_less names n left h

pub takes_all : (first all names : List (List ℕ)) → Takes first all names [] → are_new first all ≡ true
takes_all first all names t = t.new ∙ none_new names

pub takes_end : (first all names : List (List ℕ)) → Takes first all names [] → names ≡ first ++ all
takes_end first all names t = sym (t.all_in ∙ append-nil names)
