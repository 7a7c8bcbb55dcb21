-- An outcome depends on what the module reaches, and on nothing else.
use Rattle.std.proofs.Common.{◌≡◌, ℕ, zero, suc, Bool, true, false, cond, List, [], ◌∷◌, length, Result, Ok, Err, sym, refl, ap, subst, ◌∙◌, inl, inr}
use Rattle.std.specs.Prelude.{not, ◌&&◌, ◌||◌}
use Rattle.std.specs.List.{list_any}
use Rattle.bq_board_plan.specs.Counts.{Has}
use Rattle.bq_board_plan.specs.Graph.{Loads, row, Known}
use Rattle.bq_board_plan.specs.Depth.{max_load_depth, is_too_deep}
use Rattle.bq_board_plan.specs.Cycles.{starts_path, is_cyclic, PathTo, Reaches, ReachesACycle}
use Rattle.bq_board_plan.proofs.Lemmas.{bool_cases, head_has, tail_has, loads_acyclic}
use Rattle.bq_load_order.specs.Outcome.{first, load_values, evaluated, outcome}
use Rattle.bq_load_order.specs.OutcomeLaws.{OutcomeOfReached}
use Rattle.bq_load_order.specs.declared.outcome.Outcome.TheVariants.{Cyclic, TooDeep}
use Rattle.bq_load_order.proofs.Solution.{values_same, cyclic_is, deep_is, evaluated_is, outcome_is}

one_more : (p : Loads) (n m l k : ℕ) → PathTo p n m l → Has (row p l) k → PathTo p (suc n) m k
one_more p zero m l k q h = (k, subst (λ (z : ℕ). Has (row p z) k) (sym q) h, refl)
one_more p (suc n) m l k q h = (q.0, q.1, one_more p n q.0 l k q.2 h)

first_same : (f g : ℕ → Bool) (xs : List ℕ) → ((l : ℕ) → Has xs l → f l ≡ g l) → first f xs ≡ first g xs
first_same f g [] h = refl
first_same f g (x ∷ xs) h = let e = h x (head_has x xs) in let r = first_same f g xs (λ l k. h l (tail_has x xs l k)) in λ i. cond (e i) x (r i)

any_same : (f g : ℕ → Bool) (xs : List ℕ) → ((l : ℕ) → Has xs l → f l ≡ g l) → list_any f xs ≡ list_any g xs
any_same f g [] h = refl
any_same f g (x ∷ xs) h = let e = h x (head_has x xs) in let r = any_same f g xs (λ l k. h l (tail_has x xs l k)) in λ i. e i || r i

evaluated_same : {V F : Type 0} (f g : List V → Result V F) (r : Result (List V) ℕ) → ((vs : List V) → f vs ≡ g vs) → evaluated f r ≡ evaluated g r
evaluated_same f g (Ok vs) h = ap (λ o. evaluated (λ _. o) (Ok vs)) (h vs)
evaluated_same f g (Err l) h = refl

same_bool : (a b : Bool) → (a ≡ true → b ≡ true) → (b ≡ true → a ≡ true) → a ≡ b
same_bool true b f g = sym (f refl)
same_bool false true f g = g refl
same_bool false false f g = refl

module _ {V F : Type 0} (means others : ℕ → List V → Result V F) (p q : Loads) (known-p : Known p) (known-q : Known q) (cycles-p : ReachesACycle p) (cycles-q : ReachesACycle q) (m : ℕ)
    (agree : (l : ℕ) → Reaches p m l → (row p l ≡ row q l) × ((vs : List V) → means l vs ≡ others l vs)) where
  load : (l k : ℕ) → Reaches p m l → Has (row p l) k → Reaches p m k
  load l k r h = (suc r.0, one_more p r.0 m l k r.1 h)

  along : (n l x : ℕ) → Reaches p m l → PathTo p n l x → Reaches p m x
  along zero l x r path = subst (Reaches p m) path r
  along (suc n) l x r path = along n path.0 x (load l path.0 r path.1) path.2

  to_q : (n l x : ℕ) → Reaches p m l → PathTo p n l x → PathTo q n l x
  to_q zero l x r path = path
  to_q (suc n) l x r path = (path.0, subst (λ (ys : List ℕ). Has ys path.0) (agree l r).0 path.1, to_q n path.0 x (load l path.0 r path.1) path.2)

  to_p : (n l x : ℕ) → Reaches p m l → PathTo q n l x → PathTo p n l x
  to_p zero l x r path = path
  to_p (suc n) l x r path = let h : Has (row p l) path.0 = subst (λ (ys : List ℕ). Has ys path.0) (sym (agree l r).0) path.1 in (path.0, h, to_p n path.0 x (load l path.0 r h) path.2)

  cyclic_same : (l : ℕ) → Reaches p m l → is_cyclic p l ≡ is_cyclic q l
  cyclic_same l r = same_bool (is_cyclic p l) (is_cyclic q l)
      (λ e. let t = (cycles-p known-p l).0 e in
      (cycles-q known-q l).1 (t.0, (t.1.0, to_q t.1.0 l t.0 r t.1.1), (t.2.0, to_q (suc t.2.0) t.0 t.0 (along t.1.0 l t.0 r t.1.1) t.2.1)))
      (λ e. let t = (cycles-q known-q l).0 e in let path = to_p t.1.0 l t.0 r t.1.1 in
      (cycles-p known-p l).1 (t.0, (t.1.0, path), (t.2.0, to_p (suc t.2.0) t.0 t.0 (along t.1.0 l t.0 r path) t.2.1)))

  cyclic_alike : (l : ℕ) → Reaches p m l → is_cyclic p l ≡ true → outcome means p l ≡ outcome others q l
  cyclic_alike l r e =
      let one : first (is_cyclic p) (row p l) ≡ first (is_cyclic q) (row p l) = first_same (is_cyclic p) (is_cyclic q) (row p l) (λ k h. cyclic_same k (load l k r h)) in
      let two : first (is_cyclic q) (row p l) ≡ first (is_cyclic q) (row q l) = ap (first (is_cyclic q)) (agree l r).0 in
      outcome_is means p l ∙ cyclic_is means p (outcome means p) l e ∙ ap Cyclic (one ∙ two) ∙ sym (outcome_is others q l ∙ cyclic_is others q (outcome others q) l (sym (cyclic_same l r) ∙ e))

  path_same : (n l : ℕ) → Reaches p m l → starts_path p n l ≡ starts_path q n l
  unfolding starts_path
  path_same zero l r = refl
  path_same (suc n) l r = any_same (starts_path p n) (starts_path q n) (row p l) (λ k h. path_same n k (load l k r h)) ∙ ap (list_any (starts_path q n)) (agree l r).0

  deep_same : (l : ℕ) → Reaches p m l → is_too_deep p l ≡ is_too_deep q l
  unfolding is_too_deep
  deep_same l r = let c = cyclic_same l r in let d = path_same (suc max_load_depth) l r in λ i. not (c i) && d i

  deep_alike : (l : ℕ) → Reaches p m l → is_too_deep p l ≡ true → outcome means p l ≡ outcome others q l
  deep_alike l r e =
      let one : first (starts_path p max_load_depth) (row p l) ≡ first (starts_path q max_load_depth) (row p l) = first_same (starts_path p max_load_depth) (starts_path q max_load_depth) (row p l) (λ k h. path_same max_load_depth k (load l k r h)) in
      let two : first (starts_path q max_load_depth) (row p l) ≡ first (starts_path q max_load_depth) (row q l) = ap (first (starts_path q max_load_depth)) (agree l r).0 in
      outcome_is means p l ∙ deep_is means p (outcome means p) l e ∙ ap TooDeep (one ∙ two) ∙ sym (outcome_is others q l ∙ deep_is others q (outcome others q) l (sym (deep_same l r) ∙ e))

  acyclic_alike : (k l : ℕ) → Reaches p m l → is_cyclic p l ≡ false → starts_path p k l ≡ false → outcome means p l ≡ outcome others q l
  unfolding starts_path
  acyclic_alike zero l r e none-path = absurd (cc)
  acyclic_alike (suc k) l r e none-path =
      let same : (x : ℕ) → Has (row p l) x → outcome means p x ≡ outcome others q x = λ x h. elim (bool_cases (is_cyclic p x)) [
        | inl yes-it ↦ cyclic_alike x (load l x r h) yes-it
        | inr not-it ↦ acyclic_alike k x (load l x r h) not-it (loads_acyclic p k l x none-path h)
      ] in
      let vs : load_values (outcome means p) (row p l) ≡ load_values (outcome others q) (row q l) = values_same (outcome means p) (outcome others q) (row p l) same ∙ ap (load_values (outcome others q)) (agree l r).0 in
      elim (bool_cases (is_too_deep p l)) [
        | inl yes-it ↦ deep_alike l r yes-it
        | inr not-it ↦
            outcome_is means p l ∙ evaluated_is means p (outcome means p) l e not-it ∙ ap (evaluated (means l)) vs
            ∙ evaluated_same (means l) (others l) (load_values (outcome others q) (row q l)) (agree l r).1
            ∙ sym (outcome_is others q l ∙ evaluated_is others q (outcome others q) l (sym (cyclic_same l r) ∙ e) (sym (deep_same l r) ∙ not-it))
      ]

  pub alike : outcome means p m ≡ outcome others q m
  alike = let here : Reaches p m m = (0, refl) in elim (bool_cases (is_cyclic p m)) [
    | inl yes-it ↦ cyclic_alike m here yes-it
    | inr not-it ↦ acyclic_alike (suc (length p)) m here not-it not-it
  ]

pub reached_says : {V F : Type 0} (means others : ℕ → List V → Result V F) (p q : Loads) → ReachesACycle p → ReachesACycle q → OutcomeOfReached means others p q
reached_says means others p q cycles-p cycles-q known-p known-q m agree = alike means others p q known-p known-q cycles-p cycles-q m agree
