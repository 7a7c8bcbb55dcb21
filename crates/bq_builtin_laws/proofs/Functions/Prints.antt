-- What is printed.
use Rattle.std.proofs.Common.{◌≡◌, ◌∙◌, sym, ap, refl, ℕ, zero, suc, ◌+◌, ◌⊎◌, inl, inr, List, [], ◌∷◌, ◌++◌, length, Some, None, Ok, Err, codes}
use Rattle.std.specs.Prelude.{nat_le}
use Rattle.bq_base.proofs.Choices.{by_bool}
use Rattle.bq_value.specs.Cells.{StoreView}
use Rattle.bq_value.specs.Datum.{Datum, none, string}
use Rattle.bq_value.specs.Looked.{Looked}
use Rattle.bq_value_text.specs.Page.{PageView, max_text, written}
use Rattle.bq_value_text.specs.Shown.{finished_by}
use Rattle.bq_builtin_machine.specs.Action.{Run, done, stopped, following, pure, ◌>>◌}
use Rattle.bq_builtin_machine.specs.Machine as machine
use Rattle.bq_builtin_machine.specs.Machine.{after_walk}
use Rattle.bq_builtin_machine.specs.State.{State}
use Rattle.bq_builtin.specs.Arguments.{only_named}
use Rattle.bq_builtin.specs.Arguments as arguments
use Rattle.bq_builtin.specs.Texts.{joined_texts, space, separator_in, print}
use Rattle.bq_builtin_laws.specs.Functions.Words.{by_place}

abbrev text_of : Looked (List ℕ) → List ℕ
text_of (Ok p) = p.0
text_of (Err kind) = []

module _ (a between b : List ℕ) where
  -- the three texts after one another, if there is room for them
  pages : (written (written (written (Some []) a) between) b ≡ None) ⊎ (written (written (written (Some []) a) between) b ≡ Some ((a ++ between) ++ b))
  unfolding written
  pages = elim (by_bool (nat_le (0 + length a) max_text)) [
    | inr t ↦ rw t (inl refl)
    | inl t ↦ elim (by_bool (nat_le (length a + length between) max_text)) [
      | inr u ↦ rw (t, u) (inl refl)
      | inl u ↦ elim (by_bool (nat_le (length (a ++ between) + length b) max_text)) [
        | inr v ↦ rw (t, u, v) (inl refl)
        | inl v ↦ rw (t, u, v) (inr refl)
      ]
    ]
  ]

  by_page : (page : PageView) (k m : ℕ) (w : List ℕ) → (page ≡ None) ⊎ (page ≡ Some ((a ++ between) ++ b)) → finished_by (Ok (page, k)) ≡ Ok (w, m) → w ≡ (a ++ between) ++ b
  by_page None k m w o h = absurd (cc)
  by_page (Some text) k m w (inl e) h = absurd (cc)
  by_page (Some text) k m w (inr e) h = let is : text ≡ (a ++ between) ++ b = cc in sym (ap text_of h) ∙ is

  joined_is : (store : StoreView) (n m : ℕ) (w : List ℕ) → joined_texts between store n (string a ∷ string b ∷ []) ≡ Ok (w, m) → w ≡ (a ++ between) ++ b
  unfolding joined_texts
  joined_is store zero m w h = absurd (cc)
  joined_is store (suc zero) m w h = absurd (cc)
  joined_is store (suc (suc k)) m w h = by_page (written (written (written (Some []) a) between) b) k m w pages h

  -- the run that prints a text, and gives `None`
  abbrev printing : Looked (List ℕ) → State → Run State Datum
  printing l s = following (after_walk l s) (λ t. machine.print t >> pure none)

  abbrev prints_after : Run State Datum → List (List ℕ)
  prints_after (done v t) = t.prints
  prints_after (stopped why) = []

  printed : (l : Looked (List ℕ)) (v : Datum) (s t : State) → ((w : List ℕ) (m : ℕ) → l ≡ Ok (w, m) → w ≡ (a ++ between) ++ b) → printing l s ≡ done v t → t.prints ≡ s.prints ++ ((a ++ between) ++ b) ∷ []
  unfolding machine.print
  printed (Ok p) v s t is h = sym (ap prints_after h) ∙ ap (λ w. s.prints ++ w ∷ []) (is p.0 p.1 refl)
  printed (Err kind) v s t is h = absurd (cc)

pub with_space : (a b : List ℕ) (v : Datum) (s t : State) → print (by_place (string a ∷ string b ∷ [])) s ≡ done v t → t.prints ≡ s.prints ++ ((a ++ codes " ") ++ b) ∷ []
unfolding print separator_in only_named
with_space a b v s t h = printed a space b (joined_texts space s.store s.steps (string a ∷ string b ∷ [])) v s t (λ w m e. joined_is a space b s.store s.steps m w e) h

pub with_separator : (a b between : List ℕ) (v : Datum) (s t : State) → print (record { positional = string a ∷ string b ∷ []; named = (codes "sep", string between) ∷ [] }) s ≡ done v t → t.prints ≡ s.prints ++ ((a ++ between) ++ b) ∷ []
unfolding print separator_in only_named arguments.text
with_separator a b between v s t h = printed a between b (joined_texts between s.store s.steps (string a ∷ string b ∷ [])) v s t (λ w m e. joined_is a between b s.store s.steps m w e) h
