-- The parts of a text, joined, are the text.
use Rattle.std.proofs.Common.{◌≡◌, ◌+◌, ◌++◌, ℕ, zero, suc, List, [], ◌∷◌, Option, Some, None, length, take, drop, refl, sym, ap, ◌∙◌, append_assoc, append-nil}
use Rattle.bq_builtin_strings.specs.Search.{find, rfind}
use Rattle.bq_builtin_strings.specs.Parts.{around, partition, rpartition, split, rsplit, replace_cuts, joined_on, join}
use Rattle.bq_builtin_strings.proofs.Places.{found_whole, rfound_whole}
use Rattle.bq_builtin_strings.proofs.PartCases.{replace_by, rsplit_by, split_by}

some_same : {A : Type 0} {x y : A} → Some x ≡ Some y → x ≡ y
some_same e = cc

module _ (sep : List ℕ) where
  cut_at : (text : List ℕ) (at : ℕ) (p : List ℕ × List ℕ) → text ≡ take at text ++ (sep ++ drop (at + length sep) text) → around sep text (Some at) ≡ Some p → text ≡ p.0 ++ (sep ++ p.1)
  cut_at text at p whole e =
      let is : (take at text, drop (at + length sep) text) ≡ p = some_same e in
      whole ∙ (ap (λ (t : List ℕ). t ++ (sep ++ drop (at + length sep) text)) (ap (λ (q : List ℕ × List ℕ). q.0) is) ∙ ap (λ (t : List ℕ). p.0 ++ (sep ++ t)) (ap (λ (q : List ℕ × List ℕ). q.1) is))

  cut_by : (text : List ℕ) (v : Option ℕ) (p : List ℕ × List ℕ) → find sep text ≡ v → around sep text v ≡ Some p → text ≡ p.0 ++ (sep ++ p.1)
  cut_by text None p f e = absurd (cc)
  cut_by text (Some at) p f e = cut_at text at p (found_whole sep text at f) e

  pub cut_whole : (text : List ℕ) (p : List ℕ × List ℕ) → partition sep text ≡ Some p → text ≡ p.0 ++ (sep ++ p.1)
  unfolding partition
  cut_whole text p e = cut_by text (find sep text) p refl e

  rcut_by : (text : List ℕ) (v : Option ℕ) (p : List ℕ × List ℕ) → rfind sep text ≡ v → around sep text v ≡ Some p → text ≡ p.0 ++ (sep ++ p.1)
  rcut_by text None p f e = absurd (cc)
  rcut_by text (Some at) p f e = cut_at text at p (rfound_whole sep text at f) e

  pub rcut_whole : (text : List ℕ) (p : List ℕ × List ℕ) → rpartition sep text ≡ Some p → text ≡ p.0 ++ (sep ++ p.1)
  unfolding rpartition
  rcut_whole text p e = rcut_by text (rfind sep text) p refl e

-- ---- cut from the left

module _ (sep new : List ℕ) where
  joined_cut : (later : List ℕ → List (List ℕ)) (text : List ℕ) (v : Option (List ℕ × List ℕ)) → joined_on new (split_by later text v) ≡ new ++ join new (split_by later text v)
  unfolding joined_on join
  joined_cut later text None = refl
  joined_cut later text (Some p) = refl

  pub joined_split : (n : ℕ) (text : List ℕ) → joined_on new (split sep n text) ≡ new ++ join new (split sep n text)
  unfolding split joined_on join
  joined_split zero text = refl
  joined_split (suc n) text = joined_cut (split sep n) text (partition sep text)

  join_alone : (text : List ℕ) → join new (text ∷ []) ≡ text
  unfolding join joined_on
  join_alone text = append-nil text

  join_more : (part : List ℕ) (n : ℕ) (text : List ℕ) → join new (part ∷ split sep n text) ≡ part ++ (new ++ join new (split sep n text))
  unfolding join
  join_more part n text = ap (λ (t : List ℕ). part ++ t) (joined_split n text)

module _ (sep : List ℕ) where
  join_cut : (n : ℕ) (text : List ℕ) → ((t : List ℕ) → join sep (split sep n t) ≡ t) → (v : Option (List ℕ × List ℕ)) → partition sep text ≡ v → join sep (split_by (split sep n) text v) ≡ text
  join_cut n text h None e = join_alone sep sep text
  join_cut n text h (Some p) e = join_more sep sep p.0 n p.1 ∙ (ap (λ (t : List ℕ). p.0 ++ (sep ++ t)) (h p.1) ∙ sym (cut_whole sep text p e))

  pub join_split : (n : ℕ) (text : List ℕ) → join sep (split sep n text) ≡ text
  unfolding split
  join_split zero text = join_alone sep sep text
  join_split (suc n) text = join_cut n text (join_split n) (partition sep text) refl

  -- ---- replaced

  replaced_cut : (new : List ℕ) (n : ℕ) (text : List ℕ) → ((t : List ℕ) → replace_cuts sep new n t ≡ join new (split sep n t)) → (v : Option (List ℕ × List ℕ)) → replace_by (replace_cuts sep new n) new text v ≡ join new (split_by (split sep n) text v)
  replaced_cut new n text h None = sym (join_alone sep new text)
  replaced_cut new n text h (Some p) = ap (λ (t : List ℕ). p.0 ++ (new ++ t)) (h p.1) ∙ sym (join_more sep new p.0 n p.1)

  pub replaced : (new : List ℕ) (n : ℕ) (text : List ℕ) → replace_cuts sep new n text ≡ join new (split sep n text)
  unfolding replace_cuts split
  replaced new zero text = sym (join_alone sep new text)
  replaced new (suc n) text = replaced_cut new n text (replaced new n) (partition sep text)

  -- ---- cut from the right

  joined_push : (parts : List (List ℕ)) (last : List ℕ) → joined_on sep (parts ++ last ∷ []) ≡ joined_on sep parts ++ (sep ++ last)
  unfolding joined_on
  joined_push [] last = ap (λ (t : List ℕ). sep ++ t) (append-nil last)
  joined_push (part ∷ parts) last =
      ap (λ (t : List ℕ). sep ++ (part ++ t)) (joined_push parts last)
      ∙ (ap (λ (t : List ℕ). sep ++ t) (sym (append_assoc part (joined_on sep parts) (sep ++ last))) ∙ sym (append_assoc sep (part ++ joined_on sep parts) (sep ++ last)))

  join_push : (part : List ℕ) (parts : List (List ℕ)) (last : List ℕ) → join sep ((part ∷ parts) ++ last ∷ []) ≡ join sep (part ∷ parts) ++ (sep ++ last)
  unfolding join
  join_push part parts last = ap (λ (t : List ℕ). part ++ t) (joined_push parts last) ∙ sym (append_assoc part (joined_on sep parts) (sep ++ last))

  -- there is a part at least
  record Some_part (parts : List (List ℕ)) : Type 0 where
    head : List ℕ
    tail : List (List ℕ)
    are : parts ≡ head ∷ tail

  some_part_by : (n : ℕ) (text : List ℕ) → ((t : List ℕ) → Some_part (rsplit sep n t)) → (v : Option (List ℕ × List ℕ)) → Some_part (rsplit_by (rsplit sep n) text v)
  some_part_by n text h None = record { head = text; tail = []; are = refl }
  some_part_by n text h (Some p) = let first = h p.0 in record { head = first.head; tail = first.tail ++ p.1 ∷ []; are = ap (λ (v : List (List ℕ)). v ++ p.1 ∷ []) first.are }

  some_part : (n : ℕ) (text : List ℕ) → Some_part (rsplit sep n text)
  unfolding rsplit
  some_part zero text = record { head = text; tail = []; are = refl }
  some_part (suc n) text = some_part_by n text (some_part n) (rpartition sep text)

  rjoin_cut : (n : ℕ) (text : List ℕ) → ((t : List ℕ) → join sep (rsplit sep n t) ≡ t) → (v : Option (List ℕ × List ℕ)) → rpartition sep text ≡ v → join sep (rsplit_by (rsplit sep n) text v) ≡ text
  rjoin_cut n text h None e = join_alone sep sep text
  rjoin_cut n text h (Some p) e =
      let first = some_part n p.0 in
      ap (λ (v : List (List ℕ)). join sep (v ++ p.1 ∷ [])) first.are
      ∙ (join_push first.head first.tail p.1
      ∙ (ap (λ (v : List (List ℕ)). join sep v ++ (sep ++ p.1)) (sym first.are) ∙ (ap (λ (t : List ℕ). t ++ (sep ++ p.1)) (h p.0) ∙ sym (rcut_whole sep text p e))))

  pub rjoin_split : (n : ℕ) (text : List ℕ) → join sep (rsplit sep n text) ≡ text
  unfolding rsplit
  rjoin_split zero text = join_alone sep sep text
  rjoin_split (suc n) text = rjoin_cut n text (rjoin_split n) (rpartition sep text) refl
