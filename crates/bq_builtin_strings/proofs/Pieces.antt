-- One cut after another.
use Rattle.std.proofs.Common.{◌≡◌, ◌+◌, ◌-◌, ◌<◌, ◌≤◌, ◌++◌, ℕ, zero, suc, List, [], ◌∷◌, Option, Some, None, length, take, drop, get_or, min, refl, sym, ap, ◌∙◌, arith, append_assoc, append-nil}
use Rattle.std.proofs.lemmas.List.{drop_more, drop_all, take_rest}
use Rattle.bq_builtin_strings.specs.Search.{find, rfind}
use Rattle.bq_builtin_strings.specs.Parts.{around, partition, rpartition, cut_within, cut_last_within, split, rsplit, cuts, replace_cuts, interleave, joined_on, join}
use Rattle.bq_builtin_strings.proofs.PartCases.{cuts_by, replace_by, rsplit_by, split_by}

pub partition_at : (sep text : List ℕ) (v : Option ℕ) → v ≡ find sep text → partition sep text ≡ around sep text v
unfolding partition
partition_at sep text v e = ap (around sep text) (sym e)

pub rpartition_at : (sep text : List ℕ) (v : Option ℕ) → v ≡ rfind sep text → rpartition sep text ≡ around sep text v
unfolding rpartition
rpartition_at sep text v e = ap (around sep text) (sym e)

module _ (sep : List ℕ) where
  pub split_stops : (n : ℕ) (text : List ℕ) → cut_within sep n text ≡ None → split sep n text ≡ text ∷ []
  unfolding split cut_within
  split_stops zero text e = refl
  split_stops (suc n) text e = ap (split_by (split sep n) text) e

  pub split_goes : (n : ℕ) (text before after : List ℕ) → cut_within sep n text ≡ Some (before, after) → split sep n text ≡ before ∷ split sep (n - 1) after
  unfolding split cut_within
  split_goes zero text before after e = absurd (cc)
  split_goes (suc n) text before after e = let one : suc n - 1 ≡ n = omega arith in rw one (ap (split_by (split sep n) text) e)

  pub rsplit_stops : (n : ℕ) (text : List ℕ) → cut_last_within sep n text ≡ None → rsplit sep n text ≡ text ∷ []
  unfolding rsplit cut_last_within
  rsplit_stops zero text e = refl
  rsplit_stops (suc n) text e = ap (rsplit_by (rsplit sep n) text) e

  pub rsplit_goes : (n : ℕ) (text before after : List ℕ) → cut_last_within sep n text ≡ Some (before, after) → rsplit sep n text ≡ rsplit sep (n - 1) before ++ after ∷ []
  unfolding rsplit cut_last_within
  rsplit_goes zero text before after e = absurd (cc)
  rsplit_goes (suc n) text before after e = let one : suc n - 1 ≡ n = omega arith in rw one (ap (rsplit_by (rsplit sep n) text) e)

  pub cuts_stop : (n : ℕ) (text : List ℕ) → cut_within sep n text ≡ None → cuts sep n text ≡ 0
  unfolding cuts cut_within
  cuts_stop zero text e = refl
  cuts_stop (suc n) text e = ap (cuts_by (cuts sep n)) e

  pub cuts_go : (n : ℕ) (text before after : List ℕ) → cut_within sep n text ≡ Some (before, after) → cuts sep n text ≡ 1 + cuts sep (n - 1) after
  unfolding cuts cut_within
  cuts_go zero text before after e = absurd (cc)
  cuts_go (suc n) text before after e = let one : suc n - 1 ≡ n = omega arith in rw one (ap (cuts_by (cuts sep n)) e)

  pub replace_stops : (new : List ℕ) (n : ℕ) (text : List ℕ) → cut_within sep n text ≡ None → replace_cuts sep new n text ≡ text
  unfolding replace_cuts cut_within
  replace_stops new zero text e = refl
  replace_stops new (suc n) text e = ap (replace_by (replace_cuts sep new n) new text) e

  pub replace_goes : (new : List ℕ) (n : ℕ) (text before after : List ℕ) → cut_within sep n text ≡ Some (before, after) → replace_cuts sep new n text ≡ before ++ (new ++ replace_cuts sep new (n - 1) after)
  unfolding replace_cuts cut_within
  replace_goes new zero text before after e = absurd (cc)
  replace_goes new (suc n) text before after e = let one : suc n - 1 ≡ n = omega arith in rw one (ap (replace_by (replace_cuts sep new n) new text) e)

-- ---- between bytes

module _ (new : List ℕ) where
  interleave_one : (n : ℕ) (b : ℕ) (bs : List ℕ) → 0 < n → interleave new n (b ∷ bs) ≡ new ++ b ∷ interleave new (n - 1) bs
  unfolding interleave
  interleave_one zero b bs l = absurd (omega arith)
  interleave_one (suc n) b bs l = let one : suc n - 1 ≡ n = omega arith in rw one refl

  pub interleave_goes : (most : ℕ) (text : List ℕ) (i : ℕ) (b : ℕ) (made total : List ℕ) → i < most → i < length text → b ≡ get_or text i 0 → made ++ interleave new (most - i) (drop i text) ≡ total → ((made ++ new) ++ b ∷ []) ++ interleave new (most - (i + 1)) (drop (i + 1) text) ≡ total
  interleave_goes most text i b made total l m e h =
      let next : drop i text ≡ b ∷ drop (i + 1) text = drop_more text i 0 m ∙ ap (λ (x : ℕ). x ∷ drop (i + 1) text) (sym e) in
      let less : most - i - 1 ≡ most - (i + 1) = omega arith in
      let opened : interleave new (most - i) (drop i text) ≡ new ++ b ∷ interleave new (most - (i + 1)) (drop (i + 1) text) =
      ap (interleave new (most - i)) next ∙ (interleave_one (most - i) b (drop (i + 1) text) (omega arith) ∙ ap (λ (n : ℕ). new ++ b ∷ interleave new n (drop (i + 1) text)) less) in
      append_assoc (made ++ new) (b ∷ []) (interleave new (most - (i + 1)) (drop (i + 1) text))
      ∙ (append_assoc made new (b ∷ interleave new (most - (i + 1)) (drop (i + 1) text)) ∙ (ap (λ (t : List ℕ). made ++ t) (sym opened) ∙ h))

  pub interleave_ends : (n : ℕ) (text : List ℕ) → n ≡ 0 → interleave new n text ≡ text
  unfolding interleave
  interleave_ends zero text e = refl
  interleave_ends (suc n) text e = absurd (omega arith)

  pub interleave_last : (n : ℕ) (text : List ℕ) → 0 < n → text ≡ [] → interleave new n text ≡ new
  unfolding interleave
  interleave_last zero text l e = absurd (omega arith)
  interleave_last (suc n) text l e = rw e refl

  pub interleave_whole : (most : ℕ) (text : List ℕ) (i len : ℕ) (made total : List ℕ) → i ≡ len → len ≡ min most (length text) → most ≤ length text → made ++ interleave new (most - i) (drop i text) ≡ total
      → made ++ take (length text - len) (drop len text) ≡ total
  interleave_whole most text i len made total e m l h =
      ap (λ (t : List ℕ). made ++ t) (take_rest text len ∙ (ap (λ (k : ℕ). drop k text) (sym e) ∙ sym (interleave_ends (most - i) (drop i text) (omega (arith, e, m, l))))) ∙ h

  pub interleave_full : (most : ℕ) (text : List ℕ) (i len : ℕ) (made total : List ℕ) → i ≡ len → len ≡ min most (length text) → length text < most → made ++ interleave new (most - i) (drop i text) ≡ total
      → (made ++ take (length text - len) (drop len text)) ++ new ≡ total
  interleave_full most text i len made total e m l h =
      let none : drop len text ≡ [] = drop_all len text (omega (arith, m, l)) in
      let last : drop i text ≡ [] = drop_all i text (omega (arith, e, m, l)) in
      ap (λ (t : List ℕ). t ++ new) (ap (λ (t : List ℕ). made ++ t) (take_rest text len ∙ none) ∙ append-nil made)
      ∙ (ap (λ (t : List ℕ). made ++ t) (sym (interleave_last (most - i) (drop i text) (omega (arith, e, m, l)) last)) ∙ h)

-- ---- the parts joined

module _ (sep : List ℕ) where
  pub join_none : (parts : List (List ℕ)) → length parts < 1 → join sep parts ≡ []
  unfolding join
  join_none [] l = refl
  join_none (part ∷ parts) l = absurd (omega arith)

  pub join_some : (part : List ℕ) (parts : List (List ℕ)) → join sep (part ∷ parts) ≡ part ++ joined_on sep parts
  unfolding join
  join_some part parts = refl

  pub joined_more : (part : List ℕ) (parts : List (List ℕ)) → joined_on sep (part ∷ parts) ≡ sep ++ (part ++ joined_on sep parts)
  unfolding joined_on
  joined_more part parts = refl

  pub joined_none : joined_on sep [] ≡ []
  unfolding joined_on
  joined_none = refl

  -- a part first: the text is the part, then the rest
  pub join_first : (parts : List (List ℕ)) (first : List ℕ) → 0 < length parts → first ≡ get_or parts 0 first → join sep parts ≡ first ++ joined_on sep (drop 1 parts)
  join_first parts first l e = ap (join sep) (drop_more parts 0 first l ∙ ap (λ (p : List ℕ). p ∷ drop 1 parts) (sym e)) ∙ join_some first (drop 1 parts)

  pub join_goes : (rest : List (List ℕ)) (i : ℕ) (part : List ℕ) (made total : List ℕ) → i < length rest → part ≡ get_or rest i part → made ++ joined_on sep (drop i rest) ≡ total → ((made ++ sep) ++ part) ++ joined_on sep (drop (i + 1) rest) ≡ total
  join_goes rest i part made total l e h =
      let opened : joined_on sep (drop i rest) ≡ sep ++ (part ++ joined_on sep (drop (i + 1) rest)) =
      ap (joined_on sep) (drop_more rest i part l ∙ ap (λ (p : List ℕ). p ∷ drop (i + 1) rest) (sym e)) ∙ joined_more part (drop (i + 1) rest) in
      append_assoc (made ++ sep) part (joined_on sep (drop (i + 1) rest))
      ∙ (append_assoc made sep (part ++ joined_on sep (drop (i + 1) rest)) ∙ (ap (λ (t : List ℕ). made ++ t) (sym opened) ∙ h))

  pub join_ends : (rest : List (List ℕ)) (i : ℕ) (made total : List ℕ) → length rest ≤ i → made ++ joined_on sep (drop i rest) ≡ total → made ≡ total
  join_ends rest i made total l h = sym (append-nil made) ∙ (ap (λ (t : List ℕ). made ++ t) (sym (ap (joined_on sep) (drop_all i rest l) ∙ joined_none)) ∙ h)
