-- Modules that are found along loads: what is found when nothing is left to read is all modules.
use Rattle.std.proofs.Common.{◌≡◌, ◌∙◌, ◌<◌, ◌≤◌, ◌+◌, ◌⊎◌, ℕ, List, [], ◌∷◌, ◌++◌, Some, length, map, take, slice_get, refl, sym, ap, subst, inl, inr, arith, length-append}
use Rattle.std.specs.List.{AllByRecursion, Contains, IsDistinct}
use Rattle.std.proofs.lemmas.List.{take_more, take_all, take-append-le, map-append}
use Rattle.std.proofs.lemmas.List.Elements.{Contains-append_left, Contains-push_cases, All-from_recursion}
use Rattle.std.proofs.lemmas.Option.{slice_get_within, get_or_from_slice_get}
use Rattle.bq_label.specs.declared.packages.BuildFile.{BuildFile}
use Rattle.bq_label.specs.Label.{LabelParts}
use Rattle.bq_label.specs.Packages.{build_label}
use Rattle.bq_label_set.specs.Labels.{same_label, with_labels}
use Rattle.bq_label_set.proofs.Added.{numbers_stay, the_labels_added, each_label_once, still_distinct}
use Rattle.bq_base.specs.declared.limits.Limits.{Limits}
use Rattle.bq_load_front.specs.Inputs.{InputParts}
use Rattle.bq_load_front.specs.Front.{loads_by}
use Rattle.bq_load_front.specs.Reading.{parsed_of, loads_of}
use Rattle.bq_load_front.proofs.ByName.{loads_agree}
use Rattle.bq_load_discover.specs.declared.modules.Module.{Module}
use Rattle.bq_load_discover.specs.Module.{module_of, labels_of, IsRead}
use Rattle.bq_load_discover.specs.Modules.{IsModule, AreTooMany, build_labels}
use Rattle.bq_load_discover.specs.Exploring.{Explores, AreFound}
use Rattle.bq_load_discover.proofs.Lists.{none_in, in_filter_map, filter_map_in}

-- ---- the BUILD files are found

pub begins : (inputs : InputParts) (ls : List LabelParts) → ls ≡ with_labels [] (build_labels inputs.packages) → Explores inputs ls []
begins inputs ls e =
    let bs : List LabelParts = build_labels inputs.packages in
    record {
      within = omega arith;
      read = refl;
      distinct = subst (λ (z : List LabelParts). IsDistinct same_label z) (sym e) (each_label_once bs);
      only = λ l c. elim ((the_labels_added [] bs l).0 (subst (λ (z : List LabelParts). Contains z l) e c)) [
        | inl none ↦ absurd (none_in l none)
        | inr here ↦ let r = in_filter_map build_label inputs.packages l here in IsModule.build r.by r.known r.gives
      ];
      builds = λ b l c g. subst (λ (z : List LabelParts). Contains z l) (sym e) ((the_labels_added [] bs l).1 (inr (filter_map_in build_label inputs.packages b l c g)));
      closed = λ m l c d. absurd (none_in m c);
    }

-- ---- one more is read

module _ (inputs : InputParts) (ls : List LabelParts) (ms : List Module) (x : Explores inputs ls ms) (l : LabelParts) (next : Module) (at : slice_get ls (length ms) ≡ Some l) (is : next ≡ module_of inputs l)
    (now : List LabelParts) (added : now ≡ with_labels ls (loads_by next.front)) where
  room : length ms < length ls
  room = slice_get_within ls (length ms) l at

  known : Contains ls l
  known = (length ms, room, get_or_from_slice_get ls (length ms) l l at)

  loads : loads_by next.front ≡ loads_of inputs l
  loads = ap (λ (z : Module). loads_by z.front) is ∙ loads_agree inputs l

  more : (rest : List LabelParts) × (now ≡ ls ++ rest)
  more = let g = numbers_stay ls (loads_by next.front) in (g.0, added ∙ g.1)

  stays : (m : LabelParts) → Contains ls m → Contains now m
  stays m c = subst (λ (z : List LabelParts). Contains z m) (sym more.1) (Contains-append_left ls more.0 m c)

  taken : take (length ms + 1) now ≡ take (length ms) ls ++ l ∷ []
  taken =
      let fits : length ms + 1 ≤ length ls = omega (arith, room) in
      ap (take (length ms + 1)) more.1 ∙ (take-append-le (length ms + 1) ls more.0 fits ∙ (take_more ls (length ms) l room ∙ ap (λ (z : LabelParts). take (length ms) ls ++ z ∷ []) (get_or_from_slice_get ls (length ms) l l at)))

  long : length (ms ++ next ∷ []) ≡ length ms + 1
  long = length-append ms (next ∷ [])

  front_part : take (length (ms ++ next ∷ [])) now ≡ take (length ms) ls ++ l ∷ []
  front_part = ap (λ (z : ℕ). take z now) long ∙ taken

  origin : (m : LabelParts) → Contains now m → Contains ls m ⊎ Contains (loads_of inputs l) m
  origin m c = elim ((the_labels_added ls (loads_by next.front) m).0 (subst (λ (z : List LabelParts). Contains z m) added c)) [
    | inl old ↦ inl old
    | inr new ↦ inr (subst (λ (z : List LabelParts). Contains z m) loads new)
  ]

  found : (m : LabelParts) → Contains (loads_of inputs l) m → Contains now m
  found m c = subst (λ (z : List LabelParts). Contains z m) (sym added) ((the_labels_added ls (loads_by next.front) m).1 (inr (subst (λ (z : List LabelParts). Contains z m) (sym loads) c)))

  pub goes_on : Explores inputs now (ms ++ next ∷ [])
  goes_on = record {
    within =
        let h : length now ≡ length ls + length more.0 = ap length more.1 ∙ length-append ls more.0 in
        omega (arith, long, h, room);
    read =
        ap (λ (z : List Module). z ++ next ∷ []) x.read
        ∙ (ap (λ (z : Module). map (module_of inputs) (take (length ms) ls) ++ z ∷ []) is
        ∙ (sym (map-append (module_of inputs) (take (length ms) ls) (l ∷ [])) ∙ ap (map (module_of inputs)) (sym front_part)));
    distinct = subst (λ (z : List LabelParts). IsDistinct same_label z) (sym added) (still_distinct ls (loads_by next.front) x.distinct);
    only = λ m c. elim (origin m c) [
      | inl old ↦ x.only m old
      | inr new ↦ IsModule.loaded l (x.only l known) new
    ];
    builds = λ b m c g. stays m (x.builds b m c g);
    closed = λ m k c d. elim (Contains-push_cases (take (length ms) ls) l m (subst (λ (z : List LabelParts). Contains z m) front_part c)) [
      | inl before ↦ stays k (x.closed m k before d)
      | inr same ↦ found k (subst (λ (z : LabelParts). Contains (loads_of inputs z) k) (sym same) d)
    ];
  }

-- ---- nothing is left to read

named : (inputs : InputParts) (ls : List LabelParts) → labels_of (map (module_of inputs) ls) ≡ ls
named inputs [] = refl
named inputs (l ∷ ls) = ap (λ (z : List LabelParts). l ∷ z) (named inputs ls)

are_read : (inputs : InputParts) (ls : List LabelParts) → AllByRecursion (IsRead inputs) (map (module_of inputs) ls)
are_read inputs [] = tt
are_read inputs (l ∷ ls) = (refl, are_read inputs ls)

reached : (inputs : InputParts) (ls : List LabelParts) → ((b : BuildFile) (l : LabelParts) → Contains inputs.packages b → build_label b ≡ Some l → Contains ls l)
    → ((m l : LabelParts) → Contains ls m → Contains (loads_of inputs m) l → Contains ls l) → (l : LabelParts) → IsModule inputs.packages (parsed_of inputs) l → Contains ls l
reached inputs ls builds closed l (IsModule.build b c g) = builds b l c g
reached inputs ls builds closed l (IsModule.loaded m i c) = closed m l (reached inputs ls builds closed m i) c

pub ends : (limits : Limits) (inputs : InputParts) (ls : List LabelParts) (ms : List Module) → Explores inputs ls ms → length ls ≤ length ms → length ms ≤ limits.modules → AreFound limits inputs ms
ends limits inputs ls ms x h few =
    let whole : take (length ms) ls ≡ ls = take_all (length ms) ls h in
    let read : ms ≡ map (module_of inputs) ls = x.read ∙ ap (map (module_of inputs)) whole in
    let labels : labels_of ms ≡ ls = ap labels_of read ∙ named inputs ls in
    record {
      few = few;
      read = All-from_recursion (IsRead inputs) ms (subst (λ (z : List Module). AllByRecursion (IsRead inputs) z) (sym read) (are_read inputs ls));
      distinct = subst (λ (z : List LabelParts). IsDistinct same_label z) (sym labels) x.distinct;
      all = λ l i.
          subst (λ (z : List LabelParts). Contains z l) (sym labels)
          (reached inputs ls x.builds (λ m k c d. x.closed m k (subst (λ (z : List LabelParts). Contains z m) (sym whole) c) d) l i);
      only = λ l c. x.only l (subst (λ (z : List LabelParts). Contains z l) labels c);
    }

-- ---- too much is read

pub too_many : (limits : Limits) (inputs : InputParts) (ls : List LabelParts) (ms : List Module) → Explores inputs ls ms → limits.modules < length ms → AreTooMany limits inputs.packages (parsed_of inputs)
too_many limits inputs ls ms x h = AreTooMany.modules ls x.distinct (omega (arith, h, x.within)) x.only
