-- Faults that name a line, or are F11, which no parsed file has.
use Rattle.std.proofs.Common.{◌≡◌, ◌≤◌, List, [], ◌∷◌, ◌++◌, Bool, true, false, Option, Some, None, ◌⊎◌, inl, inr, refl}
use Rattle.std.specs.List.{AllByRecursion, flat_map}
use Rattle.bq_base.specs.declared.fault.NameFault.{NameFault}
use Rattle.bq_base.specs.declared.fault.Fault.{Fault}
use Rattle.bq_base.specs.declared.fault.NameFault.TheVariants as f
use Rattle.bq_resolve_laws.specs.Violations.{of_part, in_turn, when, unless, too_deep}
use Rattle.bq_load_laws.proofs.Tokens.{all_append}

abbrev pub OnLine : Fault NameFault → Type 0
OnLine w = (1 ≤ w.line) ⊎ (w.kind ≡ f.Nesting)

abbrev pub Fine : List (Fault NameFault) → Type 0
Fine ws = AllByRecursion OnLine ws

pub deep_fine : Fine too_deep
deep_fine = (inr refl, tt)

pub two_fine : (xs ys : List (Fault NameFault)) → Fine xs → Fine ys → Fine (xs ++ ys)
two_fine xs ys h g = all_append OnLine xs ys h g

pub when_fine : (b : Bool) (why : Fault NameFault) → 1 ≤ why.line → Fine (when b why)
when_fine true why h = (inl h, tt)
when_fine false why h = tt

pub unless_fine : (b : Bool) (why : Fault NameFault) → 1 ≤ why.line → Fine (unless b why)
unless_fine true why h = tt
unless_fine false why h = (inl h, tt)

module _ {A : Type 0} (P : A → Type 0) where
  pub all_fine : (one : A → List (Fault NameFault)) → ((x : A) → P x → Fine (one x)) → (xs : List A) → AllByRecursion P xs → Fine (flat_map one xs)
  all_fine one each [] h = tt
  all_fine one each (x ∷ xs) h = two_fine (one x) (flat_map one xs) (each x h.0) (all_fine one each xs h.1)

  pub turn_fine : {S : Type 0} (one : S → A → List (Fault NameFault)) (add : S → A → S) → ((s : S) (x : A) → P x → Fine (one s x)) → (s : S) (xs : List A) → AllByRecursion P xs → Fine (in_turn one add s xs)
  turn_fine one add each s [] h = tt
  turn_fine one add each s (x ∷ xs) h = two_fine (one s x) (in_turn one add (add s x) xs) (each s x h.0) (turn_fine one add each (add s x) xs h.1)

  abbrev pub Maybe : Option A → Type 0
  Maybe None = Unit {0}
  Maybe (Some x) = P x

  pub part_fine : (one : A → List (Fault NameFault)) → ((x : A) → P x → Fine (one x)) → (o : Option A) → Maybe o → Fine (of_part one o)
  part_fine one each None h = tt
  part_fine one each (Some x) h = each x h
