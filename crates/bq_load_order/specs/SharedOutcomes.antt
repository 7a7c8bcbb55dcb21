-- Outcomes as the code holds them, with values and faults shared, and what they mean.
use Rattle.std.specs.Prelude.{ℕ, List, map, Option, Some, None, Result, Ok, Err, Vec}
use Rattle.std.specs.declared.sync.Arc.{Arc}
use Rattle.std.specs.declared.alloc.Global.{Global}
use Rattle.bq_load_order.specs.declared.outcome.Outcome.{Outcome}
use Rattle.bq_load_order.specs.declared.outcome.Outcome.TheVariants.{Loaded, Faulty, Cyclic, TooDeep, LoadFailed}

module _ {M N V F : Type 0} (see : M → V) (see_fault : N → F) where
  abbrev pub told : Result M N → Result V F
  told (Ok m) = Ok (see m)
  told (Err e) = Err (see_fault e)

  abbrev pub shown : Outcome (Arc M Global) (Arc N Global) → Outcome V F
  shown (Loaded a) = Loaded (see a.value)
  shown (Faulty a) = Faulty (see_fault a.value)
  shown (Cyclic l) = Cyclic l
  shown (TooDeep l) = TooDeep l
  shown (LoadFailed l) = LoadFailed l

  -- what was found for a module, if anything
  abbrev pub slot : Option (Outcome (Arc M Global) (Arc N Global)) → Option (Outcome V F)
  slot (Some o) = Some (shown o)
  slot None = None

-- the values of loads, or the first load that has none
abbrev pub seen : {M V : Type 0} → (M → V) → Result (Vec (Arc M Global) Global) ℕ → Result (List V) ℕ
seen see (Ok vs) = Ok (map (λ a. see a.value) vs.items)
seen see (Err l) = Err l

-- the value behind a shared one, if there is one
abbrev pub seen_value : {M V : Type 0} → (M → V) → Option (Arc M Global) → Option V
seen_value see (Some a) = Some (see a.value)
seen_value see None = None

-- the value of an outcome; None where there is a fault or a load has no value
abbrev pub value_in : {V F : Type 0} → Outcome V F → Option V
value_in (Loaded v) = Some v
value_in (Faulty e) = None
value_in (Cyclic l) = None
value_in (TooDeep l) = None
value_in (LoadFailed l) = None
