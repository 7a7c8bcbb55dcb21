-- The definitions of the laws of binding (Starlark, "Function and method calls").
use Rattle.std.specs.Prelude.{◌≡◌, ℕ, ◌<◌, List, drop, slice_get, Some}
use Rattle.std.specs.List.{position_from}
use Rattle.bq_value.specs.Datum.{Datum}
use Rattle.bq_builtin_machine.specs.Args.{Passed}
use Rattle.bq_builtin_machine.specs.Parameters.{SignatureView, is_called, places}
use Rattle.bq_builtin_machine.specs.Binding.{BoundView}

-- Each positional argument is that of the parameter at its place, or left for `*`; each named argument is that of the parameter of its
-- name.
pub record ArgumentsArrive (s : SignatureView) (p : Passed) (b : BoundView) : Type 0 where
  pub positional : (i : ℕ) (v : Datum) → i < places s → slice_get p.positional i ≡ Some v → slice_get b.values i ≡ Some (Some v)
  pub rest : b.rest ≡ drop (places s) p.positional
  pub named : (k : ℕ) (name : List ℕ) (v : Datum) (i : ℕ) → slice_get p.named k ≡ Some (name, v) → position_from (is_called name) 0 s.parameters ≡ Some i → slice_get b.values i ≡ Some (Some v)
