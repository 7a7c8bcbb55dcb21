-- The parameters that take one argument, one after another.
use Rattle.std.proofs.Common.{◌≡◌, List, [], ◌∷◌, ◌++◌, map, refl}
use Rattle.std.proofs.lemmas.List.{map_push}
use Rattle.bq_resolve_scope.specs.declared.file.Formal.{Formal}
use Rattle.bq_resolve_scope.specs.declared.file.Formal.TheVariants as formal
use Rattle.bq_builtin_machine.specs.declared.parameters.SingleParameter.{SingleParameter}
use Rattle.bq_builtin_machine.specs.Parameters.{parameter_of}
use Rattle.bq_eval_spec.specs.Calls.{singles}

pub one_more : (all : List SingleParameter) (p : SingleParameter) → map parameter_of (all ++ p ∷ []) ≡ map parameter_of all ++ parameter_of p ∷ []
one_more all p = map_push parameter_of all p

pub singles_from : (p : Formal) (ps : List Formal) → singles (p ∷ ps) ≡ singles (p ∷ []) ++ singles ps
singles_from (formal.Plain n) ps = refl
singles_from (formal.Default n) ps = refl
singles_from formal.BareStar ps = refl
singles_from (formal.Star n) ps = refl
singles_from (formal.StarStar n) ps = refl
