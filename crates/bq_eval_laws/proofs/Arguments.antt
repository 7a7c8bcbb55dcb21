-- Arguments that go to no parameter are F52, and so are not stuck.
use Rattle.std.proofs.Common.{◌≡◌, ℕ, Bool, true, false, cond, List, [], ◌∷◌, Option, Some, None, Result, Ok, Err, is_some, slice_get, refl}
use Rattle.std.specs.List.{position_from}
use Rattle.bq_base.specs.declared.fault.EvalFault.{EvalFault}
use Rattle.bq_base.specs.declared.fault.EvalFault.TheVariants.{Args}
use Rattle.bq_value.specs.Datum.{Datum, string}
use Rattle.bq_value.specs.Pairs.{found}
use Rattle.bq_builtin_machine.specs.Args.{Passed}
use Rattle.bq_builtin_machine.specs.Binding.{BoundView, Binding, placed, too_many, fill_by, fill, take_keyword, take_named_by, take_named, and_bind, take_all_named, is_complete, if_complete, bind}
use Rattle.bq_builtin_machine.specs.Parameters.{SignatureView, is_called}
use Rattle.bq_eval_laws.specs.Stuck.{is_stuck}

-- an answer that is not refused with the fault of `stuck`
abbrev pub Fine : {A : Type 0} → Result A EvalFault → Type 0
Fine (Ok x) = Unit {0}
Fine (Err kind) = is_stuck kind ≡ false

fine_cond : {A : Type 0} (t : Bool) (a c : Result A EvalFault) → Fine a → Fine c → Fine (cond t a c)
fine_cond true a c h k = h
fine_cond false a c h k = k

then_fine : (r : Binding) (next : BoundView → Binding) → Fine r → ((b : BoundView) → Fine (next b)) → Fine (and_bind r next)
then_fine (Ok b) next h k = k b
then_fine (Err kind) next h k = h

fill_fine : (o : Option (Option Datum)) (i : ℕ) (v : Datum) (b : BoundView) → Fine (fill_by o i v b)
fill_fine None i v b = refl
fill_fine (Some None) i v b = tt
fill_fine (Some (Some w)) i v b = refl

keyword_fine : (takes : Bool) (name : List ℕ) (v : Datum) (b : BoundView) → Fine (take_keyword takes name v b)
unfolding take_keyword
keyword_fine takes name v b = fine_cond takes _ _ (fine_cond (is_some (found (string name) b.keywords)) _ _ refl tt) refl

named_by_fine : (o : Option ℕ) (s : SignatureView) (name : List ℕ) (v : Datum) (b : BoundView) → Fine (take_named_by o s.takes_keywords name v b)
unfolding fill
named_by_fine (Some i) s name v b = fill_fine (slice_get b.values i) i v b
named_by_fine None s name v b = keyword_fine s.takes_keywords name v b

all_fine : (s : SignatureView) (named : List (List ℕ × Datum)) (b : BoundView) → Fine (take_all_named s named b)
unfolding take_all_named take_named
all_fine s [] b = tt
all_fine s (a ∷ named) b = then_fine (take_named s a.0 a.1 b) (take_all_named s named) (named_by_fine (position_from (is_called a.0) 0 s.parameters) s a.0 a.1 b) (all_fine s named)

pub bind_fine : (s : SignatureView) (p : Passed) → Fine (bind s p)
unfolding bind
bind_fine s p =
    fine_cond (too_many s p.positional) _ _ refl
    (then_fine (take_all_named s p.named (placed s p.positional)) (if_complete s) (all_fine s p.named (placed s p.positional)) (λ b. fine_cond (is_complete s.parameters b.values) (Ok b) (Err Args) tt refl))
