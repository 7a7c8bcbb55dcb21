-- Where a call has few arguments, no limit stops one more.
use Rattle.std.proofs.Common.{◌≡◌, ℕ, ◌+◌, ◌<◌, nat_le, Bool, true, false, cond, List, [], ◌∷◌, ◌++◌, length, Ok, Err, refl, arith}
use Rattle.std.proofs.lemmas.Bool.Decides.{nat_tests}
use Rattle.std.proofs.lemmas.List.{length_push}
use Rattle.bq_base.specs.declared.fault.EvalFault.TheVariants.{TooLong}
use Rattle.bq_resolve_scope.specs.Names.{Name}
use Rattle.bq_builtin_machine.specs.Action.{beside, done, given}
use Rattle.bq_builtin_machine.specs.Args.{Passed}
use Rattle.bq_builtin_machine.specs.State.{State}
use Rattle.bq_builtin_strings.specs.Length.{max_len}
use Rattle.bq_eval_rules.specs.Few.{PassesFew, few}
use Rattle.bq_eval.specs.Calling.{HostCalls}
use Rattle.bq_eval.specs.Passing.{pass, pass_named}
use Rattle.bq_eval.specs.Runtime.{primitives}

fits : (n k : ℕ) → n ≡ k + 1 → k < few → nat_le n max_len ≡ true
fits n k one within = grind (arith, nat_tests, one, within)

-- where this is so, the arguments are passed
joined : {W : Type 0} (t : Bool) (q : Passed) (s : State × W) → t ≡ true → beside s.1 (given (cond t (Ok q) (Err TooLong)) s.0) ≡ done q s
joined true q s h = refl
joined false q s h = absurd (cc h)

-- in the operations of the machine one more argument joins those that there are, while they are fewer than 16
pub no_limit : {W : Type 0} (names : List Name) (host : HostCalls W) → PassesFew (primitives names host)
unfolding primitives pass pass_named
no_limit names host = (
  (λ p v s within.
      let longer = length_push p.positional v in
      joined (nat_le (length (p.positional ++ v ∷ []) + length p.named) max_len) (record p { positional = p.positional ++ v ∷ [] }) s
      (fits (length (p.positional ++ v ∷ []) + length p.named) (length p.positional + length p.named) (omega (arith, longer)) within)),
  (λ p name v s within.
      let longer = length_push p.named (name, v) in
      joined (nat_le (length p.positional + length (p.named ++ (name, v) ∷ [])) max_len) (record p { named = p.named ++ (name, v) ∷ [] }) s
      (fits (length p.positional + length (p.named ++ (name, v) ∷ [])) (length p.positional + length p.named) (omega (arith, longer)) within)),
)
