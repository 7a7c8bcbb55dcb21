-- Calls of build functions are refused in their orders.
use Rattle.std.proofs.Common.{◌≡◌, ◌∙◌, ap, refl, ℕ, Bool, true, false, List, [], ◌∷◌, Option, Some, None, Result, Ok, Err}
use Rattle.std.specs.Prelude.{not}
use Rattle.bq_base.specs.declared.fault.EvalFault.{EvalFault}
use Rattle.bq_base.specs.declared.fault.EvalFault.TheVariants.{BadValue}
use Rattle.bq_value_datum.specs.Class.{Class}
use Rattle.bq_value.specs.Cells.{StoreView}
use Rattle.bq_value.specs.Datum.{Datum}
use Rattle.bq_builtin_machine.specs.Args.{Passed}
use Rattle.bq_builtin_machine.specs.Binding.{Binding, bind}
use Rattle.bq_builtin_machine.specs.State.{State}
use Rattle.bq_package_target.specs.declared.state.Declared.{Declared}
use Rattle.bq_package_target.specs.declared.state.Declared.TheVariants.{Accepted, Refused}
use Rattle.bq_package_target.specs.Calls.{declared, exported}
use Rattle.bq_package_values.specs.declared.label_texts.TextKind.TheVariants as k
use Rattle.bq_package_values.specs.LabelTexts.{labels}
use Rattle.bq_package_values.specs.Steps.{and_then}
use Rattle.bq_predeclared.specs.declared.host_function.HostFunction.TheVariants as f
use Rattle.bq_package.specs.declared.glob.GlobRequest.{GlobRequest}
use Rattle.bq_package_values.specs.Parameters.{argument}
use Rattle.bq_package.specs.Bound.{glob_parameters, exports_parameters, texts_of}
use Rattle.bq_package.specs.Calls.{Declaring, declaring, settled, declares, call_in, rule_by}
use Rattle.bq_package.specs.Files.{files_named}
use Rattle.bq_package.specs.Glob.{patterns, excludes_directories, allows_empty, request_by, request_of, found, globbed}
use Rattle.bq_package.specs.Groups.{group_named}
use Rattle.bq_package.specs.Place.{PlaceView}
use Rattle.bq_package.specs.Rules.{declared_target, rule_target}
use Rattle.bq_package.proofs.Cases.{asked}
use Rattle.bq_builtin_machine.specs.Refusals.{Check, when, first_fault, fault_of, fault_in, fault_then, IsRefusedForFirst, FailsForFirst}
use Rattle.bq_eval_laws.specs.BuildFunctions.Orders.{taken, then_taken, adding, bzl_target, requesting, globbing, naming_files}

-- ---- `glob`

by_patterns : (allows : Bool) (is es : Result (List (List ℕ)) EvalFault) → fault_in (and_then is (λ xs. and_then es (λ ys. Ok (asked allows xs ys)))) ≡ first_fault (fault_in is ∷ fault_in es ∷ [])
by_patterns allows (Err why) es = refl
by_patterns allows (Ok xs) (Err why) = refl
by_patterns allows (Ok xs) (Ok ys) = refl

by_directories : (excludes allows : Bool) (include exclude : List (List ℕ)) → fault_in (request_by excludes allows include exclude) ≡ first_fault (when (not excludes) BadValue ∷ fault_in (patterns include) ∷ fault_in (patterns exclude) ∷ [])
unfolding request_by
by_directories true allows include exclude = by_patterns allows (patterns include) (patterns exclude)
by_directories false allows include exclude = refl

by_texts : (excludes allows : Bool) (is es : Result (List (List ℕ)) EvalFault)
    → fault_in (and_then is (λ include. and_then es (λ exclude. request_by excludes allows include exclude)))
    ≡ first_fault (fault_in is ∷ fault_in es ∷ when (not excludes) BadValue ∷ fault_then is (λ xs. fault_in (patterns xs)) ∷ fault_then es (λ ys. fault_in (patterns ys)) ∷ [])
by_texts excludes allows (Err why) es = refl
by_texts excludes allows (Ok include) (Err why) = refl
by_texts excludes allows (Ok include) (Ok exclude) = by_directories excludes allows include exclude

requested_in_order : (store : StoreView) (values : List (Option Datum)) → FailsForFirst (request_of store values) (requesting store values)
unfolding request_of
requested_in_order store values = by_texts (excludes_directories (argument values 2)) (allows_empty store (argument values 3)) (texts_of store (argument values 0)) (texts_of store (argument values 1))

module _ (p : PlaceView) (store : StoreView) where
  by_request : (r : Result GlobRequest EvalFault) → fault_in (and_then r (found p)) ≡ first_fault (fault_in r ∷ fault_then r (λ q. fault_in (found p q)) ∷ [])
  by_request (Err why) = refl
  by_request (Ok q) = last (fault_in (found p q))
    where
      last : (c : Check) → c ≡ first_fault (c ∷ [])
      last None = refl
      last (Some kind) = refl

  by_binding : (r : Binding)
      → fault_in (and_then r (λ b. and_then (request_of store b.values) (found p)))
      ≡ first_fault (fault_in r ∷ fault_then r (λ b. first_fault (requesting store b.values)) ∷ fault_then r (λ b. fault_then (request_of store b.values) (λ q. fault_in (found p q))) ∷ [])
  by_binding (Err why) = refl
  by_binding (Ok b) =
      by_request (request_of store b.values)
      ∙ ap (λ c. first_fault (c ∷ fault_then (request_of store b.values) (λ q. fault_in (found p q)) ∷ [])) (requested_in_order store b.values)

  pub globbed_in_order : (passed : Passed) → FailsForFirst (globbed p store passed) (globbing p store passed)
  unfolding globbed
  globbed_in_order passed = by_binding (bind glob_parameters passed)

  -- ---- `exports_files`

  by_names : (r : Result (List (List ℕ)) EvalFault) → fault_in (and_then r (labels p.own p.packages k.Name)) ≡ first_fault (fault_in r ∷ fault_then r (λ texts. fault_in (labels p.own p.packages k.Name texts)) ∷ [])
  by_names (Err why) = refl
  by_names (Ok texts) = last (fault_in (labels p.own p.packages k.Name texts))
    where
      last : (c : Check) → c ≡ first_fault (c ∷ [])
      last None = refl
      last (Some kind) = refl

  by_form : (r : Binding)
      → fault_in (and_then r (λ b. and_then (texts_of store (argument b.values 0)) (labels p.own p.packages k.Name)))
      ≡ first_fault (fault_in r ∷ fault_then r (λ b. fault_in (texts_of store (argument b.values 0))) ∷ fault_then r (λ b. fault_then (texts_of store (argument b.values 0)) (λ texts. fault_in (labels p.own p.packages k.Name texts))) ∷ [])
  by_form (Err why) = refl
  by_form (Ok b) = by_names (texts_of store (argument b.values 0))

  pub named_in_order : (passed : Passed) → FailsForFirst (files_named p store passed) (naming_files p store passed)
  unfolding files_named
  named_in_order passed = by_form (bind exports_parameters passed)

-- ---- calls that declare

module _ (d : Declaring) (s : State) where
  settled_fault : (x : Declared) → fault_of (settled s d x) ≡ taken x
  settled_fault (Accepted q) = refl
  settled_fault (Refused q) = refl

  declared_in_order : {A : Type 0} (r : Result A EvalFault) (declare : A → Declared) → fault_of (declares s d r declare) ≡ first_fault (then_taken r declare)
  declared_in_order (Err why) declare = refl
  declared_in_order (Ok a) declare = settled_fault (declare a) ∙ last (taken (declare a))
    where
      last : (c : Check) → c ≡ first_fault (c ∷ [])
      last None = refl
      last (Some kind) = refl

  pub rule_in_order : (rule : ℕ) (passed : Passed) → IsRefusedForFirst (call_in d s (f.Rule rule) passed) (adding d (rule_target d.place s.store s.line rule passed))
  unfolding call_in
  rule_in_order rule passed = declared_in_order (rule_target d.place s.store s.line rule passed) (declared d.package)

  pub declared_rule_in_order : (rule : List ℕ) (class : Class) (passed : Passed)
      → IsRefusedForFirst (rule_by s (declaring d) rule class passed) (adding d (bzl_target d s rule class passed))
  declared_rule_in_order rule class passed = declared_in_order (declared_target d.place s.store s.line rule class passed) (declared d.package)

  pub group_in_order : (passed : Passed) → IsRefusedForFirst (call_in d s f.PackageGroup passed) (adding d (group_named d.place s.store s.line passed))
  unfolding call_in
  group_in_order passed = declared_in_order (group_named d.place s.store s.line passed) (declared d.package)

  pub exports_in_order : (passed : Passed) → IsRefusedForFirst (call_in d s f.ExportsFiles passed) (then_taken (files_named d.place s.store passed) (λ ls. exported d.package ls s.line))
  unfolding call_in
  exports_in_order passed = declared_in_order (files_named d.place s.store passed) (λ ls. exported d.package ls s.line)
