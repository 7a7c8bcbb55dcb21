-- The examples are computed: first those whose trees compute, then those that are opened form by form.
use Rattle.std.proofs.Common.{◌≡◌, ◌∙◌, refl, ap, ℕ, suc, List, [], ◌∷◌, Some, None, Result, Ok, Err, rules}
use Rattle.std.specs.Prelude.{codes, pos}
use denote.Hole.Carrier.{out}
use Rattle.bq_base.specs.declared.fault.NameFault.{NameFault}
use Rattle.bq_base.specs.declared.fault.Fault.{Fault}
use Rattle.bq_base.specs.declared.fault.NameFault.TheVariants as f
use Rattle.bq_parse_grammar.specs.declared.tree.Argument.{Argument}
use Rattle.bq_parse_grammar.specs.declared.tree.Argument.TheOpen.{Expr-F, Suffix-F, Clause-F}
use Rattle.bq_parse_grammar.specs.declared.tree.ComprehensionFrame.{ComprehensionFrame}
use Rattle.bq_parse_grammar.specs.declared.tree.ComprehensionFrame.TheVariants as frame
use Rattle.bq_parse_grammar.specs.declared.tree.Clause.{Clause, out-Clause}
use Rattle.bq_parse_grammar.specs.declared.tree.Clause.TheVariants as clause
use Rattle.bq_parse_grammar.specs.declared.tree.Expr.{Expr, out-Expr, roll-Expr, the_lemmas}
use Rattle.bq_parse_grammar.specs.declared.tree.Expr.TheVariants as e
use Rattle.bq_parse_grammar.specs.declared.tree.Identifier.{Identifier}
use Rattle.bq_parse_grammar.specs.declared.tree.Parameter.{Parameter}
use Rattle.bq_parse_grammar.specs.declared.tree.Parameter.TheVariants as parameter
use Rattle.bq_parse_grammar.specs.declared.tree.Referent.{Referent}
use Rattle.bq_parse_grammar.specs.declared.tree.Referent.TheVariants as referent
use Rattle.bq_parse_grammar.specs.declared.tree.SmallKind.TheVariants as small
use Rattle.bq_parse_grammar.specs.declared.tree.SmallStmt.{SmallStmt}
use Rattle.bq_parse_grammar.specs.declared.tree.Stmt.{Stmt, out-Stmt, roll-Stmt}
use Rattle.bq_parse_grammar.specs.declared.tree.Stmt as statement
use Rattle.bq_parse_grammar.specs.declared.tree.Stmt.TheOpen.{Stmt-F}
use Rattle.bq_parse_grammar.specs.declared.tree.Stmt.TheVariants as stmt
use Rattle.bq_parse_grammar.specs.declared.tree.Suffix.{Suffix, out-Suffix}
use Rattle.bq_parse_grammar.specs.declared.tree.Suffix.TheVariants as suffix
use Rattle.bq_parse_grammar.specs.declared.tree.TargetExpr.{TargetExpr, out-TargetExpr, roll-TargetExpr}
use Rattle.bq_parse_grammar.specs.declared.tree.TargetExpr.TheVariants as target_of
use Rattle.bq_predeclared.specs.AttributeType.{type_named}
use Rattle.bq_predeclared.specs.declared.attribute_type.AttributeType.TheVariants as attribute
use Rattle.bq_predeclared.specs.declared.host_function.HostFunction.TheVariants as host
use Rattle.bq_predeclared.specs.declared.predeclared.Predeclared.{Predeclared}
use Rattle.bq_predeclared.specs.declared.predeclared.Predeclared.TheVariants as p
use Rattle.bq_predeclared.specs.declared.rule_function.RuleFunction.TheVariants as function
use Rattle.bq_predeclared.specs.Predeclared.{place_from, first_named, predeclared_named}
use Rattle.bq_predeclared.specs.RuleFunctions.{attr_named}
use Rattle.bq_resolve_scope.specs.declared.file.ResolvedFile.{ResolvedFile}
use Rattle.bq_resolve_scope.specs.declared.universe.Namespace.{Namespace}
use Rattle.bq_resolve_scope.specs.declared.universe.Namespace.TheVariants as namespace
use Rattle.bq_resolve_scope.specs.Names.{max_layers, place_among, with_name, with_target_to, with_target, with_clause, comprehension_names, with_small, with_stmt_to, with_stmt, function_names, global_names, with_load, with_loads, loaded_names}
use Rattle.bq_resolve_scope.specs.Universe.{UniverseParts, host_named, member_named, universe_has}
use Rattle.bq_resolve_scope.specs.Scope.{BlockParts, FileParts, slot_in, slot_of, file_has, use_of}
use Rattle.bq_resolve_scope.specs.Visit.{Passed, Visit, following, pure, given, nothing_passed, each}
use Rattle.bq_resolve_scope.specs.Expressions.{namespace_at, space_of, member_call as among, member_by, primary_by, expr_by, bind_global, use_at, bound_at, refer, NamedSpace, target_to, arguments, suffixes, operand, call_member, primary, clauses, in_block, comprehension, expr_to}
use Rattle.bq_resolve_scope.specs.Statements.{expr, target, load_clause, load, assign, augment, returned, load_in, in_loop, small_stmt, branch, if_stmt, for_stmt, stmt_to, named_parameter, default_parameter, next_parameter, parameters, function}
use Rattle.bq_resolve_scope.specs.Files.{file_names, def_stmt, top_level, resolved}
use Rattle.bq_resolve_scope.specs.Examples.{bzl, build, bzl_beside, build_beside, word, named, simple, top, call, member_call, parenthesized_call, native_call, attr_call, each_of, line_of, known, used, LoadedAndBound, Rebound, LoadedTwice, FirstFault, Rules, Native, Attr, OwnAttr, OfRule, FirstIterable, OneNameThrice, Default, Flow, Parameters, Examples}

open_name : (n : Identifier) → out-Expr (e.Name n) ≡ Expr-F.Expr::Name n
open_name n = search (rules, the_lemmas)

open_primary : (x : Expr) (ss : List Suffix) → out-Expr (e.Primary x ss) ≡ Expr-F.Primary x ss
open_primary x ss = search (rules, the_lemmas)

open_list : (xs : List Expr) → out-Expr (e.List xs) ≡ Expr-F.Expr::List xs
open_list xs = search (rules, the_lemmas)

open_comprehension : (x : Expr) (cs : List Clause) (own : ComprehensionFrame) → out-Expr (e.ListComprehension x cs own) ≡ Expr-F.ListComprehension x cs own
open_comprehension x cs own = search (rules, the_lemmas)

open_call : (xs : List Argument) → out-Suffix (suffix.Call xs) ≡ Suffix-F.Call xs
open_call xs = search (rules, the_lemmas)

open_method : (n : Identifier) (xs : List Argument) → out-Suffix (suffix.Method n xs) ≡ Suffix-F.Method n xs
open_method n xs = search (rules, the_lemmas)

open_for : (t : TargetExpr) (x : Expr) → out-Clause (clause.For t x) ≡ Clause-F.For t x
open_for t x = search (rules, the_lemmas)

open_def : (n : Identifier) (ps : List Parameter) (xs : List Stmt) → out-Stmt (stmt.Def n ps xs) ≡ Stmt-F.Def n ps xs
open_def n ps xs = search (rules, statement.the_lemmas)

open_loop : (t : TargetExpr) (x : Expr) (xs : List Stmt) → out-Stmt (stmt.For t x xs) ≡ Stmt-F.For t x xs
open_loop t x xs = search (rules, statement.the_lemmas)

open_simple : (n : List SmallStmt) → out-Stmt (stmt.Simple n) ≡ Stmt-F.Simple n
open_simple n = search (rules, statement.the_lemmas)

loaded_and_bound : LoadedAndBound
unfolding type_named attr_named place_from first_named predeclared_named max_layers place_among with_name with_target_to with_target with_clause comprehension_names with_small with_stmt_to with_stmt function_names global_names with_load with_loads loaded_names host_named member_named universe_has slot_in slot_of file_has use_of space_of each bind_global use_at bound_at target_to arguments suffixes operand call_member primary clauses in_block comprehension expr_to expr target load_clause load assign augment returned load_in in_loop small_stmt branch if_stmt for_stmt stmt_to named_parameter default_parameter next_parameter parameters function file_names def_stmt top_level resolved out-Stmt roll-Stmt out-Expr roll-Expr out-TargetExpr roll-TargetExpr out
loaded_and_bound = refl

rebound : Rebound
unfolding type_named attr_named place_from first_named predeclared_named max_layers place_among with_name with_target_to with_target with_clause comprehension_names with_small with_stmt_to with_stmt function_names global_names with_load with_loads loaded_names host_named member_named universe_has slot_in slot_of file_has use_of space_of each bind_global use_at bound_at target_to arguments suffixes operand call_member primary clauses in_block comprehension expr_to expr target load_clause load assign augment returned load_in in_loop small_stmt branch if_stmt for_stmt stmt_to named_parameter default_parameter next_parameter parameters function file_names def_stmt top_level resolved out-Stmt roll-Stmt out-Expr roll-Expr out-TargetExpr roll-TargetExpr out
rebound = (refl, refl, refl)

loaded_twice : LoadedTwice
unfolding type_named attr_named place_from first_named predeclared_named max_layers place_among with_name with_target_to with_target with_clause comprehension_names with_small with_stmt_to with_stmt function_names global_names with_load with_loads loaded_names host_named member_named universe_has slot_in slot_of file_has use_of space_of each bind_global use_at bound_at target_to arguments suffixes operand call_member primary clauses in_block comprehension expr_to expr target load_clause load assign augment returned load_in in_loop small_stmt branch if_stmt for_stmt stmt_to named_parameter default_parameter next_parameter parameters function file_names def_stmt top_level resolved out-Stmt roll-Stmt out-Expr roll-Expr out-TargetExpr roll-TargetExpr out
loaded_twice = (refl, refl, refl)

first_fault : FirstFault
unfolding type_named attr_named place_from first_named predeclared_named max_layers place_among with_name with_target_to with_target with_clause comprehension_names with_small with_stmt_to with_stmt function_names global_names with_load with_loads loaded_names host_named member_named universe_has slot_in slot_of file_has use_of space_of each bind_global use_at bound_at target_to arguments suffixes operand call_member primary clauses in_block comprehension expr_to expr target load_clause load assign augment returned load_in in_loop small_stmt branch if_stmt for_stmt stmt_to named_parameter default_parameter next_parameter parameters function file_names def_stmt top_level resolved out-Stmt roll-Stmt out-Expr roll-Expr out-TargetExpr roll-TargetExpr out
first_fault = refl

first_iterable : FirstIterable
unfolding type_named attr_named place_from first_named predeclared_named max_layers place_among with_name with_target_to with_target with_clause comprehension_names with_small with_stmt_to with_stmt function_names global_names with_load with_loads loaded_names host_named member_named universe_has slot_in slot_of file_has use_of space_of each bind_global use_at bound_at target_to arguments suffixes operand call_member primary clauses in_block comprehension expr_to expr target load_clause load assign augment returned load_in in_loop small_stmt branch if_stmt for_stmt stmt_to named_parameter default_parameter next_parameter parameters function file_names def_stmt top_level resolved out-Stmt roll-Stmt out-TargetExpr roll-TargetExpr out
first_iterable =
    let y = codes "y" in
    rw (open_comprehension (named 1 y) (clause.For (target_of.Name (word 1 y)) (named 1 y) ∷ []) frame.Shared, open_for (target_of.Name (word 1 y)) (named 1 y), open_name (word 1 y)) refl

-- ---- files of one expression, by what the expression resolves to

abbrev file_of : UniverseParts → FileParts
file_of u = record { universe = u; globals = []; loaded = [] }

abbrev line_by : Result (Expr × Passed) (Fault NameFault) → Result ResolvedFile (Fault NameFault)
line_by (Err why) = Err why
line_by (Ok r) = Ok (record { statements = line_of 1 (small.Expr r.0) ∷ []; functions = r.1.functions; globals = []; loads = r.1.loads })

one_line : (u : UniverseParts) (x : Expr) (r : Result (Expr × Passed) (Fault NameFault)) → expr_to max_layers (file_of u) [] x nothing_passed ≡ r
    → resolved u (top 1 (simple 1 (small.Expr x)) ∷ []) ≡ line_by r
unfolding with_small with_stmt_to with_stmt global_names with_load with_loads loaded_names each expr small_stmt file_names top_level resolved out-Stmt roll-Stmt out expr_to max_layers
one_line u x (Err why) e = rw e refl
one_line u x (Ok p) e = rw e refl

-- `space.name()`, where `space` is a namespace
abbrev member_of : List ℕ → List ℕ → Predeclared → Expr
member_of space name x = e.Primary (used space (referent.Member x)) (suffix.Method (known name (referent.Member x)) [] ∷ [])

no_arguments : (file : FileParts) (visit : List BlockParts → Expr → Visit Expr) (s : Passed)
    → suffixes file visit [] [] (suffix.Call [] ∷ []) s ≡ Ok (suffix.Call [] ∷ [], s)
unfolding suffixes arguments each
no_arguments file visit s = rw (open_call []) refl

module _ (file : FileParts) (n : List ℕ) where
  abbrev unknown : List ℕ → Fault NameFault
  unknown name = record { kind = f.UnknownName; line = 1; detail = name }

  use_layer : (depth : ℕ) (s : Passed) → expr_to (suc depth) file [] (named 1 n) s ≡ following (use_at file [] (word 1 n) s) (λ x. pure (e.Name x))
  unfolding expr_to
  use_layer depth s = ap (λ l. expr_by file (expr_to depth file) [] l s) (open_name (word 1 n))

  use_known : (depth : ℕ) (s : Passed) (b : Referent) → use_of file [] n ≡ Some b → expr_to (suc depth) file [] (named 1 n) s ≡ Ok (used n b, s)
  unfolding use_at
  use_known depth s b known = use_layer depth s ∙ ap (λ o. following (following (given (unknown n) o s) (λ x. pure (refer (word 1 n) x))) (λ m. pure (e.Name m))) known

  use_unknown : (depth : ℕ) (s : Passed) → use_of file [] n ≡ None → expr_to (suc depth) file [] (named 1 n) s ≡ Err (unknown n)
  unfolding use_at
  use_unknown depth s none = use_layer depth s ∙ ap (λ o. following (following (given (unknown n) o s) (λ x. pure (refer (word 1 n) x))) (λ m. pure (e.Name m))) none

  module _ (visit : List BlockParts → Expr → Visit Expr) (s : Passed) where
    primary_apart : (ss : List Suffix) → namespace_at file [] (Expr-F.Expr::Name (word 1 n)) ≡ None → primary file visit [] (named 1 n) ss s ≡ operand file visit [] (named 1 n) ss s
    unfolding primary
    primary_apart ss apart =
        ap (λ l. primary_by file visit [] (named 1 n) ss (among (namespace_at file [] l) ss) s) (open_name (word 1 n))
        ∙ ap (λ o. primary_by file visit [] (named 1 n) ss (among o ss) s) apart

    operand_known : (b : Referent) → visit [] (named 1 n) s ≡ Ok (used n b, s)
        → operand file visit [] (named 1 n) (suffix.Call [] ∷ []) s ≡ Ok (e.Primary (used n b) (suffix.Call [] ∷ []), s)
    unfolding operand
    operand_known b known =
        ap (λ r. following r (λ y t. following (suffixes file visit [] [] (suffix.Call [] ∷ []) t) (λ ts. pure (e.Primary y ts)))) known
        ∙ ap (λ r. following r (λ ts. pure (e.Primary (used n b) ts))) (no_arguments file visit s)

    operand_unknown : (ss : List Suffix) → visit [] (named 1 n) s ≡ Err (unknown n) → operand file visit [] (named 1 n) ss s ≡ Err (unknown n)
    unfolding operand
    operand_unknown ss none = ap (λ r. following r (λ y t. following (suffixes file visit [] [] ss t) (λ ts. pure (e.Primary y ts)))) none

    primary_in : (m : List ℕ) (space : NamedSpace) → namespace_at file [] (Expr-F.Expr::Name (word 1 n)) ≡ Some space
        → primary file visit [] (named 1 n) (suffix.Method (word 1 m) [] ∷ []) s ≡ call_member file visit [] space (word 1 m) [] [] s
    unfolding primary
    primary_in m space of =
        let ss = suffix.Method (word 1 m) [] ∷ [] in
        ap (λ l. primary_by file visit [] (named 1 n) ss (among (namespace_at file [] l) ss) s) (open_name (word 1 n))
        ∙ (ap (λ o. primary_by file visit [] (named 1 n) ss (among o ss) s) of
        ∙ ap (λ l. primary_by file visit [] (named 1 n) ss (member_by space l []) s) (open_method (word 1 m) []))

    member_found : (m : List ℕ) (space : Namespace) (x : Predeclared) → member_named space file.universe.rules m ≡ Some x
        → call_member file visit [] (space, word 1 n) (word 1 m) [] [] s ≡ Ok (member_of n m x, s)
    unfolding call_member arguments suffixes each
    member_found m space x known = rw known refl

    member_missing : (m : List ℕ) (space : Namespace) → member_named space file.universe.rules m ≡ None
        → call_member file visit [] (space, word 1 n) (word 1 m) [] [] s ≡ Err (unknown m)
    unfolding call_member
    member_missing m space none = rw none refl

  primary_layer : (ss : List Suffix) (s : Passed) → expr_to max_layers file [] (e.Primary (named 1 n) ss) s ≡ primary file (expr_to 1023 file) [] (named 1 n) ss s
  unfolding expr_to max_layers
  primary_layer ss s = ap (λ l. expr_by file (expr_to 1023 file) [] l s) (open_primary (named 1 n) ss)

  -- a name
  name_unknown : use_of file [] n ≡ None → expr_to max_layers file [] (named 1 n) nothing_passed ≡ Err (unknown n)
  unfolding max_layers
  name_unknown none = use_unknown 1023 nothing_passed none

  -- `n()`
  call_known : (b : Referent) → namespace_at file [] (Expr-F.Expr::Name (word 1 n)) ≡ None → use_of file [] n ≡ Some b
      → expr_to max_layers file [] (call 1 n) nothing_passed ≡ Ok (e.Primary (used n b) (suffix.Call [] ∷ []), nothing_passed)
  call_known b apart known =
      primary_layer (suffix.Call [] ∷ []) nothing_passed
      ∙ (primary_apart (expr_to 1023 file) nothing_passed (suffix.Call [] ∷ []) apart
      ∙ operand_known (expr_to 1023 file) nothing_passed b (use_known 1022 nothing_passed b known))

  -- a name and what is done to it
  first_unknown : (ss : List Suffix) → namespace_at file [] (Expr-F.Expr::Name (word 1 n)) ≡ None → use_of file [] n ≡ None
      → expr_to max_layers file [] (e.Primary (named 1 n) ss) nothing_passed ≡ Err (unknown n)
  first_unknown ss apart none =
      primary_layer ss nothing_passed
      ∙ (primary_apart (expr_to 1023 file) nothing_passed ss apart
      ∙ operand_unknown (expr_to 1023 file) nothing_passed ss (use_unknown 1022 nothing_passed none))

  -- `n.m()`
  member_known : (m : List ℕ) (space : Namespace) (x : Predeclared) → namespace_at file [] (Expr-F.Expr::Name (word 1 n)) ≡ Some (space, word 1 n)
      → member_named space file.universe.rules m ≡ Some x
      → expr_to max_layers file [] (member_call 1 n m) nothing_passed ≡ Ok (member_of n m x, nothing_passed)
  member_known m space x of known =
      primary_layer (suffix.Method (word 1 m) [] ∷ []) nothing_passed
      ∙ (primary_in (expr_to 1023 file) nothing_passed m (space, word 1 n) of ∙ member_found (expr_to 1023 file) nothing_passed m space x known)

  member_unknown : (m : List ℕ) (space : Namespace) → namespace_at file [] (Expr-F.Expr::Name (word 1 n)) ≡ Some (space, word 1 n)
      → member_named space file.universe.rules m ≡ None
      → expr_to max_layers file [] (member_call 1 n m) nothing_passed ≡ Err (unknown m)
  member_unknown m space of none =
      primary_layer (suffix.Method (word 1 m) [] ∷ []) nothing_passed
      ∙ (primary_in (expr_to 1023 file) nothing_passed m (space, word 1 n) of ∙ member_missing (expr_to 1023 file) nothing_passed m space none)

rules_of_schema : Rules
unfolding type_named attr_named place_from first_named predeclared_named place_among host_named member_named universe_has slot_in slot_of file_has use_of space_of
rules_of_schema =
    let n = codes "filegroup" in let x = p.Host (host.Rule 0) in (
      one_line build (call 1 n) _ (call_known (file_of build) n (referent.Predeclared x) refl refl),
      one_line bzl (call 1 n) _ (first_unknown (file_of bzl) n (suffix.Call [] ∷ []) refl refl),
      one_line bzl (native_call 1 n) _ (member_known (file_of bzl) (codes "native") n namespace.Native x refl refl),
    )

native_names : Native
unfolding type_named attr_named place_from first_named predeclared_named place_among host_named member_named universe_has slot_in slot_of file_has use_of space_of
native_names =
    let n = codes "native" in (
      one_line bzl (native_call 1 (codes "nope")) _ (member_unknown (file_of bzl) n (codes "nope") namespace.Native refl refl),
      one_line build (native_call 1 (codes "glob")) _ (first_unknown (file_of build) n (suffix.Method (word 1 (codes "glob")) [] ∷ []) refl refl),
    )

attr_names : Attr
unfolding type_named attr_named place_from first_named predeclared_named place_among host_named member_named universe_has slot_in slot_of file_has use_of space_of each use_at arguments suffixes operand call_member primary expr_to max_layers
attr_names =
    let a = codes "attr" in (
      one_line bzl (attr_call 1 (codes "int")) _ (member_known (file_of bzl) a (codes "int") namespace.Attr (p.RuleFunction (function.Attr attribute.Int)) refl refl),
      one_line bzl (attr_call 1 (codes "nope")) _ (member_unknown (file_of bzl) a (codes "nope") namespace.Attr refl refl),
      one_line bzl (named 1 a) _ (name_unknown (file_of bzl) a refl),
      one_line bzl (parenthesized_call 1 a (codes "int")) (Err (record { kind = f.UnknownName; line = 1; detail = a })) (rw (
        open_primary (e.Primary (named 1 a) []) (suffix.Method (word 1 (codes "int")) [] ∷ []),
        open_primary (named 1 a) [],
        open_primary (named 1 a) [],
        open_name (word 1 a),
        open_name (word 1 a),
      ) refl),
      one_line build (attr_call 1 (codes "int")) _ (first_unknown (file_of build) a (suffix.Method (word 1 (codes "int")) [] ∷ []) refl refl),
    )

own_attr : OwnAttr
unfolding type_named attr_named place_from first_named predeclared_named max_layers place_among with_name with_target_to with_target with_clause comprehension_names with_small with_stmt_to with_stmt function_names global_names with_load with_loads loaded_names host_named member_named universe_has slot_in slot_of file_has use_of space_of each bind_global use_at bound_at target_to arguments suffixes operand call_member primary clauses in_block comprehension expr_to expr target load_clause load assign augment returned load_in in_loop small_stmt branch if_stmt for_stmt stmt_to named_parameter default_parameter next_parameter parameters function file_names def_stmt top_level resolved out-Stmt roll-Stmt out-TargetExpr roll-TargetExpr out
own_attr =
    let a = codes "attr" in let i = codes "int" in (
      rw (open_list [], open_primary (named 2 a) (suffix.Method (word 2 i) [] ∷ []), open_name (word 2 a), open_name (word 2 a), open_method (word 2 i) []) refl,
      rw (open_primary (named 2 a) (suffix.Method (word 2 i) [] ∷ []), open_name (word 2 a), open_name (word 2 a), open_method (word 2 i) []) refl,
    )

of_rule : OfRule
unfolding type_named attr_named place_from first_named predeclared_named place_among host_named member_named universe_has slot_in slot_of file_has use_of space_of
of_rule =
    let n = codes "rule" in let a = codes "attr" in let x = p.Host (host.Rule 0) in let r = p.RuleFunction function.Rule in (
      one_line bzl (call 1 n) _ (call_known (file_of bzl) n (referent.Predeclared r) refl refl),
      one_line build (call 1 n) _ (first_unknown (file_of build) n (suffix.Call [] ∷ []) refl refl),
      one_line (build_beside n) (call 1 n) _ (call_known (file_of (build_beside n)) n (referent.Predeclared x) refl refl),
      one_line (build_beside a) (call 1 a) _ (call_known (file_of (build_beside a)) a (referent.Predeclared x) refl refl),
      one_line (bzl_beside n) (call 1 n) _ (call_known (file_of (bzl_beside n)) n (referent.Predeclared r) refl refl),
      one_line (bzl_beside n) (native_call 1 n) _ (member_known (file_of (bzl_beside n)) (codes "native") n namespace.Native x refl refl),
    )

one_name_thrice : OneNameThrice
unfolding type_named attr_named place_from first_named predeclared_named max_layers place_among with_name with_target_to with_target with_clause comprehension_names with_small with_stmt_to with_stmt function_names global_names with_load with_loads loaded_names host_named member_named universe_has slot_in slot_of file_has use_of space_of each bind_global use_at bound_at target_to arguments suffixes operand call_member primary clauses in_block comprehension expr_to expr target load_clause load assign augment returned load_in in_loop small_stmt branch if_stmt for_stmt stmt_to named_parameter default_parameter next_parameter parameters function file_names def_stmt top_level resolved out-TargetExpr roll-TargetExpr out
one_name_thrice =
    let x = codes "x" in λ file.
    rw (
      open_comprehension (named 1 x) (clause.For (target_of.Name (word 1 x)) (each_of 1 x (named 1 x)) ∷ []),
      open_for (target_of.Name (word 1 x)) (each_of 1 x (named 1 x)),
      open_comprehension (named 1 x) (clause.For (target_of.Name (word 1 x)) (named 1 x) ∷ []),
      open_for (target_of.Name (word 1 x)) (named 1 x),
      open_name (word 1 x),
    ) refl

default_outside : Default
unfolding type_named attr_named place_from first_named predeclared_named max_layers place_among with_name with_target_to with_target with_clause comprehension_names with_small with_stmt_to with_stmt function_names global_names with_load with_loads loaded_names host_named member_named universe_has slot_in slot_of file_has use_of space_of each bind_global use_at bound_at target_to arguments suffixes operand call_member primary clauses in_block comprehension expr_to expr target load_clause load assign augment returned load_in in_loop small_stmt branch if_stmt for_stmt stmt_to named_parameter default_parameter next_parameter parameters function file_names def_stmt top_level resolved out-TargetExpr roll-TargetExpr out
default_outside =
    rw (open_name (word 1 (codes "b"))) refl

flow_outside : Flow
unfolding type_named attr_named place_from first_named predeclared_named max_layers place_among with_name with_target_to with_target with_clause comprehension_names with_small with_stmt_to with_stmt function_names global_names with_load with_loads loaded_names host_named member_named universe_has slot_in slot_of file_has use_of space_of each bind_global use_at bound_at target_to arguments suffixes operand call_member primary clauses in_block comprehension expr_to expr target load_clause load assign augment returned load_in in_loop small_stmt branch if_stmt for_stmt stmt_to named_parameter default_parameter next_parameter parameters function file_names def_stmt top_level resolved out-TargetExpr roll-TargetExpr out
flow_outside = (
  rw (open_simple (record { line = 1; kind = small.Return (Some (e.Int (pos 1))) } ∷ [])) refl,
  rw (open_loop (target_of.Name (word 2 (codes "x"))) (e.List []) (simple 2 small.Pass ∷ [])) refl,
)

two_parameters : Parameters
unfolding type_named attr_named place_from first_named predeclared_named max_layers place_among with_name with_target_to with_target with_clause comprehension_names with_small with_stmt_to with_stmt function_names global_names with_load with_loads loaded_names host_named member_named universe_has slot_in slot_of file_has use_of space_of each bind_global use_at bound_at target_to arguments suffixes operand call_member primary clauses in_block comprehension expr_to expr target load_clause load assign augment returned load_in in_loop small_stmt branch if_stmt for_stmt stmt_to named_parameter default_parameter next_parameter parameters function file_names def_stmt top_level resolved out-TargetExpr roll-TargetExpr out
two_parameters =
    let a = codes "a" in
    rw (open_def (word 1 (codes "f")) (parameter.Plain (word 1 a) ∷ parameter.Plain (word 1 a) ∷ []) (simple 1 small.Pass ∷ [])) refl

pub examples : Examples
examples = (first_iterable, one_name_thrice, default_outside, loaded_and_bound, rules_of_schema, native_names, attr_names, own_attr, of_rule, rebound, loaded_twice, flow_outside, two_parameters, first_fault)
