-- One layer of an expression, where more than none are looked at.
use Rattle.std.proofs.Common.{◌≡◌, ◌∙◌, ℕ, ℤ, zero, suc, ◌-◌, ◌<◌, List, Some, arith, ap, sym}
use Rattle.bq_parse_grammar.specs.declared.tree.Comparison.{Comparison}
use Rattle.bq_parse_grammar.specs.declared.tree.Expr.{Expr}
use Rattle.bq_parse_grammar.specs.declared.tree.Expr.TheVariants as e
use Rattle.bq_parse_grammar.specs.declared.tree.Identifier.{Identifier}
use Rattle.bq_parse_grammar.specs.declared.tree.Referent.{Referent}
use Rattle.bq_parse_grammar.specs.declared.tree.Referent.TheVariants as referent
use Rattle.bq_value.specs.Datum.{Datum, int, string}
use Rattle.bq_builtin_machine.specs.Action.{following}
use Rattle.bq_eval_spec.specs.Frame.{Frame, Surroundings}
use Rattle.bq_eval_spec.specs.Primitives.{Primitives}
use Rattle.bq_eval_spec.specs.Expressions.{compare, expr_to, literal, use_of, value_by}
use Rattle.bq_eval_spec.specs.Slots.{by_slots, value_at}
use Rattle.bq_eval_spec.specs.Targets.{bound}
use Rattle.bq_eval_spec.specs.Trees.{Calls}
use Rattle.bq_eval_rules.specs.Operands.{local_use}
use Rattle.bq_eval_rules.proofs.Forms.{name_by, int_by, string_by, compare_by}

module _ {S : Type 0} (m : Primitives S) (call : Calls S) (round : Surroundings) where
  pub name_layer : (depth : ℕ) (x : Expr) (n : Identifier) (env : Frame) (s : S) → 0 < depth → x ≡ e.Name n
      → expr_to depth m by_slots call round x env s ≡ use_of m by_slots round n env s
  unfolding expr_to
  name_layer zero x n env s some is = absurd (omega arith)
  name_layer (suc depth) x n env s some is = name_by m (expr_to depth m by_slots call round) call round x env s n is

  pub int_layer : (depth : ℕ) (x : Expr) (n : ℤ) (env : Frame) (s : S) → 0 < depth → x ≡ e.Int n
      → expr_to depth m by_slots call round x env s ≡ literal m (int n) s
  unfolding expr_to
  int_layer zero x n env s some is = absurd (omega arith)
  int_layer (suc depth) x n env s some is = int_by m (expr_to depth m by_slots call round) call round x env s n is

  pub string_layer : (depth : ℕ) (x : Expr) (t : List ℕ) (env : Frame) (s : S) → 0 < depth → x ≡ e.String t
      → expr_to depth m by_slots call round x env s ≡ literal m (string t) s
  unfolding expr_to
  string_layer zero x t env s some is = absurd (omega arith)
  string_layer (suc depth) x t env s some is = string_by m (expr_to depth m by_slots call round) call round x env s t is

  -- the use of a name, by what it refers to
  used : (n : Identifier) (r : Referent) (env : Frame) (s : S) → n.referent ≡ r
      → use_of m by_slots round n env s ≡ following (m.step 1 s) (λ _. value_by m (value_at round env r))
  unfolding use_of
  used n r env s is = ap (λ r. following (m.step 1 s) (λ _. value_by m (value_at round env r))) is

  -- the use of a local name
  pub local_layer : (depth : ℕ) (x : Expr) (n : Identifier) (slot : ℕ) (env : Frame) (s : S) → 0 < depth → x ≡ e.Name n → n.referent ≡ referent.Local slot
      → expr_to depth m by_slots call round x env s ≡ local_use m env slot s
  local_layer depth x n slot env s some is local = name_layer depth x n env s some is ∙ used n (referent.Local slot) env s local

  -- that whose value is in its slot
  pub local_leaf : (depth : ℕ) (x : Expr) (n : Identifier) (slot : ℕ) (v : Datum) (env : Frame) (s : S) → 0 < depth → x ≡ e.Name n → n.referent ≡ referent.Local slot → env slot ≡ Some v
      → expr_to depth m by_slots call round x env s ≡ literal m v s
  unfolding bound literal
  local_leaf depth x n slot v env s some is local full = local_layer depth x n slot env s some is local ∙ ap (λ o. following (m.step 1 s) (λ _. bound m o)) full

  -- a comparison
  pub compare_layer : (depth : ℕ) (x : Expr) (y : Expr) (o : Comparison) (z : Expr) (env : Frame) (s : S) → 0 < depth → x ≡ e.Compare y o z
      → expr_to depth m by_slots call round x env s ≡ compare m (expr_to (depth - 1) m by_slots call round) y o z env s
  unfolding expr_to
  compare_layer zero x y o z env s some is = absurd (omega arith)
  compare_layer (suc depth) x y o z env s some is =
      let same : suc depth - 1 ≡ depth = omega arith in
      compare_by m (expr_to depth m by_slots call round) call round x env s y o z is ∙ ap (λ k. compare m (expr_to k m by_slots call round) y o z env s) (sym same)
