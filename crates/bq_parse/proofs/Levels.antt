-- Functions in functions, a level of the tree at a time.
use Rattle.std.specs.List.{list_any}
use Rattle.std.proofs.Common.{◌≡◌, ℕ, zero, suc, ◌-◌, ◌<◌, Bool, true, false, ◌||◌, List, [], ◌∷◌, refl, ap, ◌∙◌, rules, arith}
use Rattle.bq_parse_grammar.specs.declared.tree.Branch.{Branch, out-Branch}
use Rattle.bq_parse_grammar.specs.declared.tree.Expr.{Expr}
use Rattle.bq_parse_grammar.specs.declared.tree.Identifier.{Identifier}
use Rattle.bq_parse_grammar.specs.declared.tree.Parameter.{Parameter}
use Rattle.bq_parse_grammar.specs.declared.tree.Stmt.{Stmt, out-Stmt}
use Rattle.bq_parse_grammar.specs.declared.tree.Stmt as stmt
use Rattle.bq_parse_grammar.specs.declared.tree.Stmt.TheVariants as variant
use Rattle.bq_parse_grammar.specs.declared.tree.TargetExpr.{TargetExpr}
use Rattle.bq_parse_grammar.specs.LeftOut.{nested_in, nested_def}
use Rattle.bq_parse_grammar.specs.declared.tree.Stmt.TheOpen.{Stmt-F}
use Rattle.bq_parse.specs.Nested.{nested_within, in_block, in_branches, in_statement}

any_block : (depth : ℕ) (inside : Bool) (xs : List Stmt) → list_any (nested_within depth inside) xs ≡ in_block depth inside xs
unfolding in_block
any_block depth inside [] = refl
any_block depth inside (x ∷ xs) = ap (λ b. nested_within depth inside x || b) (any_block depth inside xs)

any_branches : (depth : ℕ) (inside : Bool) (bs : List Branch) → list_any (λ b. list_any (nested_within depth inside) (out-Branch b).block) bs ≡ in_branches depth inside bs
unfolding in_branches
any_branches depth inside [] = refl
any_branches depth inside (b ∷ bs) =
    ap (λ c. c || list_any (λ d. list_any (nested_within depth inside) (out-Branch d).block) bs) (any_block depth inside (out-Branch b).block)
    ∙ ap (λ c. in_block depth inside (out-Branch b).block || c) (any_branches depth inside bs)

in_open : (depth : ℕ) (inside : Bool) (s : Stmt-F Stmt Branch) → nested_in (nested_within depth) inside s ≡ in_statement depth inside s
in_open depth inside (Stmt-F.Simple xs) = refl
in_open depth inside (Stmt-F.If bs zs) = ap (λ c. c || list_any (nested_within depth inside) zs) (any_branches depth inside bs) ∙ ap (λ c. in_branches depth inside bs || c) (any_block depth inside zs)
in_open depth inside (Stmt-F.For v x xs) = any_block depth inside xs
in_open depth inside (Stmt-F.Def n ps xs) = ap (λ c. inside || c) (any_block depth true xs)

by_depth : (depth : ℕ) (inside : Bool) (x : Stmt) → nested_def depth inside x ≡ nested_in (nested_within depth) inside (out-Stmt x)
by_depth zero inside x = refl
by_depth (suc depth) inside x = refl

-- one level of a tree
pub by_level : (depth : ℕ) (inside : Bool) (x : Stmt) → nested_def depth inside x ≡ in_statement depth inside (out-Stmt x)
by_level depth inside x = by_depth depth inside x ∙ in_open depth inside (out-Stmt x)

pub in_if : (depth : ℕ) (inside : Bool) (bs : List Branch) (zs : List Stmt)
    → in_statement depth inside (out-Stmt (variant.If bs zs)) ≡ (in_branches depth inside bs || in_block depth inside zs)
in_if depth inside bs zs = search (rules, stmt.the_lemmas)

pub in_for : (depth : ℕ) (inside : Bool) (v : TargetExpr) (x : Expr) (xs : List Stmt) → in_statement depth inside (out-Stmt (variant.For v x xs)) ≡ in_block depth inside xs
in_for depth inside v x xs = search (rules, stmt.the_lemmas)

pub in_def : (depth : ℕ) (inside : Bool) (n : Identifier) (ps : List Parameter) (xs : List Stmt)
    → in_statement depth inside (out-Stmt (variant.Def n ps xs)) ≡ (inside || in_block depth true xs)
in_def depth inside n ps xs = search (rules, stmt.the_lemmas)

pub none_within : (depth : ℕ) (inside : Bool) (x : Stmt) → depth ≡ 0 → nested_within depth inside x ≡ false
none_within zero inside x e = refl
none_within (suc depth) inside x e = absurd (cc)

pub some_within : (depth : ℕ) (inside : Bool) (x : Stmt) → 0 < depth → nested_within depth inside x ≡ nested_def (depth - 1) inside x
some_within zero inside x h = let never : ⊥ = omega arith in absurd never
some_within (suc depth) inside x h = let one : depth ≡ suc depth - 1 = omega arith in ap (λ n. nested_def n inside x) one
