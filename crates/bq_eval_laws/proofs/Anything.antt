-- What holds of anything holds of each part of a tree.
use Rattle.std.proofs.Common.{List, [], ◌∷◌, Option, Some, None}
use Rattle.std.specs.List.{AllByRecursion}
use Rattle.bq_parse_grammar.specs.declared.tree.Argument.TheOpen.{Expr-F, Argument-F, Clause-F, Suffix-F, TargetExpr-F}
use Rattle.bq_parse_grammar.specs.declared.tree.Expr.{Expr}
use Rattle.bq_parse_grammar.specs.declared.tree.Argument.{Argument, out-Argument}
use Rattle.bq_parse_grammar.specs.declared.tree.Branch.{out-Branch}
use Rattle.bq_parse_grammar.specs.declared.tree.Clause.{Clause, out-Clause}
use Rattle.bq_parse_grammar.specs.declared.tree.Stmt.TheOpen.{Stmt-F}
use Rattle.bq_parse_grammar.specs.declared.tree.Suffix.{out-Suffix, Suffix}
use Rattle.bq_parse_grammar.specs.Targets.{ExprLayer, SuffixLayer}
use Rattle.bq_resolve_scope.specs.Names.{ClauseLayer, TargetLayer}
use Rattle.bq_eval_spec.specs.Trees.{ArgumentLayer, StmtLayer}
use Rattle.bq_eval_spec.specs.Environment.{NamespaceCall}
use Rattle.bq_eval_laws.specs.Layers.{MemberParts, PairParts, OperationParts, ChoiceParts, ArgumentLayerParts, ArgumentParts, OptionalParts, SuffixLayerParts, SuffixParts, ClauseLayerParts, ClauseParts, ExprParts, TargetParts, BranchParts, StmtParts}

-- it holds
abbrev pub Holds : {A : Type 0} → A → Type 0
Holds x = Unit {0}

pub each : {A : Type 0} (P : A → Type 0) → ((x : A) → P x) → (xs : List A) → AllByRecursion P xs
each P all [] = tt
each P all (x ∷ xs) = (all x, each P all xs)

argument : (o : ArgumentLayer) → ArgumentLayerParts Holds o
argument (Argument-F.Positional x) = tt
argument (Argument-F.Named name x) = tt
argument (Argument-F.Star x) = tt
argument (Argument-F.StarStar x) = tt

arguments : (xs : List Argument) → AllByRecursion (ArgumentParts Holds) xs
arguments = each (ArgumentParts Holds) (λ a. argument (out-Argument a))

optional : (x : Option Expr) → OptionalParts Holds x
optional None = tt
optional (Some x) = tt

suffix : (o : SuffixLayer) → SuffixLayerParts Holds o
suffix (Suffix-F.Call xs) = arguments xs
suffix (Suffix-F.Method name xs) = arguments xs
suffix (Suffix-F.Attribute name) = tt
suffix (Suffix-F.Suffix::Index i) = tt
suffix (Suffix-F.Slice i j k) = (optional i, optional j, optional k)

suffixes : (xs : List Suffix) → AllByRecursion (SuffixParts Holds) xs
suffixes = each (SuffixParts Holds) (λ s. suffix (out-Suffix s))

clause : (o : ClauseLayer) → ClauseLayerParts Holds o
clause (Clause-F.For t x) = tt
clause (Clause-F.If x) = tt

clauses : (cs : List Clause) → AllByRecursion (ClauseParts Holds) cs
clauses = each (ClauseParts Holds) (λ c. clause (out-Clause c))

-- of a namespace's member that is called
pub member : (o : Option NamespaceCall) → MemberParts Holds o
member None = tt
member (Some (found, xs, rest)) = (arguments xs, suffixes rest)

pub expr : (o : ExprLayer) → ExprParts Holds o
expr (Expr-F.Expr::Name n) = tt
expr (Expr-F.Int n) = tt
expr (Expr-F.String t) = tt
expr (Expr-F.Expr::List xs) = each Holds (λ _. tt) xs
expr (Expr-F.Expr::Tuple xs) = each Holds (λ _. tt) xs
expr (Expr-F.Dict ps) = each (PairParts Holds) (λ _. (tt, tt)) ps
expr (Expr-F.ListComprehension x cs own) = (tt, clauses cs)
expr (Expr-F.DictComprehension p cs own) = ((tt, tt), clauses cs)
expr (Expr-F.Primary x xs) = (tt, suffixes xs)
expr (Expr-F.Unary os x) = tt
expr (Expr-F.Binary x os) = (tt, each (OperationParts Holds) (λ _. tt) os)
expr (Expr-F.Compare x o y) = (tt, tt)
expr (Expr-F.Conditional cs x) = (each (ChoiceParts Holds) (λ _. (tt, tt)) cs, tt)
expr Expr-F.Lambda = tt

pub target : (o : TargetLayer) → TargetParts Holds o
target (TargetExpr-F.TargetExpr::Name n) = tt
target (TargetExpr-F.TargetExpr::Index x i) = tt
target (TargetExpr-F.TargetExpr::Tuple ts) = each Holds (λ _. tt) ts
target (TargetExpr-F.TargetExpr::List ts) = each Holds (λ _. tt) ts

pub stmt : (o : StmtLayer) → StmtParts Holds o
stmt (Stmt-F.Simple xs) = tt
stmt (Stmt-F.If bs otherwise) = (each (BranchParts Holds) (λ b. each Holds (λ _. tt) (out-Branch b).block) bs, each Holds (λ _. tt) otherwise)
stmt (Stmt-F.For t x body) = each Holds (λ _. tt) body
stmt (Stmt-F.Def n ps body) = tt
