-- The target patterns of a query are read from words of its text, in its order: by the words of its tree.
use Rattle.std.proofs.Common.{◌≡◌, ◌∙◌, ℕ, zero, suc, List, [], ◌∷◌, ◌++◌, map, Option, Some, None, refl, sym, ap, subst, append-nil, append_assoc, rules}
use Rattle.bq_query_function.specs.declared.signature.QueryArgumentKind.{QueryArgumentKind}
use Rattle.bq_query_function.specs.declared.signature.QueryArgumentKind.TheVariants as kind
use Rattle.bq_query_function.specs.Functions.{Row}
use Rattle.bq_query_function.specs.Calls.{function_named}
use Rattle.bq_query_lex.specs.declared.pattern.TargetPattern.{TargetPattern}
use Rattle.bq_query_lex.specs.PatternReading.{ArePatternsOf, pattern_of}
use Rattle.bq_query_parse.specs.Grammar.{IsWord, AreArguments, IsOperand, IsLet, AreOperations, IsQueryOver, IsQueryTo, max_open, chain_of, operation}
use Rattle.bq_query_parse.specs.Lexeme.{Lexeme, lexemes}
use Rattle.bq_query_parse.specs.Phrases.{Phrase, Repeat, CommaThen, none}
use Rattle.bq_query_parse.specs.declared.tree.Query.{Query, fold-Query}
use Rattle.bq_query_parse.specs.declared.tree.SetOperation.{SetOperation, fold-SetOperation}
use Rattle.bq_query_parse.specs.declared.tree.Query.TheFolds.{the_lemmas}
use Rattle.bq_query_parse.specs.declared.tree.Query.TheOpen as open_tree
use Rattle.bq_query_parse.specs.declared.tree.Query.TheOpen.{Query-F, SetOperation-F}
use Rattle.bq_query_parse.specs.declared.tree.Query.TheVariants as tree
use Rattle.bq_query_check.specs.Formula.{Formula, Step, combined, chained}
use Rattle.bq_query_check.specs.Call.{Given}
use Rattle.bq_query_check.specs.FormulaOf.{IsFormulaOf, AreStepsOf, AreArgumentsOf, IsArgumentOf}
use Rattle.bq_query_check.proofs.Calls.{IsApplied, called_is_applied}
use Rattle.bq_run_laws.specs.Queries.InText.{WriteWords, WordsInTextOrder}
use Rattle.bq_run_laws.specs.Queries.Missing.{target_patterns}

abbrev Words : Type 0
Words = List (List ℕ)

-- ---- the words of a tree

-- those of the arguments that are queries
abbrev picked : List QueryArgumentKind → List Words → Words
picked ks [] = []
picked [] (x ∷ xs) = []
picked (kind.Query ∷ ks) (x ∷ xs) = x ++ picked ks xs
picked (kind.Pattern ∷ ks) (x ∷ xs) = picked ks xs
picked (kind.Attribute ∷ ks) (x ∷ xs) = picked ks xs
picked (kind.Number ∷ ks) (x ∷ xs) = picked ks xs

abbrev call_words : Option Row → List Words → Words
call_words None xs = []
call_words (Some f) xs = picked f.parameters xs

abbrev joined : List Words → Words
joined [] = []
joined (x ∷ xs) = x ++ joined xs

abbrev operation_step : SetOperation-F Words Words → Words
operation_step o = o.operand

abbrev query_step : Query-F Words Words → Words
query_step (open_tree.Word w) = w ∷ []
query_step (open_tree.Variable n) = []
query_step (open_tree.Parenthesized x) = x
query_step (open_tree.Set ws) = ws
query_step (open_tree.Call f xs) = call_words (function_named f) xs
query_step (open_tree.Let n x y) = x ++ y
query_step (open_tree.Chain x os) = x ++ joined os

abbrev tree_words : Query → Words
tree_words = fold-Query Words Words query_step operation_step

abbrev operation_words : SetOperation → Words
operation_words = fold-SetOperation Words Words query_step operation_step

of_word : (w : List ℕ) → tree_words (tree.Word w) ≡ w ∷ []
of_word w = search (rules, the_lemmas)

of_variable : (n : List ℕ) → tree_words (tree.Variable n) ≡ []
of_variable n = search (rules, the_lemmas)

of_parenthesized : (x : Query) → tree_words (tree.Parenthesized x) ≡ tree_words x
of_parenthesized x = search (rules, the_lemmas)

of_set : (ws : Words) → tree_words (tree.Set ws) ≡ ws
of_set ws = search (rules, the_lemmas)

of_call : (f : List ℕ) (xs : List Query) → tree_words (tree.Call f xs) ≡ call_words (function_named f) (map tree_words xs)
of_call f xs = search (rules, the_lemmas)

of_let : (n : List ℕ) (x y : Query) → tree_words (tree.Let n x y) ≡ tree_words x ++ tree_words y
of_let n x y = search (rules, the_lemmas)

of_chain : (x : Query) (os : List SetOperation) → tree_words (tree.Chain x os) ≡ tree_words x ++ joined (map operation_words os)
of_chain x os = search (rules, the_lemmas)

of_operation : (o : SetOperation) → operation_words o ≡ tree_words o.operand
of_operation o = search (rules, the_lemmas)

-- ---- the words of a tree are the patterns of its formula

abbrev Patterns : Type 0
Patterns = List TargetPattern

map_joined : {X Y : Type 0} (f : X → Y) (xs ys : List X) → map f (xs ++ ys) ≡ map f xs ++ map f ys
map_joined f [] ys = refl
map_joined {Y = Y} f (x ∷ xs) ys = ap (λ (t : List Y). f x ∷ t) (map_joined f xs ys)

-- the same words and patterns
same_words : (ws vs : Words) (ps qs : Patterns) → qs ≡ ps → ws ≡ vs → ArePatternsOf vs ps → ArePatternsOf ws qs
same_words ws vs ps qs e f h = ap (λ (t : Words). map pattern_of t) f ∙ (h ∙ sym (ap (λ (t : Patterns). map Some t) e))

both : (ps : Patterns) (ws : Words) (qs : Patterns) (vs : Words) → ArePatternsOf ws ps → ArePatternsOf vs qs → ArePatternsOf (ws ++ vs) (ps ++ qs)
both ps ws qs vs h k =
    map_joined pattern_of ws vs
    ∙ (ap (λ (t : List (Option TargetPattern)). t ++ map pattern_of vs) h ∙ (ap (λ (t : List (Option TargetPattern)). map Some ps ++ t) k ∙ sym (map_joined Some ps qs)))

alone : (ps : Patterns) (ws : Words) → ArePatternsOf ws ps → ArePatternsOf (ws ++ []) ps
alone ps ws h = ap (λ (t : Words). map pattern_of t) (append-nil ws) ∙ h

abbrev step_patterns : List Step → Patterns
step_patterns [] = []
step_patterns (s ∷ ss) = target_patterns s.formula ++ step_patterns ss

chained_patterns : (a : Formula) (ss : List Step) → target_patterns (chained a ss) ≡ target_patterns a ++ step_patterns ss
chained_patterns a [] = sym (append-nil (target_patterns a))
chained_patterns a (s ∷ ss) = chained_patterns (combined s.operator a s.formula) ss ∙ append_assoc (target_patterns a) (target_patterns s.formula) (step_patterns ss)

abbrev all_words : List Query → List Words
all_words xs = map tree_words xs

-- the patterns of the sets that a call is given are those of its formula
abbrev sets_patterns : List Formula → Patterns
sets_patterns [] = []
sets_patterns (a ∷ fs) = target_patterns a ++ sets_patterns fs

one_set_more : (fs : List Formula) (a : Formula) → sets_patterns (fs ++ a ∷ []) ≡ sets_patterns fs ++ target_patterns a
one_set_more [] a = append-nil (target_patterns a)
one_set_more (b ∷ fs) a = ap (λ (t : Patterns). target_patterns b ++ t) (one_set_more fs a) ∙ sym (append_assoc (target_patterns b) (sets_patterns fs) (target_patterns a))

applied_patterns : {fs : List Formula} {y : Formula} → IsApplied fs y → target_patterns y ≡ sets_patterns fs
applied_patterns (IsApplied.of_one {a = a}) = sym (append-nil (target_patterns a))
applied_patterns (IsApplied.of_two {a = a} {b = b}) = ap (λ (t : Patterns). target_patterns a ++ t) (sym (append-nil (target_patterns b)))

mutual
  formula_words : {ns : List (List ℕ)} {x : Query} {y : Formula} → IsFormulaOf ns x y → ArePatternsOf (tree_words x) (target_patterns y)
  formula_words (IsFormulaOf.word {x = x} {y = y} {w = w} e f) = same_words (tree_words x) (w ∷ []) f.0 (target_patterns y) (ap target_patterns f.2) (ap tree_words e ∙ of_word w) f.1
  formula_words (IsFormulaOf.bound {x = x} {y = y} {n = n} e b) = same_words (tree_words x) [] [] (target_patterns y) (ap target_patterns b.2) (ap tree_words e ∙ of_variable n) refl
  formula_words (IsFormulaOf.parenthesized {x = x} {inner = z} {y = y} e h) =
      same_words (tree_words x) (tree_words z) (target_patterns y) (target_patterns y) refl (ap tree_words e ∙ of_parenthesized z) (formula_words h)
  formula_words (IsFormulaOf.set_of {x = x} {y = y} {ws = ws} e f) = same_words (tree_words x) ws f.0 (target_patterns y) (ap target_patterns f.2) (ap tree_words e ∙ of_set ws) f.1
  formula_words (IsFormulaOf.call {x = x} {y = y} {name = name} {xs = xs} {row = f} {g = g} e known h c) =
      same_words (tree_words x) (picked f.parameters (all_words xs)) (sets_patterns g.sets) (target_patterns y) (applied_patterns (called_is_applied f g y c))
      (ap tree_words e ∙ (of_call name xs ∙ ap (λ (o : Option Row). call_words o (map tree_words xs)) known)) (arguments_formula h [] refl)
  formula_words (IsFormulaOf.binding {x = x} {value = v} {body = b} {y = y} {a = a} {b = c} {n = n} e h k f) =
      same_words (tree_words x) (tree_words v ++ tree_words b) (target_patterns a ++ target_patterns c) (target_patterns y) (ap target_patterns f) (ap tree_words e ∙ of_let n v b)
      (both (target_patterns a) (tree_words v) (target_patterns c) (tree_words b) (formula_words h) (formula_words k))
  formula_words (IsFormulaOf.chain {x = x} {first = z} {y = y} {a = a} {os = os} {steps = ss} e h s f) =
      same_words (tree_words x) (tree_words z ++ joined (map operation_words os)) (target_patterns a ++ step_patterns ss) (target_patterns y)
      (ap target_patterns f ∙ chained_patterns a ss) (ap tree_words e ∙ of_chain z os)
      (both (target_patterns a) (tree_words z) (step_patterns ss) (joined (map operation_words os)) (formula_words h) (steps_formula s))

  steps_formula : {ns : List (List ℕ)} {os : List SetOperation} {ss : List Step} → AreStepsOf ns os ss → ArePatternsOf (joined (map operation_words os)) (step_patterns ss)
  steps_formula AreStepsOf.no_more = refl
  steps_formula (AreStepsOf.one_more {o = o} {os = os} {s = s} {ss = ss} e h rest) =
      both (target_patterns s.formula) (operation_words o) (step_patterns ss) (joined (map operation_words os))
      (same_words (operation_words o) (tree_words o.operand) (target_patterns s.formula) (target_patterns s.formula) refl (of_operation o) (formula_words h)) (steps_formula rest)

  arguments_formula : {ns : List (List ℕ)} {ks : List QueryArgumentKind} {xs : List Query} {g h : Given} → AreArgumentsOf ns ks xs g h → (ws : Words) → ArePatternsOf ws (sets_patterns g.sets)
      → ArePatternsOf (ws ++ picked ks (all_words xs)) (sets_patterns h.sets)
  arguments_formula (AreArgumentsOf.no_argument {g = g}) ws k = alone (sets_patterns g.sets) ws k
  arguments_formula (AreArgumentsOf.one_argument {ks = ks} {x = x} {xs = xs} {h = h} {i = i} (IsArgumentOf.set {a = a} {g = g} is) rest) ws k =
      let more = same_words (ws ++ tree_words x) (ws ++ tree_words x) (sets_patterns g.sets ++ target_patterns a) (sets_patterns (g.sets ++ a ∷ [])) (one_set_more g.sets a) refl
      (both (sets_patterns g.sets) ws (target_patterns a) (tree_words x) k (formula_words is)) in
      same_words (ws ++ (tree_words x ++ picked ks (all_words xs))) ((ws ++ tree_words x) ++ picked ks (all_words xs)) (sets_patterns i.sets) (sets_patterns i.sets) refl
      (sym (append_assoc ws (tree_words x) (picked ks (all_words xs)))) (arguments_formula rest (ws ++ tree_words x) more)
  arguments_formula (AreArgumentsOf.one_argument (IsArgumentOf.attribute w) rest) ws k = arguments_formula rest ws k
  arguments_formula (AreArgumentsOf.one_argument (IsArgumentOf.pattern w) rest) ws k = arguments_formula rest ws k
  arguments_formula (AreArgumentsOf.one_argument (IsArgumentOf.limit n) rest) ws k = arguments_formula rest ws k

-- ---- the tokens of a tree write its words

-- one after another
after : {ts mid rest : List Lexeme} {xs ys : Words} → WriteWords ts mid xs → WriteWords mid rest ys → WriteWords ts rest (xs ++ ys)
after WriteWords.no_more k = k
after (WriteWords.other h) k = WriteWords.other (after h k)
after (WriteWords.word w h) k = WriteWords.word w (after h k)

-- and one token more
ended : {c : Lexeme} {ts rest : List Lexeme} {ws : Words} → WriteWords ts (c ∷ rest) ws → WriteWords ts rest ws
ended WriteWords.no_more = WriteWords.other WriteWords.no_more
ended (WriteWords.other h) = WriteWords.other (ended h)
ended (WriteWords.word w h) = WriteWords.word w (ended h)

-- what writes some words writes none of them too: each token may be one that is passed over
skipped : {ts rest : List Lexeme} {ws : Words} → WriteWords ts rest ws → WriteWords ts rest []
skipped WriteWords.no_more = WriteWords.no_more
skipped (WriteWords.other h) = WriteWords.other (skipped h)
skipped (WriteWords.word w h) = WriteWords.other (skipped h)

one_word : {ts rest : List Lexeme} {w : List ℕ} → IsWord ts rest w → WriteWords ts rest (w ∷ [])
one_word (IsWord.bare e f) = WriteWords.word (IsWord.bare e f) WriteWords.no_more
one_word (IsWord.quoted e f) = WriteWords.word (IsWord.quoted e f) WriteWords.no_more

all_written : {ts rest : List Lexeme} {ws : Words} → Repeat IsWord ts rest ws → WriteWords ts rest ws
all_written Repeat.over = WriteWords.no_more
all_written (Repeat.again x xs) = after (one_word x) (all_written xs)

in_words : {ts rest : List Lexeme} (xs ys : Words) → ys ≡ xs → WriteWords ts rest xs → WriteWords ts rest ys
in_words {ts} {rest} xs ys e h = subst (λ (ws : Words). WriteWords ts rest ws) (sym e) h

module _ (depth : ℕ) (Inner : Phrase Query) (inner : (ts rest : List Lexeme) (x : Query) → Inner ts rest x → WriteWords ts rest (tree_words x)) where
  one_argument : {ts mid rest : List Lexeme} (ks : List QueryArgumentKind) (x : Query) (xs : List Query) → WriteWords ts mid (tree_words x)
      → ((js : List QueryArgumentKind) → WriteWords mid rest (picked js (all_words xs))) → WriteWords ts rest (picked ks (all_words (x ∷ xs)))
  one_argument [] x xs h k = after (skipped h) (skipped (k []))
  one_argument (kind.Query ∷ ks) x xs h k = after h (k ks)
  one_argument (kind.Pattern ∷ ks) x xs h k = after (skipped h) (k ks)
  one_argument (kind.Attribute ∷ ks) x xs h k = after (skipped h) (k ks)
  one_argument (kind.Number ∷ ks) x xs h k = after (skipped h) (k ks)

  more_arguments : {ts rest : List Lexeme} {xs : List Query} → Repeat (CommaThen Inner) ts rest xs → (ks : List QueryArgumentKind) → WriteWords ts rest (picked ks (all_words xs))
  more_arguments Repeat.over ks = WriteWords.no_more
  more_arguments (Repeat.again {x = x} {xs = xs} (CommaThen.comma_then c i) more) ks = one_argument ks x xs (WriteWords.other (inner _ _ _ i)) (more_arguments more)

  arguments : {ts rest : List Lexeme} {xs : List Query} → AreArguments Inner ts rest xs → (ks : List QueryArgumentKind) → WriteWords ts rest (picked ks (all_words xs))
  arguments (AreArguments.no_arguments c) ks = WriteWords.other WriteWords.no_more
  arguments (AreArguments.arguments {x = x} {xs = xs} i more c) ks = ended (one_argument ks x xs (inner _ _ _ i) (more_arguments more))

  call_written : {ts rest : List Lexeme} {xs : List Query} → AreArguments Inner ts rest xs → (o : Option Row) → WriteWords ts rest (call_words o (all_words xs))
  call_written h None = skipped (arguments h [])
  call_written h (Some f) = arguments h f.parameters

  operand : {ts rest : List Lexeme} {x : Query} → IsOperand depth Inner ts rest x → WriteWords ts rest (tree_words x)
  operand (IsOperand.word {w = w} h) = in_words (w ∷ []) (tree_words (tree.Word w)) (of_word w) (one_word h)
  operand (IsOperand.variable {x = x} c e) = in_words [] (tree_words x) (ap tree_words e ∙ of_variable _) (WriteWords.other WriteWords.no_more)
  operand (IsOperand.parenthesized {x = x} d p i c) = in_words (tree_words x) (tree_words (tree.Parenthesized x)) (of_parenthesized x) (WriteWords.other (ended (inner _ _ _ i)))
  operand (IsOperand.set {ws = ws} d s p r c) = in_words ws (tree_words (tree.Set ws)) (of_set ws) (WriteWords.other (WriteWords.other (ended (all_written r))))
  operand (IsOperand.call {f = f} {xs = xs} {y = y} d w p a e) =
      in_words (call_words (function_named f.spelling) (all_words xs)) (tree_words y) (ap tree_words e ∙ of_call f.spelling xs)
      (WriteWords.other (WriteWords.other (call_written a (function_named f.spelling))))

  let_written : {ts rest : List Lexeme} {x : Query} → IsLet depth Inner ts rest x → WriteWords ts rest (tree_words x)
  let_written (IsLet.let_in {n = n} {x = x} {y = y} {z = z} d l w v q i c j e) =
      in_words (tree_words x ++ tree_words y) (tree_words z) (ap tree_words e ∙ of_let n.spelling x y)
      (WriteWords.other (WriteWords.other (WriteWords.other (after (ended (inner _ _ _ i)) (inner _ _ _ j)))))

  operations : {ts rest : List Lexeme} {os : List SetOperation} → AreOperations depth Inner ts rest os → WriteWords ts rest (joined (map operation_words os))
  operations AreOperations.no_more = WriteWords.no_more
  operations (AreOperations.one_more {o = o} {x = x} {xs = xs} k h more) =
      WriteWords.other (after (in_words (tree_words x) (operation_words (operation o x)) (of_operation (operation o x)) (operand h)) (operations more))
  operations (AreOperations.last_one {o = o} {x = x} k h) =
      in_words (operation_words (operation o x)) (operation_words (operation o x) ++ []) (append-nil (operation_words (operation o x)))
      (WriteWords.other (in_words (tree_words x) (operation_words (operation o x)) (of_operation (operation o x)) (let_written h)))

  chain_words : (x : Query) (os : List SetOperation) → tree_words (chain_of x os) ≡ tree_words x ++ joined (map operation_words os)
  chain_words x [] = sym (append-nil (tree_words x))
  chain_words x (o ∷ os) = of_chain x (o ∷ os)

  query : {ts rest : List Lexeme} {x : Query} → IsQueryOver depth Inner ts rest x → WriteWords ts rest (tree_words x)
  query (IsQueryOver.bound h) = let_written h
  query (IsQueryOver.chained {x = x} {y = y} {os = os} h more e) =
      in_words (tree_words x ++ joined (map operation_words os)) (tree_words y) (ap tree_words e ∙ chain_words x os) (after (operand h) (operations more))

queries : (depth : ℕ) (ts rest : List Lexeme) (x : Query) → IsQueryTo depth ts rest x → WriteWords ts rest (tree_words x)
queries zero ts rest x h = query 0 none (λ us mid y i. absurd i) h
queries (suc depth) ts rest x h = query (suc depth) (IsQueryTo depth) (queries depth) h

pub words_in_order : WordsInTextOrder
words_in_order text x y parsed is = record {
  words = tree_words x;
  read = formula_words is;
  cut = parsed.cut;
  reads = parsed.reads;
  write = queries max_open (lexemes text parsed.cut) [] x parsed.derives;
}
