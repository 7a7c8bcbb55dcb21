-- Which tree has which formula: a case for each form of query (Bazel query reference, "Expressions" and "Functions").
use Rattle.std.specs.Prelude.{◌≡◌, ◌≢◌, ℕ, ◌+◌, ◌*◌, ◌-◌, ◌^◌, ◌<◌, min, List, [], ◌∷◌, ◌++◌, Some, slice_get}
use Rattle.bq_query_function.specs.declared.signature.QueryArgumentKind.{QueryArgumentKind}
use Rattle.bq_query_function.specs.declared.signature.QueryArgumentKind.TheVariants as kind
use Rattle.bq_query_function.specs.Functions.{Row}
use Rattle.bq_query_function.specs.Calls.{function_named}
use Rattle.bq_query_lex.specs.declared.pattern.TargetPattern.{TargetPattern}
use Rattle.bq_query_lex.specs.PatternReading.{ArePatternsOf}
use Rattle.bq_query_parse.specs.declared.tree.Query.{Query}
use Rattle.bq_query_parse.specs.declared.tree.Query.TheVariants as tree
use Rattle.bq_query_parse.specs.declared.tree.SetOperation.{SetOperation}
use Rattle.bq_query_check.specs.Formula.{Formula, Step, named, variable, let_in, chained}
use Rattle.bq_query_check.specs.Call.{Given, nothing, called}

-- ---- arguments that are words

-- a number with more digits, kept at 2 ^ 32 once it is there
abbrev pub more_digits : ℕ → List ℕ → ℕ
more_digits n [] = n
more_digits n (b ∷ bs) = more_digits (min (n * 10 + (b - 48)) (2 ^ 32)) bs

-- the number that digits write, as far as 2 ^ 32, which is more than any number of targets
unfoldable pub number : List ℕ → ℕ
number word = more_digits 0 word

-- a number of edges
abbrev pub IsNumber : Query → ℕ → Type 0
IsNumber x n = (word : List ℕ) × (x ≡ tree.Word word) × (n ≡ number word)

-- a regular expression, or the name of an attribute
abbrev pub IsWord : Query → List ℕ → Type 0
IsWord x word = x ≡ tree.Word word

-- ---- variables

-- of the names that lets bind, the outermost of which is 0, the innermost that is this one
pub record IsInnermost (names : List (List ℕ)) (name : List ℕ) (at : ℕ) : Type 0 where
  pub there : slice_get names at ≡ Some name
  pub last : (k : ℕ) → at < k → slice_get names k ≢ Some name

-- what the innermost let of this name binds
abbrev pub IsBound : List (List ℕ) → List ℕ → Formula → Type 0
IsBound names name y = (k : ℕ) × IsInnermost names name k × (y ≡ variable k)

-- ---- words

-- the targets that the patterns name as which the words read
abbrev pub IsNamed : List (List ℕ) → Formula → Type 0
IsNamed words y = (ps : List TargetPattern) × ArePatternsOf words ps × (y ≡ named ps)

-- ---- trees, where the lets around them bind these names

mutual
  -- a query, inside lets of these names, is checked to a formula
  pub data IsFormulaOf : List (List ℕ) → Query → Formula → Type 0 where
    -- `word`
    word : {ns : List (List ℕ)} {x : Query} {y : Formula} {w : List ℕ} → x ≡ tree.Word w → IsNamed (w ∷ []) y → IsFormulaOf ns x y
    -- `$name`
    bound : {ns : List (List ℕ)} {x : Query} {y : Formula} {n : List ℕ} → x ≡ tree.Variable n → IsBound ns n y → IsFormulaOf ns x y
    -- `(x)`
    parenthesized : {ns : List (List ℕ)} {x inner : Query} {y : Formula} → x ≡ tree.Parenthesized inner → IsFormulaOf ns inner y → IsFormulaOf ns x y
    -- `set(word ..)`
    set_of : {ns : List (List ℕ)} {x : Query} {y : Formula} {ws : List (List ℕ)} → x ≡ tree.Set ws → IsNamed ws y → IsFormulaOf ns x y
    -- `function(argument, ..)`
    call : {ns : List (List ℕ)} {x : Query} {y : Formula} {name : List ℕ} {xs : List Query} {row : Row} {g : Given} → x ≡ tree.Call name xs
        → function_named name ≡ Some row → AreArgumentsOf ns row.parameters xs nothing g → called row g ≡ Some y → IsFormulaOf ns x y
    -- `let n = value in body`
    binding : {ns : List (List ℕ)} {x value body : Query} {y a b : Formula} {n : List ℕ} → x ≡ tree.Let n value body → IsFormulaOf ns value a
        → IsFormulaOf (ns ++ n ∷ []) body b → y ≡ let_in a b → IsFormulaOf ns x y
    -- `first + second ..`
    chain : {ns : List (List ℕ)} {x first : Query} {y a : Formula} {os : List SetOperation} {steps : List Step} → x ≡ tree.Chain first os
        → IsFormulaOf ns first a → AreStepsOf ns os steps → y ≡ chained a steps → IsFormulaOf ns x y

  -- the further operands of a chain
  pub data AreStepsOf : List (List ℕ) → List SetOperation → List Step → Type 0 where
    no_more : {ns : List (List ℕ)} → AreStepsOf ns [] []
    one_more : {ns : List (List ℕ)} {o : SetOperation} {os : List SetOperation} {s : Step} {ss : List Step} → s.operator ≡ o.operator
        → IsFormulaOf ns o.operand s.formula → AreStepsOf ns os ss → AreStepsOf ns (o ∷ os) (s ∷ ss)

  -- the arguments of a call, each by its kind, after those that were given before
  pub data AreArgumentsOf : List (List ℕ) → List QueryArgumentKind → List Query → Given → Given → Type 0 where
    no_argument : {ns : List (List ℕ)} {ks : List QueryArgumentKind} {g : Given} → AreArgumentsOf ns ks [] g g
    one_argument : {ns : List (List ℕ)} {k : QueryArgumentKind} {ks : List QueryArgumentKind} {x : Query} {xs : List Query} {g h i : Given}
        → IsArgumentOf ns k x g h → AreArgumentsOf ns ks xs h i → AreArgumentsOf ns (k ∷ ks) (x ∷ xs) g i

  -- an argument of a kind
  pub data IsArgumentOf : List (List ℕ) → QueryArgumentKind → Query → Given → Given → Type 0 where
    set : {ns : List (List ℕ)} {x : Query} {a : Formula} {g : Given} → IsFormulaOf ns x a
        → IsArgumentOf ns kind.Query x g (record g { sets = g.sets ++ a ∷ [] })
    attribute : {ns : List (List ℕ)} {x : Query} {name : List ℕ} {g : Given} → IsWord x name
        → IsArgumentOf ns kind.Attribute x g (record g { attribute = Some name })
    pattern : {ns : List (List ℕ)} {x : Query} {pattern : List ℕ} {g : Given} → IsWord x pattern
        → IsArgumentOf ns kind.Pattern x g (record g { pattern = Some pattern })
    limit : {ns : List (List ℕ)} {x : Query} {n : ℕ} {g : Given} → IsNumber x n
        → IsArgumentOf ns kind.Number x g (record g { limit = Some n })

-- the function of this name with these arguments
abbrev pub IsCallNamed : List ℕ → List (List ℕ) → List Query → Formula → Type 0
IsCallNamed name ns xs y = (row : Row) × (g : Given) × (function_named name ≡ Some row) × AreArgumentsOf ns row.parameters xs nothing g × (called row g ≡ Some y)
