-- Parts of definitions, as words that proofs name.
use Rattle.std.specs.Prelude.{ℕ, List, codes}
use Rattle.bq_resolve_scope.specs.Names.{Name, with_target, with_each, with_load_clause}
use Rattle.bq_parse_grammar.specs.declared.tree.SmallKind.{SmallKind}
use Rattle.bq_parse_grammar.specs.declared.tree.SmallKind.TheVariants as small

-- `native`
abbrev pub native : List ℕ
native = codes "native"

-- `attr`
abbrev pub attr : List ℕ
attr = codes "attr"

-- the function that makes a rule
abbrev pub rule : List ℕ
rule = codes "rule"

-- the names that a load binds join others
abbrev pub with_load_by : List Name → SmallKind → List Name
with_load_by names o = elim o [ small.Load l ↦ with_each with_load_clause names l.clauses | _ ↦ names ]

-- the names that a small statement assigns join others
abbrev pub with_small_by : List Name → SmallKind → List Name
with_small_by names o = elim o [ small.Assign t e ↦ with_target names t | small.Augment t o e ↦ with_target names t | _ ↦ names ]
