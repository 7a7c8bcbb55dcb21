-- One layer of a statement, where more than none are looked at, and none.
use Rattle.std.proofs.Common.{◌≡◌, ◌≢◌, ◌-◌, ◌∙◌, ℕ, zero, suc, List, Bool, Result, Err, refl, sym, ap, subst, arith}
use Rattle.bq_base.specs.declared.fault.NameFault.{NameFault}
use Rattle.bq_base.specs.declared.fault.Fault.{Fault}
use Rattle.bq_base.specs.declared.fault.NameFault.TheVariants as f
use Rattle.bq_base.specs.declared.fault.SourceErr.{SourceErr}
use Rattle.bq_base.specs.declared.fault.SourceErr.TheVariants.{Bad}
use Rattle.bq_base.specs.Fault.{fault_at}
use Rattle.bq_parse_grammar.specs.declared.tree.Stmt.{Stmt, out-Stmt}
use Rattle.bq_resolve_scope.specs.Scope.{BlockParts, FileParts}
use Rattle.bq_resolve_scope.specs.Visit.{Passed}
use Rattle.bq_resolve_scope.specs.Statements.{stmt_by, stmt_to}
use Rattle.bq_resolve.specs.Walks.{Writes}

stmt_layer : (file : FileParts) (layers : ℕ) (blocks : List BlockParts) (looping : Bool) (x : Stmt) (s : Passed) → layers ≢ 0
    → stmt_to file layers blocks looping x s ≡ stmt_by file (stmt_to file (layers - 1) blocks) blocks looping (out-Stmt x) s
unfolding stmt_to
stmt_layer file zero blocks looping x s some = absurd (some refl)
stmt_layer file (suc layers) blocks looping x s some = let e : suc layers - 1 ≡ layers = omega arith in rw e refl

-- a resolver of one layer more
pub writes_layer : (file : FileParts) (layers : ℕ) (blocks : List BlockParts) (looping : Bool) (x : Stmt) (s new : Passed) (tree : Stmt) (r : Result (Unit {0}) (SourceErr NameFault)) → layers ≢ 0
    → Writes (stmt_by file (stmt_to file (layers - 1) blocks) blocks looping (out-Stmt x) s) r tree new → Writes (stmt_to file layers blocks looping x s) r tree new
writes_layer file layers blocks looping x s new tree r some writes =
    let P : Result (Stmt × Passed) (Fault NameFault) → Type 0 = λ found. Writes found r tree new in subst P (sym (stmt_layer file layers blocks looping x s some)) writes

no_layer : (file : FileParts) (layers : ℕ) (blocks : List BlockParts) (looping : Bool) (x : Stmt) (s : Passed) → layers ≡ 0
    → stmt_to file layers blocks looping x s ≡ Err (fault_at f.Nesting 0)
unfolding stmt_to
no_layer file layers blocks looping x s none = ap (λ n. stmt_to file n blocks looping x s) none

-- and of none
pub writes_no_layer : (file : FileParts) (layers : ℕ) (blocks : List BlockParts) (looping : Bool) (x : Stmt) (s : Passed) (made why : Fault NameFault) → layers ≡ 0
    → made ≡ fault_at f.Nesting 0 → Bad made ≡ Bad why → stmt_to file layers blocks looping x s ≡ Err why
writes_no_layer file layers blocks looping x s made why none is same =
    let e : fault_at f.Nesting 0 ≡ why = cc in no_layer file layers blocks looping x s none ∙ ap Err e
