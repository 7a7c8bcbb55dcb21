-- The frame that a comprehension is in.
use Rattle.std.proofs.Common.{◌≡◌, true, false, List, [], ◌∷◌, length, Result, Ok, Err, ap, arith}
use Rattle.std.specs.Bool.{◌==◌}
use Rattle.bq_base.specs.declared.fault.NameFault.{NameFault}
use Rattle.bq_base.specs.declared.fault.SourceErr.{SourceErr}
use Rattle.bq_parse_grammar.specs.declared.tree.ComprehensionFrame.{ComprehensionFrame}
use Rattle.bq_parse_grammar.specs.declared.tree.ComprehensionFrame.TheVariants as frame
use Rattle.bq_parse_grammar.specs.declared.tree.Expr.{Expr}
use Rattle.bq_resolve_scope.specs.Scope.{BlockParts}
use Rattle.bq_resolve_scope.specs.Visit.{Passed, Visit, following, pure}
use Rattle.bq_resolve_scope.specs.Expressions.{framed, in_frame}
use Rattle.bq_resolve.specs.Walks.{Writes}

-- inside a block it is the frame that is open
pub inside_block : (blocks : List BlockParts) (v : Visit (ComprehensionFrame → Expr)) (s new : Passed) (r : Result (Unit {0}) (SourceErr NameFault)) (make : ComprehensionFrame → Expr)
    → (length blocks == 0) ≡ false → Writes (v s) r make new → Writes (in_frame blocks v s) r (make frame.Shared) new
inside_block [] v s new r make h w = absurd (let no : ⊥ = cc in no)
inside_block (b ∷ bs) v s new (Ok u) make h w = ap (λ found. following found (λ m. pure (m frame.Shared))) w
inside_block (b ∷ bs) v s new (Err e) make h w = λ why is. ap (λ found. following found (λ m. pure (m frame.Shared))) (w why is)

-- outside all blocks it has one of its own
pub own_frame : (blocks : List BlockParts) (v : Visit (ComprehensionFrame → Expr)) (s new : Passed) (r : Result (Unit {0}) (SourceErr NameFault)) (x : Expr) → (length blocks == 0) ≡ true
    → Writes (framed s.slots (v (record s { slots = 0 }))) r x new → Writes (in_frame blocks v s) r x new
own_frame [] v s new r x h w = w
own_frame (b ∷ bs) v s new r x h w = absurd (grind arith)
