use Rattle.std.proofs.Common.{◌∙◌, sym}
use Rattle.std.proofs.lemmas.Bool.{eqb-true}
use Rattle.bq_builtin_format.proofs.Cutting.{literal_field, literal_end}
use Rattle.bq_builtin_format.proofs.piece.write_literal.Goals as goal

pub returns-in-Some-clause-literal : goal.returns-in-Some-clause-literal
returns-in-Some-clause-literal c = c.loop-rest.invariant.0 ∙ literal_field c.loop-rest.draft c.loop-rest.rest.now _ _ c.in-Some.ensures.field

pub returns-clause-literal : goal.returns-clause-literal
returns-clause-literal c = c.loop-rest.invariant.0 ∙ literal_end c.loop-rest.draft c.loop-rest.rest.now (eqb-true _ _ (sym c.is_empty.ensures ∙ c.loop-rest-test.false))
