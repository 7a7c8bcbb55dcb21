use Rattle.std.proofs.Common.{◌∙◌, sym}
use Rattle.std.proofs.lemmas.List.{take_rest}
use Rattle.bq_builtin_format.proofs.Cutting.{literal_brace_at, literal_plains, some_plain}
use Rattle.bq_builtin_format.proofs.piece.write_piece.Goals as goal

pub returns-then-is_brace-clause-literal : goal.returns-then-is_brace-clause-literal
returns-then-is_brace-clause-literal c =
    literal_brace_at c.args.draft.now c.write_brace.new.draft c.args.format.now _ _ c.requires.some c.requires.no_field (sym c.is_brace.ensures ∙ c.if-is_brace.true) (take_rest c.args.format.now 1) c.in_ok-write_brace.ensures.piece c.in_ok-write_brace.ensures.rest

pub returns-clause-literal : goal.returns-clause-literal
returns-clause-literal c =
    literal_plains c.args.draft.now c.write.new.self c.args.format.now _ c.plain_len-len.result (λ none. some_plain c.args.format.now c.requires.some (sym c.is_brace.ensures ∙ c.if-is_brace.false) (sym c.plain_len-len.ensures.len ∙ none)) c.plain_len-len.ensures.len c.in_ok-write.ensures (take_rest c.args.format.now c.plain_len-len.result)
