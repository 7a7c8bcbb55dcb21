use Rattle.std.proofs.Common.{arith}
use Rattle.std.proofs.lemmas.Grind.{common_steps}
use Rattle.std.proofs.lemmas.Result.{err_from_is_err_and}
use Rattle.bq_base.specs.Fault.{kind_of_token, kind_of_statement, kind_of_name}
use Rattle.bq_base.proofs.Joined.{bad_as}
use Rattle.bq_source_lexer.specs.Tokens.{tokens_of}
use Rattle.bq_source_lexer.proofs.Reached.{every_text}
use Rattle.bq_load_front.specs.Resolved.{resolved_file}
use Rattle.bq_load_front.proofs.Tokens.{lexed, no_tokens}
use Rattle.bq_load_front.proofs.resolved.resolved_file.Goals as goal

pub returns-in_err-tokens : goal.returns-in_err-tokens
returns-in_err-tokens c =
    let p = err_from_is_err_and c.from_residual.result c.from_residual.ensures.1 in
    let text = c.args.text.now in
    rw p.1 (λ why same.
    no_tokens c.args.universe.now text why (bad_as kind_of_token c.in_err-tokens.field-0.0 p.0 p.2 (tokens_of text) (c.in_err-tokens.ensures.only (tokens_of text) (every_text text)) why same))

pub returns-in_err-file : goal.returns-in_err-file
unfolding resolved_file
returns-in_err-file c =
    let p = err_from_is_err_and c.from_residual-in_err-file.result c.from_residual-in_err-file.ensures.1 in
    let found = lexed c.args.text.now c.lex.result c.lex.ensures.only in
    rw p.1 (λ why same. let bad = bad_as kind_of_statement c.in_err-file.field-0.0 p.0 p.2 _ c.in_err-file.ensures.gives why same in grind (arith, common_steps, found, bad))

pub returns-in_err-resolve : goal.returns-in_err-resolve
unfolding resolved_file
returns-in_err-resolve c =
    let p = err_from_is_err_and c.from_residual-in_err-resolve.result c.from_residual-in_err-resolve.ensures.1 in
    let found = lexed c.args.text.now c.lex.result c.lex.ensures.only in
    rw p.1 (λ why same. let bad = bad_as kind_of_name c.in_err-resolve.field-0.0 p.0 p.2 _ c.in_err-resolve.ensures why same in grind (arith, common_steps, found, bad))

pub returns : goal.returns
unfolding resolved_file
returns c = let found = lexed c.args.text.now c.lex.result c.lex.ensures.only in grind (arith, common_steps, found)
