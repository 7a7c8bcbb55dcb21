use Rattle.std.proofs.Common.{sym, subst, All}
use Rattle.std.proofs.lemmas.Result.{err_from_is_err_and}
use Rattle.bq_query_parse.specs.Tokens.{IsInText}
use Rattle.bq_query_parse.proofs.Texts.{in_text, none_cut, all_read, not_all_read, nothing_read}
use Rattle.bq_query_parse.proofs.parse.parse_tree.Goals as goal

pub returns-in-Err : goal.returns-in-Err
returns-in-Err c = λ n. none_cut c.args.text.now (c.in-Err.ensures.refused (c.refused.ensures n))

pub new-rest-requires : goal.new-rest-requires
new-rest-requires c =
    let text = c.args.text.now in
    subst (All (IsInText text)) (sym c.deref.ensures.value) (in_text text c.in-Ok.tokens.items c.in-Ok.ensures.tokens)

pub returns-in_err-tree : goal.returns-in_err-tree
returns-in_err-tree c =
    let p = err_from_is_err_and c.from_residual.result c.from_residual.ensures.1 in
    rw (p.1, p.2) (λ n. nothing_read c.args.text.now c.in-Ok.tokens.items c.deref.result.now c.in-Ok.ensures.tokens c.deref.ensures.value c.new-rest.result c.new-rest.ensures (c.in_err-tree.ensures n))

pub returns-in-Some : goal.returns-in-Some
returns-in-Some c = λ n.
    not_all_read c.args.text.now c.in-Ok.tokens.items c.deref.result.now c.in-Ok.ensures.tokens c.deref.ensures.value c.new-rest.result c.new-rest.ensures c.in_ok-tree.tree c.query.new.tokens c.in-Some.field-0 c.in_ok-tree.ensures (sym c.in-Some.ensures)

pub returns : goal.returns
returns c =
    all_read c.args.text.now c.in-Ok.tokens.items c.deref.result.now c.in-Ok.ensures.tokens c.deref.ensures.value c.new-rest.result c.new-rest.ensures c.in_ok-tree.tree c.query.new.tokens c.in_ok-tree.ensures (sym c.in-None.ensures)
