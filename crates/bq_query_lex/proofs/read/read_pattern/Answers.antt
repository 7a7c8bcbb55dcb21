use Rattle.std.proofs.Common.{◌≡◌, true, rules, arith}
use Rattle.std.proofs.lemmas.Grind.{common_steps}
use Rattle.bq_query_lex.specs.TargetPatterns.{begins_pattern, word_form}
use Rattle.bq_query_lex.proofs.Words.{as_form, read_known}
use Rattle.bq_query_lex.proofs.read.read_pattern.Goals as goal

pub returns : goal.returns
returns c =
    let begins : begins_pattern c.args.word.now ≡ true = first_of (cc, search rules, grind (arith, common_steps)) in
    let form : c.word_form-found.result.form ≡ (word_form c.args.word.now).0 = first_of (cc, search rules, grind (arith, common_steps)) in
    let part : c.word_form-found.result.named.now ≡ (word_form c.args.word.now).1 = first_of (cc, search rules, grind (arith, common_steps)) in
    read_known c.args.word.now c.read_form.result begins (as_form c.args.word.now c.word_form-found.result.form c.word_form-found.result.named.now c.read_form.result form part c.read_form.ensures)
