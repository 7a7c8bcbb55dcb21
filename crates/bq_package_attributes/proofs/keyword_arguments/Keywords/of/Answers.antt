use Rattle.std.proofs.Common.{◌≡◌, ◌∙◌, ◌<◌, [], length, Ok, Err, false, true, sym, ap, subst, arith}
use Rattle.bq_base.specs.declared.fault.EvalFault.TheVariants as f
use Rattle.bq_builtin_machine.specs.Args.{Passed}
use Rattle.bq_builtin_machine.specs.ArgsOf.{passed_of}
use Rattle.bq_builtin_machine.specs.Binding.{bind}
use Rattle.bq_package_values.specs.Steps.{and_then}
use Rattle.bq_package_attributes.specs.Declarations.{keywords_alone}
use Rattle.bq_package_attributes.specs.KeywordArguments.{pairs, are_new}
use Rattle.bq_package_attributes.proofs.Few.{few_bound, positional_refused, double_refused}
use Rattle.bq_package_attributes.proofs.keyword_arguments.Keywords.of.Goals as goal

pub returns-then-len-gt0 : goal.returns-then-len-gt0
returns-then-len-gt0 c why e =
    let p : Passed = passed_of c.args-2.inside in
    let same : f.Args ≡ why = cc (e) in
    let some : 0 < length p.positional = omega (arith, c.len.ensures, c.args-2.inside.positional.ok, c.if-len-gt0.true) in
    subst (λ (q : Passed). and_then (bind keywords_alone q) (λ b. Ok b.keywords) ≡ Err why) c.args-2.view_is (positional_refused p some ∙ ap Err same)

pub returns-then-not-are_new : goal.returns-then-not-are_new
returns-then-not-are_new c why e =
    let p : Passed = passed_of c.args-2.inside in
    let same : f.Args ≡ why = cc (e) in
    let old : are_new [] p.named ≡ false = ap (are_new []) (sym c.deref.ensures.value) ∙ (sym c.are_new.ensures ∙ c.if-not-are_new.true) in
    subst (λ (q : Passed). and_then (bind keywords_alone q) (λ b. Ok b.keywords) ≡ Err why) c.args-2.view_is (double_refused p old ∙ ap Err same)

pub returns : goal.returns
returns c =
    let p : Passed = passed_of c.args-2.inside in
    let none : length p.positional ≡ 0 = omega (arith, c.len.ensures, c.args-2.inside.positional.ok, c.if-len-gt0.false) in
    let new : are_new [] p.named ≡ true = ap (are_new []) (sym c.deref.ensures.value) ∙ (sym c.are_new.ensures ∙ c.if-not-are_new.false) in
    subst (λ (q : Passed). and_then (bind keywords_alone q) (λ b. Ok b.keywords) ≡ Ok (pairs p.named)) c.args-2.view_is (few_bound p none new)
