use Rattle.std.proofs.Common.{◌≡◌, ◌∙◌, ◌++◌, ◌∷◌, [], ◌+◌, List, ℕ, map, take, drop, length, is_some, refl, sym, ap, subst, rules, arith}
use Rattle.std.proofs.lemmas.List.{take_more, take_all, take-append-drop, drop_more}
use Rattle.std.specs.List.{AllByRecursion}
use Rattle.std.specs.Iterator.Adapters.{zip_first, zip_second}
use Rattle.std.specs.Slice.Iter.{iter_rest}
use Rattle.std.proofs.lemmas.Slice.Zip.{Zip-more, either_empty_from_Zip}
use Rattle.bq_query_function.specs.declared.signature.QueryArgumentKind.{QueryArgumentKind}
use Rattle.std.proofs.lemmas.Result.{err_from_is_err_and}
use Rattle.bq_query_lex.specs.PatternReading.{word_fault, words_fault}
use Rattle.bq_query_parse.specs.declared.tree.Query.{Query}
use Rattle.bq_query_parse.specs.declared.tree.Query.TheVariants as tree
use Rattle.bq_query_parse.specs.declared.tree.Query.TheFolds.{the_lemmas}
use Rattle.bq_query_parse.specs.declared.tree.SetOperation.{SetOperation}
use Rattle.bq_query_check.specs.Verdict as spec
use Rattle.bq_query_check.specs.Verdict.{Need, no_fault, part_of, operation_part, parts}
use Rattle.bq_query_check.specs.declared.formula.SetExpr.{SetExpr}
use Rattle.bq_query_check.specs.declared.formula.ChainStep.{ChainStep}
use Rattle.bq_query_check.specs.Checked.{Holds, FirstFails, Reads}
use Rattle.bq_query_check.specs.Formula.{formula_of, step_of}
use Rattle.bq_query_check.specs.FormulaOf.{IsFormulaOf, IsBound, IsCallNamed, IsNamed, AreStepsOf, IsArgumentOf, AreArgumentsOf}
use Rattle.bq_query_function.specs.Calls.{row_of}
use Rattle.bq_query_check.specs.Call.{given}
use Rattle.bq_query_check.proofs.Needs.{all_hold, fails_before, fails_after, read_as, one_word}
use Rattle.bq_query_check.proofs.Left.{AreLeft, set_given, one_less, next_fails, none_left}
use Rattle.bq_query_check.proofs.Calls.{is_called, function_fits}
use Rattle.bq_query_check.proofs.Says.{let_says, chain_says}
use Rattle.bq_query_check.proofs.Steps.{steps_pushed, parts_more, part_fails_there}
use Rattle.bq_query_check.proofs.trees.+query.Goals as goal

-- ---- boxes

pub boxed-returns-in_err-set : goal.boxed-returns-in_err-set
boxed-returns-in_err-set t c =
    let p = err_from_is_err_and c.from_residual.result c.from_residual.ensures.1 in
    rw (p.1, p.2) (λ other. c.in_err-set.ensures other)

pub boxed-returns : goal.boxed-returns
boxed-returns t c =
    (c.in_ok-set.ensures.0, subst (λ (r : SetExpr). IsFormulaOf c.args.names.now c.args.query.now (formula_of r)) (sym c.in_ok-new.ensures) c.in_ok-set.ensures.1)

-- ---- calls

pub argument-returns-in_ok-push-in-Query : goal.argument-returns-in_ok-push-in-Query
argument-returns-in_ok-push-in-Query t c =
    let set = c.in_ok-set-in-Query in
    rw c.in-Query.is (set.ensures.0, set_given c.args.names.now c.args.query.now c.args.read.now c.push.new.self set.set set.ensures.1 c.in_ok-push-in-Query.ensures.ok)

pub argument-returns-in_ok-pattern-in-Pattern : goal.argument-returns-in_ok-pattern-in-Pattern
argument-returns-in_ok-pattern-in-Pattern t c = rw c.in-Pattern.is (c.in_ok-pattern-in-Pattern.ensures.0, IsArgumentOf.pattern c.in_ok-pattern-in-Pattern.ensures.1)

pub argument-returns-in_ok-attribute-in-Attribute : goal.argument-returns-in_ok-attribute-in-Attribute
argument-returns-in_ok-attribute-in-Attribute t c = rw c.in-Attribute.is (c.in_ok-attribute-in-Attribute.ensures.0, IsArgumentOf.attribute c.in_ok-attribute-in-Attribute.ensures.1)

pub argument-returns-in_ok-limit-in-Number : goal.argument-returns-in_ok-limit-in-Number
argument-returns-in_ok-limit-in-Number t c = rw c.in-Number.is (c.in_ok-limit-in-Number.ensures.0, IsArgumentOf.limit c.in_ok-limit-in-Number.ensures.1)

pub arguments-loop-kind-preserved : goal.arguments-loop-kind-preserved
arguments-loop-kind-preserved t c =
    let more = Zip-more c.loop-kind.kind-iterator c.next.new.self c.next.result (c.in-Some.kind, c.in-Some.query) c.in-Some.is c.next.ensures.steps in
    let ks = iter_rest (zip_first c.next.new.self) in
    let xs = iter_rest (zip_second c.next.new.self) in
    let k = c.in-Some.kind.now in
    let g = given c.loop-kind.read in
    let left = subst (λ (zs : List Query). AreLeft c.args.names.now c.args.kinds.now c.args.queries.now (k ∷ ks) zs g) more.1
    (subst (λ (js : List QueryArgumentKind). AreLeft c.args.names.now c.args.kinds.now c.args.queries.now js (iter_rest (zip_second c.loop-kind.kind-iterator)) g) more.0 c.loop-kind.invariant) in
    one_less c.args.names.now c.args.kinds.now c.args.queries.now k ks c.in-Some.query.now xs g (given c.argument.new.read) left c.in_ok-argument.ensures.0 c.in_ok-argument.ensures.1

pub arguments-returns-in_err-argument : goal.arguments-returns-in_err-argument
arguments-returns-in_err-argument t c =
    let more = Zip-more c.loop-kind.kind-iterator c.next.new.self c.next.result (c.in-Some.kind, c.in-Some.query) c.in-Some.is c.next.ensures.steps in
    let ks = iter_rest (zip_first c.next.new.self) in
    let xs = iter_rest (zip_second c.next.new.self) in
    let k = c.in-Some.kind.now in
    let g = given c.loop-kind.read in
    let left = subst (λ (zs : List Query). AreLeft c.args.names.now c.args.kinds.now c.args.queries.now (k ∷ ks) zs g) more.1
    (subst (λ (js : List QueryArgumentKind). AreLeft c.args.names.now c.args.kinds.now c.args.queries.now js (iter_rest (zip_second c.loop-kind.kind-iterator)) g) more.0 c.loop-kind.invariant) in
    let p = err_from_is_err_and c.from_residual.result c.from_residual.ensures.1 in
    rw (p.1, p.2) (λ other. next_fails c.args.names.now c.args.kinds.now c.args.queries.now k ks c.in-Some.query.now xs g c.in_err-argument.field-0.0 left (c.in_err-argument.ensures other))

pub arguments-returns : goal.arguments-returns
arguments-returns t c =
    let ks = iter_rest (zip_first c.loop-kind.kind-iterator) in
    let xs = iter_rest (zip_second c.loop-kind.kind-iterator) in
    none_left c.args.names.now c.args.kinds.now c.args.queries.now ks xs (given c.loop-kind.read) c.loop-kind.invariant
    (either_empty_from_Zip c.loop-kind.kind-iterator c.next.new.self c.next.result c.in-None.is c.next.ensures.steps)

pub call-called-requires : goal.call-called-requires
call-called-requires t c =
    let row = row_of c.in_ok-signature.signature in
    let name = c.args.name.now in
    let known = c.in_ok-signature.ensures.function in
    ap is_some (is_called name row known c.in_ok-arguments.ensures.1 (function_fits name (length c.args.queries.now) row c.in_ok-signature.ensures.fault known)).1

-- ---- chains

pub steps-loop-operation-init : goal.steps-loop-operation-init
steps-loop-operation-init t c = record { hold = tt; read = subst (λ (ss : List ChainStep). AreStepsOf c.args.names.now [] (map step_of ss)) (sym c.new-steps.ensures) AreStepsOf.no_more }

pub steps-returns-in_err-operand : goal.steps-returns-in_err-operand
steps-returns-in_err-operand t c =
    let i = c.loop-operation.operation-index in
    let os = c.args.operations.now in
    let item = c.operation-item.result in
    let ns = c.args.names.now in
    let split : take c.loop-operation.operation-index c.args.operations.now ++ c.operation-item.result ∷ drop (c.loop-operation.operation-index + 1) c.args.operations.now ≡ c.args.operations.now =
    ap (λ (rest : List SetOperation). take i os ++ rest) (ap (λ z. z ∷ drop (i + 1) os) c.operation-item.is ∙ sym (drop_more os i item c.loop-operation-test.true)) ∙ take-append-drop i os in
    let p = err_from_is_err_and c.from_residual.result c.from_residual.ensures.1 in
    rw (p.1, p.2) (λ other. subst (λ (xs : List SetOperation). FirstFails (parts (map operation_part xs) ns) c.in_err-operand.field-0.0) split
    (part_fails_there (take i os) item (drop (i + 1) os) ns c.in_err-operand.field-0.0 c.loop-operation.invariant.hold (c.in_err-operand.ensures other)))

pub steps-loop-operation-preserved : goal.steps-loop-operation-preserved
steps-loop-operation-preserved t c =
    let i = c.loop-operation.operation-index in
    let os = c.args.operations.now in
    let item = c.operation-item.result in
    let ns = c.args.names.now in
    let more : take (c.loop-operation.operation-index + 1) c.args.operations.now ≡ take c.loop-operation.operation-index c.args.operations.now ++ c.operation-item.result ∷ [] =
    take_more os i item c.loop-operation-test.true ∙ ap (λ z. take i os ++ z ∷ []) (sym c.operation-item.is) in
    record {
      hold = subst (λ (xs : List SetOperation). AllByRecursion Holds (parts (map operation_part xs) ns)) (sym more) (parts_more (take i os) item ns c.loop-operation.invariant.hold c.in_ok-operand.ensures.0);
      read = subst (λ (xs : List SetOperation). AreStepsOf c.args.names.now xs (map step_of c.push.new.self)) (sym more)
          (steps_pushed c.args.names.now (take i os) c.loop-operation.steps c.push.new.self item _ c.loop-operation.invariant.read refl c.in_ok-operand.ensures.1 c.in_ok-push.ensures.ok);
    }

pub steps-returns : goal.steps-returns
steps-returns t c =
    let os = c.args.operations.now in
    let all : take c.loop-operation.operation-index c.args.operations.now ≡ c.args.operations.now = take_all c.loop-operation.operation-index os (omega arith) in (
      subst (λ (xs : List SetOperation). AllByRecursion Holds (parts (map operation_part xs) c.args.names.now)) all c.loop-operation.invariant.hold,
      subst (λ (xs : List SetOperation). AreStepsOf c.args.names.now xs (map step_of c.loop-operation.steps)) all c.loop-operation.invariant.read,
    )

-- ---- trees

pub body-returns : goal.body-returns
body-returns t c =
    let all = (part_of c.args.query.now).all in
    subst (λ (names : List (List ℕ)). Reads (all names) (λ r. IsFormulaOf names c.args.query.now (formula_of r)) c.boxed.result) (c.as_slice.ensures ∙ c.in_ok-names.ensures) c.boxed.ensures

pub read-returns-in-Word : goal.read-returns-in-Word
read-returns-in-Word t c =
    let ns = c.args.names.now in
    let w = c.in-Word.text in
    let says : (part_of c.args.query.now).all c.args.names.now ≡ no_fault (word_fault c.in-Word.text) ∷ [] = search (rules, the_lemmas) in
    let named_word = subst (λ (ws : List (List ℕ)). Reads (no_fault (words_fault ws) ∷ []) (λ r. IsNamed ws (formula_of r)) c.named.result) c.from_ref.ensures.value c.named.ensures in
    read_as ((part_of c.args.query.now).all ns) (no_fault (words_fault (w ∷ [])) ∷ []) (λ r. IsFormulaOf c.args.names.now c.args.query.now (formula_of r)) (λ r. IsNamed (w ∷ []) (formula_of r)) c.named.result
    (says ∙ ap (λ f. no_fault f ∷ []) (sym (one_word w))) (λ r h. IsFormulaOf.word c.in-Word.is h) named_word

pub read-returns-in-Variable : goal.read-returns-in-Variable
read-returns-in-Variable t c =
    let ns = c.args.names.now in
    let says : (part_of c.args.query.now).all c.args.names.now ≡ no_fault (spec.variable c.args.names.now c.in-Variable.name) ∷ [] = search (rules, the_lemmas) in
    read_as ((part_of c.args.query.now).all ns) (no_fault (spec.variable ns c.in-Variable.name) ∷ []) (λ r. IsFormulaOf c.args.names.now c.args.query.now (formula_of r)) (λ r. IsBound ns c.in-Variable.name (formula_of r)) c.bound.result
    says (λ r h. IsFormulaOf.bound c.in-Variable.is h) c.bound.ensures

pub read-returns-in-Parenthesized : goal.read-returns-in-Parenthesized
read-returns-in-Parenthesized t c =
    let ns = c.args.names.now in
    let inner = c.get.result.now in
    let says : (part_of c.args.query.now).all c.args.names.now ≡ (part_of c.get.result.now).all c.args.names.now = search (rules, the_lemmas) in
    let is : c.args.query.now ≡ tree.Parenthesized c.get.result.now = c.in-Parenthesized.is ∙ ap tree.Parenthesized (sym c.get.ensures) in
    read_as ((part_of c.args.query.now).all ns) ((part_of inner).all ns) (λ r. IsFormulaOf c.args.names.now c.args.query.now (formula_of r)) (λ r. IsFormulaOf c.args.names.now inner (formula_of r)) c.read.result
    says (λ r h. IsFormulaOf.parenthesized is h) c.read.ensures

pub read-returns-in-Set : goal.read-returns-in-Set
read-returns-in-Set t c =
    let ns = c.args.names.now in
    let ws = c.as_slice.result.now in
    let says : (part_of c.args.query.now).all c.args.names.now ≡ no_fault (words_fault c.as_slice.result.now) ∷ [] = search (rules, the_lemmas) in
    let is : c.args.query.now ≡ tree.Set c.as_slice.result.now = c.in-Set.is ∙ ap tree.Set (sym c.as_slice.ensures) in
    read_as ((part_of c.args.query.now).all ns) (no_fault (words_fault ws) ∷ []) (λ r. IsFormulaOf c.args.names.now c.args.query.now (formula_of r)) (λ r. IsNamed ws (formula_of r)) c.named-in-Set.result
    says (λ r h. IsFormulaOf.set_of is h) c.named-in-Set.ensures

pub read-returns-in-Call : goal.read-returns-in-Call
read-returns-in-Call t c =
    let ns = c.args.names.now in
    let name = c.in-Call.name in
    let xs = c.as_slice-in-Call.result.now in
    let says : (part_of c.args.query.now).all c.args.names.now ≡ spec.call c.in-Call.name (map part_of c.as_slice-in-Call.result.now) c.args.names.now = search (rules, the_lemmas) in
    let is : c.args.query.now ≡ tree.Call c.in-Call.name c.as_slice-in-Call.result.now = c.in-Call.is ∙ ap (tree.Call name) (sym c.as_slice-in-Call.ensures) in
    read_as ((part_of c.args.query.now).all ns) (spec.call name (map part_of xs) ns) (λ r. IsFormulaOf c.args.names.now c.args.query.now (formula_of r)) (λ r. IsCallNamed name ns xs (formula_of r)) c.call.result
    says (λ r h. IsFormulaOf.call is h.2 h.3 h.4) c.call.ensures

pub read-returns-in_err-value-in-Let : goal.read-returns-in_err-value-in-Let
read-returns-in_err-value-in-Let t c =
    let ns = c.args.names.now in
    let says : (part_of c.args.query.now).all c.args.names.now ≡ (part_of c.get-in-Let.result.now).all c.args.names.now ++ (part_of c.in-Let.inner).all (c.args.names.now ++ c.in-Let.name ∷ []) = search (rules, the_lemmas) in
    let p = err_from_is_err_and c.from_residual.result c.from_residual.ensures.1 in
    rw (p.1, p.2) (λ other. subst (λ (xs : List Need). FirstFails xs c.in_err-value-in-Let.field-0.0) (sym says)
    (fails_before ((part_of c.get-in-Let.result.now).all ns) ((part_of c.in-Let.inner).all (ns ++ c.in-Let.name ∷ [])) c.in_err-value-in-Let.field-0.0 (c.in_err-value-in-Let.ensures other)))

pub read-returns-in_err-inner-in-Let : goal.read-returns-in_err-inner-in-Let
read-returns-in_err-inner-in-Let t c =
    let ns = c.args.names.now in
    let says : (part_of c.args.query.now).all c.args.names.now ≡ (part_of c.get-in-Let.result.now).all c.args.names.now ++ (part_of c.get-in-Let-2.result.now).all (c.args.names.now ++ c.in-Let.name ∷ []) = search (rules, the_lemmas) in
    let p = err_from_is_err_and c.from_residual-in_err-inner-in-Let.result c.from_residual-in_err-inner-in-Let.ensures.1 in
    rw (p.1, p.2) (λ other. subst (λ (xs : List Need). FirstFails xs c.in_err-inner-in-Let.field-0.0) (sym says)
    (fails_after ((part_of c.get-in-Let.result.now).all ns) ((part_of c.get-in-Let-2.result.now).all (ns ++ c.in-Let.name ∷ [])) c.in_err-inner-in-Let.field-0.0 c.in_ok-value-in-Let.ensures.0 (c.in_err-inner-in-Let.ensures other)))

pub read-returns-in_err-first-in-Chain : goal.read-returns-in_err-first-in-Chain
read-returns-in_err-first-in-Chain t c =
    let ns = c.args.names.now in
    let says : (part_of c.args.query.now).all c.args.names.now ≡ (part_of c.get-in-Chain.result.now).all c.args.names.now ++ parts (map operation_part c.in-Chain.operations) c.args.names.now = search (rules, the_lemmas) in
    let p = err_from_is_err_and c.from_residual-in_err-first-in-Chain.result c.from_residual-in_err-first-in-Chain.ensures.1 in
    rw (p.1, p.2) (λ other. subst (λ (xs : List Need). FirstFails xs c.in_err-first-in-Chain.field-0.0) (sym says)
    (fails_before ((part_of c.get-in-Chain.result.now).all ns) (parts (map operation_part c.in-Chain.operations) ns) c.in_err-first-in-Chain.field-0.0 (c.in_err-first-in-Chain.ensures other)))

pub read-returns-in_err-steps-in-Chain : goal.read-returns-in_err-steps-in-Chain
read-returns-in_err-steps-in-Chain t c =
    let ns = c.args.names.now in
    let os = c.as_slice-in-Chain.result.now in
    let says : (part_of c.args.query.now).all c.args.names.now ≡ (part_of c.get-in-Chain.result.now).all c.args.names.now ++ parts (map operation_part c.as_slice-in-Chain.result.now) c.args.names.now = search (rules, the_lemmas) in
    let p = err_from_is_err_and c.from_residual-in_err-steps-in-Chain.result c.from_residual-in_err-steps-in-Chain.ensures.1 in
    rw (p.1, p.2) (λ other. subst (λ (xs : List Need). FirstFails xs c.in_err-steps-in-Chain.field-0.0) (sym says)
    (fails_after ((part_of c.get-in-Chain.result.now).all ns) (parts (map operation_part os) ns) c.in_err-steps-in-Chain.field-0.0 c.in_ok-first-in-Chain.ensures.0 (c.in_err-steps-in-Chain.ensures other)))

pub read-returns-in_ok-inner-in-Let : goal.read-returns-in_ok-inner-in-Let
read-returns-in_ok-inner-in-Let t c =
    let ns = c.args.names.now in
    let name = c.in-Let.name in
    let value = c.get-in-Let.result.now in
    let inner = c.get-in-Let-2.result.now in
    let says : (part_of c.args.query.now).all c.args.names.now ≡ (part_of c.get-in-Let.result.now).all c.args.names.now ++ (part_of c.get-in-Let-2.result.now).all (c.args.names.now ++ c.in-Let.name ∷ []) = search (rules, the_lemmas) in
    let is : c.args.query.now ≡ tree.Let c.in-Let.name c.get-in-Let.result.now c.get-in-Let-2.result.now =
    c.in-Let.is ∙ (ap (λ (v : Query). tree.Let name v c.in-Let.inner) (sym c.get-in-Let.ensures) ∙ ap (λ (v : Query). tree.Let name value v) (sym c.get-in-Let-2.ensures)) in (
      subst (AllByRecursion Holds) (sym says) (all_hold ((part_of value).all ns) ((part_of inner).all (ns ++ name ∷ [])) c.in_ok-value-in-Let.ensures.0 c.in_ok-inner-in-Let.ensures.0),
      IsFormulaOf.binding is c.in_ok-value-in-Let.ensures.1 c.in_ok-inner-in-Let.ensures.1 (let_says c.in_ok-value-in-Let.value c.in_ok-inner-in-Let.inner),
    )

pub read-returns-in_ok-steps-in-Chain : goal.read-returns-in_ok-steps-in-Chain
read-returns-in_ok-steps-in-Chain t c =
    let ns = c.args.names.now in
    let first = c.get-in-Chain.result.now in
    let os = c.as_slice-in-Chain.result.now in
    let says : (part_of c.args.query.now).all c.args.names.now ≡ (part_of c.get-in-Chain.result.now).all c.args.names.now ++ parts (map operation_part c.as_slice-in-Chain.result.now) c.args.names.now = search (rules, the_lemmas) in
    let is : c.args.query.now ≡ tree.Chain c.get-in-Chain.result.now c.as_slice-in-Chain.result.now =
    c.in-Chain.is ∙ (ap (λ (v : Query). tree.Chain v c.in-Chain.operations) (sym c.get-in-Chain.ensures) ∙ ap (λ (v : List SetOperation). tree.Chain first v) (sym c.as_slice-in-Chain.ensures)) in (
      subst (AllByRecursion Holds) (sym says) (all_hold ((part_of first).all ns) (parts (map operation_part os) ns) c.in_ok-first-in-Chain.ensures.0 c.in_ok-steps-in-Chain.ensures.0),
      IsFormulaOf.chain is c.in_ok-first-in-Chain.ensures.1 c.in_ok-steps-in-Chain.ensures.1 (chain_says c.in_ok-first-in-Chain.first c.in_ok-steps-in-Chain.steps),
    )
