-- The further operands of a chain, one after another.
use Rattle.std.proofs.Common.{◌≡◌, ℕ, List, [], ◌∷◌, ◌++◌, ◌∙◌, map, inr, sym, ap, subst, rules}
use Rattle.std.proofs.lemmas.List.{map-append}
use Rattle.std.specs.List.{AllByRecursion}
use Rattle.bq_query_lex.specs.declared.query_error.QueryErr.{QueryErr}
use Rattle.bq_query_parse.specs.declared.tree.SetOperation.{SetOperation}
use Rattle.bq_query_parse.specs.declared.tree.Query.TheFolds.{the_lemmas}
use Rattle.bq_query_check.specs.Verdict.{Need, parts, part_of, operation_part}
use Rattle.bq_query_check.specs.declared.formula.ChainStep.{ChainStep}
use Rattle.bq_query_check.specs.Checked.{Holds, FirstFails}
use Rattle.bq_query_check.specs.Formula.{Step, step_of, formula_of}
use Rattle.bq_query_check.specs.FormulaOf.{IsFormulaOf, AreStepsOf, no_more, one_more}
use Rattle.bq_query_check.proofs.Needs.{all_hold, fails_before}
use Rattle.bq_query_check.proofs.Says.{step_says}

-- what is known of an operation is what is known of its operand
pub operand_is : (o : SetOperation) → operation_part o ≡ part_of o.operand
operand_is o = search (rules, the_lemmas)

-- one more at the end
pub steps_more : {names : List (List ℕ)} {os : List SetOperation} {ss : List Step} → AreStepsOf names os ss → (o : SetOperation) (s : Step) → s.operator ≡ o.operator → IsFormulaOf names o.operand s.formula → AreStepsOf names (os ++ o ∷ []) (ss ++ s ∷ [])
steps_more no_more o s same is = one_more same is no_more
steps_more (one_more before first rest) o s same is = one_more before first (steps_more rest o s same is)

pub steps_pushed : (names : List (List ℕ)) (os : List SetOperation) (old new : List ChainStep) (o : SetOperation) (s : ChainStep) → AreStepsOf names os (map step_of old) → s.operator ≡ o.operator
    → IsFormulaOf names o.operand (formula_of s.operand) → new ≡ old ++ s ∷ [] → AreStepsOf names (os ++ o ∷ []) (map step_of new)
steps_pushed names os old new o s before same is pushed =
    let says : map step_of new ≡ map step_of old ++ record { operator = s.operator; formula = formula_of s.operand } ∷ [] =
    ap (map step_of) pushed ∙ (map-append step_of old (s ∷ []) ∙ ap (λ (z : Step). map step_of old ++ z ∷ []) (step_says s)) in
    subst (AreStepsOf names (os ++ o ∷ [])) (sym says) (steps_more before o (record { operator = s.operator; formula = formula_of s.operand }) same is)

-- what must hold of them, where one more is at the end
pub parts_more : (os : List SetOperation) (o : SetOperation) (names : List (List ℕ)) → AllByRecursion Holds (parts (map operation_part os) names)
    → AllByRecursion Holds ((part_of o.operand).all names) → AllByRecursion Holds (parts (map operation_part (os ++ o ∷ [])) names)
parts_more [] o names h k = all_hold ((operation_part o).all names) [] (subst (λ x. AllByRecursion Holds (x.all names)) (sym (operand_is o)) k) tt
parts_more (p ∷ os) o names h k = held_more ((operation_part p).all names) (parts (map operation_part os) names) (parts (map operation_part (os ++ o ∷ [])) names) h (λ rest. parts_more os o names rest k)
  where
    held_more : (xs ys zs : List Need) → AllByRecursion Holds (xs ++ ys) → (AllByRecursion Holds ys → AllByRecursion Holds zs) → AllByRecursion Holds (xs ++ zs)
    held_more [] ys zs h f = f h
    held_more (x ∷ xs) ys zs h f = (h.0, held_more xs ys zs h.1 f)

-- the operand after them fails
pub part_fails_there : (os : List SetOperation) (o : SetOperation) (more : List SetOperation) (names : List (List ℕ)) (why : QueryErr) → AllByRecursion Holds (parts (map operation_part os) names)
    → FirstFails ((part_of o.operand).all names) why → FirstFails (parts (map operation_part (os ++ o ∷ more)) names) why
part_fails_there [] o more names why h k = fails_before ((operation_part o).all names) (parts (map operation_part more) names) why (subst (λ x. FirstFails (x.all names) why) (sym (operand_is o)) k)
part_fails_there (p ∷ os) o more names why h k = later ((operation_part p).all names) (parts (map operation_part os) names) (parts (map operation_part (os ++ o ∷ more)) names) h (λ rest. part_fails_there os o more names why rest k)
  where
    later : (xs ys zs : List Need) → AllByRecursion Holds (xs ++ ys) → (AllByRecursion Holds ys → FirstFails zs why) → FirstFails (xs ++ zs) why
    later [] ys zs h f = f h
    later (x ∷ xs) ys zs h f = inr (h.0, later xs ys zs h.1 f)
