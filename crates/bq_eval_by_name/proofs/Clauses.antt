-- All clauses of a comprehension, and the comprehension, in two kinds of environments.
use Rattle.std.proofs.Common.{List, [], ◌∷◌}
use Rattle.bq_parse_grammar.specs.declared.tree.Clause.{Clause}
use Rattle.bq_parse_grammar.specs.declared.tree.ComprehensionFrame.{ComprehensionFrame}
use Rattle.bq_value.specs.Contents.{Contents}
use Rattle.bq_eval_spec.specs.Primitives.{Primitives}
use Rattle.bq_eval_spec.specs.Comprehensions as forms
use Rattle.bq_eval_spec.specs.Comprehensions.{Turn}
use Rattle.bq_eval_spec.specs.Environment.{Scoping}
use Rattle.bq_eval_spec.specs.Trees.{Eval}
use Rattle.bq_eval_by_name.specs.Alike.{Same}
use Rattle.bq_eval_by_name.proofs.Runs.{itself, then_alike, then_both}
use Rattle.bq_eval_by_name.proofs.Walks.{Pairwise}
use Rattle.bq_eval_by_name.proofs.Parts.{Both}
use Rattle.bq_eval_by_name.proofs.Turns.{Turned, TurnAlike, ClauseAgree}

-- `R` holds inside the comprehension, and `around` outside
module _ {S Q P V W : Type 0} (m : Primitives S) (left : Scoping Q V) (right : Scoping P W) (E : Eval S V) (F : Eval S W) (R around : V → W → Type 0) where
  clauses_alike : (cs ds : List Clause) → Pairwise (ClauseAgree m left right R E F R) cs ds → (inner : Turn S V) (within : Turn S W)
      → TurnAlike m left right R inner within → TurnAlike m left right R (forms.clauses m left E cs inner) (forms.clauses m right F ds within)
  unfolding forms.clauses
  clauses_alike [] [] h inner within k = k
  clauses_alike (c ∷ cs) (d ∷ ds) h inner within k = λ env peer made related s.
      h.0 (forms.clauses m left E cs inner) (forms.clauses m right F ds within) (clauses_alike cs ds h.1 inner within k) env peer related env peer made related s
  clauses_alike [] (d ∷ ds) h inner within k = absurd h
  clauses_alike (c ∷ cs) [] h inner within k = absurd h

  -- the first iterable outside, and all else inside
  abbrev pub ClausesAgree : List Clause → List Clause → Type 0
  ClausesAgree [] [] = Unit {0}
  ClausesAgree (c ∷ cs) (d ∷ ds) = ClauseAgree m left right R E F around c d × Pairwise (ClauseAgree m left right R E F R) cs ds
  ClausesAgree _ _ = ⊥

  first_alike : (cs ds : List Clause) → ClausesAgree cs ds → (inner : Turn S V) (within : Turn S W) → TurnAlike m left right R inner within → (there : V) (yonder : W) → around there yonder
      → TurnAlike m left right R (forms.first_clauses m left E cs there inner) (forms.first_clauses m right F ds yonder within)
  unfolding forms.first_clauses
  first_alike [] [] h inner within k there yonder outside = k
  first_alike (c ∷ cs) (d ∷ ds) h inner within k there yonder outside =
      h.0 (forms.clauses m left E cs inner) (forms.clauses m right F ds within) (clauses_alike cs ds h.1 inner within k) there yonder outside
  first_alike [] (d ∷ ds) h inner within k there yonder outside = absurd h
  first_alike (c ∷ cs) [] h inner within k there yonder outside = absurd h

  pub comprehension_alike : (cs ds : List Clause) → ClausesAgree cs ds → (own frame : ComprehensionFrame)
      → ((env : V) (peer : W) → around env peer → R (left.in_comprehension env cs own) (right.in_comprehension peer ds frame)) → (none : Contents) (inner : Turn S V) (within : Turn S W)
      → TurnAlike m left right R inner within → Both around (forms.comprehension m left E none inner cs own) (forms.comprehension m right F none within ds frame)
  unfolding forms.comprehension
  comprehension_alike cs ds h own frame opens none inner within k env peer outside s =
      then_both Same _ _ _
      (λ _ t. then_alike (Turned m left right R) Same _ _ _ _
      (first_alike cs ds h inner within k env peer outside (left.in_comprehension env cs own) (right.in_comprehension peer ds frame) none (opens env peer outside) t)
      (λ a b u turned. rw turned.0 (itself (m.make b.0 u))))
