-- Chains of operators, and the layers of the grammar.
use Rattle.std.proofs.Common.{◌≡◌, ℕ, zero, suc, ◌≤◌, Bool, true, false, cond, List, [], ◌∷◌, ◌++◌, length, Some, None, refl, sym, ap, ◌∙◌, subst, append_assoc, append-nil, arith}
use Rattle.bq_query_lex.specs.declared.token.QueryTokenKind.{QueryTokenKind}
use Rattle.bq_query_lex.specs.declared.token.QueryTokenKind.TheVariants as k
use Rattle.bq_query_parse.specs.Lexeme.{Lexeme, same_kind}
use Rattle.bq_query_parse.specs.declared.tree.SetOperator.{SetOperator}
use Rattle.bq_query_parse.specs.declared.tree.Query.{Query}
use Rattle.bq_query_parse.specs.declared.tree.SetOperation.{SetOperation}
use Rattle.bq_query_parse.specs.Phrases.{Phrase, none}
use Rattle.bq_query_parse.specs.Grammar as G
use Rattle.bq_query_parse.specs.Grammar.{operator, operation, chain_of, IsOperand, IsLet, AreOperations, IsQueryOver, IsQueryTo}
use Rattle.bq_query_parse.specs.Turns.{Found, Parse, ◌>>=◌, sees, next, ended, next_turn, turns}
use Rattle.bq_query_parse.specs.Reading.{is_known, known, begins_operation, operand, let_in, term, an_operation, joined, operation_turn, operations, query_in, query_to}
use Rattle.bq_query_parse.specs.GrammarLaws.{ends_query}
use Rattle.bq_query_parse.proofs.NextToken.{is_kind}
use Rattle.bq_query_parse.proofs.Classes.{first_operand, first_query, ends_operand, operator_ends, query_ends_operand, query_no_operator, operand_query}
use Rattle.bq_query_parse.proofs.Agrees.{Begins, Stops, Owes, Met, met, Agrees, none_agrees, seq, opens_if, owes_as, met_is, met_as, met_less, met_over, met_done, met_then, met_then0, met_yes, met_no, begins_no, stops_wide}
use Rattle.bq_query_parse.proofs.Operands.{operand_agrees, let_sound, let_met}

module _ (depth : ℕ) (Inner : Phrase Query) (inner : Parse Query) (ag : Agrees first_query ends_query Inner inner) where
  -- ---- one operation

  -- an operation, and whether it is a let
  abbrev OneOperation : Bool → List Lexeme → List Lexeme → SetOperation → Type 0
  OneOperation last ts rest y = (t : Lexeme) × (us : List Lexeme) × (o : SetOperator) × (x : Query) × (ts ≡ t ∷ us) × (operator t.kind ≡ Some o) × (y ≡ operation o x)
      × cond last (IsLet depth Inner us rest x) (IsOperand depth Inner us rest x)

  term_owes : (ts : List Lexeme) → Owes Query (λ rest x. cond (sees k.Let ts) (IsLet depth Inner ts rest x) (IsOperand depth Inner ts rest x)) (term depth inner ts)
  term_owes [] = (operand_agrees depth Inner inner ag).sound []
  term_owes (t ∷ ts) = go (same_kind t.kind k.Let) (is_kind t.kind k.Let)
    where
      go : (b : Bool) → (b ≡ true → t.kind ≡ k.Let) → Owes Query (λ rest x. cond b (IsLet depth Inner (t ∷ ts) rest x) (IsOperand depth Inner (t ∷ ts) rest x)) (cond b (let_in depth inner ts) (operand depth inner (t ∷ ts)))
      go true e = let_sound depth Inner inner ag t ts (e refl)
      go false e = (operand_agrees depth Inner inner ag).sound (t ∷ ts)

  operation_owes : (ts : List Lexeme) → Owes SetOperation (OneOperation (sees k.Let (next ts)) ts) (an_operation depth inner ts)
  unfolding an_operation
  operation_owes [] = tt
  operation_owes (t ∷ ts) = go (operator t.kind) refl
    where
      go : (m : _) → operator t.kind ≡ m → Owes SetOperation (OneOperation (sees k.Let ts) (t ∷ ts)) (known m ts >>= λ o us. term depth inner us >>= λ x rest. Some (operation o x, rest))
      go None e = tt
      go (Some o) e = seq (λ rest x. cond (sees k.Let ts) (IsLet depth Inner ts rest x) (IsOperand depth Inner ts rest x)) (OneOperation (sees k.Let ts) (t ∷ ts)) (term depth inner ts) (λ x rest. Some (operation o x, rest)) (term_owes ts)
          (λ x rest p. (t, ts, o, x, refl, e, refl, p))

  -- ---- operations

  abbrev Further : List SetOperation → List Lexeme → List Lexeme → List SetOperation → Type 0
  Further found ts rest ys = (xs : List SetOperation) × (ys ≡ found ++ xs) × AreOperations depth Inner ts rest xs

  one_last : (ts rest : List Lexeme) (y : SetOperation) → OneOperation true ts rest y → AreOperations depth Inner ts rest (y ∷ [])
  one_last ts rest y (t, us, o, x, e, f, g, p) = subst (λ z. AreOperations depth Inner ts rest (z ∷ [])) (sym g) (subst (λ m. AreOperations depth Inner m rest (operation o x ∷ [])) (sym e) (G.last_one f p))

  one_first : (ts mid rest : List Lexeme) (y : SetOperation) (ys : List SetOperation) → OneOperation false ts mid y → AreOperations depth Inner mid rest ys → AreOperations depth Inner ts rest (y ∷ ys)
  one_first ts mid rest y ys (t, us, o, x, e, f, g, p) ps = subst (λ z. AreOperations depth Inner ts rest (z ∷ ys)) (sym g) (subst (λ m. AreOperations depth Inner m rest (operation o x ∷ ys)) (sym e) (G.one_more f p ps))

  operations_owe : (n : ℕ) (found : List SetOperation) (ts : List Lexeme) → Owes (List SetOperation) (Further found ts) (turns (operation_turn depth inner) n found ts)
  unfolding turns
  operations_owe zero found ts = ([], sym (append-nil found), G.no_more)
  operations_owe (suc n) found ts = go (operations_owe n) (begins_operation ts)
    where
      one : ((found : List SetOperation) (ts : List Lexeme) → Owes (List SetOperation) (Further found ts) (turns (operation_turn depth inner) n found ts)) → (last : Bool) (z : Found SetOperation) → Owes SetOperation (OneOperation last ts) z
          → Owes (List SetOperation) (Further found ts) (next_turn (turns (operation_turn depth inner) n) (joined found last z))
      one more last None h = tt
      one more true (Some p) h = (p.0 ∷ [], refl, one_last ts p.1 p.0 h)
      one more false (Some p) h = owes_as (Further (found ++ p.0 ∷ []) p.1) (Further found ts) _ (more (found ++ p.0 ∷ []) p.1)
          (λ ys rest w. (p.0 ∷ w.0, w.1 ∙ append_assoc found (p.0 ∷ []) w.0, one_first ts p.1 rest p.0 w.0 h w.2))

      go : ((found : List SetOperation) (ts : List Lexeme) → Owes (List SetOperation) (Further found ts) (turns (operation_turn depth inner) n found ts)) → (b : Bool)
          → Owes (List SetOperation) (Further found ts) (next_turn (turns (operation_turn depth inner) n) (cond b (joined found (sees k.Let (next ts)) (an_operation depth inner ts)) (ended found ts)))
      go more true = one more (sees k.Let (next ts)) (an_operation depth inner ts) (operation_owes ts)
      go more false = ([], sym (append-nil found), G.no_more)

  operations_sound : (ts : List Lexeme) → Owes (List SetOperation) (AreOperations depth Inner ts) (operations depth inner [] ts)
  unfolding operations
  operations_sound ts = owes_as (Further [] ts) (AreOperations depth Inner ts) _ (operations_owe (length ts) [] ts) (λ ys rest w. subst (λ zs. AreOperations depth Inner ts rest zs) (sym w.1) w.2)

  -- what follows an operand
  stops : (ts rest : List Lexeme) (xs : List SetOperation) → AreOperations depth Inner ts rest xs → Stops ends_query rest → Stops ends_operand ts
  stops ts rest xs G.no_more s = stops_wide ends_query ends_operand ts query_ends_operand s
  stops ts rest xs (G.one_more {t = t} e p ps) s = operator_ends t.kind (ap is_known e)
  stops ts rest xs (G.last_one {t = t} e p) s = operator_ends t.kind (ap is_known e)

  ends_chain : (ts : List Lexeme) → Stops ends_query ts → begins_operation ts ≡ false
  ends_chain [] s = refl
  ends_chain (t ∷ ts) s = query_no_operator t.kind s

  operand_met : (ts rest : List Lexeme) (x : Query) → IsOperand depth Inner ts rest x → Stops ends_operand rest → (sees k.Let ts ≡ false) × Met 1 ts (operand depth inner ts) x rest
  operand_met ts rest x p s = let oa = operand_agrees depth Inner inner ag in (begins_no first_operand ts k.Let (oa.begins ts rest x p) refl, oa.complete ts rest x p s)

  -- an operator and a term that is read whole
  operation_met : (t : Lexeme) (ts rest : List Lexeme) (o : SetOperator) (x : Query) (b : Bool) → operator t.kind ≡ Some o → sees k.Let ts ≡ b
      → Met 1 ts (cond b (let_in depth inner (next ts)) (operand depth inner ts)) x rest → Met 1 (t ∷ ts) (an_operation depth inner (t ∷ ts)) (operation o x) rest
  unfolding an_operation
  operation_met t ts rest o x b e f m =
      met_is _ (term depth inner ts >>= λ x rest. Some (operation o x, rest)) (ap (λ m. known m ts >>= λ o us. term depth inner us >>= λ x rest. Some (operation o x, rest)) e)
      (met_over t ts (met_less (met_then (term depth inner ts) (λ x rest. Some (operation o x, rest))
      (met_is _ _ (ap (λ b. cond b (let_in depth inner (next ts)) (operand depth inner ts)) f) m) (met_done (operation o x) rest))))

  -- one turn at an operator
  turn_at : (n : ℕ) (found : List SetOperation) (t : Lexeme) (ts : List Lexeme) (o : SetOperator) (b : Bool) → operator t.kind ≡ Some o → sees k.Let ts ≡ b
      → turns (operation_turn depth inner) (suc n) found (t ∷ ts) ≡ next_turn (turns (operation_turn depth inner) n) (joined found b (an_operation depth inner (t ∷ ts)))
  unfolding turns
  turn_at n found t ts o b e f =
      ap (λ c. next_turn (turns (operation_turn depth inner) n) (cond c (joined found (sees k.Let ts) (an_operation depth inner (t ∷ ts))) (ended found (t ∷ ts)))) (ap is_known e)
      ∙ ap (λ c. next_turn (turns (operation_turn depth inner) n) (joined found c (an_operation depth inner (t ∷ ts)))) f

  operations_met : (n : ℕ) (found : List SetOperation) (ts rest : List Lexeme) (xs : List SetOperation) → AreOperations depth Inner ts rest xs → Stops ends_query rest → length ts ≤ n
      → Met 0 ts (turns (operation_turn depth inner) n found ts) (found ++ xs) rest
  unfolding turns
  operations_met zero found ts rest xs G.no_more s le = met (ap (λ ys. Some (ys, ts)) (sym (append-nil found))) (omega arith)
  operations_met (suc n) found ts rest xs G.no_more s le =
      met_is _ (Some (found, ts)) (ap (λ b. next_turn (turns (operation_turn depth inner) n) (cond b (joined found (sees k.Let (next ts)) (an_operation depth inner ts)) (ended found ts))) (ends_chain ts s))
      (met (ap (λ ys. Some (ys, ts)) (sym (append-nil found))) (omega arith))
  operations_met zero found (t ∷ ts) rest xs (G.one_more e p ps) s le = absurd (omega arith)
  operations_met zero found (t ∷ ts) rest xs (G.last_one e p) s le = absurd (omega arith)
  operations_met (suc n) found (t ∷ ts) rest xs (G.one_more {mid = mid} {o = o} {x = x} {xs = ys} e p ps) s le =
      let w = operand_met ts mid x p (stops mid rest ys ps s) in
      met_is _ _ (turn_at n found t ts o false e w.0)
      (go (λ below. operations_met n (found ++ operation o x ∷ []) mid rest ys ps s below) (operation_met t ts mid o x false e w.0 w.1))
    where
      longer : {zs : List SetOperation} {f : Found (List SetOperation)} → length mid ≤ suc (length ts) → Met 0 mid f zs rest → Met 0 (t ∷ ts) f zs rest
      longer l (met b u) = met b (omega arith)

      go : (length mid ≤ n → Met 0 mid (turns (operation_turn depth inner) n (found ++ operation o x ∷ []) mid) ((found ++ operation o x ∷ []) ++ ys) rest) → Met 1 (t ∷ ts) (an_operation depth inner (t ∷ ts)) (operation o x) mid
          → Met 0 (t ∷ ts) (next_turn (turns (operation_turn depth inner) n) (joined found false (an_operation depth inner (t ∷ ts)))) (found ++ operation o x ∷ ys) rest
      go more (met a l) = met_is _ _ (ap (λ z. next_turn (turns (operation_turn depth inner) n) (joined found false z)) a)
          (met_as (append_assoc found (operation o x ∷ []) ys) (longer (omega arith) (more (omega arith))))
  operations_met (suc n) found (t ∷ ts) rest xs (G.last_one {o = o} {x = x} e p) s le =
      let w = let_met depth Inner inner ag ts rest x p s in
      met_is _ _ (turn_at n found t ts o true e w.0) (go (operation_met t ts rest o x true e w.0 w.1))
    where
      go : Met 1 (t ∷ ts) (an_operation depth inner (t ∷ ts)) (operation o x) rest
          → Met 0 (t ∷ ts) (next_turn (turns (operation_turn depth inner) n) (joined found true (an_operation depth inner (t ∷ ts)))) (found ++ operation o x ∷ []) rest
      go (met a l) = met (ap (λ z. next_turn (turns (operation_turn depth inner) n) (joined found true z)) a) (omega arith)

  operations_complete : (ts rest : List Lexeme) (xs : List SetOperation) → AreOperations depth Inner ts rest xs → Stops ends_query rest → Met 0 ts (operations depth inner [] ts) xs rest
  unfolding operations
  operations_complete ts rest xs p s = operations_met (length ts) [] ts rest xs p s (omega arith)

  -- ---- queries

  pub query_agrees : Agrees first_query ends_query (IsQueryOver depth Inner) (query_in depth inner)
  unfolding query_in
  query_agrees = record { begins = begins; sound = sound; complete = complete }
    where
      operands : Agrees first_operand ends_operand (IsOperand depth Inner) (operand depth inner)
      operands = operand_agrees depth Inner inner ag

      widen : (ts : List Lexeme) → Begins first_operand ts → Begins first_query ts
      widen [] b = absurd b
      widen (t ∷ ts) b = operand_query t.kind b

      begins : (ts rest : List Lexeme) (x : Query) → IsQueryOver depth Inner ts rest x → Begins first_query ts
      begins ts rest x (G.bound (G.let_in room le ne names ee p ie w f)) = ap first_query le
      begins ts rest y (G.chained {mid = mid} {x = x} p ps f) = widen ts (operands.begins ts mid x p)

      sound : (ts : List Lexeme) → Owes Query (IsQueryOver depth Inner ts) (query_in depth inner ts)
      sound ts = opens_if (IsQueryOver depth Inner) k.Let ts (λ us. let_in depth inner us) (operand depth inner ts >>= λ x mid. operations depth inner [] mid >>= λ os rest. Some (chain_of x os, rest))
          (λ t us e. owes_as (IsLet depth Inner (t ∷ us)) (IsQueryOver depth Inner (t ∷ us)) (let_in depth inner us) (let_sound depth Inner inner ag t us e) (λ x rest p. G.bound p))
          (λ no. seq (IsOperand depth Inner ts) (IsQueryOver depth Inner ts) (operand depth inner ts) (λ x mid. operations depth inner [] mid >>= λ os rest. Some (chain_of x os, rest)) (operands.sound ts)
          (λ x mid p. seq (AreOperations depth Inner mid) (IsQueryOver depth Inner ts) (operations depth inner [] mid) (λ os rest. Some (chain_of x os, rest)) (operations_sound mid)
          (λ os rest ps. G.chained p ps refl)))

      complete : (ts rest : List Lexeme) (x : Query) → IsQueryOver depth Inner ts rest x → Stops ends_query rest → Met 1 ts (query_in depth inner ts) x rest
      complete ts rest x (G.bound p) s = let w = let_met depth Inner inner ag ts rest x p s in
          met_yes (sees k.Let ts) (let_in depth inner (next ts)) (operand depth inner ts >>= λ x mid. operations depth inner [] mid >>= λ os rest. Some (chain_of x os, rest)) w.0 w.1
      complete ts rest y (G.chained {mid = mid} {x = x} {os = os} p ps f) s = let w = operand_met ts mid x p (stops mid rest os ps s) in
          met_no (sees k.Let ts) (let_in depth inner (next ts)) (operand depth inner ts >>= λ x mid. operations depth inner [] mid >>= λ os rest. Some (chain_of x os, rest)) w.0
          (met_then (operand depth inner ts) (λ x mid. operations depth inner [] mid >>= λ os rest. Some (chain_of x os, rest)) w.1
          (met_then0 (operations depth inner [] mid) (λ os rest. Some (chain_of x os, rest)) (operations_complete mid rest os ps s) (met_as (sym f) (met_done (chain_of x os) rest))))

-- ---- layers

agree_as : {first ends : QueryTokenKind → Bool} (X : Phrase Query) (r q : Parse Query) → ((ts : List Lexeme) → q ts ≡ r ts) → Agrees first ends X r → Agrees first ends X q
agree_as X r q same ag = record {
  begins = ag.begins;
  sound = λ ts. subst (Owes Query (X ts)) (sym (same ts)) (ag.sound ts);
  complete = λ ts rest x p st. met_is (q ts) (r ts) (same ts) (ag.complete ts rest x p st);
}

pub query_to_agrees : (depth : ℕ) → Agrees first_query ends_query (IsQueryTo depth) (query_to (suc depth))
unfolding query_to
query_to_agrees zero = agree_as (IsQueryOver 0 none) (query_in 0 (λ ts. None)) (query_to 1) (λ ts. refl) (query_agrees 0 none (λ ts. None) (none_agrees first_query ends_query))
query_to_agrees (suc depth) = agree_as (IsQueryOver (suc depth) (IsQueryTo depth)) (query_in (suc depth) (query_to (suc depth))) (query_to (suc (suc depth))) (λ ts. refl)
    (query_agrees (suc depth) (IsQueryTo depth) (query_to (suc depth)) (query_to_agrees depth))
