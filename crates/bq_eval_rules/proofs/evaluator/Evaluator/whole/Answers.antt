use Rattle.std.proofs.Common.{rules, ◌≡◌, ◌∙◌, ap, arith, sym, subst, w64, to_z, of_z}
use Rattle.std.proofs.lemmas.Grind.{common_steps}
use Rattle.bq_value.specs.Datum.{Datum, int}
use Rattle.bq_builtin_machine.specs.Action.{Run}
use Rattle.bq_eval_spec.specs.Expressions.{literal}
use Rattle.bq_eval_frame.specs.Slots.{slots_of}
use Rattle.bq_eval_rules.specs.Acts.{Acts}
use Rattle.bq_eval_rules.specs.Nests.{nested}
use Rattle.bq_eval_rules.specs.Round.{inside, round_of}
use Rattle.bq_eval_rules.proofs.Forms.{compare_by, dict_by, dict_comprehension_by, int_by, list_by, list_comprehension_by, name_by, string_by, tuple_by, unary_by}
use Rattle.bq_eval_rules.proofs.evaluator.Evaluator.whole.Goals as goal

pub returns-in_err-use_of-in-Name : goal.returns-in_err-use_of-in-Name
returns-in_err-use_of-in-Name g c =
    let h = g.R.Runtime in
    let e = nested h.means c.args.self.now.depth c.args.self.now.context.now in
    rw (name_by h.means e (inside h.means c.args.self.now.context.now) (round_of c.args.self.now.context.now) c.args.code.now (slots_of c.args.self.now.frame.now) (h.seen c.args.runtime.now) _ c.in-Name.is) (grind (arith, common_steps))

pub returns-in_ok-own-in-Name : goal.returns-in_ok-own-in-Name
returns-in_ok-own-in-Name g c =
    let h = g.R.Runtime in
    let e = nested h.means c.args.self.now.depth c.args.self.now.context.now in
    rw (name_by h.means e (inside h.means c.args.self.now.context.now) (round_of c.args.self.now.context.now) c.args.code.now (slots_of c.args.self.now.frame.now) (h.seen c.args.runtime.now) _ c.in-Name.is) (grind (arith, common_steps))

pub returns-in-Int : goal.returns-in-Int
returns-in-Int g c =
    let h = g.R.Runtime in
    let e = nested h.means c.args.self.now.depth c.args.self.now.context.now in
    let z : to_z w64 (of_z w64 c.in-Int.n) ≡ c.in-Int.n = search rules in
    let by = int_by h.means e (inside h.means c.args.self.now.context.now) (round_of c.args.self.now.context.now) c.args.code.now (slots_of c.args.self.now.frame.now) (h.seen c.args.runtime.now) c.in-Int.n c.in-Int.is in
    let Q : Datum → Type 0 = λ v. Acts h.means (λ v. v) c.literal.result (h.seen c.literal.new.runtime) (literal h.means v (h.seen c.args.runtime.now)) in
    let P : Run h.State Datum → Type 0 = λ run. Acts h.means (λ v. v) c.literal.result (h.seen c.literal.new.runtime) run in
    subst P (sym by) (subst Q (c.int.ensures ∙ ap int z) c.literal.ensures)

pub returns-in-String : goal.returns-in-String
returns-in-String g c =
    let h = g.R.Runtime in
    let e = nested h.means c.args.self.now.depth c.args.self.now.context.now in
    rw (string_by h.means e (inside h.means c.args.self.now.context.now) (round_of c.args.self.now.context.now) c.args.code.now (slots_of c.args.self.now.frame.now) (h.seen c.args.runtime.now) _ c.in-String.is) (search rules)

pub returns-in-List : goal.returns-in-List
returns-in-List g c =
    let h = g.R.Runtime in
    let e = nested h.means c.args.self.now.depth c.args.self.now.context.now in
    rw (list_by h.means e (inside h.means c.args.self.now.context.now) (round_of c.args.self.now.context.now) c.args.code.now (slots_of c.args.self.now.frame.now) (h.seen c.args.runtime.now) _ c.in-List.is) (search rules)

pub returns-in-Tuple : goal.returns-in-Tuple
returns-in-Tuple g c =
    let h = g.R.Runtime in
    let e = nested h.means c.args.self.now.depth c.args.self.now.context.now in
    rw (tuple_by h.means e (inside h.means c.args.self.now.context.now) (round_of c.args.self.now.context.now) c.args.code.now (slots_of c.args.self.now.frame.now) (h.seen c.args.runtime.now) _ c.in-Tuple.is) (search rules)

pub returns-in-Dict : goal.returns-in-Dict
returns-in-Dict g c =
    let h = g.R.Runtime in
    let e = nested h.means c.args.self.now.depth c.args.self.now.context.now in
    rw (dict_by h.means e (inside h.means c.args.self.now.context.now) (round_of c.args.self.now.context.now) c.args.code.now (slots_of c.args.self.now.frame.now) (h.seen c.args.runtime.now) _ c.in-Dict.is) (search rules)

pub returns-in-ListComprehension : goal.returns-in-ListComprehension
returns-in-ListComprehension g c =
    let h = g.R.Runtime in
    let e = nested h.means c.args.self.now.depth c.args.self.now.context.now in
    rw (list_comprehension_by h.means e (inside h.means c.args.self.now.context.now) (round_of c.args.self.now.context.now) c.args.code.now (slots_of c.args.self.now.frame.now) (h.seen c.args.runtime.now) _ _ _ c.in-ListComprehension.is) (search rules)

pub returns-in-DictComprehension : goal.returns-in-DictComprehension
returns-in-DictComprehension g c =
    let h = g.R.Runtime in
    let e = nested h.means c.args.self.now.depth c.args.self.now.context.now in
    rw (dict_comprehension_by h.means e (inside h.means c.args.self.now.context.now) (round_of c.args.self.now.context.now) c.args.code.now (slots_of c.args.self.now.frame.now) (h.seen c.args.runtime.now) _ _ _ c.in-DictComprehension.is) (search rules)

pub returns-in-Unary : goal.returns-in-Unary
returns-in-Unary g c =
    let h = g.R.Runtime in
    let e = nested h.means c.args.self.now.depth c.args.self.now.context.now in
    rw (unary_by h.means e (inside h.means c.args.self.now.context.now) (round_of c.args.self.now.context.now) c.args.code.now (slots_of c.args.self.now.frame.now) (h.seen c.args.runtime.now) _ _ c.in-Unary.is) (search rules)

pub unreachable-requires : goal.unreachable-requires
unreachable-requires g c = c.requires.no_suffix _ _ c.in-Primary.is

pub unreachable-requires-in-Binary : goal.unreachable-requires-in-Binary
unreachable-requires-in-Binary g c = c.requires.no_chain _ _ c.in-Binary.is

pub returns-in-Compare : goal.returns-in-Compare
returns-in-Compare g c =
    let h = g.R.Runtime in
    let e = nested h.means c.args.self.now.depth c.args.self.now.context.now in
    rw (compare_by h.means e (inside h.means c.args.self.now.context.now) (round_of c.args.self.now.context.now) c.args.code.now (slots_of c.args.self.now.frame.now) (h.seen c.args.runtime.now) _ _ _ c.in-Compare.is) (search rules)

pub unreachable-requires-in-Conditional : goal.unreachable-requires-in-Conditional
unreachable-requires-in-Conditional g c = c.requires.no_choice _ _ c.in-Conditional.is
