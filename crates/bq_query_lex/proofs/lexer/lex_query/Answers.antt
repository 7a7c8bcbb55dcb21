use Rattle.std.proofs.Common.{sym, arith, rules}
use Rattle.bq_query_lex.proofs.Cuts.{cut_blank, cut_token, cut_all, cut_unknown, fits, at_rest}
use Rattle.bq_query_lex.specs.declared.lexis.QueryPiece.TheVariants.{End, Blank, Found, Unknown}
use Rattle.bq_query_lex.proofs.lexer.lex_query.Goals as goal

pub returns-in-End-clause-tokens : goal.returns-in-End-clause-tokens
returns-in-End-clause-tokens c = cut_all c.args.text.now c.pieces.start c.pieces.tokens.items (sym (at_rest c.args.text.now c.pieces.start End c.in-End.ensures)) c.pieces.invariant.cut

pub returns-in-Unknown-clause-refused : goal.returns-in-Unknown-clause-refused
returns-in-Unknown-clause-refused c e = cut_unknown c.args.text.now c.pieces.start c.pieces.tokens.items (sym (at_rest c.args.text.now c.pieces.start Unknown c.in-Unknown.ensures)) c.pieces.invariant.cut

pub pieces-smaller-in-Blank : goal.pieces-smaller-in-Blank
pieces-smaller-in-Blank c = let f = fits c.args.text.now c.pieces.start Blank (at_rest c.args.text.now c.pieces.start Blank c.in-Blank.ensures) in omega (arith, f)

pub pieces-preserved-in-Blank : goal.pieces-preserved-in-Blank
pieces-preserved-in-Blank c =
    let f = fits c.args.text.now c.pieces.start Blank (at_rest c.args.text.now c.pieces.start Blank c.in-Blank.ensures) in
    record { within = omega (arith, f); cut = cut_blank c.args.text.now c.pieces.start c.pieces.tokens.items (sym (at_rest c.args.text.now c.pieces.start Blank c.in-Blank.ensures)) c.pieces.invariant.cut }

pub overflow_add-end : goal.overflow_add-end
overflow_add-end c = let f = fits c.args.text.now c.pieces.start (Found c.in-Found.kind c.in-Found.n) (at_rest c.args.text.now c.pieces.start (Found c.in-Found.kind c.in-Found.n) c.in-Found.ensures) in first_of (search (rules, f.1, c.pieces.invariant.within), omega (arith, f.1, c.pieces.invariant.within, c.shared_slice_known-1))

pub pieces-smaller : goal.pieces-smaller
pieces-smaller c = let f = fits c.args.text.now c.pieces.start (Found c.in-Found.kind c.in-Found.n) (at_rest c.args.text.now c.pieces.start (Found c.in-Found.kind c.in-Found.n) c.in-Found.ensures) in omega (arith, f.0, f.1)

pub pieces-preserved : goal.pieces-preserved
pieces-preserved c =
    let f = fits c.args.text.now c.pieces.start (Found c.in-Found.kind c.in-Found.n) (at_rest c.args.text.now c.pieces.start (Found c.in-Found.kind c.in-Found.n) c.in-Found.ensures) in
    record {
      within = omega (arith, f.1, c.pieces.invariant.within);
      cut = rw c.in_ok-push-in-Found.ensures.items (cut_token c.args.text.now c.pieces.start c.pieces.tokens.items c.in-Found.kind c.in-Found.n (sym (at_rest c.args.text.now c.pieces.start (Found c.in-Found.kind c.in-Found.n) c.in-Found.ensures)) c.pieces.invariant.cut);
    }
