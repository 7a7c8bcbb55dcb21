use Rattle.std.proofs.Common.{rules, ◌≡◌, ◌∙◌}
use Rattle.bq_base_texts.proofs.PlacePut.{colliding_put, others_colliding}
use Rattle.bq_base_texts.proofs.places.Places.put_colliding.Goals as goal

pub returns-clause-put : goal.returns-clause-put
returns-clause-put c =
    let key = c.in_ok-key.ensures.items_if_clones_equal (λ x y e. e) in
    colliding_put c.args.self.now.by_hash c.args.self.now.colliding c.insert.new.self c.args.name.now c.in_ok-key.key c.args.place key c.in_ok-insert.ensures.updates

pub returns-clause-others : goal.returns-clause-others
returns-clause-others c other i apart has =
    let key = c.in_ok-key.ensures.items_if_clones_equal (λ x y e. e) in
    others_colliding c.args.self.now.by_hash c.args.self.now.colliding c.insert.new.self c.args.name.now other c.in_ok-key.key c.args.place i key c.in_ok-insert.ensures.updates apart has
