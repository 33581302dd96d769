use Rattle.std.proofs.Common.{◌≡◌, ap, ◌∙◌}
use Rattle.rl_source_scene.proofs.EntityLists.{entity_added, entity_scalar}
use Rattle.rl_source_scene.specs.Entities.{entity_node}
use Rattle.rl_source_scene.proofs.entities.push_entity.Goals as goal

pub push-requires : goal.push-requires
push-requires c = entity_scalar _ _ _ _ c.entity_view-entity.ensures c.args.tree.fit

pub returns : goal.returns
returns c =
    entity_added _ _ _ _ _
    (ap (λ text. entity_node c.entity_view-entity.result.at text c.entity_view-entity.result.value) c.in_ok-name.ensures
    ∙ c.entity_view-entity.ensures) c.in_ok-push.ensures.added
