-- The shapes of attributes and children.
use Rattle.std.proofs.Common.{◌≡◌, true, [], refl, sym, true≢false}
use Rattle.rl_source_gather.specs.Items.{is_nothing, item_shape}
use Rattle.rl_source_gather.specs.declared.jsx_item.Item.{Item}
use Rattle.rl_source_gather.specs.declared.jsx_item.Item.TheVariants as items

-- A child that gives nothing is dropped; any other has a place.
pub child_dropped : (item : Item) → is_nothing item ≡ true → item_shape item ≡ []
child_dropped items.Nothing holds = refl
child_dropped (items.Known v) holds = absurd (true≢false (sym holds))
child_dropped (items.Expression t) holds = absurd (true≢false (sym holds))
child_dropped (items.Element t) holds = absurd (true≢false (sym holds))
child_dropped (items.Fragment t) holds = absurd (true≢false (sym holds))
child_dropped items.Meaningless holds = absurd (true≢false (sym holds))
