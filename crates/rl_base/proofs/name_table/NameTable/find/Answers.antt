use Rattle.std.proofs.Common.{ap, sym, ◌∙◌}
use Rattle.rl_base.specs.NameTables.{index_named}
use Rattle.rl_base.specs.declared.slots.Slot.TheVariants as slot
use Rattle.rl_base.proofs.NameTables.{found-within, by_slot, slot_known}
use Rattle.rl_base.proofs.name_table.NameTable.find.Goals as goal

pub returns-in-Many-clause-within : goal.returns-in-Many-clause-within
returns-in-Many-clause-within g c =
    let inside = c.self.inside in
    let name = c.args.name.now in
    let many = slot_known g.T.Named.name c.len.result c.slot_index_of.result inside.slots.items c.as_slice.result.now name slot.Many c.in-Many.ensures.slot c.as_slice.ensures.value c.slot_index_of.ensures (c.len.ensures ∙ inside.slots.ok.0) in
    found-within g.T.Named.name c.copied.result c.args.self.now name
    (c.copied.ensures ∙ c.get.ensures.value
    ∙ sym (by_slot g.T.Named.name inside.slots.items inside.indices inside.items.items name slot.Many c.self.invariant many)
    ∙ ap (λ items. index_named g.T.Named.name items name) c.self.view_is)
