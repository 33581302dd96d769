use Rattle.std.proofs.Common.{◌≡◌, ◌<◌, length, map, slice_get, slice_set, Some, Option, ℕ, List, if◌then◌else◌, IfOk, not, is_some, refl, sym, ap, subst, ◌∙◌}
use Rattle.std.specs.BTreeMap.{get_by_text}
use Rattle.std.specs.Str.{bytes_eq}
use Rattle.rl_base.specs.NameTables.{index_named}
use Rattle.rl_base.specs.Slots.{is_key, slot_index_of, slot_at}
use Rattle.rl_base.specs.declared.slots.Slot.{Slot}
use Rattle.rl_base.specs.declared.slots.Slot.TheVariants as slot
use Rattle.rl_base.proofs.NameTables.{pushed_empty, crowded, among, by_slot, slot_known, slot_crowded, pushed_last, found_among, found_inside}
use Rattle.rl_base.proofs.name_table.NameTable.find_or_insert.Goals as goal

pub invariant_of-self-in-Empty : goal.invariant_of-self-in-Empty
invariant_of-self-in-Empty g c =
    let inside = c.self.inside in
    let slot_index = c.slot_index_of-slot_index.result in
    let at : slot_index ≡ slot_index_of (length inside.slots.items) (g.T.Named.name c.args.item) = c.slot_index_of-slot_index.ensures ∙ (λ i. slot_index_of ((c.len.ensures ∙ inside.slots.ok.0) i) (c.name.ensures i)) in
    pushed_empty g.T.Named.name inside.slots.items _ inside.indices inside.items.items c.push.new.self.items c.args.item slot_index c.len-index.result c.self.invariant at
    (sym (c.in-Empty.ensures.slot ∙ ap (λ ss. slot_at ss slot_index) c.as_slice.ensures.value))
    (subst (λ (ss : List Slot). slot_index < length ss) c.as_slice.ensures.value (c.in-Empty.ensures.within refl))
    (c.len-index.ensures ∙ inside.items.ok.0)
    refl
    c.in_ok-push-in-Empty.ensures.items

pub invariant_of-self-in-One : goal.invariant_of-self-in-One
invariant_of-self-in-One g c =
    let inside = c.self.inside in
    let slot_index = c.slot_index_of-slot_index.result in
    let at : slot_index ≡ slot_index_of (length inside.slots.items) (g.T.Named.name c.args.item) = c.slot_index_of-slot_index.ensures ∙ (λ i. slot_index_of ((c.len.ensures ∙ inside.slots.ok.0) i) (c.name.ensures i)) in
    let within : slot_index < length inside.slots.items = subst (λ (ss : List Slot). slot_index < length ss) c.as_slice.ensures.value (c.in-One.ensures.within refl) in
    among g.T.Named.name (slice_set inside.slots.items slot_index slot.Many) c.add_other.new.indices c.insert_among.new.indices inside.items.items c.insert_among.new.items.items c.args.item c.insert_among.result
    (crowded g.T.Named.name inside.slots.items _ inside.indices c.add_other.new.indices inside.items.items slot_index c.in-One.other c.self.invariant
    (sym (c.in-One.ensures.slot ∙ ap (λ ss. slot_at ss slot_index) c.as_slice.ensures.value))
    within
    refl
    (λ name. c.in_ok-add_other-in-One.ensures.added name ∙ ap (λ items. if is_key bytes_eq (slice_get (map g.T.Named.name items) c.in-One.other) name then Some c.in-One.other else get_by_text inside.indices name) c.as_slice-in-One-2.ensures.value))
    (slot_crowded g.T.Named.name inside.slots.items (g.T.Named.name c.args.item) slot_index at within)
    c.insert_among.ensures.is_new c.insert_among.ensures.items c.insert_among.ensures.added c.insert_among.ensures.stays c.insert_among.ensures.err_items c.insert_among.ensures.err

pub invariant_of-self-in-Many : goal.invariant_of-self-in-Many
invariant_of-self-in-Many g c =
    let inside = c.self.inside in
    let r = c.insert_among-in-Many in
    among g.T.Named.name inside.slots.items inside.indices r.new.indices inside.items.items r.new.items.items c.args.item r.result c.self.invariant
    (slot_known g.T.Named.name c.len.result c.slot_index_of-slot_index.result inside.slots.items c.as_slice.result.now (g.T.Named.name c.args.item) slot.Many c.in-Many.ensures.slot c.as_slice.ensures.value (c.slot_index_of-slot_index.ensures ∙ ap (slot_index_of c.len.result) c.name.ensures) (c.len.ensures ∙ inside.slots.ok.0))
    r.ensures.is_new r.ensures.items r.ensures.added r.ensures.stays r.ensures.err_items r.ensures.err

pub returns-in-Many-clause-is_new : goal.returns-in-Many-clause-is_new
returns-in-Many-clause-is_new g c =
    let inside = c.self.inside in
    let name = g.T.Named.name c.args.item in
    let many = slot_known g.T.Named.name c.len.result c.slot_index_of-slot_index.result inside.slots.items c.as_slice.result.now name slot.Many c.in-Many.ensures.slot c.as_slice.ensures.value (c.slot_index_of-slot_index.ensures ∙ ap (slot_index_of c.len.result) c.name.ensures) (c.len.ensures ∙ inside.slots.ok.0) in
    subst (λ (o : Option ℕ). IfOk c.insert_among-in-Many.result (λ found. found.1 ≡ not (is_some o)))
    (sym (by_slot g.T.Named.name inside.slots.items inside.indices inside.items.items name slot.Many c.self.invariant many) ∙ ap (λ items. index_named g.T.Named.name items name) c.self.view_is)
    c.insert_among-in-Many.ensures.is_new

pub returns-in_ok-push-in-Empty-clause-index : goal.returns-in_ok-push-in-Empty-clause-index
returns-in_ok-push-in-Empty-clause-index g c =
    let inside = c.self.inside in
    let slot_index = c.slot_index_of-slot_index.result in
    let empty = slot_known g.T.Named.name c.len.result slot_index inside.slots.items c.as_slice.result.now (g.T.Named.name c.args.item) slot.Empty c.in-Empty.ensures.slot c.as_slice.ensures.value (c.slot_index_of-slot_index.ensures ∙ ap (slot_index_of c.len.result) c.name.ensures) (c.len.ensures ∙ inside.slots.ok.0) in
    ap (λ items. index_named g.T.Named.name items (g.T.Named.name c.args.item)) c.in_ok-push-in-Empty.ensures.items
    ∙ pushed_last g.T.Named.name inside.items.items c.args.item (by_slot g.T.Named.name inside.slots.items inside.indices inside.items.items (g.T.Named.name c.args.item) slot.Empty c.self.invariant empty)
    ∙ ap Some (sym (c.len-index.ensures ∙ inside.items.ok.0))

pub returns-in_ok-add_other-in-One-clause-index : goal.returns-in_ok-add_other-in-One-clause-index
returns-in_ok-add_other-in-One-clause-index g c =
    let inside = c.self.inside in
    let slot_index = c.slot_index_of-slot_index.result in
    let at : slot_index ≡ slot_index_of (length inside.slots.items) (g.T.Named.name c.args.item) = c.slot_index_of-slot_index.ensures ∙ (λ i. slot_index_of ((c.len.ensures ∙ inside.slots.ok.0) i) (c.name.ensures i)) in
    let within : slot_index < length inside.slots.items = subst (λ (ss : List Slot). slot_index < length ss) c.as_slice.ensures.value (c.in-One.ensures.within refl) in
    found_among g.T.Named.name (slice_set inside.slots.items slot_index slot.Many) c.add_other.new.indices inside.items.items c.insert_among.new.items.items c.args.item c.insert_among.result
    (crowded g.T.Named.name inside.slots.items _ inside.indices c.add_other.new.indices inside.items.items slot_index c.in-One.other c.self.invariant
    (sym (c.in-One.ensures.slot ∙ ap (λ ss. slot_at ss slot_index) c.as_slice.ensures.value))
    within
    refl
    (λ name. c.in_ok-add_other-in-One.ensures.added name ∙ ap (λ items. if is_key bytes_eq (slice_get (map g.T.Named.name items) c.in-One.other) name then Some c.in-One.other else get_by_text inside.indices name) c.as_slice-in-One-2.ensures.value))
    (slot_crowded g.T.Named.name inside.slots.items (g.T.Named.name c.args.item) slot_index at within)
    c.insert_among.ensures.index c.insert_among.ensures.is_new c.insert_among.ensures.items

pub returns-in_ok-add_other-in-One-clause-within : goal.returns-in_ok-add_other-in-One-clause-within
returns-in_ok-add_other-in-One-clause-within g c =
    found_inside g.T.Named.name c.insert_among.new.items.items (g.T.Named.name c.args.item) c.insert_among.result (returns-in_ok-add_other-in-One-clause-index g c)

pub returns-in-Many-clause-index : goal.returns-in-Many-clause-index
returns-in-Many-clause-index g c =
    let inside = c.self.inside in
    let r = c.insert_among-in-Many in
    found_among g.T.Named.name inside.slots.items inside.indices inside.items.items r.new.items.items c.args.item r.result c.self.invariant
    (slot_known g.T.Named.name c.len.result c.slot_index_of-slot_index.result inside.slots.items c.as_slice.result.now (g.T.Named.name c.args.item) slot.Many c.in-Many.ensures.slot c.as_slice.ensures.value (c.slot_index_of-slot_index.ensures ∙ ap (slot_index_of c.len.result) c.name.ensures) (c.len.ensures ∙ inside.slots.ok.0))
    r.ensures.index r.ensures.is_new r.ensures.items

pub returns-in-Many-clause-within : goal.returns-in-Many-clause-within
returns-in-Many-clause-within g c =
    found_inside g.T.Named.name c.insert_among-in-Many.new.items.items (g.T.Named.name c.args.item) c.insert_among-in-Many.result (returns-in-Many-clause-index g c)
