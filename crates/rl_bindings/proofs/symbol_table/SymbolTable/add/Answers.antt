use Rattle.std.proofs.Common.{◌≡◌, ◌<◌, List, Some, length, map, slice_get, slice_set, if◌then◌else◌, refl, sym, ap, subst, ◌∙◌}
use Rattle.std.specs.BTreeMap.{get}
use Rattle.rl_base.specs.Slots.{is_key, slot_at}
use Rattle.rl_base.specs.declared.slots.Slot.{Slot}
use Rattle.rl_base.specs.declared.slots.Slot.TheVariants as slot
use Rattle.rl_bindings.specs.SymbolTables.{key_cmp, key_of, key_slot, same_key}
use Rattle.rl_bindings.proofs.SymbolTables.{pushed_empty, crowded, among, slot_known, slot_crowded}
use Rattle.rl_bindings.proofs.symbol_table.SymbolTable.add.Goals as goal

pub invariant_of-self-in-Empty : goal.invariant_of-self-in-Empty
invariant_of-self-in-Empty c =
    let inside = c.self.inside in
    let index = c.key_slot-index.result in
    let at : index ≡ key_slot (length inside.slots.items) (key_of c.args.bound) = c.key_slot-index.ensures ∙ (λ i. key_slot ((c.len.ensures ∙ inside.slots.ok.0) i) (c.key_of-key.ensures i)) in
    pushed_empty inside.slots.items _ inside.numbers inside.symbols.items c.push.new.self.items c.args.bound index c.len-number.result c.self.invariant at
    (sym (c.in-Empty.ensures.slot ∙ ap (λ ss. slot_at ss index) c.as_slice.ensures.value))
    (subst (λ (ss : List Slot). index < length ss) c.as_slice.ensures.value (c.in-Empty.ensures.within refl))
    (c.len-number.ensures ∙ inside.symbols.ok.0)
    refl
    c.in_ok-push-in-Empty.ensures.items

pub invariant_of-self-in-One : goal.invariant_of-self-in-One
invariant_of-self-in-One c =
    let inside = c.self.inside in
    let index = c.key_slot-index.result in
    let at : index ≡ key_slot (length inside.slots.items) (key_of c.args.bound) = c.key_slot-index.ensures ∙ (λ i. key_slot ((c.len.ensures ∙ inside.slots.ok.0) i) (c.key_of-key.ensures i)) in
    let within : index < length inside.slots.items = subst (λ (ss : List Slot). index < length ss) c.as_slice.ensures.value (c.in-One.ensures.within refl) in
    among (slice_set inside.slots.items index slot.Many) c.add_other.new.numbers c.add_among.new.numbers inside.symbols.items c.add_among.new.symbols.items c.args.bound c.add_among.result
    (crowded inside.slots.items _ inside.numbers c.add_other.new.numbers inside.symbols.items index c.in-One.other c.args.bound c.self.invariant
    (sym (c.in-One.ensures.slot ∙ ap (λ ss. slot_at ss index) c.as_slice.ensures.value))
    within
    refl
    (λ key. c.in_ok-add_other-in-One.ensures.added key ∙ ap (λ symbols. if is_key same_key (slice_get (map key_of symbols) c.in-One.other) key then Some c.in-One.other else get key_cmp inside.numbers key) c.as_slice-in-One-2.ensures.value))
    (slot_crowded inside.slots.items (key_of c.args.bound) index at within)
    c.add_among.ensures.known c.add_among.ensures.symbols c.add_among.ensures.changed c.add_among.ensures.err_symbols c.add_among.ensures.err

pub invariant_of-self-in-Many : goal.invariant_of-self-in-Many
invariant_of-self-in-Many c =
    let inside = c.self.inside in
    let r = c.add_among-in-Many in
    among inside.slots.items inside.numbers r.new.numbers inside.symbols.items r.new.symbols.items c.args.bound r.result c.self.invariant
    (slot_known c.len.result c.key_slot-index.result inside.slots.items c.as_slice.result.now (key_of c.args.bound) slot.Many c.in-Many.ensures.slot c.as_slice.ensures.value (c.key_slot-index.ensures ∙ ap (key_slot c.len.result) c.key_of-key.ensures) (c.len.ensures ∙ inside.slots.ok.0))
    r.ensures.known r.ensures.symbols r.ensures.changed r.ensures.err_symbols r.ensures.err
