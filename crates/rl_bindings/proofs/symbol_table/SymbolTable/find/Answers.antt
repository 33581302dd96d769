use Rattle.std.proofs.Common.{◌≡◌, ℕ, Bool, false, if◌then◌else◌, Some, None, slice_get, map, ap, sym, ◌∙◌}
use Rattle.rl_base.specs.declared.slots.Slot.TheVariants as slot
use Rattle.rl_bindings.specs.SymbolTables.{number_by, same_key, key_of}
use Rattle.rl_base.specs.Slots.{is_key}
use Rattle.rl_bindings.proofs.SymbolTables.{by_slot, slot_known}
use Rattle.rl_bindings.proofs.symbol_table.SymbolTable.find.Goals as goal

pub returns-in-Empty : goal.returns-in-Empty
returns-in-Empty c =
    let inside = c.self.inside in
    let key : ℕ × ℕ × Bool = (c.args.name, c.args.scope.0, c.args.own) in
    let at = slot_known c.len.result c.key_slot.result inside.slots.items c.as_slice.result.now key slot.Empty c.in-Empty.ensures.slot c.as_slice.ensures.value c.key_slot.ensures (c.len.ensures ∙ inside.slots.ok.0) in
    sym (by_slot inside.slots.items inside.numbers inside.symbols.items key slot.Empty c.self.invariant at) ∙ ap (λ symbols. number_by symbols key) c.self.view_is

pub returns-else-has_key : goal.returns-else-has_key
returns-else-has_key c =
    let inside = c.self.inside in
    let key : ℕ × ℕ × Bool = (c.args.name, c.args.scope.0, c.args.own) in
    let at = slot_known c.len.result c.key_slot.result inside.slots.items c.as_slice.result.now key (slot.One c.in-One.number) c.in-One.ensures.slot c.as_slice.ensures.value c.key_slot.ensures (c.len.ensures ∙ inside.slots.ok.0) in
    let other : false ≡ is_key same_key (slice_get (map key_of inside.symbols.items) c.in-One.number) key = c.if-has_key.ensures ∙ ap (λ l. is_key same_key (slice_get (map key_of l) c.in-One.number) key) c.as_slice-in-One.ensures.value in
    ap (λ (b : Bool). if b then Some c.in-One.number else None) other
    ∙ sym (by_slot inside.slots.items inside.numbers inside.symbols.items key (slot.One c.in-One.number) c.self.invariant at)
    ∙ ap (λ symbols. number_by symbols key) c.self.view_is

pub returns-in-Many : goal.returns-in-Many
returns-in-Many c =
    let inside = c.self.inside in
    let key : ℕ × ℕ × Bool = (c.args.name, c.args.scope.0, c.args.own) in
    let at = slot_known c.len.result c.key_slot.result inside.slots.items c.as_slice.result.now key slot.Many c.in-Many.ensures.slot c.as_slice.ensures.value c.key_slot.ensures (c.len.ensures ∙ inside.slots.ok.0) in
    c.copied.ensures ∙ c.get.ensures.value ∙ sym (by_slot inside.slots.items inside.numbers inside.symbols.items key slot.Many c.self.invariant at) ∙ ap (λ symbols. number_by symbols key) c.self.view_is
