use Rattle.std.proofs.Common.{rules, ◌<◌, length, ap, sym, subst, ◌∙◌}
use Rattle.rl_bindings.specs.Machines.{look}
use Rattle.rl_bindings.proofs.Links.{Follows, above, begins, link_at, link_get, follow_step, follows_down}
use Rattle.rl_bindings.proofs.resolve.enter.Goals as goal

pub links-init : goal.links-init
links-init c =
    begins c.args.table.now c.args.scope c.args.links.now.last.items c.args.links.now.earlier.items c.args.env.now c.args.saved.now.items c.look-next.result c.requires.links
    (c.look-next.ensures ∙ ap (λ l. look l c.args.scope) c.deref.ensures.value)

pub offset_bounds-symbols-number : goal.offset_bounds-symbols-number
offset_bounds-symbols-number c =
    let within : c.in-Some.number < length c.as_slice-symbols.result.now = subst (λ l. c.in-Some.number < length l) (sym c.as_slice-symbols.ensures)
    (link_at c.args.table.now c.args.scope c.args.env.now c.links.env c.args.saved.now.items c.links.saved.items c.in-Some.number (subst (Follows c.args.table.now c.args.scope c.args.env.now c.links.env c.args.saved.now.items c.links.saved.items) c.in-Some.is c.links.invariant)) in
    search rules

pub bounds-symbols-number : goal.bounds-symbols-number
bounds-symbols-number c =
    subst (λ l. c.in-Some.number < length l) (sym c.as_slice-symbols.ensures)
    (link_at c.args.table.now c.args.scope c.args.env.now c.links.env c.args.saved.now.items c.links.saved.items c.in-Some.number (subst (Follows c.args.table.now c.args.scope c.args.env.now c.links.env c.args.saved.now.items c.links.saved.items) c.in-Some.is c.links.invariant))

pub binding_of-requires : goal.binding_of-requires
binding_of-requires c =
    link_get c.args.table.now c.args.scope c.args.env.now c.links.env c.args.saved.now.items c.links.saved.items c.in-Some.number c.as_slice-symbols.result.now _
    (subst (Follows c.args.table.now c.args.scope c.args.env.now c.links.env c.args.saved.now.items c.links.saved.items) c.in-Some.is c.links.invariant)
    c.as_slice-symbols.ensures

pub links-smaller : goal.links-smaller
links-smaller c =
    subst (λ n. above c.look-next-in-Some.result < above n) (sym c.in-Some.is)
    (follows_down c.args.table.now c.args.scope c.args.links.now.last.items c.args.links.now.earlier.items c.args.env.now c.links.env c.args.saved.now.items c.links.saved.items c.in-Some.number c.look-next-in-Some.result c.requires.links
    (subst (Follows c.args.table.now c.args.scope c.args.env.now c.links.env c.args.saved.now.items c.links.saved.items) c.in-Some.is c.links.invariant)
    (c.look-next-in-Some.ensures ∙ ap (λ l. look l c.in-Some.number) c.deref-in-Some.ensures.value))

pub links-preserved : goal.links-preserved
links-preserved c =
    follow_step c.args.table.now c.args.scope c.args.links.now.last.items c.args.links.now.earlier.items c.args.env.now c.links.env c.write.new.list c.args.saved.now.items c.links.saved.items c.push.new.self.items c.in-Some.number c.as_slice-symbols.result.now _ c.binding_of.result c.look.result c.deref-in-Some.result.now c.look-next-in-Some.result c.requires.links
    (subst (Follows c.args.table.now c.args.scope c.args.env.now c.links.env c.args.saved.now.items c.links.saved.items) c.in-Some.is c.links.invariant)
    c.as_slice-symbols.ensures c.look.ensures c.binding_of.ensures c.write.ensures c.in_ok-push.ensures.items c.look-next-in-Some.ensures c.deref-in-Some.ensures.value
