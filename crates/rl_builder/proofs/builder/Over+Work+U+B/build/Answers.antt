use Rattle.std.proofs.Common.{◌≡◌, List, All, length, rules, refl, sym, ap, ◌∙◌, subst}
use Rattle.rl_hir.specs.Numbered.{IsNumbered}
use Rattle.rl_hir.specs.declared.instruction.Instruction.{Instruction}
use Rattle.rl_order.specs.Numbering.{ordered_table}
use Rattle.rl_order.specs.Prune.{cleaned}
use Rattle.rl_builder.specs.Builder.{state_of}
use Rattle.rl_builder.proofs.Pruned.{built_by, ordered_listed, ordered_room, written_back}
use Rattle.rl_builder.proofs.Refusals.{refused_same}
use Rattle.rl_builder.proofs.builder.Over+Work+U+B.build.Goals as goal

pub clean-requires-clause-within : goal.clean-requires-clause-within
clean-requires-clause-within g c =
    ordered_listed (state_of g.U.ReadsUnit.tables c.args.self) _ _ _ c.in_ok-blocks.ensures c.deref_mut.ensures.value c.in_ok-ordered.ensures.ordered c.requires.listed

pub clean-requires-clause-room : goal.clean-requires-clause-room
clean-requires-clause-room g c =
    ordered_room (state_of g.U.ReadsUnit.tables c.args.self) _ _ c.in_ok-blocks.ensures c.in_ok-ordered.ensures.ordered c.requires.room

pub returns-clause-built : goal.returns-clause-built
returns-clause-built g c =
    let work = c.args.self.work in
    let count : work.instructions.len ≡ length work.instructions.items = search rules in
    let new : c.clean.new.table ≡ c.from_vec.result = written_back _ _ _ _ c.from_vec.ensures count (c.in_ok-clean.ensures.length ∙ ap length c.deref_mut.ensures.value) in
    built_by (state_of g.U.ReadsUnit.tables c.args.self) _ (g.B.Blocks.pairs c.in_ok-ordered.ordered) _ _ _ _
    c.in_ok-blocks.ensures c.requires.whole c.in_ok-ordered.ensures.ordered
    (refused_same _ _ _ _ _ _ _ _ refl c.deref.ensures.value c.in_ok-blocks.ensures c.in_ok-refuse_dropped.ensures)
    c.in_ok-clean.ensures.entry c.in_ok-clean.ensures.marked
    (sym new ∙ c.in_ok-clean.ensures.orders ∙ ap (ordered_table 1 (cleaned (g.B.Blocks.pairs c.in_ok-ordered.ordered))) c.deref_mut.ensures.value)
    c.in_ok-clean.ensures.distinct
    (λ once none. subst (λ (t : List Instruction). IsNumbered t (g.B.Blocks.pairs c.clean.new.hir.blocks)) new
    (c.in_ok-clean.ensures.numbered once (subst (λ (t : List Instruction). All (λ i. i.order.0 ≡ 0) t) (sym c.deref_mut.ensures.value) none)))
    c.in_ok-clean.ensures.predecessors
