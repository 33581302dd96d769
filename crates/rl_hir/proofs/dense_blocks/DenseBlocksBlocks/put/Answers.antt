use Rattle.std.proofs.Common.{◌≡◌, List, length, OnOk, ap, sym, subst, ◌∙◌, arith}
use Rattle.rl_hir.proofs.Indexed.{index_within, no_block, put_last, put_there}
use Rattle.rl_hir.specs.Blocks.{Pair}
use Rattle.rl_hir.specs.Indexed.{IsIndexed}
use Rattle.rl_hir.proofs.dense_blocks.DenseBlocksBlocks.put.Goals as goal

pub set_at-requires : goal.set_at-requires
set_at-requires c =
    let low = index_within c.self.inside.indices c.self.inside.pairs.items c.self.invariant c.in-Some.index c.args.id.0 (sym c.in-Some.ensures) in
    omega (arith, low, ap length c.self.view_is)

pub returns-in-Some-clause-ok : goal.returns-in-Some-clause-ok
returns-in-Some-clause-ok c =
    let table = c.self.inside.indices in
    let now : List Pair = c.args.self.now in
    let h : IsIndexed table now = subst (λ (l : List Pair). IsIndexed table l) c.self.view_is c.self.invariant in
    c.set_at.ensures.new ∙ sym (put_there table now h c.in-Some.index c.args.id c.args.block (sym c.in-Some.ensures))

pub append-requires : goal.append-requires
append-requires c =
    let table = c.self.inside.indices in
    let now : List Pair = c.args.self.now in
    let h : IsIndexed table now = subst (λ (l : List Pair). IsIndexed table l) c.self.view_is c.self.invariant in
    no_block table now h c.args.id (sym c.in-None.ensures)

pub returns-in-None-clause-ok : goal.returns-in-None-clause-ok
returns-in-None-clause-ok c =
    let table = c.self.inside.indices in
    let now : List Pair = c.args.self.now in
    let h : IsIndexed table now = subst (λ (l : List Pair). IsIndexed table l) c.self.view_is c.self.invariant in
    subst (λ (l : List Pair). OnOk c.append.result (c.append.new.self ≡ l)) (sym (put_last table now h c.args.id c.args.block (sym c.in-None.ensures))) c.append.ensures.ok
