use Rattle.std.proofs.Common.{◌≡◌, nat_eq, if◌then◌else◌, List, [], ◌∷◌, ◌++◌, length, Some, ap, sym, subst, ◌∙◌, arith}
use Rattle.rl_hir.proofs.Indexed.{appended, no_index}
use Rattle.rl_hir.specs.Blocks.{Pair}
use Rattle.rl_hir.specs.Indexed.{IsIndexed}
use Rattle.rl_hir.proofs.dense_blocks.DenseBlocks.append.Goals as goal

pub invariant_of-self-2 : goal.invariant_of-self-2
invariant_of-self-2 c =
    let table = c.self.inside.indices in
    let now : List Pair = c.args.self.now in
    let id = c.args.id in
    let h : IsIndexed table now = subst (λ (l : List Pair). IsIndexed table l) c.self.view_is c.self.invariant in
    let count : c.len-index.result ≡ length now = omega (arith, c.len-index.ensures, c.self.inside.pairs.ok.0, ap length c.self.view_is) in
    let more = c.in_ok-push.ensures.items ∙ ap (λ (l : List Pair). l ++ (id, c.args.block) ∷ []) c.self.view_is in
    subst (λ (l : List Pair). IsIndexed c.set.new.self l) (sym more)
    (appended table c.set.new.self now id c.args.block h (no_index table now h id c.requires)
    (λ other. c.set.ensures.indices other ∙ (λ j. if nat_eq other id.0 then Some (count j) else c.in_ok-make_room.ensures.same other j)))
