use Rattle.std.proofs.Common.{◌≡◌, ◌+◌, ◌||◌, Bor, List, ◌∷◌, ℕ, map, drop, subst, ap, sym, ◌∙◌}
use Rattle.std.proofs.lemmas.List.{drop_more}
use Rattle.std.specs.List.{list_any}
use Rattle.rl_dead.proofs.Bodies.{more_functions}
use Rattle.rl_dead.specs.Functions.{is_dead_in}
use Rattle.rl_dead.specs.Ranges.{is_covered}
use Rattle.rl_syntax.specs.Syntax.{syntax}
use Rattle.rl_syntax.specs.declared.numbered.Numbered.{Numbered}
use Rattle.rl_dead.proofs.functions.dead_of.Goals as goal

pub functions-preserved : goal.functions-preserved
functions-preserved c =
    let all : List (Bor Numbered) = c.args.functions.now in
    let index : ℕ = c.functions.function-index in
    let x : Bor Numbered = c.function-item.result in
    let rest : List (Bor Numbered) = drop (index + 1) all in
    let split : drop index all ≡ x ∷ rest =
    drop_more all index x c.functions-test.true ∙ ap (λ (z : Bor Numbered). z ∷ rest) (sym c.function-item.is) in
    more_functions c.functions.dead.items _ (syntax x.now) (map (λ (t : Bor Numbered). syntax t.now) rest)
    (map (λ (t : Bor Numbered). syntax t.now) all)
    (subst (λ (l : List (Bor Numbered)). (n : ℕ)
    → (is_covered c.functions.dead.items n || list_any (is_dead_in n) (map (λ (t : Bor Numbered). syntax t.now) l))
    ≡ list_any (is_dead_in n) (map (λ (t : Bor Numbered). syntax t.now) all)) split c.functions.invariant) c.in_ok-push_dead.ensures
