use Rattle.std.proofs.Common.{◌≡◌, ◌+◌, List, ◌∷◌, ◌++◌, ℕ, not, filter, map, drop, subst, ap, sym, refl, ◌∙◌, arith}
use Rattle.std.proofs.lemmas.List.{drop_more}
use Rattle.std.specs.List.{list_any}
use Rattle.std.proofs.Math.ListN.{drop_of_length-le}
use Rattle.rl_dead.proofs.Loops.{no_for_of}
use Rattle.rl_dead.proofs.Rows.{cases_end, cases_step, cases_stop, statements_step}
use Rattle.rl_dead.proofs.Statements.{absent_tree, flag_tree, list_tree, number_tree, text_tree}
use Rattle.rl_dead.proofs.Switches.{switch_made, try_calm, try_live}
use Rattle.rl_dead.specs.Jumps.{breaks, continues, name_of, takes}
use Rattle.rl_dead.specs.Walks.{CasesLeft, StatementsLeft}
use Rattle.rl_dead.specs.declared.jumps.Target.TheVariants as target
use Rattle.rl_syntax.specs.Sizes.{size_of}
use Rattle.rl_syntax.specs.Syntax.{pieces_of, syntax}
use Rattle.rl_syntax.specs.declared.numbered.Numbered.{Numbered}
use Rattle.rl_dead.proofs.walk.+walking.Goals as goal

pub walk-returns-in-List : goal.walk-returns-in-List
walk-returns-in-List t c =
    list_tree c.args.jumps.now c.args.dead.now.items _ (name_of c.args.own) c.args.tree.now c.in-List.field-0 c.in-List.is refl refl

pub walk-returns-in-Text : goal.walk-returns-in-Text
walk-returns-in-Text t c =
    text_tree c.args.jumps.now c.args.dead.now.items _ (name_of c.args.own) c.args.tree.now c.in-Text.field-0 c.in-Text.is refl refl

pub walk-returns-in-Number : goal.walk-returns-in-Number
walk-returns-in-Number t c =
    number_tree c.args.jumps.now c.args.dead.now.items _ (name_of c.args.own) c.args.tree.now c.in-Number.field-0 c.in-Number.is refl refl

pub walk-returns-in-Flag : goal.walk-returns-in-Flag
walk-returns-in-Flag t c =
    flag_tree c.args.jumps.now c.args.dead.now.items _ (name_of c.args.own) c.args.tree.now c.in-Flag.field-0 c.in-Flag.is refl refl

pub walk-returns-in-Absent : goal.walk-returns-in-Absent
walk-returns-in-Absent t c =
    absent_tree c.args.jumps.now c.args.dead.now.items _ (name_of c.args.own) c.args.tree.now c.in-Absent.is refl refl

pub walk_for_of-returns-in-None : goal.walk_for_of-returns-in-None
walk_for_of-returns-in-None t c =
    no_for_of c.args.jumps.now c.args.dead.now.items _ (name_of c.args.own) (pieces_of (map syntax c.args.parts.now)) c.in-None.ensures refl refl

pub walk_statements-statements-preserved : goal.walk_statements-statements-preserved
walk_statements-statements-preserved t c =
    let all : List Numbered = c.args.statements.now in
    let index : ℕ = c.statements.statement-index in
    let x : Numbered = c.statement-item.result in
    let rest : List Numbered = drop (index + 1) all in
    let split : drop index all ≡ x ∷ rest =
    drop_more all index x c.statements-test.true ∙ ap (λ (z : Numbered). z ∷ rest) (sym c.statement-item.is) in
    let long : size_of (pieces_of (map syntax (drop index all))) ≡ size_of (pieces_of (map syntax (x ∷ rest))) =
    ap (λ (l : List Numbered). size_of (pieces_of (map syntax l))) split in
    record {
      walked = statements_step _ _ _ _ _ _ _ _ (pieces_of (map syntax all)) (pieces_of (map syntax rest)) (syntax x)
          (subst (λ (l : List Numbered). StatementsLeft c.args.jumps.now c.statements.jumps c.args.dead.now.items c.statements.dead.items
          c.statements.flow (pieces_of (map syntax all)) (pieces_of (map syntax l))) split c.statements.invariant.walked)
          c.in_ok-next.ensures;
      fewer = omega (arith, long, c.statements.invariant.fewer);
    }

pub walk_cases-cases-preserved : goal.walk_cases-cases-preserved
walk_cases-cases-preserved t c =
    let all : List Numbered = c.args.cases.now in
    let index : ℕ = c.cases.part-index in
    let x : Numbered = c.part-item.result in
    let rest : List Numbered = drop (index + 1) all in
    let split : drop index all ≡ x ∷ rest =
    drop_more all index x c.cases-test.true ∙ ap (λ (z : Numbered). z ∷ rest) (sym c.part-item.is) in
    let long : size_of (pieces_of (map syntax (drop index all))) ≡ size_of (pieces_of (map syntax (x ∷ rest))) =
    ap (λ (l : List Numbered). size_of (pieces_of (map syntax l))) split in
    record {
      walked = cases_step _ _ _ _ _ _ _ _ _ (pieces_of (map syntax all)) (pieces_of (map syntax rest))
          (pieces_of (map syntax c.in-Some.statements.now)) (syntax x) _ _
          (subst (λ (l : List Numbered). CasesLeft c.args.jumps.now c.cases.jumps c.args.dead.now.items c.cases.dead.items c.cases.falls
          c.cases.acts (pieces_of (map syntax all)) (pieces_of (map syntax l))) split c.cases.invariant.walked) c.in-Some.ensures
          c.in_ok-flow-in-Some.ensures refl c.either-acts.ensures;
      fewer = omega (arith, long, c.cases.invariant.fewer);
    }

pub walk_cases-returns-in-None : goal.walk_cases-returns-in-None
walk_cases-returns-in-None t c =
    let all : List Numbered = c.args.cases.now in
    let index : ℕ = c.cases.part-index in
    let x : Numbered = c.part-item.result in
    let rest : List Numbered = drop (index + 1) all in
    let split : drop index all ≡ x ∷ rest =
    drop_more all index x c.cases-test.true ∙ ap (λ (z : Numbered). z ∷ rest) (sym c.part-item.is) in
    cases_stop _ _ _ _ _ _ _ (pieces_of (map syntax all)) (pieces_of (map syntax rest)) (syntax x)
    (subst (λ (l : List Numbered). CasesLeft c.args.jumps.now c.cases.jumps c.args.dead.now.items c.cases.dead.items c.cases.falls c.cases.acts
    (pieces_of (map syntax all)) (pieces_of (map syntax l))) split c.cases.invariant.walked) c.in-None.ensures refl refl

pub walk_cases-returns : goal.walk_cases-returns
walk_cases-returns t c =
    let all : List Numbered = c.args.cases.now in
    cases_end _ _ _ _ _ _ _ (pieces_of (map syntax all))
    (subst (λ (l : List Numbered). CasesLeft c.args.jumps.now c.cases.jumps c.args.dead.now.items c.cases.dead.items c.cases.falls c.cases.acts
    (pieces_of (map syntax all)) (pieces_of (map syntax l))) (drop_of_length-le all c.cases-test.false) c.cases.invariant.walked) refl refl

pub walk_clauses-returns : goal.walk_clauses-returns
walk_clauses-returns t c =
    switch_made c.args.jumps.now _ c.new-inner.result _ c.args.dead.now.items _ _ _ (pieces_of (map syntax c.args.cases.now)) _
    c.new-inner.ensures.breaks c.new-inner.ensures.continues c.in_ok-flow.ensures
    (c.takes_any-is_broken.ensures ∙ ap (λ l. list_any (takes target.Unlabeled) (map name_of l)) c.as_slice.ensures.value)
    (c.in_ok-push_others.ensures
    ∙ ap (λ l. breaks c.args.jumps.now ++ filter (λ x. not (takes target.Unlabeled x)) (map name_of l)) c.as_slice-2.ensures.value)
    (c.in_ok-push_others-2.ensures
    ∙ ap (λ l. continues c.args.jumps.now ++ filter (λ x. not (takes target.Nothing x)) (map name_of l)) c.as_slice-3.ensures.value)
    c.switch_falls.ensures refl

pub walk_try-returns-then-flow : goal.walk_try-returns-then-flow
walk_try-returns-then-flow t c =
    try_live _ _ _ _ _ _ _ _ _ (pieces_of (map syntax c.args.parts.now)) (syntax c.in-Some.block.now) (syntax c.in-Some.handler.now)
    (syntax c.in-Some.body.now) c.in-Some.ensures c.in_ok-flow-in-Some.ensures c.if-flow.true c.in_ok-caught-in-Some.ensures c.either.ensures refl

pub walk_try-returns-in_ok-push_range-in-Some : goal.walk_try-returns-in_ok-push_range-in-Some
walk_try-returns-in_ok-push_range-in-Some t c =
    try_calm _ _ _ _ _ _ (pieces_of (map syntax c.args.parts.now)) (syntax c.in-Some.block.now) (syntax c.in-Some.handler.now)
    (syntax c.in-Some.body.now) c.in-Some.ensures c.in_ok-flow-in-Some.ensures c.if-flow.false c.in_ok-push_range-in-Some.ensures
