use Rattle.std.proofs.Common.{◌∙◌, ◌++◌, ◌∷◌, [], sym, ap, rules}
use Rattle.rl_jsx.proofs.Decoding.{grown}
use Rattle.rl_jsx.proofs.lines.split_line_endings.Goals as goal

pub splitting-preserved : goal.splitting-preserved
splitting-preserved c = record {
  utf8 = search rules;
  kept = grown _ _ (c.in-Some.line.now ∷ []) _ _ _ (c.in_ok-push.ensures.ok ∙ ap (λ t. c.splitting.lines ++ t ∷ []) c.in_ok-line.ensures) c.in-Some.ensures.some c.splitting.invariant.kept;
}

pub returns : goal.returns
returns c =
    c.in_ok-push-2.ensures.ok ∙ ap (λ t. c.splitting.lines ++ t ∷ []) c.in_ok-last.ensures ∙ ap (λ l. c.splitting.lines ++ l) (sym c.in_default.ensures.none) ∙ c.splitting.invariant.kept
