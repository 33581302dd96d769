use Rattle.std.proofs.Common.{◌≡◌, ℕ, List, IfOk, ap, subst, ◌∙◌}
use Rattle.rl_code.specs.Flags.{flag_at}
use Rattle.rl_model.specs.Code.{contains}
use Rattle.rl_source_stack.specs.Texts.{numbers_of}
use Rattle.rl_source_scene.proofs.spaced.spaced_flags.Goals as goal

pub returns : goal.returns
returns c =
    subst (λ (l : List ℕ). IfOk c.flags_of.result (λ flags. (node : ℕ) → flag_at flags.items node ≡ contains l node))
    (c.in_ok-numbers.ensures ∙ ap numbers_of c.as_slice.ensures.value ∙ c.in_ok-nodes.ensures) c.flags_of.ensures
