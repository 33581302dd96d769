use Rattle.rl_lower_parts.proofs.NameDerivations.{quasi_next}
use Rattle.rl_lower_parts.proofs.template.copy_quasi.Goals as goal

pub returns : goal.returns
returns c = λ more copies rest.
    quasi_next c.in_ok-raw.raw c.in_ok-cooked.cooked c.template_element_view-quasi.ensures c.in_ok-raw.ensures c.in_ok-cooked.ensures rest
