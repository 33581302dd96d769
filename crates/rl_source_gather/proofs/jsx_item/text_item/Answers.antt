use Rattle.rl_model.specs.Actions.{give}
use Rattle.rl_model.specs.Expressions.{text_values}
use Rattle.std.proofs.Common.{[], ap, codes, if◌then◌else◌, sym, ◌∙◌, ◌∷◌}
use Rattle.std.specs.Prelude.{is_some}
use Rattle.rl_source_gather.proofs.jsx_item.text_item.Goals as goal

pub returns-in-Some : goal.returns-in-Some
returns-in-Some c = record {
  values = ap (λ given. give (text_values given)) (sym c.in_ok-given.ensures ∙ c.in-Some.is);
  shape = ap (λ given. if is_some given then codes "place" ∷ [] else []) (sym c.in_ok-given.ensures ∙ c.in-Some.is);
}

pub returns-in-None : goal.returns-in-None
returns-in-None c = record {
  values = ap (λ given. give (text_values given)) (sym c.in_ok-given.ensures ∙ c.in-None.is);
  shape = ap (λ given. if is_some given then codes "place" ∷ [] else []) (sym c.in_ok-given.ensures ∙ c.in-None.is);
}
