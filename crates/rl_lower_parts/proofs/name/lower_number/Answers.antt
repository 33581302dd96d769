use Rattle.std.proofs.Common.{◌∙◌}
use Rattle.rl_lower_parts.proofs.ParsedNumbers.{parsed_none, parsed_some}
use Rattle.rl_lower_parts.proofs.Derivations.{fraction_ok, number_ok}
use Rattle.rl_lower_parts.proofs.name.lower_number.Goals as goal

pub returns-in-Some-clause-lowered : goal.returns-in-Some-clause-lowered
returns-in-Some-clause-lowered g c =
    let told = parsed_some c.args.text.now _ _ c.as_bytes.ensures c.in-Some.ensures in
    number_ok c.args.at c.args.text.now _ c.lower_value_to_temporary.result _ _ told.0 (c.new-number.ensures ∙ told.1)
    c.lower_value_to_temporary.ensures.state c.lower_value_to_temporary.ensures.place

pub returns-in-None-clause-lowered : goal.returns-in-None-clause-lowered
returns-in-None-clause-lowered g c =
    fraction_ok c.args.at c.args.text.now c.refuse_as_undefined.result _ _
    (parsed_none c.args.text.now _ c.as_bytes.ensures c.in-None.ensures)
    c.refuse_as_undefined.ensures.state c.refuse_as_undefined.ensures.place
