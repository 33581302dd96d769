use Rattle.std.proofs.Common.{◌≡◌, map, drop}
use Rattle.rl_model.specs.Shapes.{are_raw}
use Rattle.rl_syntax.specs.Syntax.{pieces_of, syntax}
use Rattle.rl_forms.proofs.outs.are_raw.Given as goal

abbrev pub invariant-parts : goal.invariant-parts
invariant-parts l = are_raw (pieces_of (map syntax (drop l.part-index l.parts))) ≡ are_raw (pieces_of (map syntax l.parts))
