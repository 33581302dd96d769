use Rattle.std.proofs.Common.{◌≡◌, map, drop}
use Rattle.rl_row_forms.specs.Quasis.{are_raw_among}
use Rattle.rl_syntax.specs.Syntax.{pieces_of, syntax}
use Rattle.rl_row_forms.proofs.templates.are_raw.Given as goal

abbrev pub invariant-parts : goal.invariant-parts
invariant-parts l =
    are_raw_among (pieces_of (map syntax (drop l.part-index l.parts))) ≡ are_raw_among (pieces_of (map syntax l.parts))
