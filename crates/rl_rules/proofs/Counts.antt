-- Numbers of parts, as lengths of lists.
use Rattle.std.proofs.Common.{◌≡◌, ◌∷◌, [], List, length, map, arith, refl}
use Rattle.rl_syntax.specs.Syntax.{part_count, pieces_of, syntax}
use Rattle.rl_syntax.specs.declared.numbered.Numbered.{Numbered}

pub part_count_length : (trees : List Numbered) → part_count (pieces_of (map syntax trees)) ≡ length trees
part_count_length [] = refl
part_count_length (tree ∷ trees) = omega (arith, part_count_length trees)
