use Rattle.std.proofs.Common.{◌+◌, ◌*◌, ◌-◌, length}
use Rattle.rl_syntax.proofs.Pieces.{HasRead}
use Rattle.rl_syntax.proofs.reader.+reading.Given as goal

abbrev pub decreases-read_at : goal.decreases-read_at
decreases-read_at l = 3 * l.depth + 1

abbrev pub decreases-read_node : goal.decreases-read_node
decreases-read_node l = 3 * l.depth

abbrev pub decreases-read_list : goal.decreases-read_list
decreases-read_list l = 3 * l.depth

abbrev pub decreases-read_parts : goal.decreases-read_parts
decreases-read_parts l = 3 * l.depth + 2

abbrev pub invariant-read_parts-parts : goal.invariant-read_parts-parts
invariant-read_parts-parts l = HasRead l.close l.depth l.initial.at l.at l.count l.bytes l.initial.parts l.parts

abbrev pub decreases-read_parts-parts : goal.decreases-read_parts-parts
decreases-read_parts-parts l = length l.bytes - l.at.byte
