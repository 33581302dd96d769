use Rattle.std.proofs.Common.{◌≡◌, ◌++◌, drop, map}
use Rattle.rl_text.specs.Raw.{tree, parts_of}
use Rattle.rl_text.specs.Places.{spelled_parts}
use Rattle.rl_text.proofs.write.+writing.Given as goal

abbrev pub invariant-write_parts-parts : goal.invariant-write_parts-parts
invariant-write_parts-parts l = l.out.items ++ spelled_parts l.spaced l.close (parts_of (map tree (drop l.part-index l.parts))) ≡ l.initial.out.items ++ spelled_parts l.apart l.close (parts_of (map tree l.parts))
