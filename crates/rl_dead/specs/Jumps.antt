-- Labels of jumps, and the jumps that a statement takes.
use Rattle.std.specs.Prelude.{ℕ, Bool, false, option_map, List, map}
use Rattle.std.specs.Str.{bytes_eq}
use Rattle.rl_dead.specs.declared.jumps.Jumps.{Jumps}
use Rattle.rl_dead.specs.declared.jumps.Label.{Label as Held}
use Rattle.rl_dead.specs.declared.jumps.Target.{Target}
use Rattle.rl_dead.specs.declared.jumps.Target.TheVariants as target
use Rattle.rl_model.specs.Actions as actions
use Rattle.rl_model.specs.Dead as dead
use Rattle.rl_model.specs.Actions.{Label}

abbrev pub name_of : Held → Label
name_of label = option_map (λ t. t.now) label.name

abbrev pub is_equal : (one other : List ℕ) → Bool
is_equal one other = bytes_eq one other

abbrev pub is_own : (own jump : Label) → Bool
is_own own jump = actions.is_own own jump

abbrev pub is_unlabeled : Label → Bool
is_unlabeled jump = dead.is_unlabeled jump

abbrev pub is_labeled : (label : List ℕ) → Label → Bool
is_labeled label jump = dead.is_labeled label jump

-- True of a jump that a target takes.
abbrev pub takes : Target → Label → Bool
takes target.Nothing jump = false
takes target.Unlabeled jump = dead.is_unlabeled jump
takes (target.Own own) jump = actions.is_own (name_of own) jump
takes (target.Labeled label) jump = dead.is_labeled label.now jump

abbrev pub breaks : Jumps → List Label
breaks jumps = map name_of jumps.breaks.items

abbrev pub continues : Jumps → List Label
continues jumps = map name_of jumps.continues.items
