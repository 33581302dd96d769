-- The targets of `break` and `continue` among the scopes around a statement.
use Rattle.std.specs.Prelude.{ℕ, Bool, true, false, if◌then◌else◌, Option, Some, None, Result, Ok, Err, List, [], ◌∷◌, reverse}
use Rattle.std.specs.Option.{option_map_or}
use Rattle.std.specs.Str.{bytes_eq}
use Rattle.rl_base.specs.declared.ids.BlockId.{BlockId}
use Rattle.rl_builder.specs.declared.jumps.JumpError.{JumpError}
use Rattle.rl_builder.specs.declared.jumps.JumpError.TheVariants.{NoBreak, NotALoop, NoContinue}
use Rattle.rl_builder.specs.declared.jumps.JumpScope.{JumpScope}
use Rattle.rl_builder.specs.declared.jumps.JumpScope.TheVariants.{Loop, Label, Switch}

-- The label of a scope, if it has one.
abbrev pub label_of : JumpScope → Option (List ℕ)
label_of (Loop label continue_block break_block) = label
label_of (Label label break_block) = Some label
label_of (Switch label break_block) = label

-- The block behind the statement of a scope.
abbrev pub break_block_of : JumpScope → BlockId
break_block_of (Loop label continue_block break_block) = break_block
break_block_of (Label label break_block) = break_block
break_block_of (Switch label break_block) = break_block

-- The block that `continue` goes to, if the scope is a loop's.
abbrev pub continue_block_of : JumpScope → Result BlockId JumpError
continue_block_of (Loop label continue_block break_block) = Ok continue_block
continue_block_of (Label label break_block) = Err NotALoop
continue_block_of (Switch label break_block) = Err NotALoop

abbrev pub has_label : (label : List ℕ) → JumpScope → Bool
has_label label scope = option_map_or (λ own. bytes_eq own label) (label_of scope) false

-- True of a scope that a `break` leaves: with a label, one of that label; without, a loop or a switch.
abbrev pub takes_break : (label : Option (List ℕ)) → JumpScope → Bool
takes_break (Some label) scope = has_label label scope
takes_break None (Loop label continue_block break_block) = true
takes_break None (Label label break_block) = false
takes_break None (Switch label break_block) = true

-- True of a scope that decides on a `continue`: with a label, one of that label; without, a loop.
abbrev pub takes_continue : (label : Option (List ℕ)) → JumpScope → Bool
takes_continue (Some label) scope = has_label label scope
takes_continue None (Loop label continue_block break_block) = true
takes_continue None (Label label break_block) = false
takes_continue None (Switch label break_block) = false

-- The target of a `break` in scopes that are listed from the innermost out.
abbrev pub break_target : (label : Option (List ℕ)) → List JumpScope → Result BlockId JumpError
break_target label [] = Err NoBreak
break_target label (scope ∷ outer) = if takes_break label scope then Ok (break_block_of scope) else break_target label outer

-- The target of a `continue` in scopes that are listed from the innermost out.
abbrev pub continue_target : (label : Option (List ℕ)) → List JumpScope → Result BlockId JumpError
continue_target label [] = Err NoContinue
continue_target label (scope ∷ outer) = if takes_continue label scope then continue_block_of scope else continue_target label outer

-- The targets in scopes that are listed from the outermost in.
abbrev pub lookup_break : List JumpScope → (label : Option (List ℕ)) → Result BlockId JumpError
lookup_break scopes label = break_target label (reverse scopes)

abbrev pub lookup_continue : List JumpScope → (label : Option (List ℕ)) → Result BlockId JumpError
lookup_continue scopes label = continue_target label (reverse scopes)
