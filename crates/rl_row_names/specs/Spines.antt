-- Links and `!` on the spine of a chain, by their role.
use Rattle.std.specs.Prelude.{Bool, true, false, ◌&&◌, ◌||◌, not}
use Rattle.rl_code.specs.Parts.{only, second}
use Rattle.rl_model.specs.Supported.{has_optional, is_unbroken}
use Rattle.rl_row_forms.specs.Shaped.{flag_in}
use Rattle.rl_row_names.specs.declared.chains.Spine.{Spine}
use Rattle.rl_row_names.specs.declared.chains.Spine.TheVariants as spine
use Rattle.rl_semantic.specs.Items.{of_item}
use Rattle.rl_syntax.specs.Syntax.{Syntax, Flag, Pieces, Then}
use Rattle.rl_syntax.specs.declared.word.Word.{Word}
use Rattle.rl_syntax.specs.declared.word.Word.TheVariants as word

abbrev pub spine_of : Word → Spine
spine_of word.Member = spine.Link
spine_of word.Index = spine.Link
spine_of word.Privatemember = spine.Link
spine_of word.Call = spine.Link
spine_of word.Nonnull = spine.NonNull
spine_of _ = spine.Other

-- A link by its flag, and by its object or callee.
abbrev pub flagged_has_optional : (flag object : Syntax) → Bool
flagged_has_optional flag object = of_item false (λ optional. optional || has_optional object) (flag_in flag)

abbrev pub link_has_optional : Pieces → Bool
link_has_optional (Then (Flag optional) (Then object parts)) = optional || has_optional object
link_has_optional _ = false

abbrev pub spine_has_optional : Spine → Pieces → Bool
spine_has_optional spine.Link parts = link_has_optional parts
spine_has_optional spine.NonNull parts = of_item false has_optional (only parts)
spine_has_optional spine.Other parts = false

-- A `!` by its expression.
abbrev pub clear_nonnull : (below : Bool) → (expression : Syntax) → Bool
clear_nonnull below expression = not (below && has_optional expression) && is_unbroken below expression

abbrev pub spine_is_unbroken : (below : Bool) → Spine → Pieces → Bool
spine_is_unbroken below spine.Link parts = of_item true (is_unbroken true) (second parts)
spine_is_unbroken below spine.NonNull parts = of_item true (clear_nonnull below) (only parts)
spine_is_unbroken below spine.Other parts = true

-- A node by its word: only a chain may be broken.
abbrev pub node_is_whole : Word → Pieces → Bool
node_is_whole word.Chain parts = of_item true (is_unbroken false) (only parts)
node_is_whole _ parts = true
