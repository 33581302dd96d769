-- Constructs all of whose values are there ask one event, but for an element whose children are next.
use Rattle.std.proofs.Common.{◌≡◌, Bool, true, false, List, refl, sym, true≢false}
use Rattle.rl_machine.specs.declared.trace.Value.{Value}
use Rattle.rl_model.specs.Actions.{ask}
use Rattle.rl_model.specs.Events.{event}
use Rattle.rl_model.specs.Scene.{Scene}
use Rattle.rl_source_gather.specs.Gathered.{kind_of, texts_of}
use Rattle.rl_source_stack.specs.Parts.{gathered}
use Rattle.rl_source_stack.specs.declared.gather.Gather.{Gather}
use Rattle.rl_source_stack.specs.declared.gather.Gather.TheVariants as gather

-- True of a construct that asks its event next.
abbrev pub is_last : Gather → Bool
is_last (gather.Attributes tag attributes children) = false
is_last _ = true

pub gathered_last : (scene : Scene) (what : Gather) (given : List Value) → is_last what ≡ true
    → ask scene (event (kind_of what) (texts_of scene what) given) ≡ gathered scene what given
gathered_last scene (gather.Call lent arguments) given last = refl
gathered_last scene (gather.New arguments) given last = refl
gathered_last scene (gather.Template quasis expressions) given last = refl
gathered_last scene (gather.Tagged quasis expressions) given last = refl
gathered_last scene (gather.Array items) given last = refl
gathered_last scene (gather.Object properties) given last = refl
gathered_last scene (gather.Attributes tag attributes children) given last = absurd (true≢false (sym last))
gathered_last scene (gather.Children tag attributes children) given last = refl
gathered_last scene (gather.Fragment children) given last = refl
