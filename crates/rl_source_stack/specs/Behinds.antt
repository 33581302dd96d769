-- Continuations of values, by the construct that waits.
use Rattle.std.specs.Prelude.{ℕ, Bool, if◌then◌else◌, None, [], ◌∷◌, codes}
use Rattle.rl_base.specs.Operators.{logical_text, operator_text, unary_text}
use Rattle.rl_grammar.specs.Fields.{maybe}
use Rattle.rl_machine.specs.Traces.{Cont, matches, truthy}
use Rattle.rl_machine.specs.declared.trace.Value.{Value}
use Rattle.rl_machine.specs.declared.trace.Value.TheVariants as value
use Rattle.rl_model.specs.Actions.{Action, ◌>>=◌, ◌>>◌, ask, assign, breakable, done, give, loop, return_with, test}
use Rattle.rl_model.specs.Events as events
use Rattle.rl_model.specs.Expressions.{assign_to, eval, eval_last, needs_right, unless_nullish, write, write_property}
use Rattle.rl_model.specs.Patterns.{bind}
use Rattle.rl_model.specs.Scene.{Scene}
use Rattle.rl_model.specs.Statements.{exec, exec_all, exec_cases, exec_default, try_cases}
use Rattle.rl_syntax.specs.Syntax.{syntax}
use Rattle.rl_source_stack.specs.Konts.{Konts}
use Rattle.rl_source_stack.specs.Loops.{body_and_rest, on_yes, take_next, turn_in, turn_of, turns_left}
use Rattle.rl_source_stack.specs.Parts.{among, binding_syntax, gathering, label_of, target_syntax}
use Rattle.rl_source_stack.specs.Properties.{key_of, linked, used}
use Rattle.rl_trace.specs.Values.{shown}
use Rattle.rl_source_stack.specs.declared.behind.Behind.{Behind}
use Rattle.rl_source_stack.specs.declared.behind.Behind.TheVariants as behind
use Rattle.rl_source_stack.specs.declared.behind.Following.{Following}
use Rattle.rl_source_stack.specs.declared.behind.Following.TheVariants as following
use Rattle.rl_source_stack.specs.declared.gather.Gather.TheVariants as gather

-- The new value of a variable that is updated.
abbrev pub updated_name : (symbol : ℕ) → (prefix : Bool) → (old new : Value) → Action Value
updated_name symbol prefix old new = do
  assign symbol new
  give (if prefix then new else old)

-- The new value of a property that is updated.
abbrev pub updated_in : Scene → (object : Value) → events.Key → (prefix : Bool) → (old new : Value) → Action Value
updated_in scene object key prefix old new = do
  write_property scene object key new
  give (if prefix then new else old)

-- The continuation of a value in an expression.
abbrev pub value_behind : Scene → Behind → Value → Konts → Cont
value_behind scene (behind.Unary operator) v k = ask scene (events.unary (unary_text operator) v) k.ways k.value
value_behind scene (behind.BinaryRight operator right) v k =
    (do w ← eval scene (syntax right.tree.now); ask scene (events.binary (operator_text operator) v w)) k.ways k.value
value_behind scene (behind.BinaryLast operator left) v k = ask scene (events.binary (operator_text operator) (shown left) v) k.ways k.value
value_behind scene (behind.LogicalRight operator right) v k =
    (do needed ← needs_right scene (logical_text operator) v; if needed then eval scene (syntax right.tree.now) else give v) k.ways k.value
value_behind scene (behind.Conditional consequent alternate) v k =
    (do
      met ← test scene (truthy v)
      if met then eval scene (syntax consequent.tree.now) else eval scene (syntax alternate.tree.now)) k.ways k.value
value_behind scene (behind.Sequence expressions) v k = eval_last scene (among expressions.trees.now) k.ways k.value
value_behind scene behind.Await v k = ask scene (events.event (codes "await") [] (v ∷ [])) k.ways k.value
value_behind scene (behind.AssignName name) v k =
    write scene (scene.names.meaning name.at.reference.0 name.name.now) name.name.now v k.ways k.value
value_behind scene (behind.CompoundName name operator right) v k =
    (do
      w ← eval scene (syntax right.tree.now)
      new ← ask scene (events.binary (operator_text operator) v w)
      write scene (scene.names.meaning name.at.reference.0 name.name.now) name.name.now new) k.ways k.value
value_behind scene (behind.CompoundNameLast name operator old) v k =
    (do
      new ← ask scene (events.binary (operator_text operator) (shown old) v)
      write scene (scene.names.meaning name.at.reference.0 name.name.now) name.name.now new) k.ways k.value
value_behind scene (behind.UpdateName symbol prefix old) v k = updated_name symbol.0 prefix (shown old) v k.ways k.value
value_behind scene (behind.AssignPattern target) v k = (do assign_to scene (target_syntax target) v; give v) k.ways k.value
value_behind scene (behind.Object optional property then_use) v k =
    unless_nullish scene optional v k.ways (λ u. linked scene property then_use v k)
value_behind scene (behind.Key object then_use) v k = used scene then_use (shown object) (events.computed_key v) k
value_behind scene (behind.Lent object) v k = k.pair (shown object) v
value_behind scene (behind.StoreIn object key) v k = write_property scene (shown object) (key_of key) v k.ways k.value
value_behind scene (behind.CompoundIn object key operator right) v k =
    (do
      w ← eval scene (syntax right.tree.now)
      new ← ask scene (events.binary (operator_text operator) v w)
      write_property scene (shown object) (key_of key) new) k.ways k.value
value_behind scene (behind.CompoundInLast object key operator old) v k =
    (do
      new ← ask scene (events.binary (operator_text operator) (shown old) v)
      write_property scene (shown object) (key_of key) new) k.ways k.value
value_behind scene (behind.UpdateIn object key operator prefix) v k =
    (do
      new ← ask scene (events.binary (operator_text operator) v (value.Number 1))
      updated_in scene (shown object) (key_of key) prefix v new) k.ways k.value
value_behind scene (behind.UpdateInLast object key prefix old) v k =
    updated_in scene (shown object) (key_of key) prefix (shown old) v k.ways k.value
value_behind scene (behind.Same w default) v k =
    (do missing ← test scene (truthy v); if missing then eval scene (syntax default.tree.now) else give (shown w)) k.ways k.value
value_behind scene (behind.New arguments) v k = gathering scene (gather.New arguments) (among arguments.trees.now) (v ∷ []) k.ways k.value
value_behind scene (behind.Tag tag attributes children) v k =
    gathering scene (gather.Attributes tag attributes children) (among attributes.trees.now) (v ∷ []) k.ways k.value
value_behind scene (behind.AssignTo target) v k = assign_to scene (target_syntax target) v k.ways (λ u. k.normal)

-- The continuation of a value in a statement.
abbrev pub value_following : Scene → Following → Value → Konts → Cont
value_following scene following.Ignore v k = k.normal
value_following scene (following.Return variant) v k = return_with scene variant v k.ways (λ (u : Unit {0}). k.normal)
value_following scene following.Throw v k = k.ways.throws v
value_following scene (following.Bind everywhere pattern) v k = bind scene everywhere (binding_syntax pattern) v k.ways (λ u. k.normal)
value_following scene (following.If consequent alternate) v k =
    (do
      met ← test scene (truthy v)
      if met then exec scene None (syntax consequent.tree.now)
          else exec scene None (maybe alternate (λ t. syntax t.tree.now))) k.ways (λ u. k.normal)
value_following scene (following.Test turns) v k =
    (do met ← test scene (truthy v); if met then on_yes scene turns turns.parts else done) k.ways (λ u. k.normal)
value_following scene (following.Update turns) v k = turns_left scene turns k.ways (λ u. k.normal)
value_following scene (following.Item turns) v k = (do take_next scene turns.parts v; body_and_rest scene turns) k.ways (λ u. k.normal)
value_following scene (following.ForIn own head body) v k =
    breakable (loop (turn_in scene (label_of own) (syntax head.tree.now) v (syntax body.tree.now)))
    k.ways (λ u. k.normal)
value_following scene (following.ForOf own head body) v k =
    (do
      iterator ← ask scene (events.get_iterator v)
      breakable (loop (turn_of scene (label_of own) (syntax head.tree.now) iterator v (syntax body.tree.now)))) k.ways (λ u. k.normal)
value_following scene (following.Iterator own head collection body) v k =
    breakable (loop (turn_of scene (label_of own) (syntax head.tree.now) v (shown collection) (syntax body.tree.now)))
    k.ways (λ u. k.normal)
value_following scene (following.Switch cases) v k =
    breakable (try_cases scene (among cases.trees.now) v [] (exec_default scene (among cases.trees.now))) k.ways (λ u. k.normal)
value_following scene (following.Case w statements cases all) v k =
    (do
      same ← test scene (matches (shown w) v)
      if same then (do exec_all scene (among statements.trees.now); exec_cases scene (among cases.trees.now))
          else try_cases scene (among cases.trees.now) (shown w) [] (exec_default scene (among all.trees.now))) k.ways (λ u. k.normal)
