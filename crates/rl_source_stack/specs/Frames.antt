-- The continuations of a part in a frame, from those of the frame's construct.
use Rattle.std.specs.Prelude.{Bool, true, false, if◌then◌else◌, Some, None, List, [], ◌∷◌}
use Rattle.rl_grammar.specs.Fields.{maybe}
use Rattle.rl_hir.specs.declared.terminal.ReturnVariant.TheVariants as returns
use Rattle.rl_machine.specs.Traces.{Cont, waiting}
use Rattle.rl_machine.specs.declared.trace.Value.{Value}
use Rattle.rl_machine.specs.declared.trace.Value.TheVariants as value
use Rattle.rl_model.specs.Actions.{Action, Label, ◌>>=◌, ◌>>◌, breakable, is_label, is_own, loop, return_with}
use Rattle.rl_model.specs.Expressions.{assign_items, assign_to, called, first_piece, unless_nullish}
use Rattle.rl_model.specs.Functions.{run_body, take_arguments}
use Rattle.rl_model.specs.Patterns.{bind, bind_items}
use Rattle.rl_model.specs.Scene.{Scene}
use Rattle.rl_model.specs.Statements.{declare_all, exec, exec_all, exec_cases}
use Rattle.rl_syntax.specs.Syntax.{Syntax, Pieces, syntax}
use Rattle.rl_source_stack.specs.Behinds.{value_behind, value_following}
use Rattle.rl_source_stack.specs.Konts.{Konts}
use Rattle.rl_source_stack.specs.Loops.{body_and_rest, rest_of_loop, turn_for}
use Rattle.rl_source_stack.specs.Parts.{among, bindings_among, code_syntax, gathering, given_next, label_of, parts_among, targets_among}
use Rattle.rl_trace.specs.Values.{shown}
use Rattle.rl_source_stack.specs.declared.apart.Apart.{Apart}
use Rattle.rl_source_stack.specs.declared.apart.Apart.TheVariants as apart
use Rattle.rl_source_stack.specs.declared.gather.Gather.TheVariants as gather
use Rattle.rl_source_stack.specs.declared.stack.Around.{Around}
use Rattle.rl_source_stack.specs.declared.stack.Around.TheVariants as around
use Rattle.rl_source_stack.specs.declared.stack.Frame.{Frame}
use Rattle.rl_source_stack.specs.declared.stack.Frame.TheVariants as frame
use Rattle.rl_source_stack.specs.declared.stack.Heading.{Heading}
use Rattle.rl_source_stack.specs.declared.stack.Heading.TheVariants as heading
use Rattle.rl_source_stack.specs.declared.stack.Receiving.{Receiving}
use Rattle.rl_source_stack.specs.declared.stack.Receiving.TheVariants as receiving

-- The parts of a pattern that are left take their pieces, and then the rest does.
abbrev pub bind_rest : Scene → (everywhere : Bool) → Pieces → List Value → (rest : Syntax) → Action (Unit {0})
bind_rest scene everywhere items pieces rest = do
  left ← bind_items scene everywhere false items pieces
  bind scene everywhere rest (first_piece left)

-- As `bind_rest`, for a target.
abbrev pub assign_rest : Scene → Pieces → List Value → (rest : Syntax) → Action (Unit {0})
assign_rest scene items pieces rest = do
  left ← assign_items scene items pieces
  assign_to scene rest (first_piece left)

-- The parameters that are left take their arguments, and then the rest does.
abbrev pub take_rest : Scene → Pieces → List Value → (rest : Syntax) → Action (Unit {0})
take_rest scene params arguments rest = do
  left ← take_arguments scene (λ param. true) params arguments
  bind scene true rest (first_piece left)

-- Behind a statement that stands in another one.
abbrev pub normal_in : Scene → Around → Konts → Cont
normal_in scene (around.Statements statements) k = exec_all scene (among statements.trees.now) k.ways (λ u. k.normal)
normal_in scene (around.Declarators declarators) k = declare_all scene (among declarators.trees.now) k.ways (λ u. k.normal)
normal_in scene (around.Body turns) k = rest_of_loop scene turns k.ways (λ u. k.normal)
normal_in scene (around.Head turns) k = body_and_rest scene turns k.ways (λ u. k.normal)
normal_in scene (around.For own condition update body) k =
    breakable (loop
    (turn_for scene (label_of own) (syntax condition.tree.now) (maybe update (λ t. syntax t.tree.now)) (syntax body.tree.now)))
    k.ways (λ u. k.normal)
normal_in scene (around.Try param body) k = k.normal
normal_in scene (around.Catch body) k = exec scene None (syntax body.tree.now) k.ways (λ u. k.normal)
normal_in scene around.Breakable k = k.normal
normal_in scene (around.Labeled label) k = k.normal
normal_in scene (around.Cases cases) k = exec_cases scene (among cases.trees.now) k.ways (λ u. k.normal)
normal_in scene (around.Bindings everywhere items pieces rest) k =
    bind_rest scene everywhere (bindings_among items) pieces.now (maybe rest (λ t. syntax t.tree.now)) k.ways (λ u. k.normal)
normal_in scene (around.Parameters params arguments rest) k =
    take_rest scene (among params.trees.now) arguments.now (maybe rest (λ t. syntax t.tree.now)) k.ways (λ u. k.normal)
normal_in scene (around.Function body) k = run_body scene (code_syntax body) k.ways (λ u. k.normal)
normal_in scene around.End k = return_with scene returns.Void value.Undefined k.ways (λ (u : Unit {0}). k.normal)

-- Behind a target that has taken its value.
abbrev pub received : Scene → Receiving → Konts → Cont
received scene (receiving.Targets items pieces rest) k =
    assign_rest scene (targets_among items) pieces.now (maybe rest (λ t. syntax t.tree.now)) k.ways (λ u. k.normal)
received scene (receiving.Give v) k = k.value (shown v)

abbrev pub is_none : Label → Bool
is_none None = true
is_none (Some label) = false

abbrev pub breaks_in : Around → Konts → Label → Cont
breaks_in around.Breakable k = λ jump. if is_none jump then k.normal else k.ways.breaks jump
breaks_in (around.Labeled label) k = λ jump. if is_label label.now jump then k.normal else k.ways.breaks jump
breaks_in _ k = k.ways.breaks

abbrev pub continues_in : Scene → Around → Konts → Label → Cont
continues_in scene (around.Body turns) k =
    λ jump. if is_own (label_of turns.own) jump then rest_of_loop scene turns k.ways (λ u. k.normal) else k.ways.continues jump
continues_in scene (around.Labeled label) k = λ jump. if is_label label.now jump then (λ store answers. waiting) else k.ways.continues jump
continues_in scene _ k = k.ways.continues

-- A `catch` takes what its block throws.
abbrev pub caught : Scene → (param body : Syntax) → Value → Action (Unit {0})
caught scene param body v = do
  bind scene true param v
  exec scene None body

abbrev pub throws_in : Scene → Around → Konts → Value → Cont
throws_in scene (around.Try param body) k v =
    caught scene (maybe param (λ t. syntax t.tree.now)) (syntax body.tree.now) v k.ways (λ u. k.normal)
throws_in scene _ k v = k.ways.throws v

-- A callee: the function, behind the object that lends itself to it.
abbrev pub headed : Scene → Heading → List Value → Konts → Cont
headed scene (heading.Call optional arguments) head k =
    unless_nullish scene optional (called head) k.ways (λ u.
    gathering scene (gather.Call (is_lent head) arguments) (among arguments.trees.now) head k.ways k.value)
  where
    is_lent : List Value → Bool
    is_lent (object ∷ f ∷ vs) = true
    is_lent _ = false
headed scene (heading.Tagged quasis expressions) head k =
    gathering scene (gather.Tagged quasis expressions) (among expressions.trees.now) head k.ways k.value

-- The pieces of a value.
abbrev pub taken_apart : Scene → Apart → List Value → Konts → Cont
taken_apart scene (apart.Bind everywhere items rest) pieces k =
    bind_rest scene everywhere (bindings_among items) pieces (maybe rest (λ t. syntax t.tree.now)) k.ways (λ u. k.normal)
taken_apart scene (apart.Assign items rest) pieces k =
    assign_rest scene (targets_among items) pieces (maybe rest (λ t. syntax t.tree.now)) k.ways (λ u. k.normal)

-- The early end of a chain.
abbrev pub cut_short : (lends : Bool) → Konts → Cont
cut_short lends k = if lends then k.pair value.Undefined value.Undefined else k.value value.Undefined

abbrev pub konts_at : Scene → Frame → Konts → Konts
konts_at scene (frame.Value b) k = record k { value = λ v. value_behind scene b v k }
konts_at scene (frame.Following b) k = record k { value = λ v. value_following scene b v k }
konts_at scene (frame.Target r) k = record k { normal = received scene r k }
konts_at scene (frame.Statement a) k =
    record k {
      ways = record k.ways { breaks = breaks_in a k; continues = continues_in scene a k; throws = throws_in scene a k };
      normal = normal_in scene a k;
    }
konts_at scene (frame.Head h) k = record k { value = λ v. headed scene h (v ∷ []) k; pair = λ object f. headed scene h (object ∷ f ∷ []) k }
konts_at scene (frame.Pieces a) k = record k { pieces = λ vs. taken_apart scene a vs k }
konts_at scene (frame.Given what waits left given) k =
    record k { value = λ v. given_next scene what waits (parts_among left) given v k.ways k.value }
konts_at scene (frame.Chained lends) k = record k { ways = record k.ways { short = cut_short lends k } }

-- The last frame is the innermost one.
abbrev pub konts_of : Scene → List Frame → Konts → Konts
konts_of scene [] k = k
konts_of scene (f ∷ frames) k = konts_of scene frames (konts_at scene f k)
