-- Lowered assignments have the runs of the source, where nothing of them was refused: a name or a property takes the value of the right
-- part, or that of an operator over the old value and the right part.
use Rattle.std.proofs.Common.{◌≡◌, ℕ, IfSome, Bool, true, if◌then◌else◌, List, [], ◌∷◌, length, Option, Some, None, codes, refl}
use Rattle.std.proofs.Common.{sym, ap, ◌∙◌, subst, arith}
use Rattle.rl_base.specs.Operators.{assignment_text, operator_text}
use Rattle.rl_base.specs.declared.operator.AssignmentOperator.{AssignmentOperator}
use Rattle.rl_base.specs.declared.operator.AssignmentOperator.TheVariants as assignments
use Rattle.rl_base.specs.declared.operator.BinaryOperator.{BinaryOperator}
use Rattle.rl_builder.specs.Builder.{innermost, pushed_under, with_temporary}
use Rattle.rl_builder.specs.Temporaries.{temporary, unordered, with_value}
use Rattle.rl_hir.specs.Pairs.{identifier_of}
use Rattle.rl_hir.specs.declared.function.Pair.{Pair}
use Rattle.rl_hir.specs.declared.instruction.Instruction.{Instruction}
use Rattle.rl_hir.specs.declared.instruction.InstructionKind.TheVariants as kinds
use Rattle.rl_hir.specs.declared.instruction.InstructionValue.TheVariants as values
use Rattle.rl_hir.specs.declared.instruction.NonLocalBinding.{NonLocalBinding}
use Rattle.rl_lowered.proofs.Common.{At, BlockId, End, InstructionValue, Names, Node, Piece, Pieces, Place, Said, Span, State, SymbolId}
use Rattle.rl_lowered.proofs.Common.{Syntax, Then}
use Rattle.rl_lowered.proofs.Forms.{identifiers_in, key_by, load_acts, store_acts}
use Rattle.rl_lowered.proofs.Meant.{member_means}
use Rattle.rl_lowered.proofs.Refusals.{applied_plain}
use Rattle.rl_lowered.specs.Forms.{IsMember, MemberKey, Static, applied_by, load_of, store_of}
use Rattle.rl_lowered.specs.Items.{variable_at}
use Rattle.rl_lowered.specs.Lowered.{LoweredAll, assigned_to, member_assigned, member_computed, name_computed, name_reloaded}
use Rattle.rl_lowered.specs.Lowered.{name_stored}
use Rattle.rl_lowered.specs.Named.{IsFound, found}
use Rattle.rl_machine.specs.Traces.{Store, ValueCont, World, set}
use Rattle.rl_machine.specs.declared.trace.Answer.{Answer}
use Rattle.rl_machine.specs.declared.trace.Event.{Event}
use Rattle.rl_machine.specs.declared.trace.Value.{Value}
use Rattle.rl_model.specs.Actions.{Action, Ways, ◌>>=◌, ask, no_meaning, variable}
use Rattle.rl_model.specs.Events.{Key, binary, load, store_global, store_in}
use Rattle.rl_model.specs.Expressions.{assign_to, assignment, compound, eval, first_piece, later_pieces, place, values as values_in}
use Rattle.rl_model.specs.Expressions.{write, write_property}
use Rattle.rl_model.specs.Scene.{Scene}
use Rattle.rl_model.specs.Shapes.{is_logical, operator_in}
use Rattle.rl_names.specs.declared.names.Meaning.{Meaning}
use Rattle.rl_names.specs.declared.names.Meaning.TheVariants.{Local, Outer}
use Rattle.rl_promises.specs.Rows.{refusals_in}
use Rattle.rl_runs.proofs.Expressions.{all_asked, all_kept, local_runs, means_same, next_runs, one_runs, over_asked}
use Rattle.rl_runs.proofs.Expressions.{stored_runs}
use Rattle.rl_runs.proofs.Growing.{fronted_runs}
use Rattle.rl_runs.proofs.Holes.{same_throws, use_expression}
use Rattle.rl_runs.proofs.Moves.{contained_before, extends_refl, extends_resolved, extends_then, extends_value, inside}
use Rattle.rl_runs.proofs.Steps.{set_same, since_start}
use Rattle.rl_runs.proofs.Variables.{looked_up_last}
use Rattle.rl_runs.specs.Continuations.{between}
use Rattle.rl_runs.specs.Facts.{Extends}
use Rattle.rl_runs.specs.Simulation.{RunsAll, RunsExpression, RunsOver}
use Rattle.rl_syntax.specs.declared.word.Word.{Word}
use Rattle.rl_syntax.specs.declared.word.Word.TheVariants as word

-- Meanings.

-- A name takes the value of an action.
pub name_written : (scene : Scene) (names : Names) (there : At) (name : List ℕ) (m : Meaning) → scene.names ≡ names
    → names.meaning there.reference.0 name ≡ m → (d : Action Value)
    → (d >>= (λ v. write scene m name v)) ≡ (d >>= (λ v. write scene (scene.names.meaning there.reference.0 name) name v))
name_written scene names there name m same is d =
    sym (ap (λ (n : Names). d >>= (λ v. write scene (n.meaning there.reference.0 name) name v)) same
    ∙ ap (λ (x : Meaning). d >>= (λ v. write scene x name v)) is)

-- The object and the key of a property, by the values of the parts that were lowered for it.
abbrev placed : Scene → Pieces → MemberKey → Action (Value × Key)
placed scene parts key ways k = values_in scene parts ways (λ vs. k (first_piece vs, key_by key vs))

placed_is : {w : Word} {fields parts : Pieces} {pieces : List Piece} {object : Place} {key : MemberKey} {names : Names} {s t : State}
    → IsMember w fields parts pieces object key → LoweredAll names parts s t pieces → refusals_in names parts ≡ [] → (scene : Scene)
    (there : At) → placed scene parts key ≡ place scene (Node there w fields)
placed_is is all none scene there = λ i ways k source answers. member_means is all none scene there ways k source answers i

-- In the port the value comes before the property.
abbrev taken_in : (ported : Bool) → Scene → (place : Action (Value × Key)) → (right : Action Value) → Action Value
taken_in ported scene place right =
    if ported then (right >>= (λ v. place >>= (λ p. write_property scene p.0 p.1 v)))
    else (place >>= (λ p. right >>= (λ v. write_property scene p.0 p.1 v)))

property_assigned : {w : Word} {fields parts : Pieces} {pieces : List Piece} {object : Place} {key : MemberKey}
    → IsMember w fields parts pieces object key → (scene : Scene) → scene.ported ≡ true → (at there : At) (right : Syntax)
    → taken_in true scene (place scene (Node there w fields)) (eval scene right)
    ≡ eval scene (Node at word.Assign (Then (Said (codes "=")) (Then (Node there w fields) (Then right End))))
property_assigned {fields} Static scene ported at there right =
    sym (ap (λ (b : Bool). taken_in b scene (place scene (Node there word.Member fields)) (eval scene right)) ported)
property_assigned {fields} _ scene ported at there right =
    sym (ap (λ (b : Bool). taken_in b scene (place scene (Node there word.Index fields)) (eval scene right)) ported)

-- The value of an operator over an old value and a right part.
abbrev pub combined : Scene → BinaryOperator → (old right : Action Value) → Action Value
combined scene applied old right = old >>= (λ v. right >>= (λ w. ask scene (binary (operator_text applied) v w)))

each_text : (operator : AssignmentOperator)
    → IfSome (applied_by operator) (λ applied. operator_in (assignment_text operator) ≡ operator_text applied)
each_text assignments.Assign = tt
each_text assignments.LogicalOr = tt
each_text assignments.LogicalAnd = tt
each_text assignments.LogicalNullish = tt
each_text _ = refl

-- The text of a compound assignment is that of its operator, with `=` behind.
applied_text : (operator : AssignmentOperator) (applied : BinaryOperator) → applied_by operator ≡ Some applied
    → operator_in (assignment_text operator) ≡ operator_text applied
applied_text operator applied is =
    subst (λ (o : Option BinaryOperator). IfSome o (λ applied. operator_in (assignment_text operator) ≡ operator_text applied)) is
    (each_text operator)

compound_means : (scene : Scene) (at : At) (operator : AssignmentOperator) (applied : BinaryOperator) (target right : Syntax)
    → applied_by operator ≡ Some applied
    → eval scene (Node at word.Assign (Then (Said (assignment_text operator)) (Then target (Then right End))))
    ≡ compound scene (operator_text applied) target (place scene target) (eval scene right)
compound_means scene at operator applied target right is =
    ap {B = Action Value} (λ (b : Bool). if b then assignment scene target (place scene target) (assign_to scene target) (eval scene right)
    else if is_logical (assignment_text operator) then no_meaning
    else compound scene (operator_in (assignment_text operator)) target (place scene target) (eval scene right))
    (applied_plain operator applied is).0
    ∙ ap {B = Action Value} (λ (b : Bool). if b then no_meaning
    else compound scene (operator_in (assignment_text operator)) target (place scene target) (eval scene right))
    (applied_plain operator applied is).1
    ∙ ap (λ (l : List ℕ). compound scene l target (place scene target) (eval scene right)) (applied_text operator applied is)

pub name_compound : (scene : Scene) (names : Names) (at there : At) (name : List ℕ) (m : Meaning) (operator : AssignmentOperator)
    (applied : BinaryOperator) (right : Syntax) → scene.names ≡ names → names.meaning there.reference.0 name ≡ m
    → applied_by operator ≡ Some applied
    → (combined scene applied (eval scene (Node there word.Id (Then (Said name) End))) (eval scene right) >>= (λ v. write scene m name v))
    ≡ eval scene
    (Node at word.Assign (Then (Said (assignment_text operator)) (Then (Node there word.Id (Then (Said name) End)) (Then right End))))
name_compound scene names at there name m operator applied right same is applies =
    name_written scene names there name m same is
    (combined scene applied (eval scene (Node there word.Id (Then (Said name) End))) (eval scene right))
    ∙ sym (compound_means scene at operator applied (Node there word.Id (Then (Said name) End)) right applies)

abbrev changed_in : Scene → BinaryOperator → (place : Action (Value × Key)) → (right : Action Value) → Action Value
changed_in scene applied place right =
    place >>= (λ p. combined scene applied (ask scene (load p.0 p.1)) right >>= (λ v. write_property scene p.0 p.1 v))

property_changed : {w : Word} {fields parts : Pieces} {pieces : List Piece} {object : Place} {key : MemberKey}
    → IsMember w fields parts pieces object key → (scene : Scene) (there : At) (applied : BinaryOperator) (right : Action Value)
    → changed_in scene applied (place scene (Node there w fields)) right
    ≡ compound scene (operator_text applied) (Node there w fields) (place scene (Node there w fields)) right
property_changed Static scene there applied right = refl
property_changed _ scene there applied right = refl

-- Runs of the steps of an assignment.

-- An expression whose value is dropped, and another behind it.
pub behind_runs : (world : World) (s mid new : State) (d e : Action Value) (first second : ℕ) → Extends s mid → Extends mid new
    → RunsExpression world d s mid first → RunsExpression world e mid new second
    → RunsExpression world (λ ways k. d ways (λ v. e ways k)) s new second
behind_runs world s mid new d e first second g1 g2 r1 r2 = record {
  fresh = omega (arith, r2.fresh, g1.identifiers);
  made = r2.made;
  free = λ c cover sound. r2.free c cover (g1.sound sound);
  runs = λ c cover sound shares ways k source store notes answers a throws onward.
      use_expression ways (λ v. e ways k) r1 (contained_before g2 cover) sound shares (inside (extends_refl s) g2) throws (since_start a)
      (λ v source1 store1 notes1 answers1 t u is.
      use_expression ways k r2 cover (g1.sound sound) shares (inside g1 (extends_refl new))
      (same_throws c (between s new) store notes answers s mid ways.throws g1.handlers throws) t
      (λ w source2 store2 notes2 answers2 t2 u2 is2. onward.goes w source2 store2 notes2 answers2 t2 is2));
}

-- A variable is looked up behind an expression, and takes its value.
pub variable_runs : (scene : Scene) (names : Names) (s t : State) (d : Action Value) (symbol : SymbolId) (name : List ℕ) (there : Span)
    (identifier : ℕ) (value : Place) (span : Option Span) → Extends s t → IsFound names t symbol there identifier
    → RunsExpression scene.world d s t value.identifier.0
    → RunsExpression scene.world (d >>= (λ v. write scene (Local symbol) name v)) s
    (with_value (found names t symbol there) (assigned_to identifier there value) span)
    (length (found names t symbol there).env.identifiers)
variable_runs scene names s t d symbol name there identifier value span g f r =
    stored_runs scene.world s (found names t symbol there) d symbol.0 kinds.Reassign (variable_at identifier there) value span
    (extends_then g (extends_resolved t (names.name symbol.0) symbol.0 (Some there) f.agree)) f.bound
    (looked_up_last (names.name symbol.0) symbol.0 (Some there) t f.agree r)

-- Any other name takes the value.
pub outer_runs : (scene : Scene) (s t : State) (d : Action Value) (binding : NonLocalBinding) (name : List ℕ) (value : Place)
    (span : Option Span) → Extends s t → RunsExpression scene.world d s t value.identifier.0
    → RunsExpression scene.world (d >>= (λ v. write scene (Outer binding) name v)) s
    (with_value t (values.StoreGlobal name value) span) (length t.env.identifiers)
outer_runs scene s t d binding name value span g r =
    all_kept scene.world s t (λ ways k. d ways (λ v. k (v ∷ []))) (value.identifier.0 ∷ []) (values.StoreGlobal name value) span g
    (λ vs. store_global name (first_piece vs)) first_piece (λ store. refl) (one_runs scene.world s t d value.identifier.0 r)

-- The value of an operator over two expressions.
pub combined_runs : (scene : Scene) (s t u : State) (old right : Action Value) (applied : BinaryOperator) (q p : Place) (span : Span)
    → Extends s t → Extends t u → RunsExpression scene.world old s t q.identifier.0 → RunsExpression scene.world right t u p.identifier.0
    → RunsExpression scene.world (combined scene applied old right) s (name_computed u applied q p span) (length u.env.identifiers)
combined_runs scene s t u old right applied q p span g h first second =
    all_asked scene.world s u (λ ways k. old ways (λ v. right ways (λ w. k (v ∷ w ∷ []))))
    (q.identifier.0 ∷ p.identifier.0 ∷ []) (values.BinaryExpression applied q p) (Some span) (extends_then g h)
    (λ vs. binary (operator_text applied) (first_piece vs) (first_piece (later_pieces vs))) (λ store. refl)
    (next_runs scene.world s t u old (λ ways k. right ways (λ w. k (w ∷ []))) q.identifier.0 (p.identifier.0 ∷ []) g h first
    (one_runs scene.world t u right p.identifier.0 second))

-- An instruction leaves the identifiers of symbols as they are.

bindings_under : (handler : Option BlockId) (s : State) (i : Instruction) → (pushed_under handler s i).bindings ≡ s.bindings
bindings_under None s i = refl
bindings_under (Some handler) s i = refl

bound_value : (s : State) (v : InstructionValue) (span : Option Span) (symbol identifier : ℕ)
    → identifier_of s.bindings symbol ≡ Some identifier → identifier_of (with_value s v span).bindings symbol ≡ Some identifier
bound_value s v span symbol identifier bound =
    ap (λ (l : List Pair). identifier_of l symbol)
    (bindings_under (innermost s.handlers) (with_temporary s span) (unordered (temporary s span) v span)) ∙ bound

-- A variable takes a value and is loaded again, and so the value of the load is the one that it took.
module _ (scene : Scene) (names : Names) (s u : State) (d : Action Value) (symbol : SymbolId) (name : List ℕ) (applied : BinaryOperator)
    (q p : Place) (at there : Span) (identifier : ℕ) (g : Extends s u)
    (f : IsFound names (name_computed u applied q p at) symbol there identifier)
    (r : RunsExpression scene.world d s (name_computed u applied q p at) (length u.env.identifiers)) where
  abbrev computed : State
  computed = name_computed u applied q p at

  abbrev stored : State
  stored = name_stored names u applied q p at there symbol identifier

  abbrev mid : State
  mid = found names computed symbol there

  to_computed : Extends s computed
  to_computed = extends_then g (extends_value u (values.BinaryExpression applied q p) (Some at))

  to_stored : Extends s stored
  to_stored =
      extends_then to_computed
      (extends_then (extends_resolved computed (names.name symbol.0) symbol.0 (Some there) f.agree)
      (extends_value mid (assigned_to identifier there (temporary u (Some at))) (Some at)))

  read_back : (ways : Ways) (k : ValueCont) (source : Store) (answers : List Answer)
      → d ways (λ v. write scene (Local symbol) name v ways (λ w. variable symbol.0 ways k)) source answers
      ≡ d ways (λ v. write scene (Local symbol) name v ways k) source answers
  read_back ways k source answers =
      λ i. d ways (λ v after rest. k (set_same after symbol.0 v i) (set after symbol.0 v) rest) source answers

  pub reloaded_runs : RunsExpression scene.world (d >>= (λ v. write scene (Local symbol) name v)) s
      (name_reloaded names u applied q p at there symbol identifier) (length stored.env.identifiers)
  reloaded_runs =
      means_same scene.world s (name_reloaded names u applied q p at there symbol identifier) (length stored.env.identifiers) read_back
      (behind_runs scene.world s stored (name_reloaded names u applied q p at there symbol identifier)
      (d >>= (λ v. write scene (Local symbol) name v)) (variable symbol.0) (length mid.env.identifiers) (length stored.env.identifiers)
      to_stored (extends_value stored (values.LoadLocal (variable_at identifier there)) (Some at))
      (variable_runs scene names s computed d symbol name there identifier (temporary u (Some at)) (Some at) to_computed f r)
      (local_runs scene.world stored symbol.0 (variable_at identifier there) (Some at)
      (bound_value mid (assigned_to identifier there (temporary u (Some at))) (Some at) symbol.0 identifier f.bound)))

-- A property takes the value of an expression in front of its parts.
pub property_runs : {w : Word} {fields parts : Pieces} {pieces : List Piece} {object : Place} {key : MemberKey}
    (is : IsMember w fields parts pieces object key) (scene : Scene) (s t u : State) (right : Action Value) (p : Place) (there : Span)
    → Extends s t → Extends t u → RunsExpression scene.world right s t p.identifier.0
    → RunsAll scene.world (values_in scene parts) t u (identifiers_in pieces)
    → RunsExpression scene.world (taken_in true scene (placed scene parts key) right) s
    (with_value u (store_of object key p) (Some there)) (length u.env.identifiers)
property_runs {parts} {pieces} {object} {key} is scene s t u right p there g h r rs =
    all_kept scene.world s u (λ ways k. right ways (λ v. values_in scene parts ways (λ vs. k (v ∷ vs))))
    (p.identifier.0 ∷ identifiers_in pieces) (store_of object key p) (Some there) (extends_then g h)
    (λ vs. store_in (first_piece (later_pieces vs)) (key_by key (later_pieces vs)) (first_piece vs)) first_piece
    (λ store. store_acts is (length u.env.identifiers) p store)
    (next_runs scene.world s t u right (values_in scene parts) p.identifier.0 (identifiers_in pieces) g h r rs)

-- A property takes the value of an operator over its old value, which is loaded behind its parts, and an expression behind that.
module _ {w : Word} {fields parts : Pieces} {pieces : List Piece} {object : Place} {key : MemberKey}
    (is : IsMember w fields parts pieces object key) (scene : Scene) (s t u : State) (right : Action Value) (applied : BinaryOperator)
    (p : Place) (there : Span) (g : Extends s t) (h : Extends (with_value t (load_of object key) (Some there)) u)
    (rs : RunsAll scene.world (values_in scene parts) s t (identifiers_in pieces))
    (r : RunsExpression scene.world right (with_value t (load_of object key) (Some there)) u p.identifier.0) where
  abbrev ids : List ℕ
  ids = identifiers_in pieces

  abbrev loaded : State
  loaded = with_value t (load_of object key) (Some there)

  abbrev done : State
  done = member_computed t u applied p there

  abbrev old : ℕ
  old = length t.env.identifiers

  abbrev new : ℕ
  new = length u.env.identifiers

  to_loaded : Extends s loaded
  to_loaded = extends_then g (extends_value t (load_of object key) (Some there))

  abbrev sum : InstructionValue
  sum = values.BinaryExpression applied (temporary t (Some there)) p

  -- The values of the parts behind one more value, and behind three.

  abbrev with_old : Action (List Value)
  with_old ways k =
      values_in scene parts ways (λ vs. ask scene (load (first_piece vs) (key_by key vs)) ways (λ v. k (v ∷ vs)))

  abbrev with_right : Action (List Value)
  with_right ways k = with_old ways (λ vs. right ways (λ w. k (w ∷ vs)))

  abbrev summed : List Value → Event
  summed vs = binary (operator_text applied) (first_piece (later_pieces vs)) (first_piece vs)

  abbrev with_new : Action (List Value)
  with_new ways k = with_right ways (λ vs. ask scene (summed vs) ways (λ v. k (v ∷ vs)))

  abbrev behind : List Value → List Value
  behind vs = later_pieces (later_pieces (later_pieces vs))

  -- The expression does not use the values in front of it.
  alone : RunsOver scene.world (λ vs. right) loaded u (old ∷ ids) p.identifier.0
  alone = record {
    fresh = r.fresh;
    made = r.made;
    free = r.free;
    runs = λ c cover sound shares ways k vs source store notes answers a are throws onward.
        r.runs c cover sound shares ways k source store notes answers a throws onward;
  }

  old_runs : RunsAll scene.world with_old s loaded (old ∷ ids)
  old_runs =
      fronted_runs scene.world s t loaded (values_in scene parts) ids g (extends_value t (load_of object key) (Some there)) rs
      (λ vs. ask scene (load (first_piece vs) (key_by key vs))) old
      (over_asked scene.world t ids (load_of object key) (Some there) (λ vs. load (first_piece vs) (key_by key vs))
      (λ store. load_acts is old store))

  right_runs : RunsAll scene.world with_right s u (p.identifier.0 ∷ old ∷ ids)
  right_runs =
      fronted_runs scene.world s loaded u with_old (old ∷ ids) to_loaded h old_runs (λ vs. right) p.identifier.0 alone

  new_runs : RunsAll scene.world with_new s done (new ∷ p.identifier.0 ∷ old ∷ ids)
  new_runs =
      fronted_runs scene.world s u done with_right (p.identifier.0 ∷ old ∷ ids) (extends_then to_loaded h)
      (extends_value u sum (Some there)) right_runs (λ vs. ask scene (summed vs)) new
      (over_asked scene.world u (p.identifier.0 ∷ old ∷ ids) sum (Some there) summed (λ store. refl))

  pub changed_runs : RunsExpression scene.world (changed_in scene applied (placed scene parts key) right) s
      (member_assigned t u object key applied p there) (length done.env.identifiers)
  changed_runs =
      all_kept scene.world s done with_new (new ∷ p.identifier.0 ∷ old ∷ ids) (store_of object key (temporary u (Some there)))
      (Some there) (extends_then (extends_then to_loaded h) (extends_value u sum (Some there)))
      (λ vs. store_in (first_piece (behind vs)) (key_by key (behind vs)) (first_piece vs)) first_piece
      (λ store. store_acts is (length done.env.identifiers) (temporary u (Some there)) store) new_runs

-- Assignments to properties, by their meaning.

pub assigned_member_runs : {w : Word} {fields parts : Pieces} {pieces : List Piece} {object : Place} {key : MemberKey} {names : Names}
    (is : IsMember w fields parts pieces object key) (scene : Scene) (at there : At) (right : Syntax) (s t u : State) (p : Place)
    → scene.ported ≡ true → LoweredAll names parts t u pieces → refusals_in names parts ≡ [] → Extends s t → Extends t u
    → RunsExpression scene.world (eval scene right) s t p.identifier.0
    → RunsAll scene.world (values_in scene parts) t u (identifiers_in pieces)
    → RunsExpression scene.world
    (eval scene (Node at word.Assign (Then (Said (codes "=")) (Then (Node there w fields) (Then right End))))) s
    (with_value u (store_of object key p) (Some there.span)) (length u.env.identifiers)
assigned_member_runs {object} {key} is scene at there right s t u p ported all none g h r rs =
    means_same scene.world s (with_value u (store_of object key p) (Some there.span)) (length u.env.identifiers)
    (λ ways k source answers. ap (λ (a : Action Value). a ways k source answers)
    (ap (λ (a : Action (Value × Key)). taken_in true scene a (eval scene right)) (placed_is is all none scene there)
    ∙ property_assigned is scene ported at there right))
    (property_runs is scene s t u (eval scene right) p there.span g h r rs)

pub compound_member_runs : {w : Word} {fields parts : Pieces} {pieces : List Piece} {object : Place} {key : MemberKey} {names : Names}
    (is : IsMember w fields parts pieces object key) (scene : Scene) (at there : At) (operator : AssignmentOperator)
    (applied : BinaryOperator) (right : Syntax) (s t u : State) (p : Place) → applied_by operator ≡ Some applied
    → LoweredAll names parts s t pieces → refusals_in names parts ≡ [] → Extends s t
    → Extends (with_value t (load_of object key) (Some there.span)) u
    → RunsAll scene.world (values_in scene parts) s t (identifiers_in pieces)
    → RunsExpression scene.world (eval scene right) (with_value t (load_of object key) (Some there.span)) u p.identifier.0
    → RunsExpression scene.world
    (eval scene (Node at word.Assign (Then (Said (assignment_text operator)) (Then (Node there w fields) (Then right End))))) s
    (member_assigned t u object key applied p there.span) (length (member_computed t u applied p there.span).env.identifiers)
compound_member_runs {w} {fields} {object} {key} is scene at there operator applied right s t u p applies all none g h rs r =
    means_same scene.world s (member_assigned t u object key applied p there.span)
    (length (member_computed t u applied p there.span).env.identifiers)
    (λ ways k source answers. ap (λ (a : Action Value). a ways k source answers)
    (ap (λ (a : Action (Value × Key)). changed_in scene applied a (eval scene right)) (placed_is is all none scene there)
    ∙ property_changed is scene there applied (eval scene right)
    ∙ sym (compound_means scene at operator applied (Node there w fields) right applies)))
    (changed_runs is scene s t u (eval scene right) applied p there.span g h rs r)
