-- Lowered heads of loops over keys or values have the runs of the source, where nothing of them was refused: a variable or a property takes
-- a value.
use Rattle.std.proofs.Common.{◌≡◌, ℕ, ◌++◌, Bool, true, false, if◌then◌else◌, List, [], length}
use Rattle.std.proofs.Common.{Option, Some, refl}
use Rattle.std.proofs.Common.{sym, ap, ◌∙◌}
use Rattle.std.proofs.lemmas.Bool.{or_parts}
use Rattle.rl_hir.specs.declared.instruction.InstructionKind.TheVariants as kinds
use Rattle.rl_hir.specs.declared.instruction.InstructionValue.TheVariants as values
use Rattle.rl_lowered.proofs.Blocks.{all_blocks}
use Rattle.rl_lowered.proofs.Common.{At, End, Names, Node, Piece, Pieces, Place, Said, State, SymbolId, Syntax, Then}
use Rattle.rl_lowered.proofs.ItemBlocks.{blocks_found_again}
use Rattle.rl_lowered.proofs.Clean.{constant_head_never, first_none, lost_head_never, member_head_clean}
use Rattle.rl_lowered.proofs.Forms.{identifiers_in, key_by, store_acts}
use Rattle.rl_lowered.proofs.Meant.{member_means}
use Rattle.rl_lowered.proofs.PatternRuns.{binding_runs}
use Rattle.rl_lowered.proofs.Runs.{all_runs, target_runs}
use Rattle.rl_lowered.proofs.TargetForms.{pattern_head_refuses}
use Rattle.rl_lowered.proofs.TargetMoves.{asked_pattern, pattern_same, variable_pattern}
use Rattle.rl_lowered.specs.Forms.{IsMember, MemberKey, Static, store_of}
use Rattle.rl_lowered.specs.Items.{found_again}
use Rattle.rl_lowered.specs.Lowered.{Declared, DeclaredPattern, StoredPattern, Lost, LoweredHead, Reassigned, ReassignedConstant, StoredGlobal, StoredMember}
use Rattle.rl_lowered.specs.Params.{TakesEarly}
use Rattle.rl_lowered.specs.Named.{found}
use Rattle.rl_machine.specs.declared.trace.Value.{Value}
use Rattle.rl_machine.specs.Traces.{fired, set_open}
use Rattle.rl_model.specs.Actions.{Action, ◌>>=◌, assign, done, no_meaning}
use Rattle.rl_model.specs.Events.{store_global, store_in}
use Rattle.rl_model.specs.Expressions.{assign_to, first_piece, place, values as values_in, write, write_property}
use Rattle.rl_model.specs.Patterns.{declare}
use Rattle.rl_model.specs.Patterns as patterns
use Rattle.rl_model.specs.Scene.{Scene}
use Rattle.rl_model.specs.Statements.{is_using, take_head}
use Rattle.rl_names.specs.declared.names.Meaning.{Meaning}
use Rattle.rl_names.specs.declared.names.Meaning.TheVariants.{Local, Outer}
use Rattle.rl_promises.specs.Patterns.{is_pattern}
use Rattle.rl_promises.specs.Rows.{refusals, refusals_at_head}
use Rattle.rl_promises.specs.Stops.{has_using}
use Rattle.rl_runs.proofs.Expressions.{none_run}
use Rattle.rl_runs.proofs.Moves.{extends_refl, extends_resolved}
use Rattle.rl_runs.specs.Simulation.{RunsPattern}
use Rattle.rl_syntax.specs.declared.word.Word.{Word}
use Rattle.rl_syntax.specs.declared.word.Word.TheVariants as word
use Rattle.rl_syntax.specs.Syntax.{Listed, Absent}

-- Names and properties.

name_means : (scene : Scene) (names : Names) (at : At) (name : List ℕ) (m : Meaning) → scene.names ≡ names
    → names.meaning at.reference.0 name ≡ m → (v : Value)
    → (write scene m name v >>= (λ w. done)) ≡ take_head scene (Node at word.Id (Then (Said name) End)) v
name_means scene names at name m same is v =
    sym (ap (λ (n : Names). write scene (n.meaning at.reference.0 name) name v >>= (λ w. done)) same
    ∙ ap (λ (x : Meaning). write scene x name v >>= (λ w. done)) is)

member_stores : {w : Word} {fields parts : Pieces} {pieces : List Piece} {object : Place} {key : MemberKey}
    → IsMember w fields parts pieces object key → (scene : Scene) (at : At) (v : Value)
    → take_head scene (Node at w fields) v
    ≡ (place scene (Node at w fields) >>= (λ p. write_property scene p.0 p.1 v >>= (λ w. done)))
member_stores Static scene at v = refl
member_stores _ scene at v = refl

-- A declaration.

declared_meant : (scene : Scene) (names : Names) (at there bind : At) (kind name : List ℕ) (type : Syntax) (symbol : SymbolId)
    → scene.names ≡ names → names.declared bind.id.0 ≡ Some symbol → is_using kind ≡ false → (v : Value)
    → assign symbol.0 v
    ≡ take_head scene
    (Node at word.Var
    (Then (Said kind)
    (Then (Listed (Then (Node there word.Declarator (Then (Node bind word.Bind (Then (Said name) (Then type End))) (Then Absent End))) End))
    End))) v
declared_meant scene names at there bind kind name type symbol same is plain v =
    sym (ap (λ (b : Bool). if b then no_meaning else declare (scene.names.declared bind.id.0) v) plain
    ∙ ap (λ (o : Option SymbolId). declare o v) (ap (λ (n : Names). n.declared bind.id.0) same ∙ is))

pattern_head : (scene : Scene) (at : At) (w : Word) (fields : Pieces) → is_pattern (Node at w fields) ≡ true → (v : Value)
    → assign_to scene (Node at w fields) v ≡ take_head scene (Node at w fields) v
pattern_head scene at word.Arraytarget fields is v = refl
pattern_head scene at word.Objecttarget fields is v = refl
pattern_head scene at _ fields is v = let never : false ≡ true = is in absurd (cc)

pub head_runs : {names : Names} {value : Place} {e : Syntax} {s t : State} {p : Place} → LoweredHead names value e s t p
    → refusals_at_head names e ≡ [] → has_using e ≡ false → (scene : Scene) → scene.names ≡ names → scene.ported ≡ true → TakesEarly scene
    → RunsPattern scene.world (take_head scene e) s t value.identifier.0
head_runs {names} {value} (Declared at there bind kind name type symbol identifier s annotated is f) none unused scene same ported takes =
    pattern_same scene.world s _ value.identifier.0
    (λ v ways k source answers. ap (λ (d : Action (Unit {0})). d ways (λ end. k) source answers)
    (declared_meant scene names at there bind kind name type symbol same is (or_parts (is_using kind) _ unused).0 v))
    (variable_pattern scene.world s (found_again names s symbol identifier bind.span) symbol.0 kinds.Let
    (record { identifier = record { 0 = identifier }; span = Some at.span }) value (Some at.span)
    (blocks_found_again names s symbol bind.span identifier f).extends refl f.bound)
head_runs {names} {value} (Reassigned at name symbol identifier s is mutable f) none unused scene same ported takes =
    pattern_same scene.world s _ value.identifier.0
    (λ v ways k source answers. ap (λ (d : Action (Unit {0})). d ways (λ end. k) source answers)
    (name_means scene names at name (Local symbol) same is v))
    (variable_pattern scene.world s (found names s symbol at.span) symbol.0 kinds.Reassign
    (record { identifier = record { 0 = identifier }; span = Some at.span }) value (Some at.span)
    (extends_resolved s (names.name symbol.0) symbol.0 (Some at.span) f.agree) refl f.bound)
head_runs {names} (ReassignedConstant at name symbol identifier s is constant f) none unused scene same ported takes =
    absurd (constant_head_never names at name symbol is constant none)
head_runs {names} {value} (StoredGlobal at name binding s is) none unused scene same ported takes =
    pattern_same scene.world s _ value.identifier.0
    (λ v ways k source answers. ap (λ (d : Action (Unit {0})). d ways (λ end. k) source answers)
    (name_means scene names at name (Outer binding) same is v))
    (asked_pattern scene.world s s (λ ways k. k []) [] (values.StoreGlobal name value) (Some at.span) value.identifier.0
    (λ vs v. store_global name v) (extends_refl s) (λ store. refl) (none_run scene.world s))
head_runs {names} {value} (StoredMember at w fields parts pieces object key s t is all) none unused scene same ported takes =
    let clean = member_head_clean is names at none in
    pattern_same scene.world s _ value.identifier.0
    (λ v ways k source answers.
    member_means is all clean scene at ways
    (λ p source answers. fired (set_open scene.world.opens) (store_in p.0 p.1 v) source answers (λ a. k) ways.throws) source answers
    ∙ sym (ap (λ (d : Action (Unit {0})). d ways (λ end. k) source answers) (member_stores is scene at v)))
    (asked_pattern scene.world s t (values_in scene parts) (identifiers_in pieces) (store_of object key value) (Some at.span)
    value.identifier.0 (λ vs v. store_in (first_piece vs) (key_by key vs) v) (all_blocks all).extends
    (λ store. store_acts is (length t.env.identifiers) value store) (all_runs all clean scene same ported))
head_runs {names} {value} (DeclaredPattern at there kind pattern s t p is d) none unused scene same ported takes =
    pattern_same scene.world s t value.identifier.0
    (λ v ways k source answers. sym (ap (λ (b : Bool). (if b then no_meaning else patterns.bind scene true pattern v) ways (λ end. k) source answers)
    (or_parts (is_using kind) _ unused).0))
    (binding_runs d (first_none (refusals names pattern) [] (first_none (refusals names pattern ++ []) [] none)) scene same ported takes true)
head_runs {names} {value} (StoredPattern at w fields s t p is d) none unused scene same ported takes =
    pattern_same scene.world s t value.identifier.0
    (λ v ways k source answers. ap (λ (o : Action (Unit {0})). o ways (λ end. k) source answers) (pattern_head scene at w fields is v))
    (target_runs d (sym (pattern_head_refuses names at w fields is) ∙ none) scene same ported)
head_runs {names} (Lost at w fields s is) none unused scene same ported takes = absurd (lost_head_never names at w fields is none)
