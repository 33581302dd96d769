-- The stores in which runs begin: parameters that are plain names take their arguments by symbol in the source, and all parameters by place
-- in the graph.
use Rattle.std.proofs.Common.{◌≡◌, ℕ, ◌<◌, Bool, true, false, true≢false, not, List, [], ◌∷◌, length, length-append, map, Option}
use Rattle.std.proofs.Common.{Some, None, refl, sym, ap, ◌∙◌, subst, arith}
use Rattle.std.specs.Option.{is_some}
use Rattle.rl_builder.specs.Builder.{with_temporary}
use Rattle.rl_hir.specs.Pairs.{identifier_of}
use Rattle.rl_hir.specs.declared.function.Param.{Param}
use Rattle.rl_lowered.proofs.Blocks.{moved_blocks, params_blocks, pattern_blocks}
use Rattle.rl_lowered.proofs.Catches.{extends_promoted, length_promoted}
use Rattle.rl_lowered.proofs.Common.{At, End, Names, Node, Pieces, Span, State, SymbolId, Syntax, Then}
use Rattle.rl_lowered.proofs.ItemBlocks.{blocks_found}
use Rattle.rl_lowered.proofs.ParamRuns.{moved_there}
use Rattle.rl_lowered.specs.Items.{caught, promoted}
use Rattle.rl_lowered.specs.Lowered.{DefaultParam, LoweredParams, NoParam, PatternParam, PlainParam, RestParam}
use Rattle.rl_lowered.specs.Named.{found}
use Rattle.rl_lowered.specs.Params.{HaveArguments}
use Rattle.rl_machine.specs.Traces.{Cont, Store, set, take_values}
use Rattle.rl_machine.specs.declared.trace.Answer.{Answer}
use Rattle.rl_machine.specs.declared.trace.Value.{Value}
use Rattle.rl_model.specs.Actions.{Ways}
use Rattle.rl_model.specs.Expressions.{first_piece, later_pieces}
use Rattle.rl_model.specs.Functions.{is_plain, take_arguments}
use Rattle.rl_model.specs.Patterns.{declare}
use Rattle.rl_model.specs.Runs.{param_identifier}
use Rattle.rl_model.specs.Scene.{Scene}
use Rattle.rl_model.specs.Shapes.{is_absent}
use Rattle.rl_names.specs.Locals.{AreDeclared}
use Rattle.rl_optional_frames.proofs.DefaultBlocks.{default_blocks}
use Rattle.rl_promises.specs.Lowerable.{Where}
use Rattle.rl_promises.specs.Patterns.{takes_apart}
use Rattle.rl_runs.proofs.FinalNames.{covers_before, nobody_fresh}
use Rattle.rl_runs.proofs.Moves.{extends_then}
use Rattle.rl_runs.proofs.Shared.{agrees_store}
use Rattle.rl_runs.proofs.Steps.{set_other, set_same}
use Rattle.rl_runs.specs.Continuations.{Agrees}
use Rattle.rl_runs.specs.Facts.{AreOne, CoversNames, Extends, HasSoundNames, Nobody}
use Rattle.rl_semantic.specs.Items.{of_item}
use Rattle.rl_syntax.specs.Syntax.{Absent}
use Rattle.rl_syntax.specs.declared.word.Word.TheVariants as word

-- A parameter that is a plain name takes its argument. Any other takes none.
abbrev pub set_plain : Names → (param : Syntax) → Value → Store → Store
set_plain names (Node at word.Param (Then (Node bind word.Bind parts) (Then Absent End))) v store =
    of_item store (λ (symbol : SymbolId). set store symbol.0 v) (names.declared bind.id.0)
set_plain names param v store = store

-- As `set_plain`, for parameters in a row.
abbrev pub take_plain : Names → (params : Pieces) → (arguments : List Value) → Store → Store
take_plain names End arguments store = store
take_plain names (Then param params) arguments store =
    take_plain names params (later_pieces arguments) (set_plain names param (first_piece arguments) store)

-- The arguments behind those of the parameters.
abbrev pub left_behind : (params : Pieces) → (arguments : List Value) → List Value
left_behind End arguments = arguments
left_behind (Then param params) arguments = left_behind params (later_pieces arguments)

-- In the port's run the plain parameters take their arguments in the first round.
pub plain_taken : (scene : Scene) (params : Pieces) → AreDeclared scene.names params → (ways : Ways) (onward : List Value → Cont)
    (arguments : List Value) (store : Store) (answers : List Answer)
    → take_arguments scene is_plain params arguments ways onward store answers
    ≡ onward (left_behind params arguments) (take_plain scene.names params arguments store) answers
plain_taken scene End declared ways onward arguments store answers = refl
plain_taken scene (Then (Node at word.Param (Then (Node bind word.Bind parts) (Then Absent End))) params) declared ways onward arguments
    store answers =
    by_symbol (λ later. plain_taken scene params declared.1 ways onward (later_pieces arguments) later answers)
    (scene.names.declared bind.id.0) declared.0
  where
    by_symbol : ((later : Store) → take_arguments scene is_plain params (later_pieces arguments) ways onward later answers
        ≡ onward (left_behind params (later_pieces arguments)) (take_plain scene.names params (later_pieces arguments) later) answers)
        → (o : Option SymbolId) → is_some o ≡ true
        → declare o (first_piece arguments) ways
        (λ (end : Unit {0}). take_arguments scene is_plain params (later_pieces arguments) ways onward) store answers
        ≡ onward (left_behind params (later_pieces arguments))
        (take_plain scene.names params (later_pieces arguments)
        (of_item store (λ (symbol : SymbolId). set store symbol.0 (first_piece arguments)) o)) answers
    by_symbol behind None none = absurd (true≢false (sym none))
    by_symbol behind (Some symbol) there = behind (set store symbol.0 (first_piece arguments))
plain_taken scene (Then param params) declared ways onward arguments store answers =
    plain_taken scene params declared.1 ways onward (later_pieces arguments) store answers

-- Which parameters take none.

pattern_kept : (names : Names) (there : At) (pattern : Syntax) → takes_apart pattern ≡ true → (v : Value) (store : Store)
    → set_plain names (Node there word.Param (Then pattern (Then Absent End))) v store ≡ store
pattern_kept names there (Node at word.Bind parts) is v store = absurd (true≢false (sym is))
pattern_kept names there _ is v store = refl

default_kept : (names : Names) (there : At) (pattern default : Syntax) → is_absent default ≡ false → (v : Value) (store : Store)
    → set_plain names (Node there word.Param (Then pattern (Then default End))) v store ≡ store
default_kept names there (Node at word.Bind parts) Absent is v store = absurd (true≢false is)
default_kept names there (Node at word.Bind parts) _ is v store = refl
default_kept names there _ _ is v store = refl

-- The first place takes the first argument.
take_next : (id : ℕ) (ids : List ℕ) (arguments : List Value) (store : Store)
    → take_values (id ∷ ids) arguments store ≡ take_values ids (later_pieces arguments) (set store id (first_piece arguments))
take_next id ids [] store = refl
take_next id ids (v ∷ arguments) store = refl

where_given : {X : Type 0} (b : Bool) → X → Where b X
where_given true x = x
where_given false x = tt

module _ (ident : ℕ → Option ℕ) where
  -- An identifier that is nobody's takes a value.
  agrees_free : (source store : Store) (id : ℕ) (v : Value) → Nobody ident id → Agrees ident source store
      → Agrees ident source (set store id v)
  agrees_free source store id v nobody a = record {
    at = λ symbol found is.
        set_other store id found v (λ e. nobody symbol (is ∙ ap (λ (n : ℕ). Some n) e)) ∙ a.at symbol found is;
  }

  abbrev pub Covers : State → Type 0
  Covers s = CoversNames s.env.pairs (length s.env.identifiers) ident

  covers_at : {s t : State} → Extends s t → Covers t → Covers s
  covers_at {s} {t} g k =
      covers_before s.env.pairs t.env.pairs (length s.env.identifiers) (length t.env.identifiers) ident g.identifiers g.names k

  -- The identifier of a temporary is nobody's.

  temporary_free : (s : State) (span : Span) → HasSoundNames s → Covers (with_temporary s (Some span))
      → Nobody ident (length s.env.identifiers)
  temporary_free s span sound k =
      nobody_fresh s (length (with_temporary s (Some span)).env.identifiers) ident (length s.env.identifiers) sound k (omega arith)
      (simp length-append (omega arith))

  promoted_free : (s : State) (span : Span) → HasSoundNames s → Covers (promoted s span) → Nobody ident (length s.env.identifiers)
  promoted_free s span sound k =
      nobody_fresh s (length (promoted s span).env.identifiers) ident (length s.env.identifiers) sound k (omega arith)
      (omega (arith, length_promoted s span))

  -- The identifier of a variable is its own in the end.
  named_kept : (s : State) (symbol identifier : ℕ) → HasSoundNames s → Covers s → identifier_of s.bindings symbol ≡ Some identifier
      → ident symbol ≡ Some identifier
  named_kept s symbol identifier sound k bound = k.kept symbol identifier (sym (sound.same symbol) ∙ bound)

  -- An identifier that was made in front of the parameters, and is nobody's, keeps its value.
  params_kept : {names : Names} {es : Pieces} {rest : Syntax} {s t : State} {ps : List Param} → LoweredParams names es rest s t ps
      → Covers t
      → HasSoundNames s → (arguments : List Value) (store : Store) (id : ℕ) → Nobody ident id → id < length s.env.identifiers
      → take_values (map param_identifier ps) arguments store id ≡ store id
  params_kept (NoParam s) k sound arguments store id nobody below = refl
  params_kept (RestParam there pattern s t p d) k sound arguments store id nobody below =
      ap (λ (x : Store). x id) (take_next (length s.env.identifiers) [] arguments store)
      ∙ set_other store (length s.env.identifiers) id (first_piece arguments) (λ e. absurd (omega (arith, below, e)))
  params_kept {names} (PlainParam there bind_at name type rest more symbol identifier s t ps annotated is f ds) k sound arguments store id
      nobody below =
      let g = (blocks_found names s symbol bind_at.span identifier f).extends in
      let x : State = found names s symbol bind_at.span in
      let own : ident symbol.0 ≡ Some identifier =
      named_kept x symbol.0 identifier (g.sound sound) (covers_at (params_blocks ds).extends k) f.bound in
      ap (λ (y : Store). y id) (take_next identifier (map param_identifier ps) arguments store)
      ∙ params_kept ds k (g.sound sound) (later_pieces arguments) (set store identifier (first_piece arguments)) id nobody
      (omega (arith, below, g.identifiers))
      ∙ set_other store identifier id (first_piece arguments) (λ e. nobody symbol.0 (own ∙ ap (λ (n : ℕ). Some n) (sym e)))
  params_kept (PatternParam there pattern rest more s t u p ps is d ds) k sound arguments store id nobody below =
      let g1 = extends_promoted s there.span in
      let g2 = (pattern_blocks d).extends in
      ap (λ (y : Store). y id) (take_next (length s.env.identifiers) (map param_identifier ps) arguments store)
      ∙ params_kept ds k (g2.sound (g1.sound sound)) (later_pieces arguments)
      (set store (length s.env.identifiers) (first_piece arguments)) id
      nobody (omega (arith, below, g1.identifiers, g2.identifiers))
      ∙ set_other store (length s.env.identifiers) id (first_piece arguments) (λ e. absurd (omega (arith, below, e)))
  params_kept (DefaultParam there pattern default rest more s t u v q p ps d dt ds) k sound arguments store id nobody below =
      let g1 = extends_promoted s there.span in
      let g2 = extends_then (default_blocks (promoted s there.span) t q (caught s there.span) there.span (moved_blocks d)).extends
      (pattern_blocks dt).extends in
      ap (λ (y : Store). y id) (take_next (length s.env.identifiers) (map param_identifier ps) arguments store)
      ∙ params_kept ds k (g2.sound (g1.sound sound)) (later_pieces arguments)
      (set store (length s.env.identifiers) (first_piece arguments)) id
      nobody (omega (arith, below, g1.identifiers, g2.identifiers))
      ∙ set_other store (length s.env.identifiers) id (first_piece arguments) (λ e. absurd (omega (arith, below, e)))

  -- The first place, and those behind it.

  next_have : (b : Bool) (id : ℕ) (more : Pieces) (ps : List Param) (arguments : List Value) (store : Store)
      → take_values (map param_identifier ps) (later_pieces arguments) (set store id (first_piece arguments)) id
      ≡ set store id (first_piece arguments) id
      → HaveArguments (take_values (map param_identifier ps) (later_pieces arguments) (set store id (first_piece arguments))) more ps
      (later_pieces arguments)
      → Where b (take_values (id ∷ map param_identifier ps) arguments store id ≡ first_piece arguments)
      × HaveArguments (take_values (id ∷ map param_identifier ps) arguments store) more ps (later_pieces arguments)
  next_have b id more ps arguments store kept have = (
    where_given b (ap (λ (y : Store). y id) (take_next id (map param_identifier ps) arguments store) ∙ kept
        ∙ set_same store id (first_piece arguments)),
    subst (λ (y : Store). HaveArguments y more ps (later_pieces arguments))
        (sym (take_next id (map param_identifier ps) arguments store)) have,
  )

  next_agrees : (names : Names) (id : ℕ) (more : Pieces) (ps : List Param) (arguments : List Value) (source store : Store)
      → Agrees ident (take_plain names more (later_pieces arguments) source)
      (take_values (map param_identifier ps) (later_pieces arguments) (set store id (first_piece arguments)))
      → Agrees ident (take_plain names more (later_pieces arguments) source) (take_values (id ∷ map param_identifier ps) arguments store)
  next_agrees names id more ps arguments source store a =
      subst (λ (y : Store). Agrees ident (take_plain names more (later_pieces arguments) source) y)
      (sym (take_next id (map param_identifier ps) arguments store)) a

  other_agrees : (names : Names) (param : Syntax) (id : ℕ) (more : Pieces) (ps : List Param) (arguments : List Value) (source store : Store)
      → set_plain names param (first_piece arguments) source ≡ source
      → Agrees ident (take_plain names more (later_pieces arguments) source)
      (take_values (map param_identifier ps) (later_pieces arguments) (set store id (first_piece arguments)))
      → Agrees ident (take_plain names (Then param more) arguments source) (take_values (id ∷ map param_identifier ps) arguments store)
  other_agrees names param id more ps arguments source store kept a =
      subst (λ (y : Store). Agrees ident (take_plain names more (later_pieces arguments) y)
      (take_values (id ∷ map param_identifier ps) arguments
      store)) (sym kept) (next_agrees names id more ps arguments source store a)

  -- The place of a parameter that is no plain name, or of the rest, has its argument then.
  pub params_have : {names : Names} {es : Pieces} {rest : Syntax} {s t : State} {ps : List Param} → LoweredParams names es rest s t ps
      → Covers t → HasSoundNames s → (arguments : List Value) (store : Store)
      → HaveArguments (take_values (map param_identifier ps) arguments store) es ps arguments
  params_have (NoParam s) k sound arguments store = tt
  params_have (RestParam there pattern s t p d) k sound arguments store =
      ap (λ (y : Store). y (length s.env.identifiers)) (take_next (length s.env.identifiers) [] arguments store)
      ∙ set_same store (length s.env.identifiers) (first_piece arguments)
  params_have {names} (PlainParam there bind_at name type rest more symbol identifier s t ps annotated is f ds) k sound arguments store =
      let g = (blocks_found names s symbol bind_at.span identifier f).extends in (
        tt,
        subst (λ (y : Store). HaveArguments y more ps (later_pieces arguments))
            (sym (take_next identifier (map param_identifier ps) arguments store))
            (params_have ds k (g.sound sound) (later_pieces arguments) (set store identifier (first_piece arguments))),
      )
  params_have (PatternParam there pattern rest more s t u p ps is d ds) k sound arguments store =
      let g1 = extends_promoted s there.span in
      let g2 = (pattern_blocks d).extends in
      let free = promoted_free s there.span sound (covers_at (extends_then g2 (params_blocks ds).extends) k) in
      next_have (not (is_plain (Node there word.Param (Then pattern (Then Absent End))))) (length s.env.identifiers) more ps arguments store
      (params_kept ds k (g2.sound (g1.sound sound)) (later_pieces arguments) (set store (length s.env.identifiers) (first_piece arguments))
      (length s.env.identifiers) free (omega (arith, length_promoted s there.span, g2.identifiers)))
      (params_have ds k (g2.sound (g1.sound sound)) (later_pieces arguments) (set store (length s.env.identifiers) (first_piece arguments)))
  params_have (DefaultParam there pattern default rest more s t u v q p ps d dt ds) k sound arguments store =
      let g1 = extends_promoted s there.span in
      let g2 = extends_then (default_blocks (promoted s there.span) t q (caught s there.span) there.span (moved_blocks d)).extends
      (pattern_blocks dt).extends in
      let free = promoted_free s there.span sound (covers_at (extends_then g2 (params_blocks ds).extends) k) in
      next_have (not (is_plain (Node there word.Param (Then pattern (Then default End)))))
      (length s.env.identifiers) more ps arguments store
      (params_kept ds k (g2.sound (g1.sound sound)) (later_pieces arguments) (set store (length s.env.identifiers) (first_piece arguments))
      (length s.env.identifiers) free (omega (arith, length_promoted s there.span, g2.identifiers)))
      (params_have ds k (g2.sound (g1.sound sound)) (later_pieces arguments) (set store (length s.env.identifiers) (first_piece arguments)))

  module _ (one : AreOne ident) where
    -- Stores agree where parameters took their arguments on both sides.
    pub params_agree : {names : Names} {es : Pieces} {rest : Syntax} {s t : State} {ps : List Param} → LoweredParams names es rest s t ps
        → Covers t → HasSoundNames s → (arguments : List Value) (source store : Store) → Agrees ident source store
        → Agrees ident (take_plain names es arguments source) (take_values (map param_identifier ps) arguments store)
    params_agree (NoParam s) k sound arguments source store a = a
    params_agree (RestParam there pattern s t p d) k sound arguments source store a =
        subst (λ (y : Store). Agrees ident source y) (sym (take_next (length s.env.identifiers) [] arguments store))
        (agrees_free source store (length s.env.identifiers) (first_piece arguments)
        (temporary_free s there.span sound (covers_at (pattern_blocks d).extends k)) a)
    params_agree {names} (PlainParam there bind_at name type rest more symbol identifier s t ps annotated is f ds) k sound arguments source
        store a =
        let g = (blocks_found names s symbol bind_at.span identifier f).extends in
        let x : State = found names s symbol bind_at.span in
        let v : Value = first_piece arguments in
        let own : ident symbol.0 ≡ Some identifier =
        named_kept x symbol.0 identifier (g.sound sound) (covers_at (params_blocks ds).extends k) f.bound in
        next_agrees names identifier more ps arguments (of_item source (λ (x : SymbolId). set source x.0 v) (names.declared bind_at.id.0))
        store
        (params_agree ds k (g.sound sound) (later_pieces arguments) _ (set store identifier v)
        (subst (λ (y : Store). Agrees ident y (set store identifier v))
        (sym (ap (λ (o : Option SymbolId). of_item source (λ (x : SymbolId). set source x.0 v) o) is))
        (agrees_store ident one source store symbol.0 identifier v own a)))
    params_agree {names} (PatternParam there pattern rest more s t u p ps is d ds) k sound arguments source store a =
        let g1 = extends_promoted s there.span in
        let g2 = (pattern_blocks d).extends in
        let free = promoted_free s there.span sound (covers_at (extends_then g2 (params_blocks ds).extends) k) in
        other_agrees names (Node there word.Param (Then pattern (Then Absent End)))
        (length s.env.identifiers) more ps arguments source store
        (pattern_kept names there pattern is (first_piece arguments) source)
        (params_agree ds k (g2.sound (g1.sound sound)) (later_pieces arguments) source
        (set store (length s.env.identifiers) (first_piece arguments))
        (agrees_free source store (length s.env.identifiers) (first_piece arguments) free a))
    params_agree {names} (DefaultParam there pattern default rest more s t u v q p ps d dt ds) k sound arguments source store a =
        let g1 = extends_promoted s there.span in
        let g2 = extends_then (default_blocks (promoted s there.span) t q (caught s there.span) there.span (moved_blocks d)).extends
        (pattern_blocks dt).extends in
        let free = promoted_free s there.span sound (covers_at (extends_then g2 (params_blocks ds).extends) k) in
        other_agrees names (Node there word.Param (Then pattern (Then default End)))
        (length s.env.identifiers) more ps arguments source store
        (default_kept names there pattern default (moved_there d) (first_piece arguments) source)
        (params_agree ds k (g2.sound (g1.sound sound)) (later_pieces arguments) source
        (set store (length s.env.identifiers) (first_piece arguments))
        (agrees_free source store (length s.env.identifiers) (first_piece arguments) free a))
