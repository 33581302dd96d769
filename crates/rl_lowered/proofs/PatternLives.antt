-- Live nodes of binding patterns, parameters and declarations have an instruction in a block that is reached, where nothing was refused.
use Rattle.std.proofs.Common.{◌≡◌, ◌++◌, Bool, true, List, [], Some, refl, ap, ◌∙◌, append-nil, append_assoc}
use Rattle.rl_builder.specs.Temporaries.{with_value}
use Rattle.rl_hir.specs.declared.function.Param.{Param}
use Rattle.rl_hir.specs.declared.instruction.InstructionKind.{InstructionKind}
use Rattle.rl_hir.specs.declared.instruction.InstructionValue.TheVariants as values
use Rattle.rl_hir.specs.declared.instruction.PrimitiveValue.TheVariants as primitives
use Rattle.rl_lowered.proofs.Blocks.{bound_blocks, declarators_blocks, params_blocks, pattern_blocks}
use Rattle.rl_lowered.proofs.BoundSlots.{AreClean}
use Rattle.rl_lowered.proofs.Clean.{first_none, param_clean, row_clean, second_none}
use Rattle.rl_lowered.proofs.Common.{End, InstructionValue, Names, Node, Pieces, Place, Said, Span, State, Syntax, Then}
use Rattle.rl_lowered.proofs.HeldItems.{binding_held, bound_held, kept_held, nothing_behind}
use Rattle.rl_lowered.proofs.HeldParts.{bind_held, declarator_held}
use Rattle.rl_lowered.proofs.ItemBlocks.{bound_stays, stays_met, stays_passes}
use Rattle.rl_lowered.proofs.LiveFrames.{lives_ahead, value_keyless}
use Rattle.rl_lowered.proofs.Living.{apart_lives, expression_lives, found_lives, lives_behind, lives_same, moved_lives}
use Rattle.rl_lowered.proofs.TargetForms.{binding_clean, default_clean}
use Rattle.rl_lowered.specs.Items.{Later, caught, destructured, met, promoted, variable_at}
use Rattle.rl_lowered.specs.Lowered.{BoundDefault, BoundName, BoundPattern, DefaultParam, LoweredBound, LoweredDeclarators, LoweredParams}
use Rattle.rl_lowered.specs.Lowered.{LoweredPattern, NextBound, NextDeclared, NextInitialized, NextTakenApart, NextUntaken, NoDeclarator}
use Rattle.rl_lowered.specs.Lowered.{NoParam, NothingBound, PatternParam, PlainParam, RestParam}
use Rattle.rl_lowered.specs.Named.{found}
use Rattle.rl_lowered.specs.Promised.{held_by}
use Rattle.rl_optional_frames.proofs.Lives.{default_lives}
use Rattle.rl_optional_frames.specs.Frames.{default_at, default_ended}
use Rattle.rl_promises.specs.Live.{Held, held_among, held_in}
use Rattle.rl_promises.specs.Rows.{refusals, refusals_in}
use Rattle.rl_runs.proofs.Living.{lives_none, lives_refl, lives_then}
use Rattle.rl_runs.proofs.Moves.{extends_resolved, extends_then, extends_value}
use Rattle.rl_runs.specs.Blocks.{Lives}
use Rattle.rl_syntax.specs.declared.word.Word.TheVariants as word
use Rattle.rl_syntax.specs.Syntax.{Absent}

mutual
  pub pattern_lives : {names : Names} {again : Bool} {k : InstructionKind} {at : Span} {value : Place} {e : Syntax} {s t : State}
      {p : Place}
      → LoweredPattern names again k at value e s t p → refusals names e ≡ [] → Lives held_by (held_in names e) true s t
  pattern_lives {names} {again} {k} {at} {value} (BoundName bind name type symbol identifier s annotated is f) none =
      let here : State = met again names s symbol identifier bind.span in
      let store : InstructionValue = values.StoreLocal k (variable_at identifier at) value in
      lives_same (bind_held names bind name type annotated)
      (lives_behind s (extends_value here store (Some at)) (value_keyless held_by here store (Some at))
      (lives_none held_by s here true (λ on. stays_passes (stays_met again names s symbol bind.span identifier f))))
  pattern_lives {names} {value = value} (BoundDefault there pattern default s t u q p d dt) none =
      let clean = default_clean names default (refusals names pattern) none in
      lives_same (nothing_behind (held_in names pattern) (held_in names default))
      (lives_ahead held_by s (default_ended (default_at s there.span value) t q) u (held_in names default) (held_in names pattern)
      (pattern_blocks dt).extends
      (default_lives held_by s t q value there.span (held_in names default) true (moved_lives d clean.0 clean.1))
      (pattern_lives dt clean.2))
  pattern_lives {names} {k = k} {at = at} {value = value}
      (BoundPattern there w of_object items rest pattern pieces later s u v is bound are l) none =
      let clean = binding_clean is there none in
      let r = bound_held names bound clean.ahead clean.behind clean.last clean.plain in
      lives_same (binding_held names is there items rest ∙ r.held)
      (lives_then held_by s (with_value u (destructured k pattern value) (Some at)) v [] (kept_held names later) true true
      (bound_blocks l).extends refl (apart_lives s u k pattern value at (bound_stays bound)) (left_lives l r.clean))

  pub left_lives : {names : Names} {again : Bool} {k : InstructionKind} {later : List Later} {s t : State}
      → LoweredBound names again k later s t → AreClean (refusals names) later → Lives held_by (kept_held names later) true s t
  left_lives (NothingBound s) clean = lives_refl held_by s
  left_lives {names} (NextBound value part later s t u p d ds) clean =
      lives_then held_by s t u (held_in names part) (kept_held names later) true true (bound_blocks ds).extends refl
      (pattern_lives d clean.0) (left_lives ds clean.1)

-- Parameters.

pub params_lives : {names : Names} {es : Pieces} {rest : Syntax} {s t : State} {ps : List Param} → LoweredParams names es rest s t ps
    → refusals_in names es ++ refusals names rest ≡ [] → Lives held_by (held_among names es ++ held_in names rest) true s t
params_lives (NoParam s) none = lives_refl held_by s
params_lives {names} (RestParam there pattern s t p d) none =
    let l = pattern_lives d (first_none (refusals names pattern) [] none) in
    lives_same (append-nil (held_in names pattern)) (record { onward = l.onward; stands = l.stands })
params_lives {names} (PlainParam there bind name type rest more symbol identifier s t ps annotated is f ds) none =
    let param : Syntax = Node there word.Param (Then (Node bind word.Bind (Then (Said name) (Then type End))) (Then Absent End)) in
    let l = params_lives ds (param_clean names param more rest none).others in
    lives_same (ap (λ (l : List Held). ((l ++ []) ++ held_among names more) ++ held_in names rest)
    (bind_held names bind name type annotated))
    (record { onward = l.onward; stands = l.stands })
params_lives {names} (PatternParam there pattern rest more s t u p ps is d ds) none =
    let clean = param_clean names (Node there word.Param (Then pattern (Then Absent End))) more rest none in
    let first = pattern_lives d clean.own in
    lives_same
    (ap (λ (l : List Held). (l ++ held_among names more) ++ held_in names rest) (append-nil (held_in names pattern))
    ∙ append_assoc (held_in names pattern) (held_among names more) (held_in names rest))
    (lives_then held_by s t u (held_in names pattern) (held_among names more ++ held_in names rest) true true
    (params_blocks ds).extends refl
    (record { onward = first.onward; stands = first.stands }) (params_lives ds clean.others))
params_lives {names} (DefaultParam there pattern default rest more s t u v q p ps d dt ds) none =
    let clean = param_clean names (Node there word.Param (Then pattern (Then default End))) more rest none in
    let parts = default_clean names default (refusals names pattern) clean.own in
    let made : State = promoted s there.span in
    let first = lives_ahead held_by made (default_ended (default_at made there.span (caught s there.span)) t q) u (held_in names default)
    (held_in names pattern) (pattern_blocks dt).extends
    (default_lives held_by made t q (caught s there.span) there.span (held_in names default) true (moved_lives d parts.0 parts.1))
    (pattern_lives dt parts.2) in
    let own : List Held = held_in names pattern ++ held_in names default in
    lives_same
    (ap (λ (l : List Held). (l ++ held_among names more) ++ held_in names rest) (nothing_behind (held_in names pattern)
    (held_in names default))
    ∙ append_assoc own (held_among names more) (held_in names rest))
    (lives_then held_by s u v own (held_among names more ++ held_in names rest) true true (params_blocks ds).extends refl
    (record { onward = first.onward; stands = first.stands }) (params_lives ds clean.others))

-- Declarations of variables.
pub declarators_lives : {names : Names} {at : Span} {k : InstructionKind} {es : Pieces} {s t : State} → LoweredDeclarators names at k es s t
    → refusals_in names es ≡ [] → Lives held_by (held_among names es) true s t
declarators_lives (NoDeclarator s) none = lives_refl held_by s
declarators_lives {names} {at} {k} (NextDeclared there bind name type more symbol identifier s u annotated is f d) none =
    let pattern : Syntax = Node bind word.Bind (Then (Said name) (Then type End)) in
    lives_same (ap (λ (l : List Held). l ++ held_among names more) (declarator_held names there bind name type Absent annotated))
    (lives_then held_by s _ u [] (held_among names more) true true (declarators_blocks d).extends refl
    (found_lives names s symbol bind.span
    (values.DeclareLocal k (record { identifier = record { 0 = identifier }; span = Some bind.span })) (Some bind.span))
    (declarators_lives d (row_clean names (Node there word.Declarator (Then pattern (Then Absent End))) more none).1))
declarators_lives {names} {at} {k} (NextInitialized there bind name type init more symbol identifier s t u p annotated is d f ds) none =
    let pattern : Syntax = Node bind word.Bind (Then (Said name) (Then type End)) in
    let clean = row_clean names (Node there word.Declarator (Then pattern (Then init End))) more none in
    let v : InstructionValue = values.StoreLocal k (record { identifier = record { 0 = identifier }; span = Some at }) p in
    lives_same (ap (λ (l : List Held). l ++ held_among names more) (declarator_held names there bind name type init annotated))
    (lives_then held_by s _ u (held_in names init) (held_among names more) true true (declarators_blocks ds).extends refl
    (lives_behind s
    (extends_then (extends_resolved t (names.name symbol.0) symbol.0 (Some bind.span) f.agree)
    (extends_value (found names t symbol bind.span) v (Some at)))
    (found_lives names t symbol bind.span v (Some at))
    (expression_lives d (first_none (refusals names init) (refusals names pattern) clean.0)))
    (declarators_lives ds clean.1))
declarators_lives {names} {at} {k} (NextTakenApart there pattern init more s t u v p q is given d dp ds) none =
    let clean = row_clean names (Node there word.Declarator (Then pattern (Then init End))) more none in
    lives_same (ap (λ (l : List Held). l ++ held_among names more) (nothing_behind (held_in names pattern) (held_in names init)))
    (lives_then held_by s u v (held_in names pattern ++ held_in names init) (held_among names more) true true
    (declarators_blocks ds).extends
    refl
    (lives_ahead held_by s t u (held_in names init) (held_in names pattern) (pattern_blocks dp).extends
    (expression_lives d (first_none (refusals names init) (refusals names pattern) clean.0))
    (pattern_lives dp (second_none (refusals names init) (refusals names pattern) clean.0)))
    (declarators_lives ds clean.1))
declarators_lives {names} {at} {k} (NextUntaken there pattern more s u v q is dp ds) none =
    let clean = row_clean names (Node there word.Declarator (Then pattern (Then Absent End))) more none in
    let made : State = with_value s (values.Primitive primitives.Undefined) (Some at) in
    lives_same (ap (λ (l : List Held). l ++ held_among names more) (append-nil (held_in names pattern)))
    (lives_then held_by s u v (held_in names pattern) (held_among names more) true true (declarators_blocks ds).extends refl
    (lives_then held_by s made u [] (held_in names pattern) true true (pattern_blocks dp).extends refl
    (value_keyless held_by s (values.Primitive primitives.Undefined) (Some at)) (pattern_lives dp clean.0))
    (declarators_lives ds clean.1))
