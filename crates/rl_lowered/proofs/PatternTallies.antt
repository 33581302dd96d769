-- The table has an instruction for each call, construction, await and store of binding patterns, parameters and declarations, where nothing
-- of them was refused.
use Rattle.std.proofs.Common.{◌≡◌, ◌+◌, ◌++◌, Bool, false, List, [], Some, refl}
use Rattle.std.proofs.Common.{sym, ap, ◌∙◌, arith}
use Rattle.rl_hir.specs.declared.instruction.Instruction.{Instruction}
use Rattle.rl_hir.specs.declared.instruction.InstructionKind.{InstructionKind}
use Rattle.rl_hir.specs.declared.instruction.InstructionValue.TheVariants as values
use Rattle.rl_hir.specs.declared.instruction.PrimitiveValue.TheVariants as primitives
use Rattle.rl_lowered.proofs.Clean.{first_none}
use Rattle.rl_lowered.proofs.Clean.{row_clean, second_none}
use Rattle.rl_lowered.proofs.Common.{End, Names, Node, Pieces, Place, Said, Span, State, Syntax, Then}
use Rattle.rl_lowered.proofs.HeldParts.{declarator_held}
use Rattle.rl_lowered.proofs.HeldParts.{bind_held}
use Rattle.rl_lowered.proofs.Sums.{added_initialized, added_inner}
use Rattle.rl_lowered.proofs.Sums.{added_leaf}
use Rattle.rl_lowered.proofs.Sums.{added_row, added_same}
use Rattle.rl_lowered.specs.Items.{promoted, variable_at}
use Rattle.rl_lowered.specs.Lowered.{LoweredDeclarators}
use Rattle.rl_lowered.specs.Lowered.{NextDeclared, NextInitialized}
use Rattle.rl_lowered.specs.Lowered.{NoDeclarator}
use Rattle.rl_lowered.specs.Named.{found}
use Rattle.rl_model.specs.Counted.{Counted}
use Rattle.rl_model.specs.Worlds.{is_reassign}
use Rattle.rl_promises.specs.Held.{times}
use Rattle.rl_promises.specs.Live.{Held, held_in}
use Rattle.rl_promises.specs.Rows.{refusals, refusals_in}
use Rattle.rl_promises.specs.Tallies.{IsHeldKind}
use Rattle.rl_promises.specs.Tallies.{tallied}
use Rattle.rl_promises.specs.Tallies.{tallied_among}
use Rattle.rl_syntax.specs.declared.word.Word.TheVariants as word
use Rattle.rl_syntax.specs.Syntax.{Absent, Listed}
use Rattle.std.proofs.Common.{append-nil}
use Rattle.rl_hir.specs.declared.function.Param.{Param}
use Rattle.rl_lowered.proofs.BoundSlots.{AreClean}
use Rattle.rl_lowered.proofs.HeldItems.{binding_held, bound_held, kept_held, nothing_behind}
use Rattle.rl_lowered.proofs.ItemBlocks.{bound_stays, stays_met}
use Rattle.rl_lowered.proofs.Clean.{param_clean}
use Rattle.rl_lowered.proofs.Rearranged.{tally_append}
use Rattle.rl_lowered.proofs.Sums.{added_apart, added_both, added_last, added_param, added_plain}
use Rattle.rl_lowered.proofs.TalliedMoves.{apart_tallies, default_tallies, pair_tallied, same_tallied, unheld_tallies, weighed}
use Rattle.rl_lowered.proofs.Tallies.{expression_tallies, moved_tallies}
use Rattle.rl_lowered.proofs.TargetForms.{binding_clean, default_clean}
use Rattle.rl_lowered.specs.Items.{Later, caught, met}
use Rattle.rl_lowered.specs.Lowered.{BoundDefault, BoundName, BoundPattern, DefaultParam, LoweredBound, LoweredParams}
use Rattle.rl_lowered.specs.Lowered.{LoweredPattern, NextBound, NextTakenApart, NextUntaken}
use Rattle.rl_lowered.specs.Lowered.{NoParam, NothingBound, PatternParam, PlainParam, RestParam}
use Rattle.rl_promises.specs.Tallies.{tally_of}

module _ (names : Names) (key : Counted) (held : IsHeldKind key.kinds) where
  mutual
    pub pattern_tallies : {again : Bool} {k : InstructionKind} {at : Span} {value : Place} {e : Syntax} {s t : State} {p : Place}
        → LoweredPattern names again k at value e s t p → is_reassign k ≡ false → refusals names e ≡ []
        → times key t.table ≡ times key s.table + tallied names key e
    pattern_tallies {again} {k} {at} {value} (BoundName bind name type symbol identifier s annotated is f) new none =
        let here : State = met again names s symbol identifier bind.span in
        let pattern : Syntax = Node bind word.Bind (Then (Said name) (Then type End)) in
        added_leaf _ _ _ (same_tallied names key pattern Absent (bind_held names bind name type annotated))
        (unheld_tallies key held here (values.StoreLocal k (variable_at identifier at) value) (Some at) new
        ∙ ap (λ (l : List Instruction). times key l + 0) (stays_met again names s symbol bind.span identifier f).table)
    pattern_tallies {value = value} (BoundDefault there pattern default s t u q p d dt) new none =
        let clean = default_clean names default (refusals names pattern) none in
        added_both _ _ _ _ _ _
        (pair_tallied names key (Node there word.Defaultpat (Then pattern (Then default End))) pattern default
        (nothing_behind (held_in names pattern) (held_in names default)))
        (default_tallies key held s t q value there.span (tallied names key default) (moved_tallies names key held d clean.0 clean.1))
        (pattern_tallies dt new clean.2)
    pattern_tallies {k = k} {at = at} {value = value}
        (BoundPattern there w of_object items rest pattern pieces later s u v is bound are l) new none =
        let clean = binding_clean is there none in
        let r = bound_held names bound clean.ahead clean.behind clean.last clean.plain in
        added_apart _ _ _ _ _
        (weighed names key (Node there w (Then (Listed items) (Then rest End)))
        ∙ ap (tally_of key) (binding_held names is there items rest ∙ r.held))
        (apart_tallies key held s u k pattern value at (bound_stays bound).table) (left_tallies l new r.clean)

    pub left_tallies : {again : Bool} {k : InstructionKind} {later : List Later} {s t : State} → LoweredBound names again k later s t
        → is_reassign k ≡ false → AreClean (refusals names) later
        → times key t.table ≡ times key s.table + tally_of key (kept_held names later)
    left_tallies (NothingBound s) new clean = omega arith
    left_tallies (NextBound value part later s t u p d ds) new clean =
        added_same _ _ _ _ (tally_append key (held_in names part) (kept_held names later))
        (added_row _ _ _ _ _ (added_same _ _ _ _ (sym (weighed names key part)) (pattern_tallies d new clean.0))
        (left_tallies ds new clean.1))

  pub params_tallies : {es : Pieces} {rest : Syntax} {s t : State} {ps : List Param} → LoweredParams names es rest s t ps
      → refusals_in names es ++ refusals names rest ≡ []
      → times key t.table ≡ times key s.table + (tallied_among names key es + tallied names key rest)
  params_tallies (NoParam s) none = omega arith
  params_tallies (RestParam there pattern s t p d) none =
      added_last _ _ _ (added_inner _ _ _ _ refl (pattern_tallies d refl (first_none (refusals names pattern) [] none)))
  params_tallies (PlainParam there bind name type rest more symbol identifier s t ps annotated is f ds) none =
      let param : Syntax = Node there word.Param (Then (Node bind word.Bind (Then (Said name) (Then type End))) (Then Absent End)) in
      added_plain _ _ _ _ _
      (same_tallied names key param Absent (ap (λ (l : List Held). l ++ []) (bind_held names bind name type annotated)))
      (params_tallies ds (param_clean names param more rest none).others)
  params_tallies (PatternParam there pattern rest more s t u p ps is d ds) none =
      let param : Syntax = Node there word.Param (Then pattern (Then Absent End)) in
      let clean = param_clean names param more rest none in
      added_param _ _ _ _ _ _ _ (same_tallied names key param pattern (append-nil (held_in names pattern)))
      (pattern_tallies d refl clean.own) (params_tallies ds clean.others)
  params_tallies (DefaultParam there pattern default rest more s t u v q p ps d dt ds) none =
      let param : Syntax = Node there word.Param (Then pattern (Then default End)) in
      let clean = param_clean names param more rest none in
      let parts = default_clean names default (refusals names pattern) clean.own in
      let made : State = promoted s there.span in
      added_param _ _ _ _ _ _ _ refl
      (added_both _ _ _ _ _ _
      (pair_tallied names key param pattern default (nothing_behind (held_in names pattern) (held_in names default)))
      (default_tallies key held made t q (caught s there.span) there.span (tallied names key default)
      (moved_tallies names key held d parts.0 parts.1))
      (pattern_tallies dt refl parts.2))
      (params_tallies ds clean.others)

  pub declarators_tallies : {at : Span} {k : InstructionKind} {es : Pieces} {s t : State} → LoweredDeclarators names at k es s t
      → is_reassign k ≡ false → refusals_in names es ≡ [] → times key t.table ≡ times key s.table + tallied_among names key es
  declarators_tallies (NoDeclarator s) new none = omega arith
  declarators_tallies (NextDeclared there bind name type more symbol identifier s u annotated is f d) new none =
      let pattern : Syntax = Node bind word.Bind (Then (Said name) (Then type End)) in
      let declarator : Syntax = Node there word.Declarator (Then pattern (Then Absent End)) in
      added_row _ _ _ _ _
      (added_leaf _ _ _ (same_tallied names key declarator Absent (declarator_held names there bind name type Absent annotated))
      (unheld_tallies key held (found names s symbol bind.span) _ (Some bind.span) refl))
      (declarators_tallies d new (row_clean names declarator more none).1)
  declarators_tallies {at} {k} (NextInitialized there bind name type init more symbol identifier s t u p annotated is d f ds) new
      none =
      let pattern : Syntax = Node bind word.Bind (Then (Said name) (Then type End)) in
      let declarator : Syntax = Node there word.Declarator (Then pattern (Then init End)) in
      let clean = row_clean names declarator more none in
      added_initialized _ _ _ _ _ _ _ (same_tallied names key declarator init (declarator_held names there bind name type init annotated))
      (expression_tallies names key held d (first_none (refusals names init) (refusals names pattern) clean.0))
      (unheld_tallies key held (found names t symbol bind.span)
      (values.StoreLocal k (record { identifier = record { 0 = identifier }; span = Some at }) p) (Some at) new)
      (declarators_tallies ds new clean.1)
  declarators_tallies {at} {k} (NextTakenApart there pattern init more s t u v p q is given d dp ds) new none =
      let declarator : Syntax = Node there word.Declarator (Then pattern (Then init End)) in
      let clean = row_clean names declarator more none in
      added_row _ _ _ _ _
      (added_both _ _ _ _ _ _
      (pair_tallied names key declarator pattern init (nothing_behind (held_in names pattern) (held_in names init)))
      (expression_tallies names key held d (first_none (refusals names init) (refusals names pattern) clean.0))
      (pattern_tallies dp new (second_none (refusals names init) (refusals names pattern) clean.0)))
      (declarators_tallies ds new clean.1)
  declarators_tallies {at} {k} (NextUntaken there pattern more s u v q is dp ds) new none =
      let declarator : Syntax = Node there word.Declarator (Then pattern (Then Absent End)) in
      let clean = row_clean names declarator more none in
      added_row _ _ _ _ _
      (added_apart _ _ _ _ _ (same_tallied names key declarator pattern (append-nil (held_in names pattern)))
      (unheld_tallies key held s (values.Primitive primitives.Undefined) (Some at) refl) (pattern_tallies dp new clean.0))
      (declarators_tallies ds new clean.1)
