-- Jumps have targets where nothing stops them, and the statements around a place by the scopes there.
use Rattle.std.proofs.Common.{◌≡◌, ℕ, ◌+◌, ◌++◌, Bool, true, false, if◌then◌else◌, Option, List, [], ◌∷◌, Some, None, Ok, map, reverse}
use Rattle.std.proofs.Common.{codes, refl, sym, ap, ◌∙◌}
use Rattle.std.proofs.lemmas.List.{reverse-append}
use Rattle.rl_base.specs.declared.row.Row.TheVariants as row
use Rattle.rl_base.specs.Diagnostics.{diagnostic_at}
use Rattle.rl_builder.specs.Builder.{reserved}
use Rattle.rl_builder.specs.declared.jumps.JumpScope.{JumpScope}
use Rattle.rl_builder.specs.declared.jumps.JumpScope.TheVariants as scopes
use Rattle.rl_builder.specs.Jumps.{break_block_of, break_target, continue_block_of, continue_target, lookup_break, lookup_continue}
use Rattle.rl_builder.specs.Jumps.{takes_break, takes_continue}
use Rattle.rl_frames.specs.Parts.{forin_begun, forof_begun, label_begun, label_scope, while_begun, while_scope}
use Rattle.rl_hir.specs.declared.terminal.Case.{Case}
use Rattle.rl_lowered.proofs.Blocks.{blocks_caught, cases_blocks, expression_blocks, statement_blocks}
use Rattle.rl_lowered.proofs.Catches.{declares_caught}
use Rattle.rl_lowered.proofs.Common.{BlockId, Diagnostic, Names, Pieces, Place, Span, State, SymbolId, Syntax}
use Rattle.rl_lowered.specs.Arounds.{around_of, arounds}
use Rattle.rl_lowered.specs.Items.{promoted}
use Rattle.rl_lowered.specs.Lowered.{Lowered, LoweredCases, LoweredStatement, catch_begun, catch_bound}
use Rattle.rl_lowered.specs.Named.{IsFound}
use Rattle.rl_model.specs.Actions.{Label}
use Rattle.rl_promises.specs.Jumps.{InLabeled, InLoop, breaks_out, continues_in, is_in_loop, stop_of_break, stop_of_continue}
use Rattle.rl_runs.proofs.Moves.{extends_value}
use Rattle.rl_runs.specs.Blocks.{PreservesBlocks}
use Rattle.rl_runs.specs.Moves.{block_id}

-- A scope takes a jump as the statement does that it stands for.

same_break : (jump : Label) (scope : JumpScope) → breaks_out jump (around_of scope) ≡ takes_break jump scope
same_break None (scopes.Loop own again behind) = refl
same_break None (scopes.Label own behind) = refl
same_break None (scopes.Switch own behind) = refl
same_break (Some jump) (scopes.Loop None again behind) = refl
same_break (Some jump) (scopes.Loop (Some own) again behind) = refl
same_break (Some jump) (scopes.Label own behind) = refl
same_break (Some jump) (scopes.Switch None behind) = refl
same_break (Some jump) (scopes.Switch (Some own) behind) = refl

same_continue : (jump : Label) (scope : JumpScope) → continues_in jump (around_of scope) ≡ takes_continue jump scope
same_continue None (scopes.Loop own again behind) = refl
same_continue None (scopes.Label own behind) = refl
same_continue None (scopes.Switch own behind) = refl
same_continue (Some jump) (scopes.Loop None again behind) = refl
same_continue (Some jump) (scopes.Loop (Some own) again behind) = refl
same_continue (Some jump) (scopes.Label own behind) = refl
same_continue (Some jump) (scopes.Switch None behind) = refl
same_continue (Some jump) (scopes.Switch (Some own) behind) = refl

-- Scopes are listed from the innermost out.

break_among : (l : List JumpScope) (jump : Label) (at : Span) → stop_of_break jump at (map around_of l) ≡ None
    → (target : BlockId) × (break_target jump l ≡ Ok target)
break_among [] jump at none = absurd (cc)
break_among (scope ∷ outer) jump at none =
    by_scope (break_among outer jump at) (takes_break jump scope) (ap (λ (b : Bool). stopped b) (sym (same_break jump scope)) ∙ none)
  where
    stopped : Bool → Option Diagnostic
    stopped b = if b then None else stop_of_break jump at (map around_of outer)

    by_scope : (stop_of_break jump at (map around_of outer) ≡ None → (target : BlockId) × (break_target jump outer ≡ Ok target))
        → (b : Bool) → stopped b ≡ None
        → (target : BlockId) × ((if b then Ok (break_block_of scope) else break_target jump outer) ≡ Ok target)
    by_scope further true is = (break_block_of scope, refl)
    by_scope further false is = further is

continue_among : (l : List JumpScope) (jump : Label) (at : Span) → stop_of_continue jump at (map around_of l) ≡ None
    → (target : BlockId) × (continue_target jump l ≡ Ok target)
continue_among [] jump at none = absurd (cc)
continue_among (scope ∷ outer) jump at none =
    by_scope (continue_among outer jump at) (takes_continue jump scope)
    (ap (λ (b : Bool). stopped b) (sym (same_continue jump scope)) ∙ none)
  where
    stopped : Bool → Option Diagnostic
    stopped b =
        if b then (if is_in_loop (around_of scope) then None else Some (diagnostic_at row.S7 (codes "label") at))
        else stop_of_continue jump at (map around_of outer)

    of_loop : (scope : JumpScope)
        → (if is_in_loop (around_of scope) then None else Some (diagnostic_at row.S7 (codes "label") at)) ≡ None
        → (target : BlockId) × (continue_block_of scope ≡ Ok target)
    of_loop (scopes.Loop own again behind) is = (again, refl)
    of_loop (scopes.Label own behind) is = absurd (cc)
    of_loop (scopes.Switch own behind) is = absurd (cc)

    by_scope : (stop_of_continue jump at (map around_of outer) ≡ None → (target : BlockId) × (continue_target jump outer ≡ Ok target))
        → (b : Bool) → stopped b ≡ None
        → (target : BlockId) × ((if b then continue_block_of scope else continue_target jump outer) ≡ Ok target)
    by_scope further true is = of_loop scope is
    by_scope further false is = further is

-- A jump that nothing stops has a target.

pub break_found : (s : State) (jump : Label) (at : Span) → stop_of_break jump at (arounds s) ≡ None
    → (target : BlockId) × (lookup_break s.scopes jump ≡ Ok target)
break_found s jump at none = break_among (reverse s.scopes) jump at none

pub continue_found : (s : State) (jump : Label) (at : Span) → stop_of_continue jump at (arounds s) ≡ None
    → (target : BlockId) × (lookup_continue s.scopes jump ≡ Ok target)
continue_found s jump at none = continue_among (reverse s.scopes) jump at none

-- A further scope is a further statement around.
pub arounds_in : (s t : State) (scope : JumpScope) → t.scopes ≡ s.scopes ++ scope ∷ [] → arounds t ≡ around_of scope ∷ arounds s
arounds_in s t scope is =
    ap (λ (l : List JumpScope). map around_of (reverse l)) is
    ∙ ap (λ (l : List JumpScope). map around_of l) (reverse-append s.scopes (scope ∷ []))

-- The scopes stay, and so do the statements around.
pub arounds_same : (s t : State) → t.scopes ≡ s.scopes → arounds t ≡ arounds s
arounds_same s t is = ap (λ (l : List JumpScope). map around_of (reverse l)) is

-- Behind a part the statements around are those in front of it.
pub arounds_kept : (s t : State) → PreservesBlocks s t → arounds t ≡ arounds s
arounds_kept s t b = arounds_same s t b.extends.scopes

pub arounds_in_loop : (s : State) (own : Label) → arounds (while_begun s own) ≡ InLoop own ∷ arounds s
arounds_in_loop s own = arounds_in s (while_begun s own) (while_scope s own) refl

pub arounds_in_forin : (s : State) (own : Label) → arounds (forin_begun s own) ≡ InLoop own ∷ arounds s
arounds_in_forin s own =
    arounds_in s (forin_begun s own) (scopes.Loop own (block_id (s.env.next_block + 1)) (block_id s.env.next_block)) refl

pub arounds_in_forof : (s : State) (own : Label) → arounds (forof_begun s own) ≡ InLoop own ∷ arounds s
arounds_in_forof s own =
    arounds_in s (forof_begun s own) (scopes.Loop own (block_id (s.env.next_block + 1)) (block_id s.env.next_block)) refl

pub arounds_in_label : (s : State) (label : List ℕ) → arounds (label_begun s label) ≡ InLabeled label ∷ arounds s
arounds_in_label s label = arounds_in s (label_begun s label) (label_scope s label) refl

pub expression_arounds : {names : Names} {e : Syntax} {s t : State} {p : Place} → Lowered names e s t p → arounds t ≡ arounds s
expression_arounds {s = s} {t = t} d = arounds_kept s t (expression_blocks d)

pub statement_arounds : {names : Names} {e : Syntax} {s t : State} → LoweredStatement names e s t → arounds t ≡ arounds s
statement_arounds {s = s} {t = t} d = arounds_kept s t (statement_blocks d)

-- In a case of a `switch`, and behind the cases that were lowered before it.

pub cases_arounds : {names : Names} {s : State} {es : Pieces} {ks : List Case} {t : State} → LoweredCases names s es ks t
    → arounds t ≡ arounds s
cases_arounds {s = s} {t = t} d = arounds_same s t (cases_blocks d).extends.scopes

-- In front of the body of a `catch` with a parameter.
pub arounds_in_catch : {names : Names} (s : State) (symbol : SymbolId) (identifier : ℕ) (param : Span)
    → IsFound names (catch_begun s param) symbol param identifier → arounds (catch_bound names s symbol identifier param) ≡ arounds s
arounds_in_catch {names} s symbol identifier param f =
    arounds_same s (catch_bound names s symbol identifier param)
    ((blocks_caught names s symbol identifier param f).extends.scopes
    ∙ (extends_value (reserved (promoted s param)) (declares_caught s param) (Some param)).scopes)
