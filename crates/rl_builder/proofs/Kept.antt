-- Calls keep the stacks of a builder.
use Rattle.std.proofs.Common.{◌≡◌, ◌<◌, List, [], ◌∷◌, ◌++◌, length, Result, Ok, Err, sym, ◌∙◌, ap, append_assoc, arith, length-append}
use Rattle.std.proofs.lemmas.List.{append-nil, same_from_push}
use Rattle.rl_base.specs.declared.ids.BlockId.{BlockId}
use Rattle.rl_builder.specs.Builder.{State, state_of, with_scope, with_handler, reserved, entered}
use Rattle.rl_builder.specs.Closures.{IsAt, KeepsStacks}
use Rattle.rl_builder.specs.Tables.{Tables}
use Rattle.rl_builder.specs.declared.blocks.WipBlock.{WipBlock}
use Rattle.rl_builder.specs.declared.builder.Over.{Over}
use Rattle.rl_builder.specs.declared.builder.Work.{Work}
use Rattle.rl_builder.specs.declared.jumps.JumpScope.{JumpScope}

-- A stack with one item on it is not empty.
pub pushed_some : {X : Type 0} (stack : List X) (x : X) → 0 < length (stack ++ x ∷ [])
pushed_some stack x = omega (arith, length-append stack (x ∷ []))

module _ {U B : Type 0} (tables : U → Tables) (old b : Over (Work U B)) (s : State) where
  pub is_at : b.env.ghost_name ≡ old.env.ghost_name → state_of tables b ≡ s → IsAt tables old s b
  is_at reference state = record { same_reference = reference; state = state }

abbrev value_or : {X E : Type 0} → X → Result X E → X
value_or other (Ok x) = x
value_or other (Err e) = other

pub ok_same : {X E : Type 0} (x y : X) → ◌≡◌ {A = Result X E} (Ok x) (Ok y) → x ≡ y
ok_same {X} {E} x y same = ap (value_or {X = X} {E = E} x) same

module _ {U B : Type 0} (tables : U → Tables) (old mid given : Over (Work U B)) where
  -- A block that was reserved and then entered.
  pub fresh_at : (block wip : WipBlock) → mid.env.ghost_name ≡ old.env.ghost_name → state_of tables mid ≡ reserved (state_of tables old) → given.env.ghost_name ≡ mid.env.ghost_name → state_of tables given ≡ entered (state_of tables mid) block → block ≡ wip
      → IsAt tables old (entered (reserved (state_of tables old)) wip) given
  fresh_at block wip mid_reference is_reserved reference is_entered same =
      record {
        same_reference = reference ∙ mid_reference;
        state = is_entered ∙ ap (λ s. entered s block) is_reserved ∙ ap (entered (reserved (state_of tables old))) same;
      }

module _ {U B : Type 0} (tables : U → Tables) (left new : Over (Work U B)) where
  -- The builder before a scope is closed, over the builder behind.
  pub closed_at : (scope last : JumpScope) → new.env.ghost_name ≡ left.env.ghost_name → state_of tables left ≡ with_scope (state_of tables new) last → scope ≡ last → IsAt tables new (with_scope (state_of tables new) scope) left
  closed_at scope last reference closed same = record { same_reference = sym reference; state = closed ∙ ap (with_scope (state_of tables new)) (sym same) }

  -- The builder before a handler is closed, over the builder behind.
  pub handler_at : (handler last : BlockId) → new.env.ghost_name ≡ left.env.ghost_name → state_of tables left ≡ with_handler (state_of tables new) last → handler ≡ last → IsAt tables new (with_handler (state_of tables new) handler) left
  handler_at handler last reference closed same = record { same_reference = sym reference; state = closed ∙ ap (with_handler (state_of tables new)) (sym same) }

module _ {U B T E : Type 0} (old new : Over (Work U B)) where
  -- A call that leaves both stacks alone keeps them.
  pub kept_alone : (r : Result T E) → new.env.ghost_name ≡ old.env.ghost_name → new.work.handlers.items ≡ old.work.handlers.items → new.work.scopes.items ≡ old.work.scopes.items → KeepsStacks old r new
  kept_alone (Ok v) reference handlers scopes = record { same_reference = reference; handlers = handlers; scopes = scopes }
  kept_alone (Err e) reference handlers scopes = record { same_reference = reference; handlers = handlers; scopes = ([], scopes ∙ sym (append-nil old.work.scopes.items)) }

module _ {U B T E : Type 0} (old mid new : Over (Work U B)) where
  -- A call that keeps the stacks, behind one that leaves them alone.
  pub kept_behind : (r : Result T E) → mid.env.ghost_name ≡ old.env.ghost_name → mid.work.handlers.items ≡ old.work.handlers.items → mid.work.scopes.items ≡ old.work.scopes.items → KeepsStacks mid r new → KeepsStacks old r new
  kept_behind (Ok v) reference handlers scopes kept = record { same_reference = kept.same_reference ∙ reference; handlers = kept.handlers ∙ handlers; scopes = kept.scopes ∙ scopes }
  kept_behind (Err e) reference handlers scopes kept = record {
    same_reference = kept.same_reference ∙ reference;
    handlers = kept.handlers ∙ handlers;
    scopes = (kept.scopes.0, kept.scopes.1 ∙ ap (λ stack. stack ++ kept.scopes.0) scopes);
  }

  -- A call behind one that succeeded.
  pub kept_twice : {S : Type 0} (v : S) (r : Result T E) → KeepsStacks {T = S} {E = E} old (Ok v) mid → KeepsStacks mid r new → KeepsStacks old r new
  kept_twice {S} v r first kept = kept_behind r first.same_reference first.handlers first.scopes kept

module _ {U B T E : Type 0} (tables : U → Tables) (old given left : Over (Work U B)) where
  -- The scope is open behind a success.
  pub scope_open : (scope : JumpScope) (v : T) → IsAt tables old (with_scope (state_of tables old) scope) given → KeepsStacks {T = T} {E = E} given (Ok v) left → 0 < length (state_of tables left).scopes
  scope_open scope v opened kept = rw (kept.scopes, ap (λ s. s.scopes) opened.state) (pushed_some (state_of tables old).scopes scope)

  -- The handler is open.
  pub handler_open : (handler : BlockId) (r : Result T E) → IsAt tables old (with_handler (state_of tables old) handler) given → KeepsStacks given r left → 0 < length (state_of tables left).handlers
  handler_open handler r opened kept = rw (kept.handlers, ap (λ s. s.handlers) opened.state) (pushed_some (state_of tables old).handlers handler)

  -- A scope that stays behind a stop.
  pub kept_when_stopped : (scope : JumpScope) (e : E) → IsAt tables old (with_scope (state_of tables old) scope) given → KeepsStacks {T = T} {E = E} given (Err e) left → KeepsStacks {T = T} {E = E} old (Err e) left
  kept_when_stopped scope e opened kept =
      record {
        same_reference = kept.same_reference ∙ opened.same_reference;
        handlers = kept.handlers ∙ ap (λ s. s.handlers) opened.state;
        scopes = (scope ∷ [] ++ kept.scopes.0, kept.scopes.1 ∙ ap (λ s. s.scopes ++ kept.scopes.0) opened.state ∙ append_assoc (state_of tables old).scopes (scope ∷ []) kept.scopes.0);
      }

module _ {U B T E : Type 0} (tables : U → Tables) (old given left new : Over (Work U B)) where
  -- The scope that is closed is the one that was opened.
  pub closed_same : (scope last : JumpScope) (v : T) → IsAt tables old (with_scope (state_of tables old) scope) given → KeepsStacks {T = T} {E = E} given (Ok v) left → state_of tables left ≡ with_scope (state_of tables new) last
      → ((state_of tables old).scopes ≡ (state_of tables new).scopes) × (scope ≡ last)
  closed_same scope last v opened kept closed =
      same_from_push _ _ _ _ (sym (ap (λ s. s.scopes) opened.state) ∙ sym kept.scopes ∙ ap (λ s. s.scopes) closed)

  -- A scope that is closed behind a success.
  pub kept_when_closed : (scope last : JumpScope) (v : T) → IsAt tables old (with_scope (state_of tables old) scope) given → KeepsStacks {T = T} {E = E} given (Ok v) left → new.env.ghost_name ≡ left.env.ghost_name → state_of tables left ≡ with_scope (state_of tables new) last → KeepsStacks {T = T} {E = E} old (Ok v) new
  kept_when_closed scope last v opened kept reference closed =
      record {
        same_reference = reference ∙ kept.same_reference ∙ opened.same_reference;
        handlers = sym (ap (λ s. s.handlers) closed) ∙ kept.handlers ∙ ap (λ s. s.handlers) opened.state;
        scopes = sym (closed_same scope last v opened kept closed).0;
      }

  -- The handler that is closed is the one that was opened.
  pub handler_same : (handler last : BlockId) (r : Result T E) → IsAt tables old (with_handler (state_of tables old) handler) given → KeepsStacks given r left → state_of tables left ≡ with_handler (state_of tables new) last
      → ((state_of tables old).handlers ≡ (state_of tables new).handlers) × (handler ≡ last)
  handler_same handler last r opened kept closed =
      same_from_push _ _ _ _ (sym (ap (λ s. s.handlers) opened.state) ∙ sym kept.handlers ∙ ap (λ s. s.handlers) closed)

  -- A handler that is closed in any case.
  pub kept_under : (handler last : BlockId) (r : Result T E) → IsAt tables old (with_handler (state_of tables old) handler) given → KeepsStacks given r left → new.env.ghost_name ≡ left.env.ghost_name → state_of tables left ≡ with_handler (state_of tables new) last → KeepsStacks old r new
  kept_under handler last (Ok v) opened kept reference closed =
      record {
        same_reference = reference ∙ kept.same_reference ∙ opened.same_reference;
        handlers = sym (handler_same handler last (Ok v) opened kept closed).0;
        scopes = sym (ap (λ s. s.scopes) closed) ∙ kept.scopes ∙ ap (λ s. s.scopes) opened.state;
      }
  kept_under handler last (Err e) opened kept reference closed =
      record {
        same_reference = reference ∙ kept.same_reference ∙ opened.same_reference;
        handlers = sym (handler_same handler last (Err e) opened kept closed).0;
        scopes = (kept.scopes.0, sym (ap (λ s. s.scopes) closed) ∙ kept.scopes.1 ∙ ap (λ s. s.scopes ++ kept.scopes.0) opened.state);
      }

-- A closure that ran from the state `s`, which has the stacks of `old`.
module _ {V B T E : Type 0} (tables : V → Tables) (old given left : Over (Work V B)) (s : State) (at_s : IsAt tables old s given) (handlers : s.handlers ≡ (state_of tables old).handlers) (scopes : s.scopes ≡ (state_of tables old).scopes) where
  kept_from : (r : Result T E) → KeepsStacks given r left → KeepsStacks old r left
  kept_from r kept = kept_behind _ _ _ r at_s.same_reference (ap (λ s. s.handlers) at_s.state ∙ handlers) (ap (λ s. s.scopes) at_s.state ∙ scopes) kept

  -- It stopped.
  pub kept_stopped : {U : Type 0} (e : E) → KeepsStacks {T = T} given (Err e) left → KeepsStacks {T = U} {E = E} old (Err e) left
  kept_stopped {U} e kept =
      let same = kept_from (Err e) kept in
      record { same_reference = same.same_reference; handlers = same.handlers; scopes = same.scopes }

  -- It succeeded, and so did the call behind it.
  pub kept_through : {S D U F : Type 0} (new : Over (Work V B)) (v : T) (w : S) (z : U) → KeepsStacks {T = T} {E = E} given (Ok v) left → KeepsStacks {T = S} {E = D} left (Ok w) new → KeepsStacks {T = U} {E = F} old (Ok z) new
  kept_through {S} {D} {U} {F} new v w z kept after =
      let first = kept_from (Ok v) kept in
      record { same_reference = after.same_reference ∙ first.same_reference; handlers = after.handlers ∙ first.handlers; scopes = after.scopes ∙ first.scopes }

  -- It succeeded, and the call behind it did not.
  pub kept_until : {S D U F : Type 0} (new : Over (Work V B)) (v : T) (d : D) (e : F) → KeepsStacks {T = T} {E = E} given (Ok v) left → KeepsStacks {T = S} {E = D} left (Err d) new → KeepsStacks {T = U} {E = F} old (Err e) new
  kept_until {S} {D} {U} {F} new v d e kept after =
      let first = kept_from (Ok v) kept in
      record {
        same_reference = after.same_reference ∙ first.same_reference;
        handlers = after.handlers ∙ first.handlers;
        scopes = (after.scopes.0, after.scopes.1 ∙ ap (λ stack. stack ++ after.scopes.0) first.scopes);
      }
