-- Live instructions of defaults and links of chains stand in blocks that are reached.
use Rattle.std.proofs.Common.{◌≡◌, ℕ, ◌+◌, ◌++◌, Bool, true, List, [], ◌∷◌, length, Option, Some, refl, sym, subst}
use Rattle.std.specs.List.{list_any}
use Rattle.std.proofs.lemmas.List.Elements.{All-append}
use Rattle.rl_base.specs.declared.ids.BlockId.{BlockId}
use Rattle.rl_base.specs.declared.operator.BinaryOperator.TheVariants as operator
use Rattle.rl_base.specs.declared.span.Span.{Span}
use Rattle.rl_builder.specs.Builder.{State, new_block, reserved, with_temporary}
use Rattle.rl_builder.specs.declared.blocks.WipBlock.{WipBlock}
use Rattle.rl_builder.specs.Temporaries.{temporary, unordered, with_value}
use Rattle.rl_frames.specs.Parts.{link_begun, link_end, link_finished, link_object}
use Rattle.rl_hir.specs.Blocks.{same_id}
use Rattle.rl_hir.specs.declared.function.BlockKind.{BlockKind}
use Rattle.rl_hir.specs.declared.function.BlockKind.TheVariants as block
use Rattle.rl_hir.specs.declared.instruction.Instruction.{Instruction}
use Rattle.rl_hir.specs.declared.instruction.InstructionKind.TheVariants as variables
use Rattle.rl_hir.specs.declared.instruction.InstructionValue.{InstructionValue}
use Rattle.rl_hir.specs.declared.instruction.InstructionValue.TheVariants as values
use Rattle.rl_hir.specs.declared.instruction.Place.{Place}
use Rattle.rl_hir.specs.declared.instruction.PrimitiveValue.TheVariants as primitives
use Rattle.rl_hir.specs.declared.terminal.GotoVariant.TheVariants as gotos
use Rattle.rl_hir.specs.declared.terminal.Terminal.{Terminal}
use Rattle.rl_machine.specs.Machine.{Code}
use Rattle.rl_optional_frames.specs.Parts.{compared, comparison, default_begun, default_end, default_finished, default_given}
use Rattle.rl_optional_frames.specs.Parts.{default_other, default_test, undefined_made}
use Rattle.rl_order.proofs.Ordering.{or_left, or_right, same_self}
use Rattle.rl_runs.proofs.Holes.{contained_hole}
use Rattle.rl_runs.proofs.Moves.{contained_before, extends_completed, extends_reserved, extends_value, terminal_met}
use Rattle.rl_runs.proofs.Passing.{passes_pushed}
use Rattle.rl_runs.specs.Blocks.{IsLedTo, Leads, Lives, Passes, Stands}
use Rattle.rl_runs.specs.Facts.{Extends, IsContainedIn}
use Rattle.rl_runs.specs.Moves.{block_id, branch, goto, last_hole, stored_in}

-- The terminal leads to its first and to its second successor.

to_first : (b : BlockId) (rest : List BlockId) → list_any (same_id b) (b ∷ rest) ≡ true
to_first b rest = or_left (same_id b b) (list_any (same_id b) rest) (same_self b)

to_second : (a b : BlockId) (rest : List BlockId) → list_any (same_id b) (a ∷ b ∷ rest) ≡ true
to_second a b rest = or_right (same_id b a) (list_any (same_id b) (b ∷ rest)) (to_first b rest)

passes_value : (s : State) (value : InstructionValue) (span : Span) → Passes s (with_value s value (Some span))
passes_value s value span = passes_pushed (with_temporary s (Some span)) (unordered (temporary s (Some span)) value (Some span))

module _ {K : Type 0} (key_of : Instruction → Option K) where
  -- A default: it completes whether the default's expression does or not.
  pub default_lives : (s s2 : State) (default value : Place) (span : Span) (live : List K) (completes : Bool)
      → Lives key_of live completes (default_begun s span) s2
      → Lives key_of live true s (default_finished s2 s.env.next_block (s.env.next_block + 1) (s.env.next_block + 1 + 1) s.current.kind
      (temporary s (Some span)) default value span s.current)
  default_lives s s2 default value span live completes l = record {
    onward = λ is c cover entry led.
        Leads sr.current.id.0 (length sr.current.instructions) (goto f gotos.Break span) (block_id f)
        (passes_value opened (values.StoreLocal variables.Const place value) span c (cover_right c cover) entry
        (at_branch c cover entry led other (to_second (block_id (f + 1)) (block_id other) [])))
        (terminal_met sr (goto f gotos.Break span) s.current c (cover_shut c cover)) (to_first (block_id f) []);
    stands = λ c cover entry led. l.stands c (cover2 c cover) entry
        (at_branch c cover entry led (f + 1) (to_first (block_id (f + 1)) (block_id other ∷ [])));
  }
    where
      n : ℕ
      n = s.env.next_block

      f : ℕ
      f = n + 1

      place : Place
      place = temporary s (Some span)

      sm : State
      sm = stored_in s2 place default span

      other : ℕ
      other = default_other s2 place default span

      opened : State
      opened = default_given s2 f place default span

      sr : State
      sr = stored_in opened place value span

      shut : State
      shut = last_hole sr f gotos.Break span s.current

      sl : State
      sl = default_test s2 n f place default value span s.current

      su : State
      su = undefined_made sl span

      sq : State
      sq = compared sl value span

      compares : InstructionValue
      compares = values.BinaryExpression operator.StrictEquality value (temporary sl (Some span))

      end : Terminal
      end = branch (comparison sl span) (f + 1) other f span

      last : State
      last = default_finished s2 n f (f + 1) s.current.kind place default value span s.current

      cover_compared : (c : Code) → IsContainedIn last c → IsContainedIn sq c
      cover_compared c cover = contained_before (extends_completed sq end (new_block f s.current.kind) (λ none. refl)) cover

      cover_undefined : (c : Code) → IsContainedIn last c → IsContainedIn su c
      cover_undefined c cover = contained_before (extends_value su compares (Some span)) (cover_compared c cover)

      cover_test : (c : Code) → IsContainedIn last c → IsContainedIn sl c
      cover_test c cover =
          contained_before (extends_value sl (values.Primitive primitives.Undefined) (Some span)) (cover_undefined c cover)

      cover_shut : (c : Code) → IsContainedIn last c → IsContainedIn shut c
      cover_shut c cover =
          contained_before (extends_completed shut (default_end n f span) (new_block n block.Value) (λ none. refl)) (cover_test c cover)

      cover_right : (c : Code) → IsContainedIn last c → IsContainedIn sr c
      cover_right c cover = contained_hole sr f gotos.Break span s.current c (cover_shut c cover)

      cover_open : (c : Code) → IsContainedIn last c → IsContainedIn opened c
      cover_open c cover =
          contained_before (extends_value opened (values.StoreLocal variables.Const place value) (Some span)) (cover_right c cover)

      cover2 : (c : Code) → IsContainedIn last c → IsContainedIn s2 c
      cover2 c cover =
          contained_before (extends_value s2 (values.StoreLocal variables.Const place default) (Some span))
          (contained_before (extends_reserved sm)
          (contained_hole (reserved sm) f gotos.Break span (new_block sm.env.next_block block.Value) c (cover_open c cover)))

      -- Behind the comparison, the branch leads to both blocks.
      at_branch : (c : Code) → IsContainedIn last c → (entry : ℕ) → IsLedTo c entry s.current.id.0 → (b : ℕ)
          → list_any (same_id (block_id b)) (block_id (f + 1) ∷ block_id other ∷ []) ≡ true → IsLedTo c entry b
      at_branch c cover entry led b leads =
          Leads sq.current.id.0 (length sq.current.instructions) end (block_id b)
          (passes_value su compares span c (cover_compared c cover) entry
          (passes_value sl (values.Primitive primitives.Undefined) span c (cover_undefined c cover) entry
          (Leads s.current.id.0 (length s.current.instructions) (default_end n f span) (block_id n) led
          (terminal_met shut (default_end n f span) (new_block n block.Value) c (cover_test c cover)) (to_first (block_id n) []))))
          (terminal_met sq end (new_block f s.current.kind) c cover) leads

  -- A link, from a state `x` in which it may begin; its object or callee completes.
  pub link_lives : (s x s2 s4 : State) (optional : Bool) (object place value : Place) (f q a : ℕ) (last_kind : BlockKind) (span : Span)
      (in_object in_link : List K) → x.current ≡ s.current
      → Extends (link_begun x) s2 → Extends (link_object s2 f q a span object) s4
      → Lives key_of in_object true (link_begun x) s2 → Lives key_of in_link true (link_object s2 f q a span object) s4
      → Lives key_of (in_object ++ in_link) true s (link_finished s4 f x.env.next_block optional last_kind span place value x.current)
  link_lives s x s2 s4 optional object place value f q a last_kind span in_object in_link position go gk lo lk = record {
    onward = λ is c cover entry led.
        Leads s5.current.id.0 (length s5.current.instructions) (goto f gotos.Break span) (block_id f)
        (passes_value s4 (values.StoreLocal variables.Const place value) span c (cover5 c cover) entry
        (lk.onward refl c (cover4 c cover) entry (at_link c cover entry led)))
        (terminal_met s5 (goto f gotos.Break span) x.current c (cover_shut c cover)) (to_first (block_id f) []);
    stands = λ c cover entry led. All-append (Stands key_of c entry) in_object in_link
        (lo.stands c (cover2 c cover) entry (at_test c cover entry led))
        (lk.stands c (cover4 c cover) entry (at_link c cover entry led));
  }
    where
      tb : ℕ
      tb = x.env.next_block

      s3 : State
      s3 = link_object s2 f q a span object

      s5 : State
      s5 = stored_in s4 place value span

      shut : State
      shut = last_hole s5 f gotos.Break span x.current

      last : State
      last = link_finished s4 f tb optional last_kind span place value x.current

      cover_shut : (c : Code) → IsContainedIn last c → IsContainedIn shut c
      cover_shut c cover =
          contained_before (extends_completed shut (link_end f tb optional span) (new_block f last_kind) (λ none. refl)) cover

      cover5 : (c : Code) → IsContainedIn last c → IsContainedIn s5 c
      cover5 c cover = contained_hole s5 f gotos.Break span x.current c (cover_shut c cover)

      cover4 : (c : Code) → IsContainedIn last c → IsContainedIn s4 c
      cover4 c cover = contained_before (extends_value s4 (values.StoreLocal variables.Const place value) (Some span)) (cover5 c cover)

      cover3 : (c : Code) → IsContainedIn last c → IsContainedIn s3 c
      cover3 c cover = contained_before gk (cover4 c cover)

      cover2 : (c : Code) → IsContainedIn last c → IsContainedIn s2 c
      cover2 c cover =
          contained_before (extends_completed s2 (branch object q a f span) (new_block q block.Value) (λ none. refl)) (cover3 c cover)

      at_test : (c : Code) → IsContainedIn last c → (entry : ℕ) → IsLedTo c entry s.current.id.0 → IsLedTo c entry tb
      at_test c cover entry led =
          Leads x.current.id.0 (length x.current.instructions) (link_end f tb optional span) (block_id tb)
          (subst (λ (w : WipBlock). IsLedTo c entry w.id.0) (sym position) led)
          (terminal_met shut (link_end f tb optional span) (new_block f last_kind) c cover) (to_first (block_id tb) [])

      at_link : (c : Code) → IsContainedIn last c → (entry : ℕ) → IsLedTo c entry s.current.id.0 → IsLedTo c entry q
      at_link c cover entry led =
          Leads s2.current.id.0 (length s2.current.instructions) (branch object q a f span) (block_id q)
          (lo.onward refl c (cover2 c cover) entry (at_test c cover entry led))
          (terminal_met s2 (branch object q a f span) (new_block q block.Value) c (cover3 c cover))
          (to_first (block_id q) (block_id a ∷ []))
