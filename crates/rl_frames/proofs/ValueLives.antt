-- Live instructions of logical and conditional expressions, of sequences and of an `if` without an alternate stand in blocks that are
-- reached.
use Rattle.std.proofs.Common.{◌≡◌, ℕ, ◌+◌, ◌++◌, Bool, true, List, [], ◌∷◌, length, Option, refl}
use Rattle.std.specs.List.{list_any}
use Rattle.std.proofs.lemmas.List.Elements.{All-append}
use Rattle.rl_builder.specs.Builder.{completed_by, entered, new_block, reserved}
use Rattle.rl_frames.proofs.Common.{BlockId, Code, Extends, IsContainedIn, IsLedTo, Place, Span, State}
use Rattle.rl_frames.specs.Parts.{if_begun, if_end, if_finished}
use Rattle.rl_hir.specs.Blocks.{same_id}
use Rattle.rl_hir.specs.declared.function.BlockKind.{BlockKind}
use Rattle.rl_hir.specs.declared.function.BlockKind.TheVariants as block
use Rattle.rl_hir.specs.declared.instruction.Instruction.{Instruction}
use Rattle.rl_hir.specs.declared.terminal.GotoVariant.TheVariants as gotos
use Rattle.rl_hir.specs.declared.terminal.Terminal.{Terminal}
use Rattle.rl_hir.specs.Terminals.{successor_ids}
use Rattle.rl_order.proofs.Ordering.{or_left, or_right, same_self}
use Rattle.rl_runs.proofs.Holes.{contained_hole}
use Rattle.rl_runs.proofs.Moves.{contained_before, extends_completed, extends_reserved, terminal_met}
use Rattle.rl_runs.specs.Blocks.{Leads, Lives, Stands}
use Rattle.rl_runs.specs.Moves.{block_id, branch, goto, last_hole, next_hole}

-- The terminal leads to its first and to its second successor.

to_first : (b : BlockId) (rest : List BlockId) → list_any (same_id b) (b ∷ rest) ≡ true
to_first b rest = or_left (same_id b b) (list_any (same_id b) rest) (same_self b)

to_second : (a b : BlockId) (rest : List BlockId) → list_any (same_id b) (a ∷ b ∷ rest) ≡ true
to_second a b rest = or_right (same_id b a) (list_any (same_id b) (b ∷ rest)) (to_first b rest)

module _ {K : Type 0} (key_of : Instruction → Option K) where
  -- A test behind a terminal, and two branches that give a value.
  pub value_lives : (x sm sr s5 : State) (end : Terminal) (test : Place) (span part other : Span) (last_kind : BlockKind)
      (in_first in_second in_test : List K)
      → list_any (same_id (block_id (x.env.next_block + 1))) (successor_ids end) ≡ true
      → Extends (next_hole sm x.env.next_block gotos.Break part block.Value) sr
      → Extends (last_hole sr x.env.next_block gotos.Break other x.current)
      (completed_by (last_hole sr x.env.next_block gotos.Break other x.current) end (new_block (x.env.next_block + 1) block.Value))
      → Extends (completed_by (last_hole sr x.env.next_block gotos.Break other x.current) end
      (new_block (x.env.next_block + 1) block.Value)) s5
      → Lives key_of in_first true (entered (reserved (reserved (reserved x))) (new_block (x.env.next_block + 1 + 1) block.Value)) sm
      → Lives key_of in_second true (next_hole sm x.env.next_block gotos.Break part block.Value) sr
      → Lives key_of in_test true
      (completed_by (last_hole sr x.env.next_block gotos.Break other x.current) end (new_block (x.env.next_block + 1) block.Value)) s5
      → Lives key_of (in_test ++ (in_first ++ in_second)) true x
      (completed_by s5 (branch test (x.env.next_block + 1 + 1) sm.env.next_block x.env.next_block span)
      (new_block x.env.next_block last_kind))
  value_lives x sm sr s5 end test span part other last_kind in_first in_second in_test leads g2 gt g3 l1 l2 l3 = record {
    onward = λ is c cover entry led.
        Leads sm.current.id.0 (length sm.current.instructions) (goto n gotos.Break part) (block_id n)
        (l1.onward refl c (cover_first c cover) entry (at_first c cover entry led))
        (terminal_met (reserved sm) (goto n gotos.Break part) (new_block sm.env.next_block block.Value) c (cover_open c cover))
        (to_first (block_id n) []);
    stands = λ c cover entry led. All-append (Stands key_of c entry) in_test (in_first ++ in_second)
        (l3.stands c (cover5 c cover) entry (at_test c cover entry led))
        (All-append (Stands key_of c entry) in_first in_second (l1.stands c (cover_first c cover) entry (at_first c cover entry led))
        (l2.stands c (cover_second c cover) entry (at_second c cover entry led)));
  }
    where
      n : ℕ
      n = x.env.next_block

      end_branch : Terminal
      end_branch = branch test (n + 1 + 1) sm.env.next_block n span

      last : State
      last = completed_by s5 end_branch (new_block n last_kind)

      cover5 : (c : Code) → IsContainedIn last c → IsContainedIn s5 c
      cover5 c cover = contained_before (extends_completed s5 end_branch (new_block n last_kind) (λ none. refl)) cover

      cover_tested : (c : Code) → IsContainedIn last c
          → IsContainedIn (completed_by (last_hole sr n gotos.Break other x.current) end (new_block (n + 1) block.Value)) c
      cover_tested c cover = contained_before g3 (cover5 c cover)

      cover_shut : (c : Code) → IsContainedIn last c → IsContainedIn (last_hole sr n gotos.Break other x.current) c
      cover_shut c cover = contained_before gt (cover_tested c cover)

      cover_second : (c : Code) → IsContainedIn last c → IsContainedIn sr c
      cover_second c cover = contained_hole sr n gotos.Break other x.current c (cover_shut c cover)

      cover_open : (c : Code) → IsContainedIn last c → IsContainedIn (next_hole sm n gotos.Break part block.Value) c
      cover_open c cover = contained_before g2 (cover_second c cover)

      cover_first : (c : Code) → IsContainedIn last c → IsContainedIn sm c
      cover_first c cover =
          contained_before (extends_reserved sm)
          (contained_hole (reserved sm) n gotos.Break part (new_block sm.env.next_block block.Value) c (cover_open c cover))

      at_test : (c : Code) → IsContainedIn last c → (entry : ℕ) → IsLedTo c entry x.current.id.0 → IsLedTo c entry (n + 1)
      at_test c cover entry led =
          Leads x.current.id.0 (length x.current.instructions) end (block_id (n + 1)) led
          (terminal_met (last_hole sr n gotos.Break other x.current) end (new_block (n + 1) block.Value) c (cover_tested c cover)) leads

      at_first : (c : Code) → IsContainedIn last c → (entry : ℕ) → IsLedTo c entry x.current.id.0 → IsLedTo c entry (n + 1 + 1)
      at_first c cover entry led =
          Leads s5.current.id.0 (length s5.current.instructions) end_branch (block_id (n + 1 + 1))
          (l3.onward refl c (cover5 c cover) entry (at_test c cover entry led))
          (terminal_met s5 end_branch (new_block n last_kind) c cover)
          (to_first (block_id (n + 1 + 1)) (block_id sm.env.next_block ∷ []))

      at_second : (c : Code) → IsContainedIn last c → (entry : ℕ) → IsLedTo c entry x.current.id.0 → IsLedTo c entry sm.env.next_block
      at_second c cover entry led =
          Leads s5.current.id.0 (length s5.current.instructions) end_branch (block_id sm.env.next_block)
          (l3.onward refl c (cover5 c cover) entry (at_test c cover entry led))
          (terminal_met s5 end_branch (new_block n last_kind) c cover)
          (to_second (block_id (n + 1 + 1)) (block_id sm.env.next_block) [])

  -- A hole that is set aside, to which the block in front goes on.
  pub aside_lives : (x sr : State) (end : Terminal) (part : Span) (kind last_kind : BlockKind) (live : List K) (completes : Bool)
      → list_any (same_id (block_id (x.env.next_block + 1))) (successor_ids end) ≡ true
      → Extends (last_hole sr x.env.next_block gotos.Break part x.current)
      (completed_by (last_hole sr x.env.next_block gotos.Break part x.current) end (new_block x.env.next_block last_kind))
      → Lives key_of live completes (entered (reserved (reserved x)) (new_block (x.env.next_block + 1) kind)) sr
      → Lives key_of live completes x
      (completed_by (last_hole sr x.env.next_block gotos.Break part x.current) end (new_block x.env.next_block last_kind))
  aside_lives x sr end part kind last_kind live completes leads ge l = record {
    onward = λ is c cover entry led.
        Leads sr.current.id.0 (length sr.current.instructions) (goto n gotos.Break part) (block_id n)
        (l.onward is c (cover_hole c cover) entry (at_hole c cover entry led))
        (terminal_met sr (goto n gotos.Break part) x.current c (contained_before ge cover)) (to_first (block_id n) []);
    stands = λ c cover entry led. l.stands c (cover_hole c cover) entry (at_hole c cover entry led);
  }
    where
      n : ℕ
      n = x.env.next_block

      last : State
      last = completed_by (last_hole sr n gotos.Break part x.current) end (new_block n last_kind)

      cover_hole : (c : Code) → IsContainedIn last c → IsContainedIn sr c
      cover_hole c cover = contained_hole sr n gotos.Break part x.current c (contained_before ge cover)

      at_hole : (c : Code) → IsContainedIn last c → (entry : ℕ) → IsLedTo c entry x.current.id.0 → IsLedTo c entry (n + 1)
      at_hole c cover entry led =
          Leads x.current.id.0 (length x.current.instructions) end (block_id (n + 1)) led
          (terminal_met (last_hole sr n gotos.Break part x.current) end (new_block n last_kind) c cover) leads

  -- An `if` statement without an alternate: it completes whether its consequent does or not.
  pub if_then_lives : (s s2 s4 : State) (test : Place) (span part : Span) (in_test in_consequent : List K) (one : Bool)
      → Extends (last_hole s2 s.env.next_block gotos.Break part s.current) s4
      → Lives key_of in_consequent one (if_begun s) s2
      → Lives key_of in_test true (last_hole s2 s.env.next_block gotos.Break part s.current) s4
      → Lives key_of (in_test ++ in_consequent) true s (if_finished s4 s.env.next_block (s.env.next_block + 1) s.env.next_block test span)
  if_then_lives s s2 s4 test span part in_test in_consequent one gt lc lt = record {
    onward = λ is c cover entry led.
        Leads s4.current.id.0 (length s4.current.instructions) end (block_id n) (lt.onward refl c (cover4 c cover) entry led)
        (terminal_met s4 end (new_block n block.Block) c cover) (to_second (block_id (n + 1)) (block_id n) []);
    stands = λ c cover entry led. All-append (Stands key_of c entry) in_test in_consequent (lt.stands c (cover4 c cover) entry led)
        (lc.stands c (contained_hole s2 n gotos.Break part s.current c (contained_before gt (cover4 c cover))) entry
        (Leads s4.current.id.0 (length s4.current.instructions) end (block_id (n + 1)) (lt.onward refl c (cover4 c cover) entry led)
        (terminal_met s4 end (new_block n block.Block) c cover) (to_first (block_id (n + 1)) (block_id n ∷ []))));
  }
    where
      n : ℕ
      n = s.env.next_block

      end : Terminal
      end = if_end n (n + 1) n test span

      last : State
      last = if_finished s4 n (n + 1) n test span

      cover4 : (c : Code) → IsContainedIn last c → IsContainedIn s4 c
      cover4 c cover = contained_before (extends_completed s4 end (new_block n block.Block) (λ none. refl)) cover
