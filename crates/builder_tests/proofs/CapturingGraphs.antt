-- The conditions of `build` for a graph of one block that never ends, behind which a name was resolved.
use Rattle.std.proofs.Common.{◌≡◌, ◌<◌, ◌^◌, ℕ, All, None, List, length, refl, sym, ap, subst, ◌∙◌, arith}
use Rattle.std.proofs.lemmas.List.Elements.{All-from_recursion, All-nil}
use Rattle.rl_base.specs.declared.ids.BlockId.{BlockId}
use Rattle.rl_base.specs.declared.ids.InstructionId.{InstructionId}
use Rattle.rl_builder.specs.Build.{graph_of}
use Rattle.rl_builder.specs.Builder.{State, terminated}
use Rattle.rl_builder.specs.Names.{resolved}
use Rattle.rl_builder.specs.Started.{Given, started}
use Rattle.rl_hir.specs.Blocks.{Pair}
use Rattle.rl_hir.specs.declared.environment.Environment.{Environment}
use Rattle.rl_hir.specs.declared.function.BlockKind.TheVariants as kinds
use Rattle.rl_hir.specs.declared.terminal.Terminal.{Terminal}
use Rattle.rl_hir.specs.declared.terminal.TerminalKind.TheVariants as ends
use Rattle.rl_order.proofs.Ordering.{same_self}
use Rattle.rl_order.proofs.WholeGraphs.{all_inside}
use Rattle.rl_order.specs.Numbering.{orders_of}
use Rattle.rl_order.specs.Walk.{IsWhole}

abbrev pub nothing : Terminal
nothing = record { order = record { 0 = 0 }; span = None; kind = ends.Unreachable }

-- The builder's state behind its one block.
abbrev pub ended : Environment → Given → State
ended env given = terminated (started env given kinds.Sequence) nothing None

abbrev pub made : Environment → Given → (name : List ℕ) → (symbol : ℕ) → State
made env given name symbol = resolved (ended env given) name symbol None

module _ (old : Environment) (given : Given) (name : List ℕ) (symbol : ℕ) where
  abbrev entry : BlockId
  entry = record { 0 = old.next_block }

  -- The state behind the moves, one after the other.
  pub made_is : (s1 s2 s3 : State) → s1 ≡ started old given kinds.Sequence → s2 ≡ terminated s1 nothing None → s3 ≡ resolved s2 name symbol None
      → s3 ≡ made old given name symbol
  made_is s1 s2 s3 is end by_name =
      by_name ∙ ap (λ (s : State). resolved s name symbol None) (end ∙ ap (λ (s : State). terminated s nothing None) is)

  whole : IsWhole (graph_of (made old given name symbol)) entry
  whole = all_inside (graph_of (made old given name symbol)) entry 1 (omega arith) refl (let self = same_self entry in rw self refl)

  abbrev AreListed : Pair → Type 0
  AreListed p = All (λ (id : InstructionId). id.0 < 0) p.1.instructions

  listed : All (λ p. All (λ id. id.0 < length (made old given name symbol).table) p.1.instructions) (graph_of (made old given name symbol))
  listed = All-from_recursion AreListed (graph_of (made old given name symbol)) (All-nil (λ (id : InstructionId). id.0 < 0), tt)

  room : orders_of (graph_of (made old given name symbol)) < 2 ^ 32
  room = omega arith

  module _ (s : State) (is : s ≡ made old given name symbol) where
    pub whole_at : IsWhole (graph_of s) s.entry
    whole_at = subst (λ (t : State). IsWhole (graph_of t) t.entry) (sym is) whole

    pub listed_at : All (λ p. All (λ id. id.0 < length s.table) p.1.instructions) (graph_of s)
    listed_at =
        subst (λ (t : State). All (λ (p : Pair). All (λ (id : InstructionId). id.0 < length t.table) p.1.instructions) (graph_of t)) (sym is) listed

    pub room_at : orders_of (graph_of s) < 2 ^ 32
    room_at = subst (λ (t : State). orders_of (graph_of t) < 2 ^ 32) (sym is) room
