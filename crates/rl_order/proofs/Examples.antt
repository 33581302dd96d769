-- The order of two small graphs.
use Rattle.std.proofs.Common.{ℕ, true, false, None, List, [], ◌∷◌, refl}
use Rattle.rl_base.specs.declared.ids.BlockId.{BlockId}
use Rattle.rl_hir.specs.Blocks.{Pair}
use Rattle.rl_hir.specs.declared.function.BasicBlock.{BasicBlock}
use Rattle.rl_hir.specs.declared.function.BlockKind.TheVariants as block_kinds
use Rattle.rl_hir.specs.declared.instruction.Place.{Place}
use Rattle.rl_hir.specs.declared.terminal.GotoVariant.TheVariants as gotos
use Rattle.rl_hir.specs.declared.terminal.ReturnVariant.TheVariants as returns
use Rattle.rl_hir.specs.declared.terminal.TerminalKind.{TerminalKind}
use Rattle.rl_hir.specs.declared.terminal.TerminalKind.TheVariants as kinds
use Rattle.rl_order.specs.Walk.{Ends, Expands, IsOrdered, Passes, Walk, Walks, emptied, nothing, visit}

abbrev id : ℕ → BlockId
id n = record { 0 = n }

abbrev place : Place
place = record { identifier = record { 0 = 0 }; span = None }

-- A block with one instruction, which ends in this way.
abbrev block : TerminalKind → BasicBlock
block kind =
    record {
      kind = block_kinds.Block;
      instructions = record { 0 = 7 } ∷ [];
      terminal = record {
        order = record { 0 = 0 };
        span = None;
        kind = kind;
      };
      preds = [];
    }

abbrev branching : BasicBlock
branching = block (kinds.If place (id 2) (id 1) (id 1))

abbrev back : BasicBlock
back = block (kinds.Goto (id 1) gotos.Break)

abbrev leaving : BasicBlock
leaving = block (kinds.Return returns.Void place)

-- `if (c) { f() }`: block 1 stands behind the `if`, block 2 is its consequent.
abbrev if_graph : List Pair
if_graph = (id 1, leaving) ∷ (id 0, branching) ∷ (id 2, back) ∷ []

abbrev if_inner : Walk
if_inner = record { seen = (id 0, true) ∷ (id 1, true) ∷ (id 2, true) ∷ []; noted = id 1 ∷ []; appended = id 1 ∷ id 2 ∷ [] }

abbrev if_begun : Walk
if_begun = record { seen = (id 0, true) ∷ []; noted = id 1 ∷ []; appended = [] }

abbrev if_behind : Walk
if_behind = record { seen = (id 0, true) ∷ (id 1, false) ∷ []; noted = id 1 ∷ []; appended = [] }

abbrev if_used : Walk
if_used = record { seen = (id 0, true) ∷ (id 1, true) ∷ []; noted = id 1 ∷ []; appended = id 1 ∷ [] }

abbrev if_both : Walk
if_both = record { seen = (id 0, true) ∷ (id 1, true) ∷ (id 2, true) ∷ []; noted = id 1 ∷ []; appended = id 1 ∷ [] }

if_visits : Walks if_graph (visit false (id 1) ∷ visit true (id 1) ∷ visit true (id 2) ∷ []) if_begun if_inner
if_visits =
    Expands (visit false (id 1)) (visit true (id 1) ∷ visit true (id 2) ∷ []) leaving if_begun if_behind if_inner refl refl
    (Ends if_behind)
    (Expands (visit true (id 1)) (visit true (id 2) ∷ []) leaving
    (record if_behind { appended = id 1 ∷ [] }) if_used if_inner refl refl (Ends if_used)
    (Expands (visit true (id 2)) [] back if_used if_both if_inner refl refl
    (Passes (visit true (id 1)) [] if_both if_both refl (Ends if_both)) (Ends if_inner)))

pub if_ordered : IsOrdered if_graph (id 0) ((id 0, branching) ∷ (id 2, back) ∷ (id 1, leaving) ∷ [])
if_ordered =
    record {
      end =
          record {
            seen = (id 0, true) ∷ (id 1, true) ∷ (id 2, true) ∷ [];
            noted = id 1 ∷ [];
            appended = id 1 ∷ id 2 ∷ id
                0 ∷ [];
          };
      walk =
          Expands (visit true (id 0)) [] branching nothing if_inner
          (record if_inner { appended = id 1 ∷ id 2 ∷ id 0 ∷ [] }) refl refl if_visits
          (Ends (record if_inner { appended = id 1 ∷ id 2 ∷ id 0 ∷ [] }));
      blocks = refl;
    }

abbrev looping : BasicBlock
looping = block (kinds.DoWhile (id 3) (id 1) (id 2))

abbrev testing : BasicBlock
testing = block (kinds.Branch place (id 3) (id 2) (id 2))

-- `do { return 1 } while (f())`: block 1 has the test, which is dead, and block 2 stands behind the loop.
abbrev loop_graph : List Pair
loop_graph = (id 0, looping) ∷ (id 1, testing) ∷ (id 2, leaving) ∷ (id 3, leaving) ∷ []

abbrev loop_begun : Walk
loop_begun = record { seen = (id 0, true) ∷ []; noted = id 2 ∷ []; appended = [] }

abbrev loop_behind : Walk
loop_behind = record { seen = (id 0, true) ∷ (id 2, false) ∷ []; noted = id 2 ∷ []; appended = [] }

abbrev loop_body : Walk
loop_body = record { seen = (id 0, true) ∷ (id 2, false) ∷ (id 3, true) ∷ []; noted = id 2 ∷ []; appended = id 2 ∷ [] }

abbrev loop_inner : Walk
loop_inner = record { seen = (id 0, true) ∷ (id 2, false) ∷ (id 3, true) ∷ []; noted = id 2 ∷ []; appended = id 2 ∷ id 3 ∷ [] }

loop_visits : Walks loop_graph (visit false (id 2) ∷ visit true (id 3) ∷ []) loop_begun loop_inner
loop_visits =
    Expands (visit false (id 2)) (visit true (id 3) ∷ []) leaving loop_begun loop_behind loop_inner refl refl (Ends loop_behind)
    (Expands (visit true (id 3)) [] leaving (record loop_behind { appended = id 2 ∷ [] }) loop_body loop_inner refl refl
    (Ends loop_body) (Ends loop_inner))

pub loop_ordered : IsOrdered loop_graph (id 0) ((id 0, looping) ∷ (id 3, leaving) ∷ (id 2, emptied leaving) ∷ [])
loop_ordered =
    record {
      end = record loop_inner { appended = id 2 ∷ id 3 ∷ id 0 ∷ [] };
      walk =
          Expands (visit true (id 0)) [] looping nothing loop_inner
          (record loop_inner { appended = id 2 ∷ id 3 ∷ id 0 ∷ [] }) refl refl loop_visits
          (Ends (record loop_inner { appended = id 2 ∷ id 3 ∷ id 0 ∷ [] }));
      blocks = refl;
    }
