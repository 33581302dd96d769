-- Reached blocks lead to reached blocks, and their instructions read the notes that are read.
use Rattle.std.proofs.Common.{◌≡◌, ℕ, Bool, true, false, ◌&&◌, ◌||◌, Option, Some, None, List, [], ◌∷◌, ◌++◌, length, map, slice_get, refl, sym, ap, ◌∙◌, subst, eq-eqb}
use Rattle.std.specs.Prelude.{nat_eq}
use Rattle.std.specs.Option.{option_map}
use Rattle.std.specs.List.{list_any, list_all}
use Rattle.rl_base.specs.declared.ids.BlockId.{BlockId}
use Rattle.rl_base.specs.declared.ids.InstructionId.{InstructionId}
use Rattle.rl_hir.specs.Blocks.{Pair, block_at, same_id}
use Rattle.rl_hir.specs.Terminals.{fallthrough, fields_of, leads, listed_id, successor_ids}
use Rattle.rl_hir.specs.declared.function.BasicBlock.{BasicBlock}
use Rattle.rl_hir.specs.declared.instruction.Instruction.{Instruction}
use Rattle.rl_hir.specs.declared.terminal.Case.{Case}
use Rattle.rl_hir.specs.declared.terminal.Terminal.{Terminal}
use Rattle.rl_hir.specs.declared.terminal.TerminalKind.{TerminalKind}
use Rattle.rl_hir.specs.declared.terminal.TerminalKind.TheVariants as kinds
use Rattle.rl_machine.specs.Conditions.{EndsAs, MayOrder, Reached, ReadsAt, ByBranch, ByThrow, StepsAt}
use Rattle.rl_machine.specs.Machine.{Graph}
use Rattle.rl_machine.specs.Ends.{catcher_of, exit_of, leaving, Enumerates, Iterates, Loops}
use Rattle.rl_machine.specs.Machine.{Item, Runs, Ends, block_of, catcher_at, item_at, item_by}
use Rattle.rl_machine.specs.Prunes.{Each, LeavesIn, StaysIn}
use Rattle.rl_order.specs.Reached.{IsReached, Goes, Begins}
use Rattle.rl_order.specs.Walk.{IsWhole, has_block, leads_to}

self_same : (b : BlockId) → same_id b b ≡ true
self_same b = eq-eqb b.0 b.0 refl

pub any_first : (b : BlockId) (bs : List BlockId) → list_any (same_id b) (b ∷ bs) ≡ true
any_first b bs = ap (λ x. x || list_any (same_id b) bs) (self_same b)

pub any_later : (b x : BlockId) (bs : List BlockId) → list_any (same_id b) bs ≡ true → list_any (same_id b) (x ∷ bs) ≡ true
any_later b x bs e = by_head (same_id b x)
  where
    by_head : (h : Bool) → (h || list_any (same_id b) bs) ≡ true
    by_head true = refl
    by_head false = e

pub any_left : (b : BlockId) (xs ys : List BlockId) → list_any (same_id b) xs ≡ true → list_any (same_id b) (xs ++ ys) ≡ true
any_left b [] ys e = absurd (cc)
any_left b (x ∷ xs) ys e = by_head (same_id b x) e (any_left b xs ys)
  where
    by_head : (h : Bool) → (h || list_any (same_id b) xs) ≡ true → (list_any (same_id b) xs ≡ true → list_any (same_id b) (xs ++ ys) ≡ true) → (h || list_any (same_id b) (xs ++ ys)) ≡ true
    by_head true is rest = refl
    by_head false is rest = rest is

pub any_right : (b : BlockId) (xs ys : List BlockId) → list_any (same_id b) ys ≡ true → list_any (same_id b) (xs ++ ys) ≡ true
any_right b [] ys e = e
any_right b (x ∷ xs) ys e = any_later b x (xs ++ ys) (any_right b xs ys e)

pub each_of : (is_so : ℕ → Type 0) (bs all : List BlockId) → ((b : BlockId) → list_any (same_id b) bs ≡ true → list_any (same_id b) all ≡ true)
    → ((b : BlockId) → list_any (same_id b) all ≡ true → is_so b.0) → Each is_so bs
each_of is_so [] all within so = tt
each_of is_so (b ∷ bs) all within so = (so b (within b (any_first b bs)), each_of is_so bs all (λ x e. within x (any_later x b bs e)) so)

-- A block to which a reached block leads is reached.
pub leads_on : (g : Graph) (id : BlockId) (kind : TerminalKind) → EndsAs g id kind → (b : BlockId) → list_any (same_id b) (leads (fields_of kind)) ≡ true → Reached g b.0
leads_on g id kind e b is = Goes id b e.block e.reached e.there (ap (λ (k : TerminalKind). list_any (same_id b) (leads (fields_of k))) e.ends ∙ is)

module _ (g : Graph) (may : MayOrder g) where
  -- The end of a reached block leads to reached blocks, and the loops that it notes end there.
  ends_stay : (id : BlockId) (kind : TerminalKind) → EndsAs g id kind → LeavesIn (Reached g) (ReadsAt g) (StepsAt g) (leaving kind)
  ends_stay id (kinds.Goto b v) e = (leads_on g id _ e b (any_first b []), tt)
  ends_stay id (kinds.If t c a f) e = (leads_on g id _ e c (any_first c (a ∷ [])), leads_on g id _ e a (any_later a c (a ∷ []) (any_first a [])))
  ends_stay id (kinds.Branch t c a f) e =
      (leads_on g id _ e c (any_first c (a ∷ [])), leads_on g id _ e a (any_later a c (a ∷ []) (any_first a [])), ByBranch id t c a f e)
  ends_stay id (kinds.Switch t cases f) e =
      each_of (Reached g) (map (λ (c : Case). c.block) cases) (map (λ (c : Case). c.block) cases ++ []) (λ b is. any_left b (map (λ (c : Case). c.block) cases) [] is) (leads_on g id _ e)
  ends_stay id (kinds.Logical o t f) e = (leads_on g id _ e t (any_first t []), ((λ s b is. absurd (cc)), ((λ s b is. absurd (cc)), tt)))
  ends_stay id (kinds.Ternary t f) e = (leads_on g id _ e t (any_first t []), ((λ s b is. absurd (cc)), ((λ s b is. absurd (cc)), tt)))
  ends_stay id (kinds.Optional o t f) e = (leads_on g id _ e t (any_first t []), ((λ s b is. absurd (cc)), ((λ s b is. absurd (cc)), tt)))
  ends_stay id (kinds.Sequence b f) e = (leads_on g id _ e b (any_first b []), ((λ s x is. absurd (cc)), tt))
  ends_stay id (kinds.Label b f) e = (leads_on g id _ e b (any_first b []), ((λ s x is. absurd (cc)), tt))
  ends_stay id (kinds.Try b binding h f) e = (leads_on g id _ e b (any_first b []), ((λ s x is. absurd (cc)), ((λ s x is. absurd (cc)), tt)))
  ends_stay id (kinds.While t b f) e =
      let all : Each (Reached g) (t ∷ b ∷ f ∷ []) = may.loops id _ e in
      (leads_on g id _ e t (any_first t []), ((λ s x is. exits f x is all.1.1), ((λ s x is. exits f x is all.1.1), tt)))
    where
      exits : (f x : BlockId) → exit_of (Loops f) ≡ Some x → Each (Reached g) (f ∷ []) → Reached g x.0
      exits f x is there = (let same : f ≡ x = cc in subst (λ (n : BlockId). Reached g n.0) same there.0)
  ends_stay id (kinds.DoWhile b t f) e =
      let none : (StepsAt g t.0 → ⊥) × (StepsAt g f.0 → ⊥) = may.steps id b t f e in
      (leads_on g id _ e b (any_first b []), ((λ s x is. absurd (none.0 s)), ((λ s x is. absurd (none.1 s)), tt)))
  ends_stay id (kinds.For i t u b f) e =
      let all : Each (Reached g) (t ∷ b ∷ f ∷ []) = may.loops id _ e in
      (leads_on g id _ e i (any_first i []), ((λ s x is. exits f x is all.1.1), ((λ s x is. exits f x is all.1.1), ((λ s x is. exits f x is all.1.1), tt))))
    where
      exits : (f x : BlockId) → exit_of (Loops f) ≡ Some x → Each (Reached g) (f ∷ []) → Reached g x.0
      exits f x is there = (let same : f ≡ x = cc in subst (λ (n : BlockId). Reached g n.0) same there.0)
  ends_stay id (kinds.ForIn i b f) e =
      let all : Each (Reached g) (b ∷ f ∷ []) = may.loops id _ e in
      (leads_on g id _ e i (any_first i []), ((λ s x is. exits f x is all.1), ((λ s x is. exits f x is all.1), tt)))
    where
      exits : (f x : BlockId) → exit_of (Enumerates f) ≡ Some x → Each (Reached g) (f ∷ []) → Reached g x.0
      exits f x is there = (let same : f ≡ x = cc in subst (λ (n : BlockId). Reached g n.0) same there.0)
  ends_stay id (kinds.ForOf i t b f) e =
      let all : Each (Reached g) (t ∷ b ∷ f ∷ []) = may.loops id _ e in
      (leads_on g id _ e i (any_first i []), ((λ s x is. exits f x is all.1.1), ((λ s x is. exits f x is all.1.1), ((λ s x is. exits f x is all.1.1), tt))))
    where
      exits : (f x : BlockId) → exit_of (Iterates f false) ≡ Some x → Each (Reached g) (f ∷ []) → Reached g x.0
      exits f x is there = (let same : f ≡ x = cc in subst (λ (n : BlockId). Reached g n.0) same there.0)
  ends_stay id (kinds.MaybeThrow b h) e = (leads_on g id _ e b (any_first b (listed_id h ++ [])), tt)
  ends_stay id (kinds.Return v p) e = tt
  ends_stay id (kinds.Throw p) e = tt
  ends_stay id kinds.Unreachable e = tt

  -- The item that ends a block is its terminal.
  last_item : (o : Option InstructionId) (end : Bool) (terminal t : Terminal) → item_by g.table o end terminal ≡ Some (Ends t) → terminal ≡ t
  last_item (Some number) end terminal t is = by_entry (slice_get g.table number.0) is
    where
      by_entry : (i : Option Instruction) → option_map (λ j. Runs j) i ≡ Some (Ends t) → terminal ≡ t
      by_entry None e = absurd (cc)
      by_entry (Some i) e = absurd (cc)
  last_item None true terminal t is = cc
  last_item None false terminal t is = absurd (cc)

  pub item_stays : (id place : ℕ) (item : Item) → Reached g id → item_at g.table (block_of g.blocks id) place ≡ Some item
      → StaysIn (Reached g) (ReadsAt g) (StepsAt g) id item
  item_stays id place item r is = by_block (block_of g.blocks id) refl item is
    where
      by_block : (o : Option BasicBlock) → block_of g.blocks id ≡ o → (it : Item) → item_at g.table o place ≡ Some it → StaysIn (Reached g) (ReadsAt g) (StepsAt g) id it
      by_block None there it e = absurd (cc)
      by_block (Some block) there (Runs i) e = λ reads. record { reached = r; block = block; there = there; place = place; instruction = i; item = e; reads = reads }
      by_block (Some block) there (Ends t) e =
          let same : block.terminal ≡ t = last_item (slice_get block.instructions place) (nat_eq place (length block.instructions)) block.terminal t e in
          ends_stay (record { 0 = id }) t.kind (record { reached = r; block = block; there = there; ends = ap (λ (q : Terminal). q.kind) same })

caught_in : (g : Graph) (id : BlockId) (kind : TerminalKind) (handler : ℕ) → EndsAs g id kind → catcher_of kind ≡ Some handler → Reached g handler × ReadsAt g handler
caught_in g id (kinds.Goto b v) h e is = absurd (cc)
caught_in g id (kinds.If t c a f) h e is = absurd (cc)
caught_in g id (kinds.Branch t c a f) h e is = absurd (cc)
caught_in g id (kinds.Switch t cs f) h e is = absurd (cc)
caught_in g id (kinds.Logical o t f) h e is = absurd (cc)
caught_in g id (kinds.Ternary t f) h e is = absurd (cc)
caught_in g id (kinds.Optional o t f) h e is = absurd (cc)
caught_in g id (kinds.Sequence b f) h e is = absurd (cc)
caught_in g id (kinds.Label b f) h e is = absurd (cc)
caught_in g id (kinds.Try b p q f) h e is = absurd (cc)
caught_in g id (kinds.While t b f) h e is = absurd (cc)
caught_in g id (kinds.DoWhile b t f) h e is = absurd (cc)
caught_in g id (kinds.For i t u b f) h e is = absurd (cc)
caught_in g id (kinds.ForIn i b f) h e is = absurd (cc)
caught_in g id (kinds.ForOf i t b f) h e is = absurd (cc)
caught_in g id (kinds.MaybeThrow b None) h e is = absurd (cc)
caught_in g id (kinds.MaybeThrow b (Some q)) h e is =
    let same : q.0 ≡ h = cc in
    subst (λ n. Reached g n × ReadsAt g n) same (leads_on g id _ e q (any_later q b (q ∷ []) (any_first q [])), ByThrow id b q e)
caught_in g id (kinds.Return v p) h e is = absurd (cc)
caught_in g id (kinds.Throw p) h e is = absurd (cc)
caught_in g id kinds.Unreachable h e is = absurd (cc)

-- The handler of a reached block is reached, and its note is read.
pub handler_reached : (g : Graph) (id handler : ℕ) → Reached g id → catcher_at (block_of g.blocks id) ≡ Some handler → Reached g handler × ReadsAt g handler
handler_reached g id handler r is = by_block (block_of g.blocks id) refl is
  where
    by_block : (o : Option BasicBlock) → block_of g.blocks id ≡ o → catcher_at o ≡ Some handler → Reached g handler × ReadsAt g handler
    by_block None there e = absurd (cc)
    by_block (Some block) there e = caught_in g (record { 0 = id }) block.terminal.kind handler (record { reached = r; block = block; there = there; ends = refl }) e

all_any : (graph : List Pair) (b : BlockId) (bs : List BlockId) → list_all (has_block graph) bs ≡ true → list_any (same_id b) bs ≡ true → has_block graph b ≡ true
all_any graph b [] all any = absurd (cc)
all_any graph b (x ∷ bs) all any = by_head (same_id b x) refl (has_block graph x) refl all any (all_any graph b bs)
  where
    by_head : (h : Bool) → same_id b x ≡ h → (y : Bool) → has_block graph x ≡ y → (y && list_all (has_block graph) bs) ≡ true → (h || list_any (same_id b) bs) ≡ true
        → (list_all (has_block graph) bs ≡ true → list_any (same_id b) bs ≡ true → has_block graph b ≡ true) → has_block graph b ≡ true
    by_head h e false f all1 any1 rest = absurd (cc)
    by_head true e true f all1 any1 rest =
        (let same : b.0 ≡ x.0 = Rattle.std.proofs.Common.eqb-true b.0 x.0 e in let key : x ≡ b = ap (λ (n : ℕ). record { 0 = n }) (sym same) in
        subst (λ (k : BlockId). has_block graph k ≡ true) key f)
    by_head false e true f all1 any1 rest = rest all1 any1

-- The fallthrough of a block of a whole graph is a block of it.
pub led : (graph : List Pair) (entry id behind : BlockId) (block : BasicBlock) → IsWhole graph entry → block_at graph id ≡ Some block
    → listed_id (fallthrough block.terminal) ≡ behind ∷ [] → has_block graph behind ≡ true
led graph entry id behind block w there falls =
    all_any graph behind (leads_to block) (w.leads id block there)
    (any_left behind (listed_id (fallthrough block.terminal)) (successor_ids block.terminal) (ap (λ bs. list_any (same_id behind) bs) falls ∙ any_first behind []))

-- A reached block is there.
pub reached_there : (graph : List Pair) (entry id : BlockId) → IsWhole graph entry → IsReached graph entry id → (block : BasicBlock) × (block_at graph id ≡ Some block)
reached_there graph entry id w Begins = found (block_at graph entry) w.entry_there refl
  where
    found : (o : Option BasicBlock) → Rattle.std.specs.Prelude.is_some o ≡ true → block_at graph entry ≡ o → (block : BasicBlock) × (block_at graph entry ≡ Some block)
    found None e is = absurd (cc)
    found (Some block) e is = (block, is)
reached_there graph entry id w (Goes a b block r there leads_b) =
    found (block_at graph b) (all_any graph b (leads_to block) (w.leads a block there) (any_right b (listed_id (fallthrough block.terminal)) (successor_ids block.terminal) leads_b)) refl
  where
    found : (o : Option BasicBlock) → Rattle.std.specs.Prelude.is_some o ≡ true → block_at graph b ≡ o → (q : BasicBlock) × (block_at graph b ≡ Some q)
    found None e is = absurd (cc)
    found (Some q) e is = (q, is)
