-- Codes in which rows of silent steps end: which points settle, and that a run of such a code passes no point twice in a row of silent
-- steps.
use Rattle.std.proofs.Common.{◌≡◌, ℕ, zero, suc, ◌+◌, ◌≤◌, Bool, true, false, ◌&&◌, ◌||◌, cond, if◌then◌else◌, Option, Some, None, List, [], ◌∷◌, length, refl, sym, ap, ◌∙◌, subst, arith, eqb-true, inl, inr}
use Rattle.std.specs.Prelude.{nat_eq}
use Rattle.rl_base.specs.declared.ids.BlockId.{BlockId}
use Rattle.rl_hir.specs.declared.instruction.Instruction.{Instruction}
use Rattle.rl_hir.specs.declared.instruction.Place.{Place}
use Rattle.rl_hir.specs.declared.terminal.Case.{Case}
use Rattle.rl_hir.specs.declared.terminal.ReturnVariant.{ReturnVariant}
use Rattle.rl_hir.specs.declared.terminal.Terminal.{Terminal}
use Rattle.rl_machine.specs.Acts.{Act, Computes, Asks, Opens, Steps, act, landed, set_each}
use Rattle.rl_machine.specs.Conditions.{ByStep, MayOrder, Reached, ReadsAt, StepsAt}
use Rattle.rl_machine.specs.Ends.{Leaving, Goes, Tests, Reads, Compares, Returns, Throws, Stops, Note, Connects, Chooses, Chains, Loops, Enumerates, Iterates, Catches, Passes, Notes, no_notes, noted, all_noted, leaving, Choice, Truthy, Nullish, Straight, Nowhere, choice}
use Rattle.rl_machine.specs.Machine.{Code, Graph, Item, Runs, Ends, Next, at, at_default, block_of, branched, caught, caught_at, changer, choice_at, code_of, compared, default_case, executed, exit_at, graph_trace, item_at, left, no_way, opened, positions, set_where, start_store, step, step_to, steps_for, tried}
use Rattle.rl_machine.specs.Prunes.{Point, PassesOnce, Prunes, exec_once, is_passed}
use Rattle.rl_machine.specs.Silence.{AlwaysSettles, IsNotedStraight, ItemLeads, LeadsSilently, LeavesSilently, LeavesStraight, MayBeSilent, NotesStraight, RunsSilently, Settles, Settled, walk}
use Rattle.rl_machine.specs.Traces.{Store, World, set, nullish, matches, truthy}
use Rattle.rl_machine.specs.declared.trace.Answer.{Answer}
use Rattle.rl_machine.specs.declared.trace.Assignment.{Assignment}
use Rattle.rl_machine.specs.declared.trace.Event.{Event}
use Rattle.rl_machine.specs.declared.trace.Trace.{Trace}
use Rattle.rl_machine.specs.declared.trace.Value.{Value}
use Rattle.rl_order.specs.Reached.{Begins}
use Rattle.rl_machine.proofs.Following.{fired_same, stepped_same, tested_same}
use Rattle.rl_machine.proofs.Points.{item_within, points_count, points_in}
use Rattle.rl_machine.proofs.Pruned.{becomes_refl, bound_free}
use Rattle.rl_machine.proofs.Reading.{handler_reached, item_stays}

-- The item at a point leads as the point does.
item_leads : (c : Code) (id place id1 place1 : ℕ) (item : Item) → c.item id place ≡ Some item
    → LeadsSilently c id place id1 place1 → ItemLeads c item id place id1 place1
item_leads c id place id1 place1 item is l =
    let both : Some item ≡ Some l.stands = sym is ∙ l.there in
    let same : l.stands ≡ item = cc in
    subst (λ (o : Item). ItemLeads c o id place id1 place1) same l.leads

-- A point without an item settles.
pub settles_nothing : (c : Code) (id place : ℕ) → c.item id place ≡ None → Settles c id place
settles_nothing c id place is =
    Settled id place (λ id1 place1 l. absurd (let none : None ≡ Some l.stands = sym is ∙ l.there in cc))

-- An instruction settles where the point behind it does, or if it always asks an event.
pub settles_runs : (c : Code) (id place : ℕ) (i : Instruction) → c.item id place ≡ Some (Runs i)
    → (RunsSilently i → Settles c id (place + 1)) → Settles c id place
settles_runs c id place i is behind = Settled id place leads
  where
    leads : (id1 place1 : ℕ) → LeadsSilently c id place id1 place1 → Settles c id1 place1
    leads id1 place1 l =
        let so : RunsSilently i × (id1 ≡ id) × (place1 ≡ place + 1) = item_leads c id place id1 place1 (Runs i) is l in
        subst (λ (n : ℕ). Settles c n place1) (sym so.1) (subst (λ (n : ℕ). Settles c id n) (sym so.2) (behind so.0))

pub settles_behind : (c : Code) (id place : ℕ) (i : Instruction) → c.item id place ≡ Some (Runs i) → Settles c id (place + 1)
    → Settles c id place
settles_behind c id place i is behind = settles_runs c id place i is (λ silent. behind)

-- The end of a block settles where each block does to which it leads silently.
pub settles_end : (c : Code) (id place : ℕ) (t : Terminal) (l : Leaving) → c.item id place ≡ Some (Ends t) → leaving t.kind ≡ l
    → ((next : ℕ) → LeavesSilently c l next → Settles c next 0) → Settles c id place
settles_end c id place t l is leaves behind = Settled id place leads
  where
    leads : (id1 place1 : ℕ) → LeadsSilently c id place id1 place1 → Settles c id1 place1
    leads id1 place1 s =
        let so : LeavesSilently c (leaving t.kind) id1 × (place1 ≡ 0) = item_leads c id place id1 place1 (Ends t) is s in
        subst (λ (n : ℕ). Settles c id1 n) (sym so.1) (behind id1 (subst (λ (x : Leaving). LeavesSilently c x id1) leaves so.0))

pub settles_goes : (c : Code) (id place : ℕ) (t : Terminal) (b : BlockId) (marks : List (BlockId × Note))
    → c.item id place ≡ Some (Ends t) → leaving t.kind ≡ Goes b marks → Settles c b.0 0 → Settles c id place
settles_goes c id place t b marks is leaves behind =
    settles_end c id place t (Goes b marks) is leaves (λ next e. subst (λ (n : ℕ). Settles c n 0) e behind)

pub settles_tests : (c : Code) (id place : ℕ) (t : Terminal) (test : ℕ) (q a f : BlockId) → c.item id place ≡ Some (Ends t)
    → leaving t.kind ≡ Tests test q a f → Settles c id place
settles_tests c id place t test q a f is leaves = settles_end c id place t (Tests test q a f) is leaves (λ next none. absurd none)

pub settles_reads : (c : Code) (id place : ℕ) (t : Terminal) (test : ℕ) (q a f : BlockId) → c.item id place ≡ Some (Ends t)
    → leaving t.kind ≡ Reads test q a f → (IsNotedStraight c f.0 → Settles c q.0 0) → Settles c id place
settles_reads c id place t test q a f is leaves behind =
    settles_end c id place t (Reads test q a f) is leaves (λ next e. subst (λ (n : ℕ). Settles c n 0) e.1 (behind e.0))

pub settles_compares : (c : Code) (id place : ℕ) (t : Terminal) (value : ℕ) (cases : List Case) (f : BlockId)
    → c.item id place ≡ Some (Ends t) → leaving t.kind ≡ Compares value cases f
    → ((b : BlockId) → default_case cases ≡ Some b → Settles c b.0 0) → Settles c id place
settles_compares c id place t value cases f is leaves behind =
    settles_end c id place t (Compares value cases f) is leaves (λ next e. behind (record { 0 = next }) e)

pub settles_returns : (c : Code) (id place : ℕ) (t : Terminal) (variant : ReturnVariant) (value : ℕ)
    → c.item id place ≡ Some (Ends t) → leaving t.kind ≡ Returns variant value → Settles c id place
settles_returns c id place t variant value is leaves =
    settles_end c id place t (Returns variant value) is leaves (λ next none. absurd none)

pub settles_throws : (c : Code) (id place : ℕ) (t : Terminal) (value : ℕ) → c.item id place ≡ Some (Ends t)
    → leaving t.kind ≡ Throws value → Settles c id place
settles_throws c id place t value is leaves = settles_end c id place t (Throws value) is leaves (λ next none. absurd none)

pub settles_stops : (c : Code) (id place : ℕ) (t : Terminal) → c.item id place ≡ Some (Ends t) → leaving t.kind ≡ Stops
    → Settles c id place
settles_stops c id place t is leaves = settles_end c id place t Stops is leaves (λ next none. absurd none)

-- Each note by which a branch goes straight on was left by a terminal of the code.
abbrev AreLeft : Code → Notes → Type 0
AreLeft c notes = (id : ℕ) → choice_at (notes id) ≡ Straight → IsNotedStraight c id

none_left : (c : Code) → AreLeft c no_notes
none_left c id is = absurd (cc)

noted_left : (c : Code) (notes : Notes) (block : BlockId) (note : Note) → AreLeft c notes
    → (choice note ≡ Straight → IsNotedStraight c block.0) → AreLeft c (noted notes block note)
noted_left c notes block note ok so id is = by_id (nat_eq id block.0) refl
  where
    by_id : (b : Bool) → nat_eq id block.0 ≡ b → IsNotedStraight c id
    by_id true e =
        let same : id ≡ block.0 = eqb-true id block.0 e in
        subst (λ (n : ℕ). IsNotedStraight c n) (sym same) (so (ap (λ b. choice_at (cond b (Some note) (notes id))) (sym e) ∙ is))
    by_id false e = ok id (ap (λ b. choice_at (cond b (Some note) (notes id))) (sym e) ∙ is)

all_left : (c : Code) (marks : List (BlockId × Note)) (notes : Notes) → AreLeft c notes
    → ((id : ℕ) → NotesStraight marks id → IsNotedStraight c id) → AreLeft c (all_noted marks notes)
all_left c [] notes ok so = ok
all_left c (m ∷ marks) notes ok so =
    all_left c marks (noted notes m.0 m.1) (noted_left c notes m.0 m.1 ok (λ is. so m.0.0 (inl (refl, is))))
    (λ id later. so id (inr later))

passes_left : (c : Code) (notes : Notes) (block : BlockId) → AreLeft c notes → AreLeft c (noted notes block Passes)
passes_left c notes block ok = noted_left c notes block Passes ok (λ is. absurd (cc))

module _ (stuck : Trace) (c : Code) where
  -- Two continuations agree at a point.
  abbrev AgreeAt : Next → Next → (id place : ℕ) → Type 0
  AgreeAt f g id place =
      (store : Store) (notes : Notes) (answers : List Answer) → AreLeft c notes
      → f id place store notes answers ≡ g id place store notes answers

  abbrev Agree : Next → Next → Type 0
  Agree f g = (id place : ℕ) → AgreeAt f g id place

  caught_alike : (handler : Option ℕ) (f g : Next) → Agree f g → (notes : Notes) → AreLeft c notes
      → (v : Value) (store : Store) (answers : List Answer)
      → caught stuck handler notes f v store answers ≡ caught stuck handler notes g v store answers
  caught_alike None f g same notes ok v store answers = refl
  caught_alike (Some h) f g same notes ok v store answers = by_note (notes h)
    where
      by_note : (o : Option Note) → caught_at stuck o h notes f v store answers ≡ caught_at stuck o h notes g v store answers
      by_note None = refl
      by_note (Some (Connects operator)) = refl
      by_note (Some Chooses) = refl
      by_note (Some (Chains flag)) = refl
      by_note (Some (Loops b)) = refl
      by_note (Some (Enumerates b)) = refl
      by_note (Some (Iterates b flag)) = refl
      by_note (Some (Catches binding)) = same h 0 (set_where binding store v) notes answers ok
      by_note (Some Passes) = refl

  module _ (silent silent1 loud loud1 : Next) (also : Agree loud loud1) (store : Store) (notes : Notes) (answers : List Answer)
      (ok : AreLeft c notes) where
    opened_alike : (o : Option Note) (event : Event) (result id place : ℕ) → (choice_at o ≡ Straight → IsNotedStraight c id)
        → AgreeAt silent silent1 id (place + 1)
        → opened stuck c o event result silent loud id place store notes answers
        ≡ opened stuck c o event result silent1 loud1 id place store notes answers
    opened_alike None event result id place left_so same = refl
    opened_alike (Some (Connects operator)) event result id place left_so same = refl
    opened_alike (Some Chooses) event result id place left_so same = refl
    opened_alike (Some (Chains flag)) event result id place left_so same = refl
    opened_alike (Some (Loops b)) event result id place left_so same = refl
    opened_alike (Some (Enumerates b)) event result id place left_so same = refl
    opened_alike (Some (Iterates b true)) event result id place left_so same = same store notes answers ok
    opened_alike (Some (Iterates b false)) event result id place left_so same =
        let after : AreLeft c (noted notes (record { 0 = id }) (Iterates b true)) =
        noted_left c notes (record { 0 = id }) (Iterates b true) ok (λ is. left_so refl) in
        fired_same (changer c) event store answers _ _ _ _
        (λ a later rest fewer. also id (place + 1) (set later result a.value) _ rest after)
        (λ v later rest fewer. caught_alike (c.catcher id) loud loud1 also _ after v later rest)
    opened_alike (Some (Catches binding)) event result id place left_so same = refl
    opened_alike (Some Passes) event result id place left_so same = refl

    step_to_alike : (behind : Option BlockId) (event : Event) (result id place : ℕ)
        → step_to stuck c behind event result loud id place store notes answers
        ≡ step_to stuck c behind event result loud1 id place store notes answers
    step_to_alike None event result id place = refl
    step_to_alike (Some b) event result id place =
        stepped_same (changer c) event store answers _ _ _ _ _ _
        (λ v later rest fewer. also id (place + 1) (set later result v) notes rest ok)
        (λ later rest fewer. also b.0 0 later notes rest ok)
        (λ v later rest fewer. caught_alike (c.catcher id) loud loud1 also notes ok v later rest)

    executed_alike : (a : Act) (id place : ℕ) → (MayBeSilent a → AgreeAt silent silent1 id (place + 1))
        → executed stuck c a silent loud id place store notes answers ≡ executed stuck c a silent1 loud1 id place store notes answers
    executed_alike (Computes v into) id place same = same tt (set_each into v store) notes answers ok
    executed_alike (Asks event landing) id place same =
        fired_same (changer c) event store answers _ _ _ _
        (λ a later rest fewer. also id (place + 1) (landed landing a later) notes rest ok)
        (λ v later rest fewer. caught_alike (c.catcher id) loud loud1 also notes ok v later rest)
    executed_alike (Opens event result) id place same = opened_alike (notes id) event result id place (ok id) (same tt)
    executed_alike (Steps event result) id place same = step_to_alike (exit_at (notes id)) event result id place

    branched_alike : (ch : Choice) (test : ℕ) (q a : BlockId) → (ch ≡ Straight → AgreeAt silent silent1 q.0 0)
        → branched stuck c ch test q a silent loud notes store answers
        ≡ branched stuck c ch test q a silent1 loud1 notes store answers
    branched_alike (Truthy true) test q a same =
        tested_same (changer c) (truthy (store test)) store answers _ _ _ _
        (λ later rest fewer. also q.0 0 later notes rest ok) (λ later rest fewer. also a.0 0 later notes rest ok)
    branched_alike (Truthy false) test q a same =
        tested_same (changer c) (truthy (store test)) store answers _ _ _ _
        (λ later rest fewer. also a.0 0 later notes rest ok) (λ later rest fewer. also q.0 0 later notes rest ok)
    branched_alike Nullish test q a same =
        tested_same (changer c) (nullish (store test)) store answers _ _ _ _
        (λ later rest fewer. also a.0 0 later notes rest ok) (λ later rest fewer. also q.0 0 later notes rest ok)
    branched_alike Straight test q a same = same refl store notes answers ok
    branched_alike Nowhere test q a same = refl

  at_default_alike : (o : Option BlockId) (f g : Next) (notes : Notes) (store : Store) (answers : List Answer) → AreLeft c notes
      → ((b : BlockId) → o ≡ Some b → AgreeAt f g b.0 0)
      → at_default stuck o f notes store answers ≡ at_default stuck o g notes store answers
  at_default_alike None f g notes store answers ok same = refl
  at_default_alike (Some b) f g notes store answers ok same = same b refl store notes answers ok

  compared_alike : (cases : List Case) (o : Option BlockId) (value : ℕ) (f g loud loud1 : Next) → Agree loud loud1
      → ((b : BlockId) → o ≡ Some b → AgreeAt f g b.0 0) → (notes : Notes) → AreLeft c notes → (store : Store) (answers : List Answer)
      → compared stuck c cases o value f loud notes store answers ≡ compared stuck c cases o value g loud1 notes store answers
  compared_alike [] o value f g loud loud1 also same notes ok store answers = at_default_alike o f g notes store answers ok same
  compared_alike (x ∷ cases) o value f g loud loud1 also same notes ok store answers =
      by_test x.test (compared_alike cases o value loud loud1 loud loud1 also (λ b e. also b.0 0) notes ok)
      (compared_alike cases o value f g loud loud1 also same notes ok store answers)
    where
      by_test : (test : Option Place)
          → ((later : Store) (rest : List Answer) → compared stuck c cases o value loud loud notes later rest
          ≡ compared stuck c cases o value loud1 loud1 notes later rest)
          → compared stuck c cases o value f loud notes store answers ≡ compared stuck c cases o value g loud1 notes store answers
          → tried (changer c) test value (at loud x.block notes) (compared stuck c cases o value loud loud notes)
          (compared stuck c cases o value f loud notes) store answers
          ≡ tried (changer c) test value (at loud1 x.block notes) (compared stuck c cases o value loud1 loud1 notes)
          (compared stuck c cases o value g loud1 notes) store answers
      by_test None miss pass = pass
      by_test (Some test) miss pass =
          tested_same (changer c) (matches (store value) (store test.identifier.0)) store answers _ _ _ _
          (λ later rest fewer. also x.block.0 0 later notes rest ok) (λ later rest fewer. miss later rest)

  left_alike : (l : Leaving) (silent silent1 loud loud1 : Next) → ((id : ℕ) → LeavesStraight l id → IsNotedStraight c id)
      → ((next : ℕ) → LeavesSilently c l next → AgreeAt silent silent1 next 0) → Agree loud loud1
      → (store : Store) (notes : Notes) (answers : List Answer) → AreLeft c notes
      → left stuck c l silent loud notes store answers ≡ left stuck c l silent1 loud1 notes store answers
  left_alike (Goes b marks) silent silent1 loud loud1 so same also store notes answers ok =
      same b.0 refl store (all_noted marks notes) answers (all_left c marks notes ok so)
  left_alike (Tests test q a f) silent silent1 loud loud1 so same also store notes answers ok =
      let after : AreLeft c (noted notes f Passes) = passes_left c notes f ok in
      tested_same (changer c) (truthy (store test)) store answers _ _ _ _
      (λ later rest fewer. also q.0 0 later _ rest after) (λ later rest fewer. also a.0 0 later _ rest after)
  left_alike (Reads test q a f) silent silent1 loud loud1 so same also store notes answers ok =
      branched_alike silent silent1 loud loud1 also store notes answers ok (choice_at (notes f.0)) test q a
      (λ is. same q.0 (ok f.0 is, refl))
  left_alike (Compares value cases f) silent silent1 loud loud1 so same also store notes answers ok =
      compared_alike cases (default_case cases) value silent silent1 loud loud1 also (λ b e. same b.0 e) _
      (passes_left c notes f ok) store answers
  left_alike (Returns variant value) silent silent1 loud loud1 so same also store notes answers ok = refl
  left_alike (Throws value) silent silent1 loud loud1 so same also store notes answers ok = refl
  left_alike Stops silent silent1 loud loud1 so same also store notes answers ok = refl

  -- A step reads its silent continuation at the points alone to which it leads silently.
  step_alike : (silent silent1 loud loud1 : Next) (id place : ℕ)
      → ((id1 place1 : ℕ) → LeadsSilently c id place id1 place1 → AgreeAt silent silent1 id1 place1) → Agree loud loud1
      → AgreeAt (step stuck c (c.item id place) silent loud) (step stuck c (c.item id place) silent1 loud1) id place
  step_alike silent silent1 loud loud1 id place same also store notes answers ok = by_item (c.item id place) refl
    where
      by_item : (o : Option Item) → c.item id place ≡ o
          → step stuck c o silent loud id place store notes answers ≡ step stuck c o silent1 loud1 id place store notes answers
      by_item None is = refl
      by_item (Some (Runs i)) is =
          executed_alike silent silent1 loud loud1 also store notes answers ok (act i.lvalue.identifier.0 i.value store) id place
          (λ may. same id (place + 1)
          (record { stands = Runs i; there = is; leads = (record { store = store; silent = may }, refl, refl) }))
      by_item (Some (Ends t)) is =
          left_alike (leaving t.kind) silent silent1 loud loud1
          (λ n s. record { block = id; place = place; terminal = t; there = is; leaves = s })
          (λ next l. same next 0 (record { stands = Ends t; there = is; leads = (l, refl) })) also store notes answers ok

-- A row of one silent step or more may lead from a point to another.
data Rows (c : Code) : (id place id1 place1 : ℕ) → Type 0 where
  Once : (id place id1 place1 : ℕ) → LeadsSilently c id place id1 place1 → Rows c id place id1 place1
  More : (id place id1 place1 id2 place2 : ℕ) → LeadsSilently c id place id1 place1 → Rows c id1 place1 id2 place2
      → Rows c id place id2 place2

longer : (c : Code) (id place id1 place1 id2 place2 : ℕ) → Rows c id place id1 place1 → LeadsSilently c id1 place1 id2 place2
    → Rows c id place id2 place2
longer c id place id1 place1 id2 place2 (Once _ _ _ _ l) last =
    More id place id1 place1 id2 place2 l (Once id1 place1 id2 place2 last)
longer c id place id1 place1 id2 place2 (More _ _ a b _ _ l r) last =
    More id place a b id2 place2 l (longer c a b id1 place1 id2 place2 r last)

-- No row leads from a point that settles back to it.
never_back : (c : Code) (id place : ℕ) → Settles c id place → Rows c id place id place → ⊥
never_back c id place (Settled _ _ next) (Once _ _ _ _ l) = never_back c id place (next id place l) (Once id place id place l)
never_back c id place (Settled _ _ next) (More _ _ a b _ _ l r) = never_back c a b (next a b l) (longer c a b id place a b r l)

-- Rows lead from each of the points to this one.
abbrev AllLead : (c : Code) → List Point → (id place : ℕ) → Type 0
AllLead c [] id place = Unit {0}
AllLead c (q ∷ points) id place = Rows c q.0 q.1 id place × AllLead c points id place

all_longer : (c : Code) (points : List Point) (id place id1 place1 : ℕ) → AllLead c points id place
    → LeadsSilently c id place id1 place1 → AllLead c points id1 place1
all_longer c [] id place id1 place1 all l = tt
all_longer c (q ∷ points) id place id1 place1 all l =
    (longer c q.0 q.1 id place id1 place1 all.0 l, all_longer c points id place id1 place1 all.1 l)

-- A point that settles is none of those from which rows lead to it.
not_passed : (c : Code) (points : List Point) (id place : ℕ) → Settles c id place → AllLead c points id place
    → is_passed (id, place) points ≡ false
not_passed c [] id place s all = refl
not_passed c (q ∷ points) id place s all =
    by_parts (nat_eq id q.0) (nat_eq place q.1) refl refl (not_passed c points id place s all.1)
  where
    by_parts : (x y : Bool) → nat_eq id q.0 ≡ x → nat_eq place q.1 ≡ y → is_passed (id, place) points ≡ false
        → is_passed (id, place) (q ∷ points) ≡ false
    by_parts true true e f rest =
        let first : id ≡ q.0 = eqb-true id q.0 e in
        let second : place ≡ q.1 = eqb-true place q.1 f in
        absurd (never_back c id place s
        (subst (λ (n : ℕ). Rows c n place id place) (sym first) (subst (λ (n : ℕ). Rows c q.0 n id place) (sym second) all.0)))
    by_parts true false e f rest =
        ap (λ x. (x && nat_eq place q.1) || is_passed (id, place) points) e ∙ ap (λ y. y || is_passed (id, place) points) f ∙ rest
    by_parts false y e f rest = ap (λ x. (x && nat_eq place q.1) || is_passed (id, place) points) e ∙ rest

-- The runs of a code that settles are alike, whatever a silent step from a passed point does.
once_alike : (stuck : Trace) (c : Code) → AlwaysSettles c → (again again1 : (steps : ℕ) (passed : List Point) → Next)
    → (steps : ℕ) (passed : List Point) (id place : ℕ) → AllLead c passed id place
    → AgreeAt stuck c (exec_once stuck again c steps passed) (exec_once stuck again1 c steps passed) id place
once_alike stuck c settles again again1 zero passed id place all store notes answers ok = refl
once_alike stuck c settles again again1 (suc steps) passed id place all store notes answers ok =
    let fresh : is_passed (id, place) passed ≡ false = not_passed c passed id place (settles id place) all in
    ap (λ b. step stuck c (c.item id place)
    (if b then again steps passed else exec_once stuck again c steps ((id, place) ∷ passed))
    (exec_once stuck again c steps []) id place store notes answers) fresh
    ∙ step_alike stuck c (exec_once stuck again c steps ((id, place) ∷ passed))
    (exec_once stuck again1 c steps ((id, place) ∷ passed)) (exec_once stuck again c steps []) (exec_once stuck again1 c steps [])
    id place
    (λ id1 place1 l. once_alike stuck c settles again again1 steps ((id, place) ∷ passed) id1 place1
    (Once id place id1 place1 l, all_longer c passed id place id1 place1 all l))
    (λ id1 place1. once_alike stuck c settles again again1 steps [] id1 place1 tt) store notes answers ok
    ∙ sym (ap (λ b. step stuck c (c.item id place)
    (if b then again1 steps passed else exec_once stuck again1 c steps ((id, place) ∷ passed))
    (exec_once stuck again1 c steps []) id place store notes answers) fresh)

-- No run of a code that settles passes a point twice in a row of silent steps.
pub settles_passes_once : (c : Code) → AlwaysSettles c → (entry : BlockId) (params : List ℕ) → PassesOnce c entry params
settles_passes_once c settles entry params stuck again steps start arguments answers =
    once_alike stuck c settles again (λ left passed. no_way stuck) steps [] entry.0 0 tt
    (start_store c params start arguments) no_notes answers (none_left c)

-- A run that goes on as a walk from a passed point is the walk.
pub once_walks : (stuck : Trace) (c : Code) (steps : ℕ) (passed : List Point)
    → exec_once stuck (λ left points. walk stuck c left) c steps passed ≡ walk stuck c steps
once_walks stuck c zero passed = λ i id place store notes answers. stuck
once_walks stuck c (suc steps) passed =
    λ i id place store notes answers. step stuck c (c.item id place)
    (by_passed (is_passed (id, place) passed) (once_walks stuck c steps ((id, place) ∷ passed)) i)
    (once_walks stuck c steps [] i) id place store notes answers
  where
    by_passed : {f : Next} → (b : Bool) → f ≡ walk stuck c steps → (if b then walk stuck c steps else f) ≡ walk stuck c steps
    by_passed true e = refl
    by_passed false e = e

-- A graph that may be ordered leads from reached blocks to reached blocks.
reached_kept : (g : Graph) → MayOrder g → (ident : ℕ → Option ℕ) (world : World)
    → Prunes (Reached g) (ReadsAt g) (StepsAt g) (code_of g ident world) (code_of g ident world)
reached_kept g may ident world = record {
  items = λ id place r. becomes_refl (ReadsAt g) (item_at g.table (block_of g.blocks id) place);
  stays = λ id place item r is. item_stays g may id place item r is;
  catchers = λ id r. refl;
  handlers = λ id handler r is. handler_reached g id handler r is;
  reads = λ id s. ByStep id s;
  shared = refl;
}

-- The trace of a graph whose silent rows end is that of the walk, for steps enough.
pub settled_walks : (g : Graph) → MayOrder g → (ident : ℕ → Option ℕ) (world : World) (params : List ℕ)
    → AlwaysSettles (code_of g ident world)
    → (stuck : Trace) (start : List Assignment) (arguments : List Value) (answers : List Answer)
    → (steps : ℕ) → steps_for answers (positions g.blocks) ≤ steps
    → graph_trace stuck g ident world params start arguments answers
    ≡ walk stuck (code_of g ident world) steps g.entry.0 0 (start_store (code_of g ident world) params start arguments) no_notes answers
settled_walks g may ident world params settles stuck start arguments answers steps many =
    bound_free (Reached g) (ReadsAt g) (StepsAt g) code (reached_kept g may ident world) g.entry params Begins once
    (points_in g.blocks) (λ id place item r is. item_within g.blocks g.table id place item is) (positions g.blocks)
    (let e : length (points_in g.blocks) ≡ positions g.blocks = points_count g.blocks in omega (arith, e))
    stuck start arguments answers steps many
    ∙ sym (once stuck (λ left passed. walk stuck code left) steps start arguments answers)
    ∙ ap (λ (f : Next). f g.entry.0 0 (start_store code params start arguments) no_notes answers) (once_walks stuck code steps [])
  where
    code : Code
    code = code_of g ident world

    once : PassesOnce code g.entry params
    once = settles_passes_once code settles g.entry params
