-- A step of two codes goes on alike where the runs behind it are alike.
use Rattle.std.proofs.Common.{◌≡◌, ℕ, ◌+◌, ◌<◌, Bool, true, false, Option, Some, None, List, [], ◌∷◌, length, map, refl, sym, ap, ◌∙◌, subst, arith}
use Rattle.std.proofs.Common.{eq-eqb}
use Rattle.std.proofs.lemmas.Bool.{ne_eqb}
use Rattle.std.specs.Prelude.{cond, nat_eq}
use Rattle.rl_base.specs.declared.ids.BlockId.{BlockId}
use Rattle.rl_base.specs.declared.ids.IdentifierId.{IdentifierId}
use Rattle.rl_hir.specs.declared.instruction.InstructionValue.{InstructionValue}
use Rattle.rl_hir.specs.declared.instruction.Place.{Place}
use Rattle.rl_hir.specs.declared.terminal.Case.{Case}
use Rattle.rl_machine.specs.Acts.{Act, Computes, Asks, Opens, Steps, act, landed, set_each}
use Rattle.rl_machine.specs.Ends.{Leaving, Goes, Tests, Reads, Compares, Returns, Throws, Stops, Note, Connects, Chooses, Chains, Loops, Enumerates, Iterates, Catches, Passes, Notes, noted, all_noted, leaving, Choice, Truthy, Nullish, Straight, Nowhere, exit_of}
use Rattle.rl_machine.specs.Machine.{Code, Item, Runs, Ends, Next, changer, caught, caught_at, set_where, opened, step_to, exit_at, executed, branched, choice_at, compared, default_case, or_default, at_default, tried, left, step}
use Rattle.rl_machine.specs.Prunes.{IsStep, NoneRead, ExitsKept, Each, LeavesIn, StaysIn, LeavesAs, Stays, Unnoted, Becomes}
use Rattle.rl_machine.specs.Traces.{Store, set, Changer, Cont, ValueCont, AnswerCont, by_kind, emit, asked, fired, tested, stepped, truthy, nullish, matches}
use Rattle.rl_machine.specs.declared.trace.Value.{Value}
use Rattle.rl_machine.specs.declared.trace.Answer.{Answer}
use Rattle.rl_machine.specs.declared.trace.AnswerKind.{AnswerKind}
use Rattle.rl_machine.specs.declared.trace.AnswerKind.TheVariants.{Yes, No, Throw}
use Rattle.rl_machine.specs.declared.trace.Event.{Event}
use Rattle.rl_machine.specs.declared.trace.Trace.{Trace}

kind_same : (kind : AnswerKind) (hit miss thrown hit1 miss1 thrown1 : Trace) → hit1 ≡ hit → miss1 ≡ miss → thrown1 ≡ thrown
    → by_kind kind hit1 miss1 thrown1 ≡ by_kind kind hit miss thrown
kind_same Yes hit miss thrown hit1 miss1 thrown1 y n t = y
kind_same No hit miss thrown hit1 miss1 thrown1 y n t = n
kind_same Throw hit miss thrown hit1 miss1 thrown1 y n t = t

asked_same : (change : Changer) (event : Event) (store : Store) (answers : List Answer) (onward onward1 : AnswerCont)
    → ((a : Answer) (later : Store) (rest : List Answer) → length rest < length answers → onward1 a later rest ≡ onward a later rest)
    → asked change event store answers onward1 ≡ asked change event store answers onward
asked_same change event store [] onward onward1 same = refl
asked_same change event store (a ∷ rest) onward onward1 same =
    ap (λ t. emit event t) (same a (change a.assignments store) rest (omega arith))

pub fired_same : (change : Changer) (event : Event) (store : Store) (answers : List Answer) (onward onward1 : AnswerCont) (throws throws1 : ValueCont)
    → ((a : Answer) (later : Store) (rest : List Answer) → length rest < length answers → onward1 a later rest ≡ onward a later rest)
    → ((v : Value) (later : Store) (rest : List Answer) → length rest < length answers → throws1 v later rest ≡ throws v later rest)
    → fired change event store answers onward1 throws1 ≡ fired change event store answers onward throws
fired_same change event store answers onward onward1 throws throws1 on thrown =
    asked_same change event store answers _ _
    (λ a later rest fewer. kind_same a.kind _ _ _ _ _ _ (on a later rest fewer) (on a later rest fewer) (thrown a.value later rest fewer))

pub tested_same : (change : Changer) (event : Event) (store : Store) (answers : List Answer) (hit hit1 miss miss1 : Cont)
    → ((later : Store) (rest : List Answer) → length rest < length answers → hit1 later rest ≡ hit later rest)
    → ((later : Store) (rest : List Answer) → length rest < length answers → miss1 later rest ≡ miss later rest)
    → tested change event store answers hit1 miss1 ≡ tested change event store answers hit miss
tested_same change event store answers hit hit1 miss miss1 y n =
    asked_same change event store answers _ _
    (λ a later rest fewer. kind_same a.kind _ _ _ _ _ _ (y later rest fewer) (n later rest fewer) (n later rest fewer))

pub stepped_same : (change : Changer) (event : Event) (store : Store) (answers : List Answer) (next next1 : ValueCont) (end end1 : Cont) (throws throws1 : ValueCont)
    → ((v : Value) (later : Store) (rest : List Answer) → length rest < length answers → next1 v later rest ≡ next v later rest)
    → ((later : Store) (rest : List Answer) → length rest < length answers → end1 later rest ≡ end later rest)
    → ((v : Value) (later : Store) (rest : List Answer) → length rest < length answers → throws1 v later rest ≡ throws v later rest)
    → stepped change event store answers next1 end1 throws1 ≡ stepped change event store answers next end throws
stepped_same change event store answers next next1 end end1 throws throws1 n e t =
    asked_same change event store answers _ _
    (λ a later rest fewer. kind_same a.kind _ _ _ _ _ _ (n a.value later rest fewer) (e later rest fewer) (t a.value later rest fewer))

-- Notes that agree where they are read, and whose loops end in kept blocks.
pub record SameNotes (kept read steps : ℕ → Type 0) (notes notes1 : Notes) : Type 0 where
  pub at : (block : ℕ) → read block → notes1 block ≡ notes block
  pub exits : (block : ℕ) (behind : BlockId) → steps block → exit_at (notes block) ≡ Some behind → kept behind.0

noted_same : (notes : Notes) (block : BlockId) (note : Note) (id : ℕ) → id ≡ block.0 → noted notes block note id ≡ Some note
noted_same notes block note id e = ap (λ b. cond b (Some note) (notes id)) (eq-eqb id block.0 e)

noted_other : (notes : Notes) (block : BlockId) (note : Note) (id : ℕ) → (id ≡ block.0 → ⊥) → noted notes block note id ≡ notes id
noted_other notes block note id ne = ap (λ b. cond b (Some note) (notes id)) (ne_eqb id block.0 ne)

module _ (kept read steps : ℕ → Type 0) (steps_read : (block : ℕ) → steps block → read block) where
  pub same_noted : (notes notes1 : Notes) (block : BlockId) (note : Note) → SameNotes kept read steps notes notes1
      → (steps block.0 → (behind : BlockId) → exit_of note ≡ Some behind → kept behind.0)
      → SameNotes kept read steps (noted notes block note) (noted notes1 block note)
  same_noted notes notes1 block note s within = record {
    at = λ id r. ap (λ (o : Option Note). cond (nat_eq id block.0) (Some note) o) (s.at id r);
    exits = exits;
  }
    where
      exits : (id : ℕ) (behind : BlockId) → steps id → exit_at (noted notes block note id) ≡ Some behind → kept behind.0
      exits id behind r is = by_id (nat_eq id block.0) refl
        where
          by_id : (b : Bool) → nat_eq id block.0 ≡ b → kept behind.0
          by_id true e =
              let same : id ≡ block.0 = Rattle.std.proofs.Common.eqb-true id block.0 e in
              within (subst (λ n. steps n) same r) behind (ap (λ o. exit_at o) (sym (noted_same notes block note id same)) ∙ is)
          by_id false e =
              s.exits id behind r (ap (λ b. exit_at (cond b (Some note) (notes id))) (sym e) ∙ is)

  pub same_unread : (notes notes1 : Notes) (block : BlockId) (note : Note) → SameNotes kept read steps notes notes1 → (read block.0 → ⊥)
      → SameNotes kept read steps (noted notes block note) notes1
  same_unread notes notes1 block note s unread = record {
    at = λ id r. let ne : id ≡ block.0 → ⊥ = (λ e. unread (subst (λ n. read n) e r)) in s.at id r ∙ sym (noted_other notes block note id ne);
    exits = λ id behind r is. let ne : id ≡ block.0 → ⊥ = (λ e. unread (subst (λ n. read n) e (steps_read id r))) in s.exits id behind r (ap (λ o. exit_at o) (sym (noted_other notes block note id ne)) ∙ is);
  }

  pub same_all : (marks : List (BlockId × Note)) (notes notes1 : Notes) → SameNotes kept read steps notes notes1 → ExitsKept kept steps marks
      → SameNotes kept read steps (all_noted marks notes) (all_noted marks notes1)
  same_all [] notes notes1 s within = s
  same_all (m ∷ marks) notes notes1 s within =
      same_all marks (noted notes m.0 m.1) (noted notes1 m.0 m.1) (same_noted notes notes1 m.0 m.1 s within.0) within.1

  pub unread_all : (marks : List (BlockId × Note)) (notes notes1 : Notes) → SameNotes kept read steps notes notes1 → NoneRead read marks
      → SameNotes kept read steps (all_noted marks notes) notes1
  unread_all [] notes notes1 s none = s
  unread_all (m ∷ marks) notes notes1 s none = unread_all marks (noted notes m.0 m.1) notes1 (same_unread notes notes1 m.0 m.1 s none.0) none.1

  -- The runs go on alike from kept blocks, with these answers left, and with fewer.
  abbrev pub SilentFollows : Next → Next → List Answer → Type 0
  SilentFollows f f1 answers = (id place : ℕ) (store : Store) (notes notes1 : Notes) → kept id → SameNotes kept read steps notes notes1
      → f1 id place store notes1 answers ≡ f id place store notes answers

  abbrev pub LoudFollows : Next → Next → ℕ → Type 0
  LoudFollows f f1 bound = (id place : ℕ) (store : Store) (notes notes1 : Notes) (answers : List Answer) → length answers < bound → kept id
      → SameNotes kept read steps notes notes1 → f1 id place store notes1 answers ≡ f id place store notes answers

  caught_same : (stuck : Trace) (handler : Option ℕ) (notes notes1 : Notes) (f f1 : Next) (bound : ℕ) → LoudFollows f f1 bound
      → ((h : ℕ) → handler ≡ Some h → kept h × read h) → SameNotes kept read steps notes notes1
      → (v : Value) (store : Store) (rest : List Answer) → length rest < bound
      → caught stuck handler notes1 f1 v store rest ≡ caught stuck handler notes f v store rest
  caught_same stuck None notes notes1 f f1 bound g there s v store rest fewer = refl
  caught_same stuck (Some h) notes notes1 f f1 bound g there s v store rest fewer =
      ap (λ o. caught_at stuck o h notes1 f1 v store rest) (s.at h (there h refl).1) ∙ by_note (notes h)
    where
      by_note : (o : Option Note) → caught_at stuck o h notes1 f1 v store rest ≡ caught_at stuck o h notes f v store rest
      by_note None = refl
      by_note (Some (Connects operator)) = refl
      by_note (Some Chooses) = refl
      by_note (Some (Chains flag)) = refl
      by_note (Some (Loops b)) = refl
      by_note (Some (Enumerates b)) = refl
      by_note (Some (Iterates b flag)) = refl
      by_note (Some (Catches binding)) = g h 0 (set_where binding store v) notes notes1 rest fewer (there h refl).0 s
      by_note (Some Passes) = refl

  -- The loud run goes on alike with fewer answers as well, and as a silent one.
  fewer_loud : (f f1 : Next) (bound less : ℕ) → less < bound → LoudFollows f f1 bound → LoudFollows f f1 less
  fewer_loud f f1 bound less below g id place store notes notes1 answers fewer k s = g id place store notes notes1 answers (omega (arith, below, fewer)) k s

  as_silent : (f f1 : Next) (bound : ℕ) (answers : List Answer) → length answers < bound → LoudFollows f f1 bound → SilentFollows f f1 answers
  as_silent f f1 bound answers fewer g id place store notes notes1 k s = g id place store notes notes1 answers fewer k s

  passes_within : (block : ℕ) → steps block → (behind : BlockId) → exit_of Passes ≡ Some behind → kept behind.0
  passes_within block r behind e = absurd (cc)

  module _ (stuck : Trace) (c : Code) (item1 : ℕ → ℕ → Option Item) (catcher1 : ℕ → Option ℕ)
      (catchers : (block : ℕ) → kept block → catcher1 block ≡ c.catcher block)
      (handlers : (block handler : ℕ) → kept block → c.catcher block ≡ Some handler → kept handler × read handler) where
    abbrev pub other : Code
    other = record c { item = item1; catcher = catcher1 }

    throws_same : (notes notes1 : Notes) (f f1 : Next) (bound : ℕ) → LoudFollows f f1 bound → SameNotes kept read steps notes notes1
        → (id : ℕ) → kept id → (v : Value) (store : Store) (rest : List Answer) → length rest < bound
        → caught stuck (catcher1 id) notes1 f1 v store rest ≡ caught stuck (c.catcher id) notes f v store rest
    throws_same notes notes1 f f1 bound g s id k v store rest fewer =
        ap (λ o. caught stuck o notes1 f1 v store rest) (catchers id k)
        ∙ caught_same stuck (c.catcher id) notes notes1 f f1 bound g (λ h e. handlers id h k e) s v store rest fewer

    module _ (silent silent1 loud loud1 : Next) (answers : List Answer) (fs : SilentFollows silent silent1 answers) (fl : LoudFollows loud loud1 (length answers)) (notes notes1 : Notes)
        (s : SameNotes kept read steps notes notes1) where
      opened_same : (o : Option Note) (event : Event) (result id place : ℕ) (store : Store) → kept id
          → ((behind : BlockId) → exit_at o ≡ Some behind → kept behind.0)
          → opened stuck other o event result silent1 loud1 id place store notes1 answers ≡ opened stuck c o event result silent loud id place store notes answers
      opened_same None event result id place store k ends = refl
      opened_same (Some (Connects operator)) event result id place store k ends = refl
      opened_same (Some Chooses) event result id place store k ends = refl
      opened_same (Some (Chains flag)) event result id place store k ends = refl
      opened_same (Some (Loops b)) event result id place store k ends = refl
      opened_same (Some (Enumerates b)) event result id place store k ends = refl
      opened_same (Some (Iterates b true)) event result id place store k ends = fs id (place + 1) store notes notes1 k s
      opened_same (Some (Iterates b false)) event result id place store k ends =
          let after : SameNotes kept read steps (noted notes (record { 0 = id }) (Iterates b true)) (noted notes1 (record { 0 = id }) (Iterates b true)) = same_noted notes notes1 (record { 0 = id }) (Iterates b true) s (λ r behind e. ends behind e) in
          fired_same (changer c) event store answers _ _ _ _
          (λ a later rest fewer. fl id (place + 1) (set later result a.value) _ _ rest fewer k after)
          (λ v later rest fewer. throws_same _ _ loud loud1 (length answers) fl after id k v later rest fewer)
      opened_same (Some (Catches binding)) event result id place store k ends = refl
      opened_same (Some Passes) event result id place store k ends = refl

      step_to_same : (behind : Option BlockId) (event : Event) (result id place : ℕ) (store : Store) → kept id
          → ((b : BlockId) → behind ≡ Some b → kept b.0)
          → step_to stuck other behind event result loud1 id place store notes1 answers ≡ step_to stuck c behind event result loud id place store notes answers
      step_to_same None event result id place store k ends = refl
      step_to_same (Some b) event result id place store k ends =
          stepped_same (changer c) event store answers _ _ _ _ _ _
          (λ v later rest fewer. fl id (place + 1) (set later result v) notes notes1 rest fewer k s)
          (λ later rest fewer. fl b.0 0 later notes notes1 rest fewer (ends b refl) s)
          (λ v later rest fewer. throws_same notes notes1 loud loud1 (length answers) fl s id k v later rest fewer)

      executed_same : (a : Act) (id place : ℕ) (store : Store) → kept id → (IsStep a → steps id)
          → executed stuck other a silent1 loud1 id place store notes1 answers ≡ executed stuck c a silent loud id place store notes answers
      executed_same (Computes v into) id place store k reads = fs id (place + 1) (set_each into v store) notes notes1 k s
      executed_same (Asks event landing) id place store k reads =
          fired_same (changer c) event store answers _ _ _ _
          (λ a later rest fewer. fl id (place + 1) (landed landing a later) notes notes1 rest fewer k s)
          (λ v later rest fewer. throws_same notes notes1 loud loud1 (length answers) fl s id k v later rest fewer)
      executed_same (Opens event result) id place store k reads =
          ap (λ o. opened stuck other o event result silent1 loud1 id place store notes1 answers) (s.at id (steps_read id (reads tt)))
          ∙ opened_same (notes id) event result id place store k (λ behind e. s.exits id behind (reads tt) e)
      executed_same (Steps event result) id place store k reads =
          ap (λ o. step_to stuck other (exit_at o) event result loud1 id place store notes1 answers) (s.at id (steps_read id (reads tt)))
          ∙ step_to_same (exit_at (notes id)) event result id place store k (λ behind e. s.exits id behind (reads tt) e)

      branched_same : (ch : Choice) (test : ℕ) (consequent alternate : BlockId) (store : Store) → kept consequent.0 → kept alternate.0
          → branched stuck other ch test consequent alternate silent1 loud1 notes1 store answers ≡ branched stuck c ch test consequent alternate silent loud notes store answers
      branched_same (Truthy true) test cq al store kc ka =
          tested_same (changer c) (truthy (store test)) store answers _ _ _ _ (λ later rest fewer. fl cq.0 0 later notes notes1 rest fewer kc s) (λ later rest fewer. fl al.0 0 later notes notes1 rest fewer ka s)
      branched_same (Truthy false) test cq al store kc ka =
          tested_same (changer c) (truthy (store test)) store answers _ _ _ _ (λ later rest fewer. fl al.0 0 later notes notes1 rest fewer ka s) (λ later rest fewer. fl cq.0 0 later notes notes1 rest fewer kc s)
      branched_same Nullish test cq al store kc ka =
          tested_same (changer c) (nullish (store test)) store answers _ _ _ _ (λ later rest fewer. fl al.0 0 later notes notes1 rest fewer ka s) (λ later rest fewer. fl cq.0 0 later notes notes1 rest fewer kc s)
      branched_same Straight test cq al store kc ka = fs cq.0 0 store notes notes1 kc s
      branched_same Nowhere test cq al store kc ka = refl

    at_default_same : (o : Option BlockId) (next next1 : Next) (answers : List Answer) (notes notes1 : Notes) (store : Store) → SilentFollows next next1 answers
        → SameNotes kept read steps notes notes1 → ((b : BlockId) → o ≡ Some b → kept b.0)
        → at_default stuck o next1 notes1 store answers ≡ at_default stuck o next notes store answers
    at_default_same None next next1 answers notes notes1 store fs s there = refl
    at_default_same (Some b) next next1 answers notes notes1 store fs s there = fs b.0 0 store notes notes1 (there b refl) s

    tried_same : (change : Changer) (test : Option Place) (value : ℕ) (store : Store) (answers : List Answer) (hit hit1 miss miss1 pass pass1 : Cont)
        → ((later : Store) (rest : List Answer) → length rest < length answers → hit1 later rest ≡ hit later rest)
        → ((later : Store) (rest : List Answer) → length rest < length answers → miss1 later rest ≡ miss later rest)
        → pass1 store answers ≡ pass store answers
        → tried change test value hit1 miss1 pass1 store answers ≡ tried change test value hit miss pass store answers
    tried_same change None value store answers hit hit1 miss miss1 pass pass1 h m p = p
    tried_same change (Some test) value store answers hit hit1 miss miss1 pass pass1 h m p =
        tested_same change (matches (store value) (store test.identifier.0)) store answers hit hit1 miss miss1 h m

    compared_same : (cases : List Case) (o : Option BlockId) (value : ℕ) (next next1 loud loud1 : Next) (answers : List Answer) (notes notes1 : Notes) (store : Store)
        → SilentFollows next next1 answers → LoudFollows loud loud1 (length answers) → SameNotes kept read steps notes notes1
        → Each kept (map (λ (q : Case). q.block) cases) → ((b : BlockId) → o ≡ Some b → kept b.0)
        → compared stuck other cases o value next1 loud1 notes1 store answers ≡ compared stuck c cases o value next loud notes store answers
    compared_same [] o value next next1 loud loud1 answers notes notes1 store fs fl s all there = at_default_same o next next1 answers notes notes1 store fs s there
    compared_same (q ∷ cases) o value next next1 loud loud1 answers notes notes1 store fs fl s all there =
        tried_same (changer c) q.test value store answers _ _ _ _ _ _
        (λ later rest fewer. fl q.block.0 0 later notes notes1 rest fewer all.0 s)
        (λ later rest fewer. compared_same cases o value loud loud1 loud loud1 rest notes notes1 later (as_silent loud loud1 (length answers) rest fewer fl) (fewer_loud loud loud1 (length answers) (length rest) fewer fl) s all.1 there)
        (compared_same cases o value next next1 loud loud1 answers notes notes1 store fs fl s all.1 there)

    default_kept : (cases : List Case) → Each kept (map (λ (q : Case). q.block) cases) → (b : BlockId) → default_case cases ≡ Some b → kept b.0
    default_kept [] all b e = absurd (cc)
    default_kept (q ∷ cases) all b e = by_test q.test e (default_kept cases all.1 b)
      where
        by_test : (test : Option Place) → or_default test q.block (default_case cases) ≡ Some b → (default_case cases ≡ Some b → kept b.0) → kept b.0
        by_test None is rest = (let same : q.block ≡ b = cc in subst (λ (n : BlockId). kept n.0) same all.0)
        by_test (Some test) is rest = rest is

    left_same : (l l1 : Leaving) → LeavesAs read l l1 → LeavesIn kept read steps l → (silent silent1 loud loud1 : Next) (answers : List Answer)
        → SilentFollows silent silent1 answers → LoudFollows loud loud1 (length answers) → (notes notes1 : Notes) → SameNotes kept read steps notes notes1 → (store : Store)
        → left stuck other l1 silent1 loud1 notes1 store answers ≡ left stuck c l silent loud notes store answers
    left_same l l1 (Stays (Goes b marks)) w silent silent1 loud loud1 answers fs fl notes notes1 s store = fs b.0 0 store _ _ w.0 (same_all marks notes notes1 s w.1)
    left_same l l1 (Stays (Tests test cq al f)) w silent silent1 loud loud1 answers fs fl notes notes1 s store =
        let after : SameNotes kept read steps (noted notes f Passes) (noted notes1 f Passes) = same_noted notes notes1 f Passes s (passes_within f.0) in
        tested_same (changer c) (truthy (store test)) store answers _ _ _ _ (λ later rest fewer. fl cq.0 0 later _ _ rest fewer w.0 after) (λ later rest fewer. fl al.0 0 later _ _ rest fewer w.1 after)
    left_same l l1 (Stays (Reads test cq al f)) w silent silent1 loud loud1 answers fs fl notes notes1 s store =
        ap (λ o. branched stuck other (choice_at o) test cq al silent1 loud1 notes1 store answers) (s.at f.0 w.2)
        ∙ branched_same silent silent1 loud loud1 answers fs fl notes notes1 s (choice_at (notes f.0)) test cq al store w.0 w.1
    left_same l l1 (Stays (Compares value cases f)) w silent silent1 loud loud1 answers fs fl notes notes1 s store =
        compared_same cases (default_case cases) value silent silent1 loud loud1 answers _ _ store fs fl (same_noted notes notes1 f Passes s (passes_within f.0)) w (default_kept cases w)
    left_same l l1 (Stays (Returns variant value)) w silent silent1 loud loud1 answers fs fl notes notes1 s store = refl
    left_same l l1 (Stays (Throws value)) w silent silent1 loud loud1 answers fs fl notes notes1 s store = refl
    left_same l l1 (Stays Stops) w silent silent1 loud loud1 answers fs fl notes notes1 s store = refl
    left_same l l1 (Unnoted b marks none) w silent silent1 loud loud1 answers fs fl notes notes1 s store = fs b.0 0 store _ _ w.0 (unread_all marks notes notes1 s none)

    pub item_same : (o o1 : Option Item) → Becomes read o o1 → (silent silent1 loud loud1 : Next) (answers : List Answer)
        → SilentFollows silent silent1 answers → LoudFollows loud loud1 (length answers) → (id place : ℕ) (store : Store) (notes notes1 : Notes) → kept id
        → ((item : Item) → o ≡ Some item → StaysIn kept read steps id item) → SameNotes kept read steps notes notes1
        → step stuck other o1 silent1 loud1 id place store notes1 answers ≡ step stuck c o silent loud id place store notes answers
    item_same None None b silent silent1 loud loud1 answers fs fl id place store notes notes1 k stays s = refl
    item_same (Some (Runs i)) (Some (Runs j)) b silent silent1 loud loud1 answers fs fl id place store notes notes1 k stays s =
        ap (λ (v : InstructionValue). executed stuck other (act j.lvalue.identifier.0 v store) silent1 loud1 id place store notes1 answers) b.1
        ∙ ap (λ (q : IdentifierId). executed stuck other (act q.0 i.value store) silent1 loud1 id place store notes1 answers) b.0
        ∙ executed_same silent silent1 loud loud1 answers fs fl notes notes1 s (act i.lvalue.identifier.0 i.value store) id place store k
        (λ step. stays (Runs i) refl (record { store = store; step = step }))
    item_same (Some (Ends t)) (Some (Ends u)) b silent silent1 loud loud1 answers fs fl id place store notes notes1 k stays s =
        left_same (leaving t.kind) (leaving u.kind) b (stays (Ends t) refl) silent silent1 loud loud1 answers fs fl notes notes1 s store
    item_same None (Some (Runs i)) b silent silent1 loud loud1 answers fs fl id place store notes notes1 k stays s = absurd b
    item_same None (Some (Ends t)) b silent silent1 loud loud1 answers fs fl id place store notes notes1 k stays s = absurd b
    item_same (Some (Runs i)) None b silent silent1 loud loud1 answers fs fl id place store notes notes1 k stays s = absurd b
    item_same (Some (Ends t)) None b silent silent1 loud loud1 answers fs fl id place store notes notes1 k stays s = absurd b
    item_same (Some (Runs i)) (Some (Ends t)) b silent silent1 loud loud1 answers fs fl id place store notes notes1 k stays s = absurd b
    item_same (Some (Ends t)) (Some (Runs i)) b silent silent1 loud loud1 answers fs fl id place store notes notes1 k stays s = absurd b
