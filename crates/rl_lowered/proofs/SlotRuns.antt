-- A value is taken apart: variables take their pieces at once, and temporaries those of the parts that come behind the instruction, each in
-- its turn.
use Rattle.std.proofs.Common.{◌≡◌, ℕ, ◌+◌, ◌<◌, ◌≤◌, inl, List, [], ◌∷◌, length, map, codes, Some, refl, sym, ap, ◌∙◌, subst}
use Rattle.std.proofs.Common.{arith}
use Rattle.rl_builder.specs.Builder.{innermost}
use Rattle.rl_builder.specs.Temporaries.{with_value}
use Rattle.rl_builder.specs.declared.blocks.WipBlock.{WipBlock}
use Rattle.rl_hir.specs.Pieces.{operands, pattern_pieces, texts}
use Rattle.rl_hir.specs.declared.instruction.InstructionKind.{InstructionKind}
use Rattle.rl_hir.specs.declared.instruction.Pattern.{Pattern}
use Rattle.rl_lowered.proofs.Common.{InstructionValue, Place, Span, State, Syntax}
use Rattle.rl_lowered.specs.Items.{Later, destructured}
use Rattle.rl_machine.specs.Acts.{Asks, Landing, act, landed, targets}
use Rattle.rl_machine.specs.Ends.{Notes}
use Rattle.rl_machine.specs.Machine.{Code}
use Rattle.rl_machine.specs.Traces.{Cont, Store, ValueCont, World, fired, set, set_open, take_values}
use Rattle.rl_machine.specs.declared.trace.Answer.{Answer}
use Rattle.rl_machine.specs.declared.trace.Trace.{Trace}
use Rattle.rl_machine.specs.declared.trace.Value.{Value}
use Rattle.rl_model.specs.Actions.{◌>>=◌, ◌>>◌, Action, Ways, done, give}
use Rattle.rl_model.specs.Events.{destructure, event}
use Rattle.rl_model.specs.Expressions.{first_piece, later_pieces}
use Rattle.rl_runs.proofs.Asking.{asks_on}
use Rattle.rl_runs.proofs.Holes.{same_throws, use_expression}
use Rattle.rl_runs.proofs.Moves.{contained_before, extends_refl, extends_then, extends_value, inside, value_free, value_made}
use Rattle.rl_runs.proofs.Shared.{since_store}
use Rattle.rl_runs.proofs.Steps.{follows_then, later_refl, set_other, set_same, since_set, since_start, since_then, throws_then}
use Rattle.rl_runs.specs.Continuations.{Agrees, Continues, Follows, Range, SharesVariables, Since, Throws, TracesAt, TracesFrom, between}
use Rattle.rl_runs.specs.Facts.{AreOne, Extends, HasSoundNames, IsContainedIn, Nobody}
use Rattle.rl_runs.specs.Simulation.{RunsExpression, RunsOn, RunsPattern}

-- A place that takes a piece: a variable, or the temporary of a part that was left.
pub data Slot : Type 0 where
  Sets : (symbol identifier : ℕ) → Slot
  Keeps : (later : Later) → Slot

abbrev pub slot_at : Slot → ℕ
slot_at (Sets symbol identifier) = identifier
slot_at (Keeps later) = later.value.identifier.0

-- The parts that were left.
abbrev pub kept_of : List Slot → List Later
kept_of [] = []
kept_of (Sets symbol identifier ∷ slots) = kept_of slots
kept_of (Keeps later ∷ slots) = later ∷ kept_of slots

-- The source's store in which the variables have their pieces.
abbrev pub set_slots : List Slot → List Value → Store → Store
set_slots [] vs source = source
set_slots (Sets symbol identifier ∷ slots) vs source = set_slots slots (later_pieces vs) (set source symbol (first_piece vs))
set_slots (Keeps later ∷ slots) vs source = set_slots slots (later_pieces vs) source

-- The parts that were left take their pieces.
abbrev pub followed : (take : Syntax → Value → Action (Unit {0})) → List Slot → List Value → Action (Unit {0})
followed take [] vs = done
followed take (Sets symbol identifier ∷ slots) vs = followed take slots (later_pieces vs)
followed take (Keeps later ∷ slots) vs = do
  take later.part (first_piece vs)
  followed take slots (later_pieces vs)

-- The temporaries are numbered from `first` on below `end`, in order, and are no symbol's.
pub data AreSlots (c : Code) (end : ℕ) : (first : ℕ) → List Slot → Type 0 where
  NoSlot : {first : ℕ} → AreSlots c end first []
  NextSets : {first : ℕ} (symbol identifier : ℕ) (slots : List Slot) → c.ident symbol ≡ Some identifier → AreSlots c end first slots
      → AreSlots c end first (Sets symbol identifier ∷ slots)
  NextKeeps : {first : ℕ} (later : Later) (slots : List Slot) → first ≤ later.value.identifier.0 → later.value.identifier.0 < end
      → Nobody c.ident later.value.identifier.0 → AreSlots c end (later.value.identifier.0 + 1) slots
      → AreSlots c end first (Keeps later ∷ slots)

-- They may be numbered from a lower number on.
pub slots_from : {c : Code} {end first : ℕ} {slots : List Slot} → AreSlots c end first slots → (low : ℕ) → low ≤ first
    → AreSlots c end low slots
slots_from NoSlot low below = NoSlot
slots_from (NextSets symbol identifier slots is rest) low below = NextSets symbol identifier slots is (slots_from rest low below)
slots_from (NextKeeps later slots from high free rest) low below =
    NextKeeps later slots (omega (arith, from, below)) high free rest

take_next : (id : ℕ) (ids : List ℕ) (vs : List Value) (store : Store)
    → take_values (id ∷ ids) vs store ≡ take_values ids (later_pieces vs) (set store id (first_piece vs))
take_next id ids [] store = refl
take_next id ids (v ∷ vs) store = refl

-- An identifier in front of the temporaries, which is no symbol's, keeps its value.
kept_by : {c : Code} {end first : ℕ} {slots : List Slot} → AreSlots c end first slots → (id : ℕ) → Nobody c.ident id → id < first
    → (vs : List Value) (store : Store) → take_values (map slot_at slots) vs store id ≡ store id
kept_by NoSlot id nobody below vs store = refl
kept_by (NextSets symbol identifier slots is rest) id nobody below vs store =
    ap (λ (x : Store). x id) (take_next identifier (map slot_at slots) vs store)
    ∙ kept_by rest id nobody below (later_pieces vs) (set store identifier (first_piece vs))
    ∙ set_other store identifier id (first_piece vs) (λ e. nobody symbol (is ∙ ap (λ (n : ℕ). Some n) (sym e)))
kept_by (NextKeeps later slots from high free rest) id nobody below vs store =
    ap (λ (x : Store). x id) (take_next later.value.identifier.0 (map slot_at slots) vs store)
    ∙ kept_by rest id nobody (omega (arith, from, below)) (later_pieces vs) (set store later.value.identifier.0 (first_piece vs))
    ∙ set_other store later.value.identifier.0 id (first_piece vs) (λ e. omega (arith, e, from, below))

-- Both stores take the pieces.
slots_since : {c : Code} {end first : ℕ} {slots : List Slot} {r : Range} {store : Store} {notes : Notes} {answers : List Answer}
    → AreSlots c end first slots → AreOne c.ident → r.identifier ≤ first → end ≤ r.identifiers → (vs : List Value)
    → {source1 store1 : Store} {notes1 : Notes} {answers1 : List Answer} → Since c r store notes answers source1 store1 notes1 answers1
    → Since c r store notes answers (set_slots slots vs source1) (take_values (map slot_at slots) vs store1) notes1 answers1
slots_since NoSlot one low high vs t = t
slots_since {c} {end} {first} {slots} {r} {store} {notes} {answers} (NextSets symbol identifier more is rest) one low high vs
    {source1} {store1} {notes1} {answers1} t =
    subst (λ (x : Store). Since c r store notes answers (set_slots more (later_pieces vs) (set source1 symbol (first_piece vs))) x notes1
    answers1) (sym (take_next identifier (map slot_at more) vs store1))
    (slots_since rest one low high (later_pieces vs) (since_store symbol identifier (first_piece vs) one is t))
slots_since {c} {end} {first} {slots} {r} {store} {notes} {answers} (NextKeeps later more from below free rest) one low high vs
    {source1} {store1} {notes1} {answers1} t =
    subst (λ (x : Store). Since c r store notes answers (set_slots more (later_pieces vs) source1) x notes1 answers1)
    (sym (take_next later.value.identifier.0 (map slot_at more) vs store1))
    (slots_since rest one (omega (arith, low, from)) high (later_pieces vs)
    (since_set later.value.identifier.0 (first_piece vs) free (omega (arith, low, from)) (omega (arith, below, high)) t))

-- The temporaries have their pieces.
abbrev pub HavePieces : Store → List Slot → List Value → Type 0
HavePieces store [] vs = Unit {0}
HavePieces store (Sets symbol identifier ∷ slots) vs = HavePieces store slots (later_pieces vs)
HavePieces store (Keeps later ∷ slots) vs =
    (store later.value.identifier.0 ≡ first_piece vs) × HavePieces store slots (later_pieces vs)

slots_have : {c : Code} {end first : ℕ} {slots : List Slot} → AreSlots c end first slots → (vs : List Value) (store : Store)
    → HavePieces (take_values (map slot_at slots) vs store) slots vs
slots_have NoSlot vs store = tt
slots_have (NextSets symbol identifier slots is rest) vs store =
    subst (λ (x : Store). HavePieces x slots (later_pieces vs)) (sym (take_next identifier (map slot_at slots) vs store))
    (slots_have rest (later_pieces vs) (set store identifier (first_piece vs)))
slots_have (NextKeeps later slots from below free rest) vs store =
    let id : ℕ = later.value.identifier.0 in
    let x : Store = set store id (first_piece vs) in
    subst (λ (z : Store). (z id ≡ first_piece vs) × HavePieces z slots (later_pieces vs)) (sym (take_next id (map slot_at slots) vs store))
    (kept_by rest id free (omega arith) (later_pieces vs) x ∙ set_same store id (first_piece vs), slots_have rest (later_pieces vs) x)

have_later : {c : Code} {end first : ℕ} {slots : List Slot} → AreSlots c end first slots → (vs : List Value) (x y : Store)
    → ((id : ℕ) → Nobody c.ident id → id < end → y id ≡ x id) → HavePieces x slots vs → HavePieces y slots vs
have_later NoSlot vs x y same h = tt
have_later (NextSets symbol identifier slots is rest) vs x y same h = have_later rest (later_pieces vs) x y same h
have_later (NextKeeps later slots from below free rest) vs x y same h =
    (same later.value.identifier.0 free below ∙ h.0, have_later rest (later_pieces vs) x y same h.1)

-- The graph that is built from `old` to `new` has the traces of parts that take their pieces, in order.
pub data RunsLater (world : World) (take : Syntax → Value → Action (Unit {0})) : List Later → (old new : State) → Type 0 where
  NoneRun : (s : State) → RunsLater world take [] s s
  NextRun : (first : Later) (later : List Later) (s t u : State) → Extends s t → Extends t u
      → RunsPattern world (take first.part) s t first.value.identifier.0 → RunsLater world take later t u
      → RunsLater world take (first ∷ later) s u

followed_run : {s u : State} (world : World) (take : Syntax → Value → Action (Unit {0})) (slots : List Slot)
    → RunsLater world take (kept_of slots) s u → (c : Code) → IsContainedIn u c → HasSoundNames s
    → SharesVariables c.ident world c.world → (end first : ℕ) → AreSlots c end first slots → end ≤ length s.env.identifiers
    → (ways : Ways) (k : Cont) (vs : List Value) (source store : Store) (notes : Notes) (answers : List Answer)
    → Agrees c.ident source store → HavePieces store slots vs
    → Throws c (between s u) store notes answers (innermost s.handlers) ways.throws
    → Follows c (between s u) store notes answers u.current.id.0 (length u.current.instructions) k
    → TracesFrom c s store notes answers (followed take slots vs ways (λ end. k) source answers)
followed_run world take [] (NoneRun s) c cover sound shares end first fits within ways k vs source store notes answers a h throws onward =
    onward.goes source store notes answers (since_start a)
followed_run world take (Sets symbol identifier ∷ slots) r c cover sound shares end first (NextSets other number more is fits)
    within ways k vs source store notes answers a h throws onward =
    followed_run world take slots r c cover sound shares end first fits within ways k (later_pieces vs) source store notes answers a h
    throws onward
followed_run world take (Keeps later ∷ slots) (NextRun front more s t u g1 g2 r rest) c cover sound shares end first
    (NextKeeps one others from below free fits) within ways k vs source store notes answers a h throws onward =
    r.runs c (contained_before g2 cover) sound shares free (omega (arith, below, within)) ways
    (followed take slots (later_pieces vs) ways (λ end. k)) (first_piece vs) source store notes answers a h.0
    (throws_then (innermost s.handlers) ways.throws (inside (extends_refl s) g2) (later_refl c (between s u) store notes answers) throws)
    (record {
      goes = λ source1 store1 notes1 answers1 t1.
          let t2 : Since c (between s u) store notes answers source1 store1 notes1 answers1 =
          since_then (inside (extends_refl s) g2) (later_refl c (between s u) store notes answers) t1 in
          followed_run world take slots rest c cover (g1.sound sound) shares end (later.value.identifier.0 + 1) fits
          (omega (arith, within, g1.identifiers)) ways k (later_pieces vs) source1 store1 notes1 answers1 t1.agrees
          (have_later fits (later_pieces vs) store store1
          (λ id nobody under. t1.later.temporaries id nobody (inl (omega (arith, under, within)))) h.1)
          (throws_then (innermost t.handlers) ways.throws (inside g1 (extends_refl u)) t2.later
          (same_throws c (between s u) store notes answers s t ways.throws g1.handlers throws))
          (follows_then (inside g1 (extends_refl u)) t2.later onward);
    })

-- The action that takes a value apart, for what `m` makes of the pieces.
abbrev pub taken_apart : World → (shape : List (List ℕ)) → (m : List Value → Action (Unit {0})) → Value → Action (Unit {0})
taken_apart world shape m v ways onward source answers =
    fired (set_open world.opens) (destructure shape v) source answers (λ a. m a.pieces ways onward) ways.throws

module _ (world : World) (take : Syntax → Value → Action (Unit {0})) (m : List Value → Action (Unit {0})) (shape : List (List ℕ))
    (slots : List Slot) (s u new : State) (kind : InstructionKind) (pattern : Pattern) (value : Place) (span : Span) where
  abbrev pub apart : InstructionValue
  apart = destructured kind pattern value

  abbrev pub behind : State
  behind = with_value u apart (Some span)

  -- The identifier of the instruction.
  abbrev n : ℕ
  n = length u.env.identifiers

  pub apart_runs : Extends s u → u.current ≡ s.current → Extends (with_value u (destructured kind pattern value) (Some span)) new
      → texts (pattern_pieces pattern) ≡ shape → targets (operands (pattern_pieces pattern)) ≡ map slot_at slots
      → ((c : Code) → IsContainedIn u c → HasSoundNames s → AreSlots c (length u.env.identifiers) (length s.env.identifiers) slots)
      → ((vs : List Value) (ways : Ways) (k : Cont) (source : Store) (answers : List Answer)
      → followed take slots vs ways (λ end. k) (set_slots slots vs source) answers ≡ m vs ways (λ end. k) source answers)
      → RunsLater world take (kept_of slots) (with_value u (destructured kind pattern value) (Some span)) new
      → RunsOn world (λ v. taken_apart world shape m v >> give v) s new value.identifier.0 (length u.env.identifiers)
  apart_runs g same after shaped aimed fits means later = record {
    fresh = g.identifiers;
    made = omega (arith, value_made u apart (Some span), after.identifiers);
    free = λ c cover sound. value_free u apart (Some span) c (contained_before after cover) (g.sound sound);
    runs = λ c cover sound shares nobody within ways k v source store notes answers a is throws onward.
        subst (λ (w : WipBlock). TracesAt c w.id.0 (length w.instructions) store notes answers
        (taken_apart world shape m v ways (λ end. k v) source answers)) same
        (run_it c cover sound shares ways k v source store notes answers a is throws onward);
  }
    where
      gw : Extends s behind
      gw = extends_then g (extends_value u apart (Some span))

      lands : Value → Landing
      lands v = record { given = []; taken = map slot_at slots; kept = (n, v) ∷ [] }

      acts : (store : Store) (v : Value) → store value.identifier.0 ≡ v → act n apart store ≡ Asks (destructure shape v) (lands v)
      acts store v is =
          ap (λ (l : List (List ℕ)). Asks (event (codes "destructure") l (store value.identifier.0 ∷ []))
          (record {
            given = [];
            taken = targets (operands (pattern_pieces pattern));
            kept = (n, store value.identifier.0) ∷ [];
          })) shaped
          ∙ ap (λ (ids : List ℕ). Asks (destructure shape (store value.identifier.0))
          (record { given = []; taken = ids; kept = (n, store value.identifier.0) ∷ [] })) aimed
          ∙ ap (λ (x : Value). Asks (destructure shape x) (lands x)) is

      run_it : (c : Code) → IsContainedIn new c → HasSoundNames s → SharesVariables c.ident world c.world
          → (ways : Ways) (k : ValueCont) (v : Value) (source store : Store) (notes : Notes) (answers : List Answer)
          → Agrees c.ident source store → store value.identifier.0 ≡ v
          → Throws c (between s new) store notes answers (innermost s.handlers) ways.throws
          → Continues c (between s new) store notes answers new.current.id.0 (length new.current.instructions) n k
          → TracesFrom c u store notes answers (taken_apart world shape m v ways (λ end. k v) source answers)
      run_it c cover sound shares ways k v source store notes answers a is throws onward =
          asks_on world u apart (Some span) (destructure shape v) (lands v) (λ x. m x.pieces ways (λ end. k v)) ways.throws
          (acts store v is) cover_behind shares (same_throws c R store notes answers s u ways.throws g.handlers throws) (since_start a)
          (λ x source2 store2 rest here onwards.
          subst (λ (t : Trace). TracesFrom c behind (landed (lands v) x store2) notes rest t) (means x.pieces ways (k v) source2 rest)
          (followed_run world take slots later c cover (gw.sound sound) shares n (length s.env.identifiers)
          (fits c cover_u sound) (omega (arith, value_made u apart (Some span))) ways (k v) x.pieces (set_slots slots x.pieces source2)
          (landed (lands v) x store2) notes rest (landing x source2 store2 rest here).agrees
          (have_later (fits c cover_u sound) x.pieces (take_values (map slot_at slots) x.pieces store2) (landed (lands v) x store2)
          (λ id nobody under. set_other (take_values (map slot_at slots) x.pieces store2) n id v (λ e. omega (arith, e, under)))
          (slots_have (fits c cover_u sound) x.pieces store2))
          (throws_then (innermost behind.handlers) ways.throws (inside gw (extends_refl new)) (landing x source2 store2 rest here).later
          (same_throws c R store notes answers s behind ways.throws gw.handlers throws))
          (ends x source2 store2 rest here)))
        where
          R : Range
          R = between s new

          cover_behind : IsContainedIn behind c
          cover_behind = contained_before after cover

          cover_u : IsContainedIn u c
          cover_u = contained_before (extends_value u apart (Some span)) cover_behind

          alone : Nobody c.ident n
          alone = value_free u apart (Some span) c cover_behind (g.sound sound)

          landing : (x : Answer) (source2 store2 : Store) (rest : List Answer) → Since c R store notes answers source2 store2 notes rest
              → Since c R store notes answers (set_slots slots x.pieces source2) (landed (lands v) x store2) notes rest
          landing x source2 store2 rest here =
              since_set n v alone g.identifiers
              (omega (arith, value_made u apart (Some span), after.identifiers))
              (slots_since (fits c cover_u sound) cover.names.one (omega arith)
              (omega (arith, value_made u apart (Some span), after.identifiers)) x.pieces here)

          -- The instruction's identifier has the value, also behind the parts that were left.
          ends : (x : Answer) (source2 store2 : Store) (rest : List Answer) → Since c R store notes answers source2 store2 notes rest
              → Follows c (between behind new) (landed (lands v) x store2) notes rest new.current.id.0 (length new.current.instructions)
              (k v)
          ends x source2 store2 rest here = record {
            goes = λ source3 store3 notes3 rest3 t3.
                onward.goes v source3 store3 notes3 rest3
                (since_then (inside gw (extends_refl new)) (landing x source2 store2 rest here).later t3)
                (t3.later.temporaries n alone (inl (value_made u apart (Some span)))
                ∙ set_same (take_values (map slot_at slots) x.pieces store2) n v);
          }

-- As `RunsOn`, of an action whose value is not needed behind it.
pub on_dropped : (world : World) (s new : State) (d : Value → Action (Unit {0})) (given identifier : ℕ)
    → RunsOn world (λ v. d v >> give v) s new given identifier → RunsPattern world d s new given
on_dropped world s new d given identifier r = record {
  runs = λ c cover sound shares nobody within ways k v source store notes answers a is throws onward.
      r.runs c cover sound shares nobody within ways (λ w. k) v source store notes answers a is throws
      (record { goes = λ w source1 store1 notes1 answers1 t1 same. onward.goes source1 store1 notes1 answers1 t1 });
}

-- An action that takes a value runs behind the expression that gives it.
pub then_on : (world : World) (s t u : State) (d : Action Value) (o : Value → Action Value) (given identifier : ℕ) → Extends s t
    → Extends t u → RunsExpression world d s t given → RunsOn world o t u given identifier
    → RunsExpression world (d >>= o) s u identifier
then_on world s t u d o given identifier g1 g2 rd ro = record {
  fresh = omega (arith, g1.identifiers, ro.fresh);
  made = ro.made;
  free = λ c cover sound. ro.free c cover (g1.sound sound);
  runs = λ c cover sound shares ways k source store notes answers a throws onward.
      use_expression ways (λ v. o v ways k) rd (contained_before g2 cover) sound shares (inside (extends_refl s) g2) throws (since_start a)
      (λ v source1 store1 notes1 answers1 t1 own is.
      ro.runs c cover (g1.sound sound) shares (rd.free c (contained_before g2 cover) sound) rd.made ways k v source1 store1 notes1 answers1
      t1.agrees is
      (throws_then (innermost t.handlers) ways.throws (inside g1 (extends_refl u)) t1.later
      (same_throws c (between s u) store notes answers s t ways.throws g1.handlers throws))
      (record {
        goes = λ w source2 store2 notes2 answers2 t2 same.
            onward.goes w source2 store2 notes2 answers2 (since_then (inside g1 (extends_refl u)) t1.later t2) same;
      }));
}
