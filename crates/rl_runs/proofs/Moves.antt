-- The builder's moves extend the state, and the graph's run through them.
use Rattle.std.proofs.Common.{◌≡◌, ℕ, ◌+◌, ◌<◌, inl, inr, ◌++◌, List, [], ◌∷◌, length, length-append, Option, Some, None, refl, sym, ap}
use Rattle.std.proofs.Common.{◌∙◌, subst, arith}
use Rattle.std.specs.Option.{option_map}
use Rattle.rl_base.specs.declared.diagnostic.Diagnostic.{Diagnostic}
use Rattle.rl_base.specs.declared.ids.InstructionId.{InstructionId}
use Rattle.rl_builder.proofs.NameLaws.{OneMore-resolved}
use Rattle.rl_builder.specs.Builder.{completed_by, ended_by, ended_by_throw, innermost, maybe_throw, new_block, plainly_pushed}
use Rattle.rl_builder.specs.Builder.{pushed, pushed_under, recorded, reserved, with_temporary}
use Rattle.rl_builder.specs.declared.blocks.WipBlock.{WipBlock}
use Rattle.rl_builder.specs.Names.{NamesAgree, resolved}
use Rattle.rl_builder.specs.Temporaries.{temporary, unordered, with_value}
use Rattle.rl_hir.specs.Blocks.{Pair as BlockPair}
use Rattle.rl_hir.specs.declared.instruction.InstructionValue.{InstructionValue}
use Rattle.rl_hir.specs.declared.terminal.Terminal.{Terminal}
use Rattle.rl_machine.specs.declared.trace.Trace.{Trace}
use Rattle.rl_machine.specs.Ends.{Goes, Note, Notes, all_noted, catcher_of, leaving}
use Rattle.rl_machine.specs.Machine.{Ends, Next, Runs, caught, caught_at, left, step}
use Rattle.rl_machine.specs.Silence.{walk}
use Rattle.rl_machine.specs.Traces.{ValueCont}
use Rattle.rl_runs.proofs.Common.{Answer, BlockId, Code, Instruction, Span, State, Store, Value}
use Rattle.rl_runs.proofs.FinalNames.{covers_before, names_refl, names_resolved, names_then, nobody_fresh, sound_more, sound_resolved}
use Rattle.rl_runs.proofs.Steps.{comes_at_once, get_more, get_seam, steps_on}
use Rattle.rl_runs.specs.Continuations.{Eventually, Inside, Range, Since, Throws, TracesAt, TracesFrom, between}
use Rattle.rl_runs.specs.Facts.{At, Catch, Extends, Fact, HasSoundNames, InBlock, InWip, IsContainedIn, IsCurrentOrCompleted, Nobody}

-- Facts in a larger table.

block_more : (table more : List Instruction) (b : BlockPair) (f : Fact) → InBlock table b f → InBlock (table ++ more) b f
block_more table more b (At place (Runs i)) h = record { number = h.number; at = h.at; kept = get_more table more h.number.0 i h.kept }
block_more table more b (At place (Ends t)) h = h
block_more table more b (Catch handler) h = h

wip_more : (table more : List Instruction) (handlers : List BlockId) (listed others : List InstructionId) (f : Fact)
    → InWip table handlers listed f → InWip (table ++ more) handlers (listed ++ others) f
wip_more table more handlers listed others (At place (Runs i)) h =
    record { number = h.number; at = get_more listed others place h.number h.at; kept = get_more table more h.number.0 i h.kept }
wip_more table more handlers listed others (At place (Ends t)) h = absurd h
wip_more table more handlers listed others (Catch handler) h = h

pub extends_refl : (s : State) → Extends s s
extends_refl s = record {
  done = λ id f d. d;
  wip = λ id f w. inr w;
  table = λ number i is. is;
  completed = λ id k. k;
  current = inl refl;
  entry = refl;
  handlers = refl;
  scopes = refl;
  blocks = omega arith;
  identifiers = omega arith;
  names = names_refl s.env.pairs (length s.env.identifiers);
  sound = λ q. q;
}

pub extends_then : {a b c : State} → Extends a b → Extends b c → Extends a c
extends_then {a} {b} {c} g h = record {
  done = λ id f d. h.done id f (g.done id f d);
  wip = λ id f w. elim (g.wip id f w) [ inl d ↦ inl (h.done id f d) | inr v ↦ h.wip id f v ];
  table = λ number i is. h.table number i (g.table number i is);
  completed = λ id k. h.completed id (g.completed id k);
  current = elim g.current [ inl same ↦ subst (λ id. IsCurrentOrCompleted c id) same h.current | inr k ↦ inr (h.completed a.current.id.0 k) ];
  entry = h.entry ∙ g.entry;
  handlers = h.handlers ∙ g.handlers;
  scopes = h.scopes ∙ g.scopes;
  blocks = omega (arith, g.blocks, h.blocks);
  identifiers = omega (arith, g.identifiers, h.identifiers);
  names =
      names_then a.env.pairs b.env.pairs c.env.pairs (length a.env.identifiers)
      (length b.env.identifiers) g.identifiers g.names h.names;
  sound = λ q. h.sound (g.sound q);
}

-- The range of a part is inside that of the whole.
pub inside : {a x y b : State} → Extends a x → Extends y b → Inside (between a b) (between x y)
inside g h = record { identifier = g.identifiers; identifiers = h.identifiers; block = g.blocks; blocks = h.blocks }

pub extends_reserved : (s : State) → Extends s (reserved s)
extends_reserved s = record {
  done = λ id f d. record { place = d.place; block = d.block; found = d.found; named = d.named; holds = d.holds };
  wip = λ id f w. inr (record { named = w.named; holds = w.holds });
  table = λ number i is. is;
  completed = λ id k. k;
  current = inl refl;
  entry = refl;
  handlers = refl;
  scopes = refl;
  blocks = omega arith;
  identifiers = omega arith;
  names = names_refl s.env.pairs (length s.env.identifiers);
  sound = λ q. q;
}

pub extends_temporary : (s : State) (span : Option Span) → Extends s (with_temporary s span)
extends_temporary s span = record {
  done = λ id f d. record { place = d.place; block = d.block; found = d.found; named = d.named; holds = d.holds };
  wip = λ id f w. inr (record { named = w.named; holds = w.holds });
  table = λ number i is. is;
  completed = λ id k. k;
  current = inl refl;
  entry = refl;
  handlers = refl;
  scopes = refl;
  blocks = omega arith;
  identifiers = simp length-append (omega arith);
  names = names_refl s.env.pairs (length s.env.identifiers);
  sound = λ q. sound_more s.bindings s.used_names s.env.identifiers _ s.env.pairs q;
}

extends_plain : (s : State) (i : Instruction) → Extends s (plainly_pushed s i)
extends_plain s i = record {
  done = λ id f d. record {
    place = d.place;
    block = d.block;
    found = d.found;
    named = d.named;
    holds = block_more s.table
        (i ∷ []) d.block f d.holds;
  };
  wip = λ id f w. inr (record {
    named = w.named;
    holds = wip_more s.table (i ∷ []) s.handlers s.current.instructions
        (record { 0 = length s.table } ∷ []) f w.holds;
  });
  table = λ number j is. get_more s.table (i ∷ []) number j is;
  completed = λ id k. k;
  current = inl refl;
  entry = refl;
  handlers = refl;
  scopes = refl;
  blocks = omega arith;
  identifiers = omega arith;
  names = names_refl s.env.pairs (length s.env.identifiers);
  sound = λ q. q;
}

block_from_wip : (table : List Instruction) (handlers : List BlockId) (wip : WipBlock) (t : Terminal) (f : Fact)
    → (innermost handlers ≡ None → catcher_of t.kind ≡ None)
    → InWip table handlers wip.instructions f → InBlock table (ended_by wip t) f
block_from_wip table handlers wip t (At place (Runs i)) catches h = record { number = h.number; at = h.at; kept = h.kept }
block_from_wip table handlers wip t (At place (Ends u)) catches h = absurd h
block_from_wip table handlers wip t (Catch handler) catches h = catches h.1 ∙ sym h.0

-- The current block ends. Outside handlers its terminal has none.
pub extends_completed : (s : State) (t : Terminal) (next : WipBlock) → (innermost s.handlers ≡ None → catcher_of t.kind ≡ None)
    → Extends s (completed_by s t next)
extends_completed s t next catches = record {
  done = λ id f d. record { place = d.place; block = d.block; found = get_more s.completed _ d.place d.block d.found; named = d.named; holds = d.holds };
  wip = λ id f w. inl (record {
    place = length s.completed;
    block = ended_by s.current t;
    found = get_seam s.completed
        (ended_by s.current t) [];
    named = w.named;
    holds = block_from_wip s.table s.handlers s.current t f catches w.holds;
  });
  table = λ number i is. is;
  completed = λ id k. record { place = k.place; block = k.block; found = get_more s.completed _ k.place k.block k.found; named = k.named };
  current =
      inr (record {
        place = length s.completed;
        block = ended_by s.current t;
        found = get_seam s.completed
            (ended_by s.current t) [];
        named = refl;
      });
  entry = refl;
  handlers = refl;
  scopes = refl;
  blocks = omega arith;
  identifiers = omega arith;
  names = names_refl s.env.pairs (length s.env.identifiers);
  sound = λ q. q;
}

-- An instruction, under the innermost handler.

extends_thrown : (s : State) (handler : BlockId) (span : Option Span) → innermost s.handlers ≡ Some handler
    → Extends s (ended_by_throw s handler span)
extends_thrown s handler span is =
    extends_then (extends_reserved s)
    (extends_completed (reserved s) (maybe_throw s.env.next_block handler span) (new_block s.env.next_block s.current.kind) (λ none. let never : None ≡ Some handler = sym none ∙ is in absurd (cc)))

extends_under : (o : Option BlockId) (s : State) (i : Instruction) → innermost s.handlers ≡ o → Extends s (pushed_under o s i)
extends_under None s i is = extends_plain s i
extends_under (Some handler) s i is = extends_then (extends_plain s i) (extends_thrown (plainly_pushed s i) handler i.span is)

pub extends_pushed : (s : State) (i : Instruction) → Extends s (pushed s i)
extends_pushed s i = extends_under (innermost s.handlers) s i refl

-- A value goes into a fresh identifier.
pub extends_value : (s : State) (value : InstructionValue) (span : Option Span) → Extends s (with_value s value span)
extends_value s value span = extends_then (extends_temporary s span) (extends_pushed (with_temporary s span) _)

-- A diagnostic is recorded.
pub extends_recorded : (s : State) (d : Diagnostic) → Extends s (recorded s d)
extends_recorded s d = record {
  done = λ id f d1. record { place = d1.place; block = d1.block; found = d1.found; named = d1.named; holds = d1.holds };
  wip = λ id f w. inr (record { named = w.named; holds = w.holds });
  table = λ number i is. is;
  completed = λ id k. k;
  current = inl refl;
  entry = refl;
  handlers = refl;
  scopes = refl;
  blocks = omega arith;
  identifiers = omega arith;
  names = names_refl s.env.pairs (length s.env.identifiers);
  sound = λ q. q;
}

-- A symbol is resolved: it gets an identifier unless it has one. That names agree, the builder tells.
pub extends_resolved : (s : State) (name : List ℕ) (symbol : ℕ) (given : Option Span)
    → (NamesAgree s → NamesAgree (resolved s name symbol given)) → Extends s (resolved s name symbol given)
extends_resolved s name symbol given agrees = record {
  done = λ id f d. record { place = d.place; block = d.block; found = d.found; named = d.named; holds = d.holds };
  wip = λ id f w. inr (record { named = w.named; holds = w.holds });
  table = λ number i is. is;
  completed = λ id k. k;
  current = inl refl;
  entry = refl;
  handlers = refl;
  scopes = refl;
  blocks = omega arith;
  identifiers = (OneMore-resolved s name symbol given).kept;
  names = names_resolved s name symbol given;
  sound = λ q. sound_resolved s name symbol given agrees q;
}

pub value_made : (s : State) (value : InstructionValue) (span : Option Span)
    → length s.env.identifiers < length (with_value s value span).env.identifiers
value_made s value span =
    omega (arith, one, (extends_pushed (with_temporary s span) (unordered (temporary s span) value span)).identifiers)
  where
    one : length (with_temporary s span).env.identifiers ≡ length s.env.identifiers + 1
    one = simp length-append (omega arith)

-- Facts that a graph has.

pub contained_before : {old new : State} {c : Code} → Extends old new → IsContainedIn new c → IsContainedIn old c
contained_before {old} {new} {c} g cover = record {
  has = λ id f h. elim h [ inl d ↦ cover.has id f (inl (g.done id f d)) | inr w ↦ cover.has id f (g.wip id f w) ];
  names =
      covers_before old.env.pairs new.env.pairs (length old.env.identifiers)
      (length new.env.identifiers) c.ident g.identifiers g.names cover.names;
}

-- The identifier of a value is no symbol's in the end.
pub value_free : (s : State) (value : InstructionValue) (span : Option Span) (c : Code) → IsContainedIn (with_value s value span) c
    → HasSoundNames s → Nobody c.ident (length s.env.identifiers)
value_free s value span c cover sound =
    nobody_fresh s (length (with_temporary s span).env.identifiers) c.ident (length s.env.identifiers) sound before.names
    (omega arith) made
  where
    before : IsContainedIn (with_temporary s span) c
    before = contained_before (extends_pushed (with_temporary s span) (unordered (temporary s span) value span)) cover

    made : length s.env.identifiers < length (with_temporary s span).env.identifiers
    made = simp length-append (omega arith)

-- The end of a block, which a later block need not follow in the state.
pub terminal_met : (s : State) (t : Terminal) (next : WipBlock) (c : Code) → IsContainedIn (completed_by s t next) c
    → c.item s.current.id.0 (length s.current.instructions) ≡ Some (Ends t)
terminal_met s t next c cover =
    cover.has s.current.id.0 (At (length s.current.instructions) (Ends t))
    (inl (record {
      place = length s.completed;
      block = ended_by s.current t;
      found = get_seam s.completed
          (ended_by s.current t) [];
      named = refl;
      holds = (refl, refl);
    }))

catcher_met : (s : State) (t : Terminal) (next : WipBlock) (c : Code) → IsContainedIn (completed_by s t next) c
    → c.catcher s.current.id.0 ≡ catcher_of t.kind
catcher_met s t next c cover =
    cover.has s.current.id.0 (Catch (catcher_of t.kind))
    (inl (record {
      place = length s.completed;
      block = ended_by s.current t;
      found = get_seam s.completed
          (ended_by s.current t) [];
      named = refl;
      holds = refl;
    }))

plain_met : (s : State) (i : Instruction) (c : Code) → IsContainedIn (plainly_pushed s i) c
    → c.item s.current.id.0 (length s.current.instructions) ≡ Some (Runs i)
plain_met s i c cover =
    cover.has s.current.id.0 (At (length s.current.instructions) (Runs i))
    (inr (record {
      named = refl;
      holds = record {
        number = record { 0 = length s.table };
        at = get_seam s.current.instructions
            (record { 0 = length s.table }) [];
        kept = get_seam s.table i [];
      };
    }))

under_met : (o : Option BlockId) (s : State) (i : Instruction) (c : Code) → innermost s.handlers ≡ o
    → IsContainedIn (pushed_under o s i) c
    → c.item s.current.id.0 (length s.current.instructions) ≡ Some (Runs i)
under_met None s i c is cover = plain_met s i c cover
under_met (Some handler) s i c is cover =
    plain_met s i c (contained_before (extends_thrown (plainly_pushed s i) handler i.span is) cover)

pub instruction_met : (s : State) (i : Instruction) (c : Code) → IsContainedIn (pushed s i) c
    → c.item s.current.id.0 (length s.current.instructions) ≡ Some (Runs i)
instruction_met s i c cover = under_met (innermost s.handlers) s i c refl cover

-- The end of a block that goes on in another.
pub goes_on : (s : State) (t : Terminal) (next : WipBlock) (c : Code) (b : BlockId) (marks : List (BlockId × Note)) (store : Store)
    (notes : Notes) (answers : List Answer) (trace : Trace)
    → leaving t.kind ≡ Goes b marks → IsContainedIn (completed_by s t next) c
    → TracesAt c b.0 0 store (all_noted marks notes) answers trace → TracesFrom c s store notes answers trace
goes_on s t next c b marks store notes answers trace is cover rest =
    steps_on c s.current.id.0 (length s.current.instructions) store notes answers (Ends t) trace (terminal_met s t next c cover)
    (record {
      by = (
        rest.by.0,
        λ stuck steps enough. ap
            (λ l. left stuck c l (walk stuck c steps) (walk stuck c steps) notes store answers) is ∙ rest.by.1 stuck steps enough,
      );
    })

-- The point behind an instruction leads to where the builder stands.
pub goes_behind : (o : Option BlockId) (s : State) (i : Instruction) (c : Code) (store : Store) (notes : Notes) (answers : List Answer)
    (t : Trace) → innermost s.handlers ≡ o
    → IsContainedIn (pushed_under o s i) c → TracesFrom c (pushed_under o s i) store notes answers t
    → TracesAt c s.current.id.0 (length s.current.instructions + 1) store notes answers t
goes_behind o s i c store notes answers t is cover rest = by_handler o is cover rest
  where
    one : length (s.current.instructions ++ record { 0 = length s.table } ∷ []) ≡ length s.current.instructions + 1
    one = length-append s.current.instructions (record { 0 = length s.table } ∷ [])

    by_handler : (o : Option BlockId) → innermost s.handlers ≡ o → IsContainedIn (pushed_under o s i) c
        → TracesFrom c (pushed_under o s i) store notes answers t
        → TracesAt c s.current.id.0 (length s.current.instructions + 1) store notes answers t
    by_handler None is cover rest = subst (λ place. TracesAt c s.current.id.0 place store notes answers t) one rest
    by_handler (Some handler) is cover rest =
        subst (λ place. TracesAt c s.current.id.0 place store notes answers t) one
        (goes_on (reserved (plainly_pushed s i)) (maybe_throw s.env.next_block handler i.span) (new_block s.env.next_block s.current.kind) c
        (record { 0 = s.env.next_block }) [] store notes answers t refl cover rest)

-- A silent instruction: the run goes on where the builder stands behind it.
pub push_runs : (s : State) (i : Instruction) (c : Code) (store after : Store) (notes : Notes) (answers : List Answer) (t : Trace)
    → ((stuck : Trace) (next : Next) (place : ℕ)
    → step stuck c (Some (Runs i)) next next s.current.id.0 place store notes answers ≡ next s.current.id.0 (place + 1) after notes answers)
    → IsContainedIn (pushed s i) c → TracesFrom c (pushed s i) after notes answers t → TracesFrom c s store notes answers t
push_runs s i c store after notes answers t acts cover rest =
    let behind = goes_behind (innermost s.handlers) s i c after notes answers t refl cover rest in
    steps_on c s.current.id.0 (length s.current.instructions) store notes answers (Runs i) t (instruction_met s i c cover)
    (record {
      by = (
        behind.by.0,
        λ stuck steps enough. acts stuck (walk stuck c steps) (length s.current.instructions)
            ∙ behind.by.1 stuck steps enough,
      );
    })

-- The handler of a block to which an instruction is appended.
pub catches : (o : Option BlockId) (s : State) (i : Instruction) (c : Code) → innermost s.handlers ≡ o
    → IsContainedIn (pushed_under o s i) c
    → c.catcher s.current.id.0 ≡ option_map (λ id. id.0) o
catches None s i c is cover = cover.has s.current.id.0 (Catch None) (inr (record { named = refl; holds = (refl, is) }))
catches (Some handler) s i c is cover =
    catcher_met (reserved (plainly_pushed s i)) (maybe_throw s.env.next_block handler i.span)
    (new_block s.env.next_block s.current.kind) c cover

-- A throw goes to where the part's throws go.
pub thrown_comes : (o : Option BlockId) (c : Code) (r : Range) (store : Store) (notes : Notes) (answers : List Answer) (h : ValueCont)
    (v : Value) (source1 store1 : Store) (left : Notes) (rest : List Answer)
    → Throws c r store notes answers o h → Since c r store notes answers source1 store1 left rest
    → Eventually c (λ stuck next. caught stuck (option_map (λ id. id.0) o) left next v store1 rest) (h v source1 rest)
thrown_comes None c r store notes answers h v source1 store1 left rest throws t =
    comes_at_once c _ _ (λ stuck next. sym (throws v source1 rest))
thrown_comes (Some handler) c r store notes answers h v source1 store1 left rest throws t =
    let goes = throws.goes v source1 store1 left rest t in
    record {
      by = (
        goes.by.0,
        λ stuck steps enough. ap (λ note. caught_at stuck note handler.0 left (walk stuck c steps) v store1 rest)
            (t.later.marks handler.0 throws.outside ∙ throws.noted) ∙ goes.by.1 stuck steps enough,
      );
    }
