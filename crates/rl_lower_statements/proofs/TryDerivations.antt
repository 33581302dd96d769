-- Derivations of `throw` and of `try` statements, and the room and the names in the holes of their frames.
use Rattle.std.proofs.Common.{◌≡◌, ℕ, ◌+◌, ◌<◌, ◌≤◌, ◌++◌, List, [], ◌∷◌, length, length-append}
use Rattle.std.proofs.Common.{true, true≢false, Some, None, Result, Ok, Err, OnOk, refl, ap, sym, ◌∙◌, subst, arith}
use Rattle.rl_base.specs.declared.ids.BlockId.{BlockId}
use Rattle.rl_base.specs.declared.row.Row.TheVariants as row
use Rattle.rl_base.specs.declared.span.Span.{Span}
use Rattle.rl_base.specs.declared.stop.Stop.{Stop}
use Rattle.rl_builder.specs.Builder.{State, recorded, reserved}
use Rattle.rl_builder.specs.Temporaries.{with_value}
use Rattle.rl_frames.specs.Frames.{TryParts, try_after, try_at, try_caught, try_ended}
use Rattle.rl_frames.specs.Parts.{try_bound, try_started}
use Rattle.rl_hir.specs.declared.function.BlockKind.TheVariants as blocks
use Rattle.rl_hir.specs.declared.instruction.InstructionKind.TheVariants as kinds
use Rattle.rl_hir.specs.declared.instruction.InstructionValue.{InstructionValue}
use Rattle.rl_hir.specs.declared.instruction.InstructionValue.TheVariants as values
use Rattle.rl_hir.specs.declared.instruction.Place.{Place}
use Rattle.rl_lower_statements.specs.Declarators.{IsDeclared}
use Rattle.rl_lower_statements.specs.Tries.{IsStored, caught_try, noted_finalizer}
use Rattle.rl_lowered.proofs.Arounds.{arounds_in_catch}
use Rattle.rl_lowered.proofs.Blocks.{statement_blocks}
use Rattle.rl_lowered.proofs.Catches.{size_promoted, size_throwing}
use Rattle.rl_lowered.proofs.Names.{names_catch_begun, names_recorded, names_value}
use Rattle.rl_lowered.specs.Arounds.{arounds}
use Rattle.rl_lowered.specs.Forms.{IsAnnotation}
use Rattle.rl_lowered.specs.Items.{caught, promoted}
use Rattle.rl_lowered.specs.Lowered as lowered
use Rattle.rl_lowered.specs.Lowered.{LoweredStatement, catch_at, catch_begun, catch_bound, throwing}
use Rattle.rl_lowered.specs.Named.{IsFound, IsNamed, found}
use Rattle.rl_lowered.specs.Promised.{HasRoom, LowersExpression, LowersStatement, share}
use Rattle.rl_names.specs.Names.{Names}
use Rattle.rl_promises.specs.Jumps.{Around}
use Rattle.rl_promises.specs.Lowerable.{IsLowerableIn}
use Rattle.rl_promises.specs.Patterns.{stop_of_caught, takes_apart}
use Rattle.rl_promises.specs.Rows.{refusal}
use Rattle.rl_runs.specs.Blocks.{size_of}
use Rattle.rl_runs.specs.Moves.{block_id, threw_from}
use Rattle.rl_syntax.specs.declared.numbered.At.{At}
use Rattle.rl_syntax.specs.declared.word.Word.TheVariants as word
use Rattle.rl_syntax.specs.Syntax.{Syntax, Node, Listed, Said, Count, Flag, Absent, Pieces, End, Then, nodes, span_of}
use Rattle.rl_lower_parts.proofs.Derivations.{grown, room_after}
use Rattle.rl_lower_statements.proofs.LoopDerivations.{moved_room}
use Rattle.rl_lower_statements.proofs.StatementDerivations.{statement_derived}

-- `throw`.

pub throwing_room : (at : Span) (s b : State) (more : ℕ) → b ≡ throwing s at → HasRoom s more → HasRoom b more
throwing_room at s b more is room = subst (λ (o : State). HasRoom o more) (sym is) (omega (arith, size_throwing s at, room))

pub throw_ok : (names : Names) (at : At) {tree e : Syntax} {s t : State} {p : Place} (b new : State) (r : Result (Unit {0}) Stop)
    → Node at word.Throw (Then e End) ≡ tree → LowersExpression names e s t p → b ≡ throwing t at.span
    → OnOk r (new ≡ threw_from b at.span p blocks.Block) → OnOk r (LowersStatement names tree s new)
throw_ok names at {tree} {e} {s} {t} {p} b new (Ok x) is l noted moved =
    statement_derived tree (Node at word.Throw (Then e End)) s _ new is
    (moved ∙ ap (λ (o : State). threw_from o at.span p blocks.Block) noted) (lowered.Throw at e s t p l.by)
throw_ok names at b new (Err e) is l noted moved = tt

-- The store of the caught value.
pub stored_told : {names : Names} {bind : At} {value : Place} {identifier : ℕ} {old mid : State} (new : State)
    → IsDeclared names bind old mid identifier
    → new ≡ with_value mid (values.StoreLocal kinds.Catch (record { identifier = record { 0 = identifier }; span = Some bind.span }) value)
    (Some bind.span)
    → IsStored names bind value old new
stored_told {names} {bind} {value} {identifier} {old} {mid} new d moved = record {
  symbol = d.symbol;
  identifier = identifier;
  declared = d.declared;
  bound = d.bound;
  moved = moved
      ∙ ap (λ (o : State). with_value o
      (values.StoreLocal kinds.Catch (record { identifier = record { 0 = identifier }; span = Some bind.span }) value) (Some bind.span))
      d.moved;
  named = subst (IsNamed names) (sym moved) ((names_value {names = names} mid _ (Some bind.span)).named d.named);
  size =
      let stored : size_of new ≤ size_of mid + 4 = grown mid new _ _ moved in
      let variable : size_of mid ≤ size_of old + 2 = d.size in
      omega (arith, stored, variable);
}

-- `try` statements whose `catch` has no parameter.
pub try_plain_told : {names : Names} {at there : At} {block body : Syntax} {s b1 s2 b2 s3 : State} {f : TryParts} {last : Span}
    (f2 : TryParts)
    (new : State) → last ≡ span_of block → f ≡ try_at s at.span None → b1 ≡ try_started s None → LowersStatement names body b1 s2
    → b2 ≡ try_caught f s2 there.span → f2 ≡ try_after f s2 → LowersStatement names block b2 s3 → new ≡ try_ended f2 s3 last
    → LowersStatement names (caught_try at there block Absent body) s new
try_plain_told {names} {at} {there} {block} {body} {s} {b1} {s2} {b2} {s3} {f} {last} f2 new lasts framed begun l_body parted after l_block
    moved =
    statement_derived _ (caught_try at there block Absent body) s _ new refl
    (moved ∙ ap (λ (q : TryParts). try_ended q s3 last) (after ∙ ap (λ (q : TryParts). try_after q s2) framed)
    ∙ ap (λ (x : Span). try_ended (try_after (try_at s at.span None) s2) s3 x) lasts)
    (lowered.TryPlain at there block body s s2 s3
    (subst (λ (o : State). LoweredStatement names body o s2) begun l_body.by)
    (subst (λ (o : State). LoweredStatement names block o s3)
    (parted ∙ ap (λ (q : TryParts). try_caught q s2 there.span) framed) l_block.by))

-- Behind the front of a `catch` with a parameter, and behind the store.

catch_front : {value : Place} {param : Span} (s s1 b0 : State) → s1 ≡ promoted s param → value ≡ caught s param
    → b0 ≡ try_started s1 (Some value)
    → b0 ≡ catch_begun s param
catch_front {value} {param} s s1 b0 made placed begun =
    begun ∙ ap (λ (o : State). try_started o (Some value)) made ∙ ap (λ (p : Place). try_started (promoted s param) (Some p)) placed

stored_found : {names : Names} {bind : At} {value : Place} {b1 : State} (s s1 b0 : State) (stored : IsStored names bind value b0 b1)
    → s1 ≡ promoted s bind.span → value ≡ caught s bind.span → b0 ≡ try_started s1 (Some value)
    → IsFound names (catch_begun s bind.span) stored.symbol bind.span stored.identifier
stored_found {names} {bind} s s1 b0 stored made placed begun =
    subst (λ (o : State). IsFound names o stored.symbol bind.span stored.identifier) (catch_front s s1 b0 made placed begun) stored.bound

stored_bound : {names : Names} {bind : At} {value : Place} (s s1 b0 b1 : State) (stored : IsStored names bind value b0 b1)
    → s1 ≡ promoted s bind.span → value ≡ caught s bind.span → b0 ≡ try_started s1 (Some value)
    → b1 ≡ catch_bound names s stored.symbol stored.identifier bind.span
stored_bound {names} {bind} {value} s s1 b0 b1 stored made placed begun =
    stored.moved
    ∙ ap (λ (o : State). with_value (found names o stored.symbol bind.span) (stores value) (Some bind.span))
    (catch_front s s1 b0 made placed begun)
    ∙ ap (λ (p : Place). with_value (found names (catch_begun s bind.span) stored.symbol bind.span) (stores p) (Some bind.span)) placed
  where
    stores : Place → InstructionValue
    stores p = values.StoreLocal kinds.Catch (record { identifier = record { 0 = stored.identifier }; span = Some bind.span }) p

-- `try` statements whose `catch` has a name as its parameter.
pub try_bound_told : {names : Names} {at there bind : At} {name : List ℕ} {type block body : Syntax} {s s1 b0 b1 s2 b2 s3 : State}
    {f : TryParts}
    {value : Place} {last : Span} (f2 : TryParts) (new : State) → IsAnnotation type → last ≡ span_of block
    → s1 ≡ promoted s bind.span → value ≡ caught s bind.span → f ≡ try_at s1 at.span (Some value) → b0 ≡ try_started s1 (Some value)
    → IsStored names bind value b0 b1 → LowersStatement names body b1 s2
    → b2 ≡ try_caught f s2 there.span → f2 ≡ try_after f s2 → LowersStatement names block b2 s3 → new ≡ try_ended f2 s3 last
    → LowersStatement names (caught_try at there block (Node bind word.Bind (Then (Said name) (Then type End))) body) s new
try_bound_told {names} {at} {there} {bind} {name} {type} {block} {body} {s} {s1} {b0} {b1} {s2} {b2} {s3} {f} {value} {last} f2 new
    annotated
    lasts made placed framed begun stored l_body parted after l_block moved =
    statement_derived _ (caught_try at there block (Node bind word.Bind (Then (Said name) (Then type End))) body) s _ new refl
    (moved ∙ ap (λ (q : TryParts). try_ended q s3 last) (after ∙ ap (λ (q : TryParts). try_after q s2) whole)
    ∙ ap (λ (x : Span). try_ended (try_after (catch_at s at.span bind.span) s2) s3 x) lasts)
    (lowered.TryBound at there bind name type block body stored.symbol stored.identifier s s2 s3 annotated stored.declared
    (stored_found s s1 b0 stored made placed begun)
    (subst (λ (o : State). LoweredStatement names body o s2) (stored_bound s s1 b0 b1 stored made placed begun) l_body.by)
    (subst (λ (o : State). LoweredStatement names block o s3)
    (parted ∙ ap (λ (q : TryParts). try_caught q s2 there.span) whole) l_block.by))
  where
    whole : f ≡ catch_at s at.span bind.span
    whole = framed ∙ ap (λ (o : State). try_at o at.span (Some value)) made
        ∙ ap (λ (p : Place). try_at (promoted s bind.span) at.span (Some p)) placed

-- The surroundings, the names and the room in the holes.

pub plain_arounds : (s b : State) → b ≡ try_started s None → arounds b ≡ arounds s
plain_arounds s b begun = ap arounds begun

pub stored_arounds : {names : Names} {bind : At} {value : Place} (s s1 b0 b1 : State) → IsStored names bind value b0 b1
    → s1 ≡ promoted s bind.span → value ≡ caught s bind.span → b0 ≡ try_started s1 (Some value) → arounds b1 ≡ arounds s
stored_arounds {bind = bind} s s1 b0 b1 stored made placed begun =
    ap arounds (stored_bound s s1 b0 b1 stored made placed begun)
    ∙ arounds_in_catch s stored.symbol stored.identifier bind.span (stored_found s s1 b0 stored made placed begun)

pub caught_arounds : (f : TryParts) (part : Span) (s b : State) → b ≡ try_caught f s part → arounds b ≡ arounds s
caught_arounds f part s b parted = ap arounds parted

pub front_named : {names : Names} {value : Place} {param : Span} (s s1 b0 : State) → s1 ≡ promoted s param → value ≡ caught s param
    → b0 ≡ try_started s1 (Some value) → IsNamed names s → IsNamed names b0
front_named {names} {value} {param} s s1 b0 made placed begun named =
    subst (IsNamed names) (sym (catch_front s s1 b0 made placed begun)) ((names_catch_begun s param).named named)

pub try_started_size : (s : State) → size_of (try_started s None) ≤ size_of s + 2
try_started_size s = omega arith

pub try_caught_size : (f : TryParts) (s : State) (part : Span) → size_of (try_caught f s part) ≤ size_of s + 1
try_caught_size f s part = omega arith

pub promoted_room : (s b : State) (span : Span) (more all : ℕ) → b ≡ promoted s span → 2 + more ≤ all → HasRoom s all → HasRoom b more
promoted_room s b span more all is fits room =
    subst (λ (o : State). HasRoom o more) (sym is) (omega (arith, size_promoted s span, fits, room))

-- In front of the store, and behind it.

started_size : (place : Place) (s : State) → size_of (try_started s (Some place)) ≤ size_of s + 7
started_size place s = omega (arith, grown (reserved s) (try_bound (reserved s) (Some place)) (declares place) place.span refl)
  where
    declares : Place → InstructionValue
    declares p = values.DeclareLocal kinds.Catch p

pub bound_front_room : (value : Place) (span : Span) (s s1 b0 : State) (more all : ℕ) → s1 ≡ promoted s span
    → b0 ≡ try_started s1 (Some value)
    → 9 + more ≤ all → HasRoom s all → HasRoom b0 more
bound_front_room value span s s1 b0 more all made begun fits room =
    moved_room s1 (try_started s1 (Some value)) b0 7 more (7 + more) begun (started_size value s1) (omega arith)
    (promoted_room s s1 span (7 + more) all made (omega (arith, fits)) room)

pub bound_room : {names : Names} {bind : At} (value : Place) (span : Span) (s s1 b0 b1 : State) (more all : ℕ) → s1 ≡ promoted s span
    → b0 ≡ try_started s1 (Some value) → IsStored names bind value b0 b1 → 15 + more ≤ all → HasRoom s all → HasRoom b1 more
bound_room value span s s1 b0 b1 more all made begun stored fits room =
    room_after b0 b1 6 more (6 + more) stored.size (omega arith)
    (bound_front_room value span s s1 b0 (6 + more) all made begun (omega (arith, fits)) room)

-- A handler that was opened is there behind the block.
pub handler_kept : {names : Names} {block : Syntax} (f : TryParts) (part : Span) (s b t : State) → b ≡ try_caught f s part
    → LowersStatement names block b t → 0 < length t.handlers
handler_kept f part s b t parted l =
    let kept : t.handlers ≡ s.handlers ++ block_id f.handler ∷ [] =
    (statement_blocks l.by).extends.handlers ∙ ap (λ (o : State). o.handlers) parted in
    let longer : length t.handlers ≡ length (s.handlers ++ block_id f.handler ∷ []) = ap (λ (l : List BlockId). length l) kept in
    omega (arith, longer, length-append s.handlers (block_id f.handler ∷ []))

-- A finalizer, and a statement without a `catch`.

pub finalizer_named : {names : Names} (finalizer : Syntax) (s b : State) (at : Span) → b ≡ noted_finalizer s at finalizer → IsNamed names s
    → IsNamed names b
finalizer_named {names} finalizer s b at is named = subst (IsNamed names) (sym is) (kept finalizer)
  where
    kept : (f : Syntax) → IsNamed names (noted_finalizer s at f)
    kept Absent = named
    kept (Node there w fields) = (names_recorded s (refusal row.F35 at)).named named
    kept (Listed parts) = (names_recorded s (refusal row.F35 at)).named named
    kept (Said text) = (names_recorded s (refusal row.F35 at)).named named
    kept (Count number) = (names_recorded s (refusal row.F35 at)).named named
    kept (Flag flag) = (names_recorded s (refusal row.F35 at)).named named

finalizer_size : (finalizer : Syntax) (s : State) (at : Span) → size_of (noted_finalizer s at finalizer) ≤ size_of s + 0
finalizer_size Absent s at = omega arith
finalizer_size (Node there w fields) s at = omega arith
finalizer_size (Listed parts) s at = omega arith
finalizer_size (Said text) s at = omega arith
finalizer_size (Count number) s at = omega arith
finalizer_size (Flag flag) s at = omega arith

pub finalizer_room : (finalizer : Syntax) (s b : State) (at : Span) (more all : ℕ) → b ≡ noted_finalizer s at finalizer → more ≤ all
    → HasRoom s all → HasRoom b more
finalizer_room finalizer s b at more all is fits room =
    moved_room s (noted_finalizer s at finalizer) b 0 more all is (finalizer_size finalizer s at) (omega arith) room

pub finalizer_arounds : (finalizer : Syntax) (s b : State) (at : Span) → b ≡ noted_finalizer s at finalizer → arounds b ≡ arounds s
finalizer_arounds finalizer s b at is = ap arounds is ∙ kept finalizer
  where
    kept : (f : Syntax) → arounds (noted_finalizer s at f) ≡ arounds s
    kept Absent = refl
    kept (Node there w fields) = refl
    kept (Listed parts) = refl
    kept (Said text) = refl
    kept (Count number) = refl
    kept (Flag flag) = refl

pub uncaught_told : {names : Names} {at : At} {block handler finalizer : Syntax} {s : State} (new : State) → Absent ≡ handler
    → new ≡ recorded s (refusal row.F34 at.span)
    → LowersStatement names (Node at word.Try (Then block (Then handler (Then finalizer End)))) s new
uncaught_told {names} {at} {block} {handler} {finalizer} {s} new is noted =
    statement_derived _ (Node at word.Try (Then block (Then Absent (Then finalizer End)))) s _ new
    (ap (λ (h : Syntax). Node at word.Try (Then block (Then h (Then finalizer End)))) is) noted (lowered.Uncaught at block finalizer s)

pub with_told : {names : Names} {at : At} {fields : Pieces} {tree : Syntax} {s : State} (new : State) → Node at word.With fields ≡ tree
    → new ≡ recorded s (refusal row.F36 at.span) → LowersStatement names tree s new
with_told {names} {at} {fields} {tree} {s} new is noted =
    statement_derived tree (Node at word.With fields) s _ new is noted (lowered.With at fields s)

finalized : {names : Names} {at there : At} {block param body : Syntax} {s b new : State} (finalizer : Syntax)
    → b ≡ noted_finalizer s at.span finalizer → LoweredStatement names (caught_try at there block param body) b new
    → LoweredStatement names (Node at word.Try (Then block
    (Then (Node there word.Catch (Then param (Then body End))) (Then finalizer End)))) s new
finalized {names} {at} {there} {block} {param} {body} {s} {b} {new} Absent noted l =
    subst (λ (o : State). LoweredStatement names (caught_try at there block param body) o new) noted l
finalized {names} {at} {there} {block} {param} {body} {s} {b} {new} (Node here w fields) noted l =
    lowered.Finalized at there block param body (Node here w fields) s new refl
    (subst (λ (o : State). LoweredStatement names (caught_try at there block param body) o new) noted l)
finalized {names} {at} {there} {block} {param} {body} {s} {b} {new} (Listed parts) noted l =
    lowered.Finalized at there block param body (Listed parts) s new refl
    (subst (λ (o : State). LoweredStatement names (caught_try at there block param body) o new) noted l)
finalized {names} {at} {there} {block} {param} {body} {s} {b} {new} (Said text) noted l =
    lowered.Finalized at there block param body (Said text) s new refl
    (subst (λ (o : State). LoweredStatement names (caught_try at there block param body) o new) noted l)
finalized {names} {at} {there} {block} {param} {body} {s} {b} {new} (Count number) noted l =
    lowered.Finalized at there block param body (Count number) s new refl
    (subst (λ (o : State). LoweredStatement names (caught_try at there block param body) o new) noted l)
finalized {names} {at} {there} {block} {param} {body} {s} {b} {new} (Flag flag) noted l =
    lowered.Finalized at there block param body (Flag flag) s new refl
    (subst (λ (o : State). LoweredStatement names (caught_try at there block param body) o new) noted l)

pub finalized_ok : (names : Names) (at : At) {there : At} {param body handler : Syntax} (block finalizer : Syntax) {b : State}
    (s new : State)
    (r : Result (Unit {0}) Stop) → Node there word.Catch (Then param (Then body End)) ≡ handler → b ≡ noted_finalizer s at.span finalizer
    → OnOk r (LowersStatement names (caught_try at there block param body) b new)
    → OnOk r (LowersStatement names (Node at word.Try (Then block (Then handler (Then finalizer End)))) s new)
finalized_ok names at {there} {param} {body} {handler} block finalizer {b} s new (Ok x) is noted l =
    statement_derived _ (Node at word.Try (Then block (Then (Node there word.Catch (Then param (Then body End))) (Then finalizer End)))) s
    new new
    (ap (λ (h : Syntax). Node at word.Try (Then block (Then h (Then finalizer End)))) is) refl (finalized finalizer noted l.by)
finalized_ok names at block finalizer s new (Err e) is noted l = tt

pub caught_ok : (names : Names) (at there : At) (block body : Syntax) {param shown : Syntax} (s new : State) (r : Result (Unit {0}) Stop)
    → param ≡ shown
    → OnOk r (LowersStatement names (caught_try at there block param body) s new)
    → OnOk r (LowersStatement names (caught_try at there block shown body) s new)
caught_ok names at there block body s new (Ok x) is l =
    subst (λ (p : Syntax). LowersStatement names (caught_try at there block p body) s new) is l
caught_ok names at there block body s new (Err e) is l = tt

-- A statement with a `catch`, from its clause.

pub caught_may : (names : Names) (at : At) {there : At} {param body handler : Syntax} (block finalizer : Syntax) (s b : State)
    → Node there word.Catch (Then param (Then body End)) ≡ handler → arounds b ≡ arounds s
    → IsLowerableIn names (arounds s) None (Node at word.Try (Then block (Then handler (Then finalizer End))))
    → IsLowerableIn names (arounds b) None (caught_try at there block param body)
caught_may names at {there} {param} {body} {handler} block finalizer s b is around may =
    subst (λ (a : List Around). IsLowerableIn names a None (caught_try at there block param body)) (sym around)
    (subst (λ (h : Syntax). IsLowerableIn names (arounds s) None (Node at word.Try (Then block (Then h (Then finalizer End))))) (sym is)
    may)

pub caught_room : (at : At) {there : At} {param body handler : Syntax} (block finalizer : Syntax) (s b : State)
    → Node there word.Catch (Then param (Then body End)) ≡ handler → b ≡ noted_finalizer s at.span finalizer
    → HasRoom s (share (nodes (Node at word.Try (Then block (Then handler (Then finalizer End))))))
    → HasRoom b (share (nodes (caught_try at there block param body)))
caught_room at {there} {param} {body} {handler} block finalizer s b is noted room =
    let counted : nodes (Node there word.Catch (Then param (Then body End))) ≡ nodes handler = ap nodes is in
    finalizer_room finalizer s b at.span (share (nodes (caught_try at there block param body)))
    (share (nodes (Node at word.Try (Then block (Then handler (Then finalizer End)))))) noted (omega (arith, counted)) room

-- The parameter of a `catch` takes nothing apart.
pub never_apart : {param shown : Syntax} → param ≡ shown → takes_apart param ≡ true → stop_of_caught shown ≡ None → ⊥
never_apart {param} is apart none = apart_stops param apart (ap stop_of_caught is ∙ none)
  where
    apart_stops : (p : Syntax) → takes_apart p ≡ true → stop_of_caught p ≡ None → ⊥
    apart_stops (Node at word.Arraypat parts) apart none = absurd (cc)
    apart_stops (Node at word.Objectpat parts) apart none = absurd (cc)
    apart_stops _ apart none = absurd (true≢false (sym apart))

pub clause_may : (names : Names) (at there : At) (block body : Syntax) {param shown : Syntax} (around : List Around) → param ≡ shown
    → IsLowerableIn names around None (caught_try at there block shown body)
    → IsLowerableIn names around None (caught_try at there block param body)
clause_may names at there block body around is may =
    subst (λ (p : Syntax). IsLowerableIn names around None (caught_try at there block p body)) (sym is) may

pub clause_room : (at there : At) (block body : Syntax) {param shown : Syntax} (s : State) → param ≡ shown
    → HasRoom s (share (nodes (caught_try at there block shown body))) → HasRoom s (share (nodes (caught_try at there block param body)))
clause_room at there block body s is room =
    subst (λ (p : Syntax). HasRoom s (share (nodes (caught_try at there block p body)))) (sym is) room
