-- Values of a link of an optional chain: those that it is given, and those that it hands on.
use Rattle.std.proofs.Common.{◌≡◌, ℕ, ◌<◌, ◌≤◌, inl, Bool, true, false, List, [], ◌∷◌, ◌++◌, length, map, get_or, All, Some, refl}
use Rattle.std.proofs.Common.{ap, ◌∙◌, arith}
use Rattle.std.proofs.lemmas.List.{map-append}
use Rattle.std.proofs.lemmas.List.Elements.{All-cons, All-head, All-nil, All-push, All-tail}
use Rattle.rl_base.specs.declared.span.Span.{Span}
use Rattle.rl_builder.specs.Builder.{State, innermost}
use Rattle.rl_hir.specs.declared.instruction.InstructionKind.TheVariants as variables
use Rattle.rl_hir.specs.declared.instruction.InstructionValue.TheVariants as values
use Rattle.rl_hir.specs.declared.instruction.Place.{Place}
use Rattle.rl_machine.specs.declared.trace.Answer.{Answer}
use Rattle.rl_machine.specs.declared.trace.Trace.{Trace}
use Rattle.rl_machine.specs.declared.trace.Value.{Value}
use Rattle.rl_machine.specs.Ends.{Notes}
use Rattle.rl_machine.specs.Machine.{Code}
use Rattle.rl_machine.specs.Traces.{Store, World, set}
use Rattle.rl_model.specs.Actions.{Action}
use Rattle.rl_model.specs.Expressions.{called}
use Rattle.rl_optional_frames.specs.Links.{RunsOnAll}
use Rattle.rl_optional_frames.specs.Meanings.{handed, tested_of}
use Rattle.rl_runs.proofs.Holes.{computes_on, same_throws, use_all}
use Rattle.rl_runs.proofs.Moves.{contained_before, extends_refl, inside, value_free}
use Rattle.rl_runs.proofs.Steps.{continues_then, set_other, set_same, since_set, since_start, throws_then}
use Rattle.rl_runs.specs.Continuations.{Range, Since, TracesAt, TracesFrom, between}
use Rattle.rl_runs.specs.Facts.{Extends, HasSoundNames, IsContainedIn, Nobody}
use Rattle.rl_runs.specs.Moves.{stored_in}
use Rattle.rl_runs.specs.Simulation.{RunsAll, RunsLink, RunsLinks, RunsOn, RunsOver}

-- Equal values of identifiers.
pub maps_same : (identifiers : List ℕ) (store other : Store) → All (λ i. store i ≡ other i) identifiers
    → map store identifiers ≡ map other identifiers
maps_same [] store other all = refl
maps_same (i ∷ is) store other all =
    ap (λ (v : Value). v ∷ map store is) (All-head (λ (n : ℕ). store n ≡ other n) i is all)
    ∙ ap (λ (l : List Value). other i ∷ l) (maps_same is store other (All-tail (λ (n : ℕ). store n ≡ other n) i is all))

-- The value that is tested.
pub tested_value : (identifiers : List ℕ) (tested : ℕ) (store : Store) → tested_of identifiers ≡ Some tested
    → store tested ≡ called (map store identifiers)
tested_value [] tested store is = absurd (cc)
tested_value (f ∷ []) tested store is = let e : tested ≡ f = cc in ap store e
tested_value (object ∷ f ∷ is) tested store same = let e : tested ≡ f = cc in ap store e

-- A property of the identifiers that are given, and of the link's own, is one of those that it hands on.
pub all_handed : (P : ℕ → Type 0) (lends : Bool) (given : List ℕ) (own : ℕ) → All P given → P own → All P (handed lends given own)
all_handed P true given own all one = All-push P given own all one
all_handed P false given own all one = All-cons P own [] one (All-nil P)

pub handed_values : (lends : Bool) (given : List ℕ) (own : ℕ) (store : Store) (vs : List Value) (v : Value)
    → map store given ≡ vs → store own ≡ v → map store (handed lends given own) ≡ handed lends vs v
handed_values true given own store vs v are is =
    map-append store given (own ∷ []) ∙ ap (λ (l : List Value). l ++ store own ∷ []) are ∙ ap (λ (w : Value). vs ++ w ∷ []) is
handed_values false given own store vs v are is = ap (λ (w : Value). w ∷ []) is

-- An expression that takes one value, as one that takes a list.
pub on_all : (world : World) (d : Value → Action Value) (old new : State) (given identifier : ℕ)
    → RunsOn world d old new given identifier
    → RunsOnAll world (λ vs. d (called vs)) old new (given ∷ []) identifier
on_all world d old new given identifier r = record {
  fresh = r.fresh;
  made = r.made;
  free = r.free;
  runs = λ c cover sound shares free below ways k vs source store notes answers a are throws onward.
      r.runs c cover sound shares (All-head (Nobody c.ident) given [] free)
      (All-head (λ (n : ℕ). n < length old.env.identifiers) given [] below) ways k (called vs) source store notes answers a
      (ap called are) throws onward;
}

-- A link of one value.
pub one_link : (world : World) (old new : State) (d : Action Value) (alternate identifier : ℕ)
    → RunsLinks world (λ ways k. d ways (λ v. k (v ∷ []))) old new alternate (identifier ∷ [])
    → RunsLink world d old new alternate identifier
one_link world old new d alternate identifier r = record {
  fresh = All-head (λ (n : ℕ). length old.env.identifiers ≤ n) identifier [] r.fresh;
  made = All-head (λ (n : ℕ). n < length new.env.identifiers) identifier [] r.made;
  free = λ c cover sound. All-head (Nobody c.ident) identifier [] (r.free c cover sound);
  runs = λ c cover sound shares ways k source store notes answers a throws early onward.
      r.runs c cover sound shares ways (λ vs. k (called vs)) source store notes answers a throws early
      (record {
        goes = λ vs source1 store1 notes1 answers1 t are. onward.goes (called vs) source1 store1 notes1 answers1 t
            (ap called are);
      });
}

-- A value goes into a place that was made before, and the run jumps on: other identifiers keep their values.
pub stores_behind : {c : Code} {r : Range} {store : Store} {notes : Notes} {answers : List Answer} (x : State) (place value : Place)
    (span : Span) (behind : ℕ) (t : Trace) {source1 store1 : Store} {notes1 : Notes} {answers1 : List Answer}
    → IsContainedIn (stored_in x place value span) c → HasSoundNames x → Nobody c.ident place.identifier.0
    → r.identifier ≤ place.identifier.0 → place.identifier.0 < length x.env.identifiers → length x.env.identifiers < r.identifiers
    → ((store2 : Store) → TracesAt c behind 0 store2 notes1 answers1 t
    → TracesFrom c (stored_in x place value span) store2 notes1 answers1 t)
    → ((store2 : Store) → Since c r store notes answers source1 store2 notes1 answers1
    → store2 place.identifier.0 ≡ store1 value.identifier.0
    → ((i : ℕ) → (i ≡ place.identifier.0 → ⊥) → (i ≡ length x.env.identifiers → ⊥) → store2 i ≡ store1 i)
    → TracesAt c behind 0 store2 notes1 answers1 t)
    → Since c r store notes answers source1 store1 notes1 answers1 → TracesFrom c x store1 notes1 answers1 t
stores_behind {c} {r} {store} {notes} {answers} x place value span behind t {source1} {store1} {notes1} {answers1} cover sound free above below last jump onward since =
    computes_on x (values.StoreLocal variables.Const place value) (Some span) c store1 notes1 answers1 t w (p ∷ temp ∷ []) refl cover
    (jump store2
    (onward store2 since2 (set_other (set store1 p w) temp p w apart ∙ set_same store1 p w)
    (λ i not_place not_temp. set_other (set store1 p w) temp i w not_temp ∙ set_other store1 p i w not_place)))
  where
    p : ℕ
    p = place.identifier.0

    temp : ℕ
    temp = length x.env.identifiers

    w : Value
    w = store1 value.identifier.0

    store2 : Store
    store2 = set (set store1 p w) temp w

    apart : p ≡ temp → ⊥
    apart e = omega (arith, e, below)

    since2 : Since c r store notes answers source1 store2 notes1 answers1
    since2 =
        since_set temp w (value_free x (values.StoreLocal variables.Const place value) (Some span) c cover sound)
        (omega (arith, above, below)) last
        (since_set p w free above (omega (arith, below, last)) since)

-- A link over the values that it is given: an instruction, or parts from left to right and then an instruction over all.

pub over_all : (world : World) (e : List Value → Action Value) (old new : State) (given : List ℕ) (identifier : ℕ)
    → RunsOver world e old new given identifier → RunsOnAll world e old new given identifier
over_all world e old new given identifier r = record {
  fresh = r.fresh;
  made = r.made;
  free = r.free;
  runs = λ c cover sound shares free below ways k vs source store notes answers a are throws onward.
      r.runs c cover sound shares ways k vs source store notes answers a are throws onward;
}

pub parts_all : (world : World) (s mid new : State) (ds : Action (List Value)) (e : List Value → Action Value)
    (given identifiers : List ℕ) (identifier : ℕ)
    → Extends s mid → Extends mid new → RunsAll world ds s mid identifiers → RunsOver world e mid new (given ++ identifiers) identifier
    → RunsOnAll world (λ vs ways k. ds ways (λ ws. e (vs ++ ws) ways k)) s new given identifier
parts_all world s mid new ds e given identifiers identifier g1 g2 rs r = record {
  fresh = omega (arith, r.fresh, g1.identifiers);
  made = r.made;
  free = λ c cover sound. r.free c cover (g1.sound sound);
  runs = λ c cover sound shares free below ways k vs source store notes answers a are throws onward.
      use_all ways (λ ws. e (vs ++ ws) ways k) rs (contained_before g2 cover) sound shares (inside (extends_refl s) g2) throws
      (since_start a)
      (λ ws source1 store1 notes1 answers1 t u those.
      r.runs c cover (g1.sound sound) shares ways k (vs ++ ws) source1 store1 notes1 answers1 t.agrees
      (map-append store1 given identifiers
      ∙ ap (λ (l : List Value). l ++ map store1 identifiers)
      (maps_same given store1 store (λ i default within. u.later.temporaries (get_or given i default) (free i default within)
      (inl (below i default within))) ∙ are)
      ∙ ap (λ (l : List Value). vs ++ l) those)
      (throws_then (innermost mid.handlers) ways.throws (inside g1 (extends_refl new)) t.later
      (same_throws c (between s new) store notes answers s mid ways.throws g1.handlers throws))
      (continues_then (inside g1 (extends_refl new)) t.later onward));
}
