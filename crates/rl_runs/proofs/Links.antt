-- Links of optional chains, and values that several ways compute.
use Rattle.std.proofs.Common.{◌≡◌, ℕ, ◌<◌, ◌≤◌, List, [], ◌∷◌, length, Some, refl, ap, ◌∙◌, arith}
use Rattle.std.proofs.lemmas.List.Elements.{All-cons, All-nil}
use Rattle.rl_hir.specs.declared.instruction.InstructionKind.TheVariants as variables
use Rattle.rl_hir.specs.declared.instruction.InstructionValue.TheVariants as values
use Rattle.rl_hir.specs.declared.instruction.Place.{Place}
use Rattle.rl_machine.specs.declared.trace.Trace.{Trace}
use Rattle.rl_machine.specs.Ends.{Notes}
use Rattle.rl_machine.specs.Traces.{ValueCont, set}
use Rattle.rl_model.specs.Actions.{Action}
use Rattle.rl_runs.proofs.Common.{Answer, Code, Span, State, Store, Value, World}
use Rattle.rl_runs.proofs.Holes.{computes_on}
use Rattle.rl_runs.proofs.Moves.{value_free}
use Rattle.rl_runs.proofs.Steps.{set_other, set_same, since_set}
use Rattle.rl_runs.specs.Continuations.{Continues, Range, Since, TracesAt, TracesFrom}
use Rattle.rl_runs.specs.Facts.{HasSoundNames, IsContainedIn, Nobody}
use Rattle.rl_runs.specs.Moves.{stored_in}
use Rattle.rl_runs.specs.Simulation.{RunsExpression, RunsLink, RunsLinks}

-- An expression is a link that never ends its chain.
pub link_plain : (world : World) (old new : State) (d : Action Value) (alternate identifier : ℕ)
    → RunsExpression world d old new identifier
    → RunsLink world d old new alternate identifier
link_plain world old new d alternate identifier r = record {
  fresh = r.fresh;
  made = r.made;
  free = r.free;
  runs = λ c cover sound shares ways k source store notes answers a throws early onward. r.runs c cover sound shares ways k source store notes answers a throws onward;
}

-- A link of one value.
pub links_one : (world : World) (old new : State) (d : Action Value) (alternate identifier : ℕ)
    → RunsLink world d old new alternate identifier
    → RunsLinks world (λ ways k. d ways (λ v. k (v ∷ []))) old new alternate (identifier ∷ [])
links_one world old new d alternate identifier r = record {
  fresh = All-cons (λ n. length old.env.identifiers ≤ n) identifier [] r.fresh (All-nil (λ n. length old.env.identifiers ≤ n));
  made = All-cons (λ n. n < length new.env.identifiers) identifier [] r.made (All-nil (λ n. n < length new.env.identifiers));
  free = λ c cover sound. All-cons (Nobody c.ident) identifier [] (r.free c cover sound) (All-nil (Nobody c.ident));
  runs = λ c cover sound shares ways k source store notes answers a throws early onward.
      r.runs c cover sound shares ways (λ v. k (v ∷ [])) source store notes answers a throws early
      (record {
        goes = λ v source1 store1 notes1 answers1 t is. onward.goes (v ∷ []) source1 store1 notes1 answers1 t
            (ap (λ (x : Value). x ∷ []) is);
      });
}

module _ {c : Code} {r : Range} {store : Store} {notes : Notes} {answers : List Answer} where
  -- A value goes into a place that was made before, and the run jumps on.
  pub stores_on : (x : State) (place value : Place) (span : Span) (behind : ℕ) (v : Value) (k : ValueCont) {source1 store1 : Store}
      {notes1 : Notes} {answers1 : List Answer}
      → IsContainedIn (stored_in x place value span) c → HasSoundNames x → Nobody c.ident place.identifier.0
      → r.identifier ≤ place.identifier.0 → place.identifier.0 < length x.env.identifiers → length x.env.identifiers < r.identifiers
      → ((store2 : Store) (t : Trace) → TracesAt c behind 0 store2 notes1 answers1 t
      → TracesFrom c (stored_in x place value span) store2 notes1 answers1 t)
      → Continues c r store notes answers behind 0 place.identifier.0 k → Since c r store notes answers source1 store1 notes1 answers1
      → store1 value.identifier.0 ≡ v → TracesFrom c x store1 notes1 answers1 (k v source1 answers1)
  stores_on x place value span behind v k {source1} {store1} {notes1} {answers1} cover sound free above below last jump onward t is =
      computes_on x (values.StoreLocal variables.Const place value) (Some span) c store1 notes1 answers1 (k v source1 answers1) w
      (p ∷ temp ∷ []) refl cover
      (jump store2 (k v source1 answers1)
      (onward.goes v source1 store2 notes1 answers1 since2 (set_other (set store1 p w) temp p w apart ∙ set_same store1 p w ∙ is)))
    where
      p : ℕ
      p = place.identifier.0

      temp : ℕ
      temp = length x.env.identifiers

      w : Value
      w = store1 value.identifier.0

      store2 : Store
      store2 = set (set store1 p w) temp w

      apart : p ≡ temp → ⊥
      apart e = omega (arith, e, below)

      since2 : Since c r store notes answers source1 store2 notes1 answers1
      since2 =
          since_set temp w (value_free x (values.StoreLocal variables.Const place value) (Some span) c cover sound)
          (omega (arith, above, below)) last
          (since_set p w free above (omega (arith, below, last)) t)
