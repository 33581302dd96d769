-- Promises of defaults and links, as a walk takes them: under an equal meaning, and a default in front of its pattern.
use Rattle.std.proofs.Common.{◌≡◌, ℕ, List, subst}
use Rattle.rl_builder.specs.Builder.{State, innermost}
use Rattle.rl_machine.specs.declared.trace.Answer.{Answer}
use Rattle.rl_machine.specs.declared.trace.Value.{Value}
use Rattle.rl_machine.specs.Traces.{Store, ValueCont, ValuesCont, World}
use Rattle.rl_model.specs.Actions.{Action, Ways}
use Rattle.rl_runs.proofs.Holes.{same_throws}
use Rattle.rl_runs.proofs.Moves.{contained_before, extends_refl, inside}
use Rattle.rl_runs.proofs.Steps.{follows_then, later_refl, since_then, throws_then}
use Rattle.rl_runs.specs.Continuations.{Since, TracesFrom, between}
use Rattle.rl_runs.specs.Facts.{Extends}
use Rattle.rl_runs.specs.Simulation.{RunsLinks, RunsOn, RunsPattern}

-- Equal meanings have the same runs.

pub links_same : (world : World) (old new : State) (alternate : ℕ) (identifiers : List ℕ) {d m : Action (List Value)}
    → ((ways : Ways) (k : ValuesCont) (source : Store) (answers : List Answer) → m ways k source answers ≡ d ways k source answers)
    → RunsLinks world m old new alternate identifiers → RunsLinks world d old new alternate identifiers
links_same world old new alternate identifiers {d} {m} same r = record {
  fresh = r.fresh;
  made = r.made;
  free = r.free;
  runs = λ c cover sound shares ways k source store notes answers a throws early onward.
      subst (λ t. TracesFrom c old store notes answers t) (same ways k source answers)
      (r.runs c cover sound shares ways k source store notes answers a throws early onward);
}

pub on_same : (world : World) (old new : State) (given identifier : ℕ) {d m : Value → Action Value}
    → ((v : Value) (ways : Ways) (k : ValueCont) (source : Store) (answers : List Answer)
    → m v ways k source answers ≡ d v ways k source answers)
    → RunsOn world m old new given identifier → RunsOn world d old new given identifier
on_same world old new given identifier {d} {m} same r = record {
  fresh = r.fresh;
  made = r.made;
  free = r.free;
  runs = λ c cover sound shares free below ways k v source store notes answers a is throws onward.
      subst (λ t. TracesFrom c old store notes answers t) (same v ways k source answers)
      (r.runs c cover sound shares free below ways k v source store notes answers a is throws onward);
}

-- A pattern takes what was made of the value: with a default, the value or that.
pub pattern_runs : (world : World) (s mid new : State) (d : Value → Action Value) (p : Value → Action (Unit {0}))
    (given identifier : ℕ) → Extends s mid → Extends mid new → RunsOn world d s mid given identifier
    → RunsPattern world p mid new identifier → RunsPattern world (λ v ways k. d v ways (λ w. p w ways k)) s new given
pattern_runs world s mid new d p given identifier g1 g2 r q = record {
  runs = λ c cover sound shares free below ways k v source store notes answers a is throws onward.
      r.runs c (contained_before g2 cover) sound shares free below ways (λ w. p w ways (λ end. k)) v source store notes answers a is
      (throws_then (innermost s.handlers) ways.throws (inside (extends_refl s) g2) (later_refl c (between s new) store notes answers)
      throws)
      (record {
        goes = λ w source1 store1 notes1 answers1 u is1.
            let t : Since c (between s new) store notes answers source1 store1 notes1 answers1 =
            since_then (inside (extends_refl s) g2) (later_refl c (between s new) store notes answers) u in
            q.runs c cover (g1.sound sound) shares (r.free c (contained_before g2 cover) sound) r.made ways k w source1 store1 notes1
            answers1 t.agrees is1
            (throws_then (innermost mid.handlers) ways.throws (inside g1 (extends_refl new)) t.later
            (same_throws c (between s new) store notes answers s mid ways.throws g1.handlers throws))
            (follows_then (inside g1 (extends_refl new)) t.later onward);
      });
}
