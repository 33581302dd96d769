-- The runs of lists of values that grow: by the value of an instruction over them, and by another list; and of one of the values alone.
use Rattle.std.proofs.Common.{◌≡◌, ℕ, zero, suc, ◌<◌, ◌≤◌, inl, ◌++◌, List, [], ◌∷◌, All, length, map, slice_get, Some, refl, sym}
use Rattle.std.proofs.Common.{ap, ◌∙◌, subst, arith}
use Rattle.std.proofs.lemmas.List.{map-append}
use Rattle.std.proofs.lemmas.List.Elements.{All-append, All-cons, All-head, All-nil, All-tail, All-weaker}
use Rattle.std.proofs.lemmas.Option.{none-some, same_Some}
use Rattle.rl_builder.specs.Builder.{innermost}
use Rattle.rl_machine.specs.Ends.{Notes}
use Rattle.rl_model.specs.Actions.{Action}
use Rattle.rl_runs.proofs.Common.{Answer, Code, State, Store, Value, World}
use Rattle.rl_runs.proofs.Holes.{same_throws, use_all}
use Rattle.rl_runs.proofs.Moves.{contained_before, extends_refl, inside}
use Rattle.rl_runs.proofs.Steps.{since_start, since_then, throws_then}
use Rattle.rl_runs.specs.Continuations.{Later, between}
use Rattle.rl_runs.specs.Facts.{Extends, HasSoundNames, IsContainedIn, Nobody}
use Rattle.rl_runs.specs.Simulation.{RunsAll, RunsExpression, RunsOver}

-- Equal values of each identifier are equal lists.
same_values : (ids : List ℕ) (after store : Store) → All (λ (id : ℕ). after id ≡ store id) ids → map after ids ≡ map store ids
same_values [] after store same = refl
same_values (id ∷ ids) after store same =
    ap (λ (v : Value). v ∷ map after ids) (All-head (λ (n : ℕ). after n ≡ store n) id ids same)
    ∙ ap (λ (vs : List Value). store id ∷ vs) (same_values ids after store (All-tail (λ (n : ℕ). after n ≡ store n) id ids same))

-- Each of a list has what both lists of facts tell of it.
both_tell : (P Q R : ℕ → Type 0) → ((id : ℕ) → P id → Q id → R id) → (ids : List ℕ) → All P ids → All Q ids → All R ids
both_tell P Q R f [] ps qs = All-nil R
both_tell P Q R f (id ∷ ids) ps qs =
    All-cons R id ids (f id (All-head P id ids ps) (All-head Q id ids qs))
    (both_tell P Q R f ids (All-tail P id ids ps) (All-tail Q id ids qs))

-- The one at an index of a list has what is known of all.
at_index : (P : ℕ → Type 0) (ids : List ℕ) (index id : ℕ) → slice_get ids index ≡ Some id → All P ids → P id
at_index P [] index id found ps = absurd (none-some id found)
at_index P (n ∷ ids) zero id found ps = subst P (same_Some n id found) (All-head P n ids ps)
at_index P (n ∷ ids) (suc index) id found ps = at_index P ids index id found (All-tail P n ids ps)

-- A list of values, and what is computed behind it.
module _ (world : World) (s mid new : State) (ds : Action (List Value)) (identifiers : List ℕ) (g1 : Extends s mid) (g2 : Extends mid new)
    (rs : RunsAll world ds s mid identifiers) where
  -- The values stay behind what is computed next.
  stay : (c : Code) → IsContainedIn new c → HasSoundNames s → {store later : Store} {notes left : Notes} {answers rest : List Answer}
      → Later c (between mid new) store notes answers later left rest → map later identifiers ≡ map store identifiers
  stay c cover sound {store} {later} t =
      same_values identifiers later store
      (both_tell (λ id. id < length mid.env.identifiers) (Nobody c.ident) (λ id. later id ≡ store id)
      (λ id made free. t.temporaries id free (inl made)) identifiers rs.made (rs.free c (contained_before g2 cover) sound))

  -- As `added_runs`, with the value in front of the others.
  pub fronted_runs : (e : List Value → Action Value) (identifier : ℕ) → RunsOver world e mid new identifiers identifier
      → RunsAll world (λ ways k. ds ways (λ vs. e vs ways (λ v. k (v ∷ vs)))) s new (identifier ∷ identifiers)
  fronted_runs e identifier r = record {
    fresh = All-cons (λ id. length s.env.identifiers ≤ id) identifier identifiers (omega (arith, r.fresh, g1.identifiers)) rs.fresh;
    made =
        All-cons (λ id. id < length new.env.identifiers) identifier identifiers r.made
        (All-weaker (λ id. id < length mid.env.identifiers) (λ id. id < length new.env.identifiers)
        (λ id made. omega (arith, made, g2.identifiers)) identifiers rs.made);
    free = λ c cover sound. All-cons (Nobody c.ident) identifier identifiers (r.free c cover (g1.sound sound))
        (rs.free c (contained_before g2 cover) sound);
    runs = λ c cover sound shares ways k source store notes answers a throws onward.
        use_all ways (λ vs. e vs ways (λ v. k (v ∷ vs))) rs (contained_before g2 cover) sound shares (inside (extends_refl s) g2)
        throws (since_start a)
        (λ vs source1 store1 notes1 answers1 t u are.
        r.runs c cover (g1.sound sound) shares ways (λ v. k (v ∷ vs)) vs source1 store1 notes1 answers1 t.agrees are
        (throws_then (innermost mid.handlers) ways.throws (inside g1 (extends_refl new)) t.later
        (same_throws c (between s new) store notes answers s mid ways.throws g1.handlers throws))
        (record {
          goes = λ v source2 store2 notes2 answers2 u2 is.
              onward.goes (v ∷ vs) source2 store2 notes2 answers2 (since_then (inside g1 (extends_refl new)) t.later u2)
              (ap (λ (w : Value). w ∷ map store2 identifiers) is
              ∙ ap (λ (ws : List Value). v ∷ ws) (stay c cover sound u2.later ∙ are));
        }));
  }

  -- Another list of values behind it.
  pub both_run : (es : Action (List Value)) (more : List ℕ) → RunsAll world es mid new more
      → RunsAll world (λ ways k. ds ways (λ vs. es ways (λ ws. k (vs ++ ws)))) s new (identifiers ++ more)
  both_run es more r = record {
    fresh =
        All-append (λ id. length s.env.identifiers ≤ id) identifiers more rs.fresh
        (All-weaker (λ id. length mid.env.identifiers ≤ id) (λ id. length s.env.identifiers ≤ id)
        (λ id later. omega (arith, later, g1.identifiers)) more r.fresh);
    made =
        All-append (λ id. id < length new.env.identifiers) identifiers more
        (All-weaker (λ id. id < length mid.env.identifiers) (λ id. id < length new.env.identifiers)
        (λ id made. omega (arith, made, g2.identifiers)) identifiers rs.made) r.made;
    free = λ c cover sound. All-append (Nobody c.ident) identifiers more (rs.free c (contained_before g2 cover) sound)
        (r.free c cover (g1.sound sound));
    runs = λ c cover sound shares ways k source store notes answers a throws onward.
        use_all ways (λ vs. es ways (λ ws. k (vs ++ ws))) rs (contained_before g2 cover) sound shares (inside (extends_refl s) g2)
        throws (since_start a)
        (λ vs source1 store1 notes1 answers1 t u are.
        use_all ways (λ ws. k (vs ++ ws)) r cover (g1.sound sound) shares (inside g1 (extends_refl new))
        (same_throws c (between s new) store notes answers s mid ways.throws g1.handlers throws) t
        (λ ws source2 store2 notes2 answers2 t2 u2 more_are.
        onward.goes (vs ++ ws) source2 store2 notes2 answers2 t2
        (map-append store2 identifiers more
        ∙ ap (λ (xs : List Value). xs ++ map store2 more) (stay c cover sound u2.later ∙ are)
        ∙ ap (λ (xs : List Value). vs ++ xs) more_are)));
  }

-- Some of the values, in an order of their own.
pub arranged_runs : (world : World) (s new : State) (ds : Action (List Value)) (identifiers those : List ℕ)
    (arrange : List Value → List Value)
    → ((P : ℕ → Type 0) → All P identifiers → All P those)
    → ((store : Store) → arrange (map store identifiers) ≡ map store those) → RunsAll world ds s new identifiers
    → RunsAll world (λ ways k. ds ways (λ vs. k (arrange vs))) s new those
arranged_runs world s new ds identifiers those arrange among arranges rs = record {
  fresh = among (λ id. length s.env.identifiers ≤ id) rs.fresh;
  made = among (λ id. id < length new.env.identifiers) rs.made;
  free = λ c cover sound. among (Nobody c.ident) (rs.free c cover sound);
  runs = λ c cover sound shares ways k source store notes answers a throws onward.
      rs.runs c cover sound shares ways (λ vs. k (arrange vs)) source store notes answers a throws
      (record {
        goes = λ vs source1 store1 notes1 answers1 t are.
            onward.goes (arrange vs) source1 store1 notes1 answers1 t
            (sym (arranges store1) ∙ ap (λ (ws : List Value). arrange ws) are);
      });
}

-- The value of the expression is one of a list.
pub picked_runs : (world : World) (s new : State) (ds : Action (List Value)) (identifiers : List ℕ) (index identifier : ℕ)
    (pick : List Value → Value)
    → slice_get identifiers index ≡ Some identifier → ((store : Store) → pick (map store identifiers) ≡ store identifier)
    → RunsAll world ds s new identifiers
    → RunsExpression world (λ ways k. ds ways (λ vs. k (pick vs))) s new identifier
picked_runs world s new ds identifiers index identifier pick found picks rs = record {
  fresh = at_index (λ id. length s.env.identifiers ≤ id) identifiers index identifier found rs.fresh;
  made = at_index (λ id. id < length new.env.identifiers) identifiers index identifier found rs.made;
  free = λ c cover sound. at_index (Nobody c.ident) identifiers index identifier found (rs.free c cover sound);
  runs = λ c cover sound shares ways k source store notes answers a throws onward.
      rs.runs c cover sound shares ways (λ vs. k (pick vs)) source store notes answers a throws
      (record {
        goes = λ vs source1 store1 notes1 answers1 t are.
            onward.goes (pick vs) source1 store1 notes1 answers1 t
            (sym (picks store1) ∙ ap (λ (ws : List Value). pick ws) are);
      });
}
