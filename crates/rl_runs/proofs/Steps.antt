-- Lemmas of any graph: lists, stores, notes, steps, and later points of a run.
use Rattle.std.proofs.Common.{◌≡◌, ℕ, zero, suc, ◌<◌, ◌≤◌, ◌⊎◌, inl, inr, ◌++◌, List, [], ◌∷◌, length, slice_get, Option, Some, None}
use Rattle.std.proofs.Common.{cond, refl, ap, ◌∙◌, arith, eq-eqb}
use Rattle.std.proofs.lemmas.Bool.{ne_eqb}
use Rattle.rl_builder.specs.declared.jumps.JumpScope.{JumpScope}
use Rattle.rl_machine.specs.declared.trace.Trace.{Trace}
use Rattle.rl_machine.specs.Ends.{Note, Notes, noted}
use Rattle.rl_machine.specs.Machine.{Item, Next, step}
use Rattle.rl_machine.specs.Silence.{walk}
use Rattle.rl_machine.specs.Traces.{Cont, ValueCont, set}
use Rattle.rl_model.specs.Actions.{Label}
use Rattle.rl_runs.proofs.Common.{Answer, BlockId, Code, Store, Value}
use Rattle.rl_runs.specs.Continuations.{Agrees, Continues, Eventually, Follows, Inside, IsOutside, Jumps, Later, Range, Since, Throws}
use Rattle.rl_runs.specs.Continuations.{TracesAt}
use Rattle.rl_runs.specs.Facts.{Nobody}

-- Lists.

pub get_more : {X : Type 0} (xs ys : List X) (place : ℕ) (x : X) → slice_get xs place ≡ Some x
    → slice_get (xs ++ ys) place ≡ Some x
get_more [] ys place x e = cc
get_more (y ∷ xs) ys zero x e = e
get_more (y ∷ xs) ys (suc place) x e = get_more xs ys place x e

pub get_seam : {X : Type 0} (xs : List X) (x : X) (ys : List X) → slice_get (xs ++ x ∷ ys) (length xs) ≡ Some x
get_seam [] x ys = refl
get_seam (y ∷ xs) x ys = get_seam xs x ys

-- An element of a list with one more at its end.
pub added_cases : {X : Type 0} (xs : List X) (x : X) (place : ℕ) (y : X) → slice_get (xs ++ x ∷ []) place ≡ Some y
    → (slice_get xs place ≡ Some y) ⊎ (y ≡ x)
added_cases [] x zero y e = inr cc
added_cases [] x (suc place) y e = absurd (cc)
added_cases (z ∷ xs) x zero y e = inl e
added_cases (z ∷ xs) x (suc place) y e = added_cases xs x place y e

-- Stores and notes.

pub set_same : (store : Store) (identifier : ℕ) (v : Value) → set store identifier v identifier ≡ v
set_same store identifier v = ap (λ b. cond b v (store identifier)) (eq-eqb identifier identifier refl)

pub set_other : (store : Store) (identifier other : ℕ) (v : Value) → (other ≡ identifier → ⊥)
    → set store identifier v other ≡ store other
set_other store identifier other v ne = ap (λ b. cond b v (store other)) (ne_eqb other identifier ne)

pub noted_same : (notes : Notes) (block : BlockId) (note : Note) → noted notes block note block.0 ≡ Some note
noted_same notes block note = ap (λ b. cond b (Some note) (notes block.0)) (eq-eqb block.0 block.0 refl)

pub noted_other : (notes : Notes) (block : BlockId) (other : ℕ) (note : Note) → (other ≡ block.0 → ⊥)
    → noted notes block note other ≡ notes other
noted_other notes block other note ne = ap (λ b. cond b (Some note) (notes other)) (ne_eqb other block.0 ne)

-- Steps.

-- A trace that is reached without a step.
pub comes_at_once : (c : Code) (f : (stuck : Trace) → Next → Trace) (t : Trace)
    → ((stuck : Trace) (next : Next) → f stuck next ≡ t) → Eventually c f t
comes_at_once c f t is = record { by = (0, λ stuck steps enough. is stuck (walk stuck c steps)) }

-- A step, and the run behind it.
pub steps_on : (c : Code) (block place : ℕ) (store : Store) (notes : Notes) (answers : List Answer) (item : Item) (t : Trace)
    → c.item block place ≡ Some item
    → Eventually c (λ stuck next. step stuck c (Some item) next next block place store notes answers) t
    → TracesAt c block place store notes answers t
steps_on c block place store notes answers item t is rest = record { by = (suc rest.by.0, onward) }
  where
    onward : (stuck : Trace) (steps : ℕ) → suc rest.by.0 ≤ steps → walk stuck c steps block place store notes answers ≡ t
    onward stuck zero enough = absurd (omega arith)
    onward stuck (suc steps) enough =
        ap (λ o. step stuck c o (walk stuck c steps) (walk stuck c steps) block place store notes answers) is
        ∙ rest.by.1 stuck steps (omega arith)

-- Setting an identifier that is no symbol's leaves those of symbols.
pub agrees_set : (ident : ℕ → Option ℕ) (source store : Store) (identifier : ℕ) (v : Value) → Nobody ident identifier
    → Agrees ident source store → Agrees ident source (set store identifier v)
agrees_set ident source store identifier v free a = record {
  at = λ symbol other is.
      let ne : other ≡ identifier → ⊥ = λ e. free symbol (is ∙ ap (λ (n : ℕ). Some n) e) in
      set_other store identifier other v ne ∙ a.at symbol other is;
}

-- Later points.

pub later_refl : (c : Code) (r : Range) (store : Store) (notes : Notes) (answers : List Answer)
    → Later c r store notes answers store notes answers
later_refl c r store notes answers =
    record { temporaries = λ identifier free outside. refl; marks = λ block outside. refl; fewer = omega arith }

pub inside_refl : (r : Range) → Inside r r
inside_refl r = record { identifier = omega arith; identifiers = omega arith; block = omega arith; blocks = omega arith }

pub outside_part : (first end first1 end1 n : ℕ) → first ≤ first1 → end1 ≤ end → IsOutside first end n → IsOutside first1 end1 n
outside_part first end first1 end1 n low high (inl under) = inl (omega (arith, low, under))
outside_part first end first1 end1 n low high (inr over) = inr (omega (arith, high, over))

pub not_outside : (first end n : ℕ) → first ≤ n → n < end → IsOutside first end n → ⊥
not_outside first end n low high (inl under) = omega (arith, low, under)
not_outside first end n low high (inr over) = omega (arith, high, over)

module _ {c : Code} {r : Range} {store : Store} {notes : Notes} {answers : List Answer} where
  pub since_start : {source : Store} → Agrees c.ident source store → Since c r store notes answers source store notes answers
  since_start a = record { agrees = a; later = later_refl c r store notes answers }

  pub later_then : {r1 : Range} {store1 store2 : Store} {notes1 notes2 : Notes} {answers1 answers2 : List Answer} → Inside r r1
      → Later c r store notes answers store1 notes1 answers1 → Later c r1 store1 notes1 answers1 store2 notes2 answers2
      → Later c r store notes answers store2 notes2 answers2
  later_then {r1} {store1} {store2} {notes1} {notes2} {answers1} {answers2} part a b = record {
    temporaries =
        λ identifier free outside. b.temporaries identifier free
        (outside_part r.identifier r.identifiers r1.identifier r1.identifiers identifier part.identifier part.identifiers outside)
        ∙ a.temporaries identifier free outside;
    marks = λ block outside. b.marks block (outside_part r.block r.blocks r1.block r1.blocks block part.block part.blocks outside)
        ∙ a.marks block outside;
    fewer = omega (arith, a.fewer, b.fewer);
  }

  pub since_then : {r1 : Range} {store1 source2 store2 : Store} {notes1 notes2 : Notes} {answers1 answers2 : List Answer} → Inside r r1
      → Later c r store notes answers store1 notes1 answers1 → Since c r1 store1 notes1 answers1 source2 store2 notes2 answers2
      → Since c r store notes answers source2 store2 notes2 answers2
  since_then part a b = record { agrees = b.agrees; later = later_then part a b.later }

  -- A point of a part, seen from the beginning of the whole.
  pub since_whole : {r1 : Range} {source1 store1 : Store} {notes1 : Notes} {answers1 : List Answer} → Inside r r1
      → Since c r1 store notes answers source1 store1 notes1 answers1 → Since c r store notes answers source1 store1 notes1 answers1
  since_whole part a = since_then part (later_refl c r store notes answers) a

  -- A temporary of the range takes a value.
  pub since_set : {source1 store1 : Store} {notes1 : Notes} {answers1 : List Answer} (identifier : ℕ) (v : Value)
      → Nobody c.ident identifier → r.identifier ≤ identifier → identifier < r.identifiers
      → Since c r store notes answers source1 store1 notes1 answers1
      → Since c r store notes answers source1 (set store1 identifier v) notes1 answers1
  since_set {source1} {store1} {notes1} {answers1} identifier v free low high t = record {
    agrees = agrees_set c.ident source1 store1 identifier v free t.agrees;
    later = record {
      temporaries = λ other nobody outside. let ne : other ≡ identifier → ⊥ = λ e. not_outside r.identifier r.identifiers other (omega (arith, e, low)) (omega (arith, e, high)) outside in set_other store1 identifier other v ne ∙ t.later.temporaries other nobody outside;
      marks = t.later.marks;
      fewer = t.later.fewer;
    };
  }

  -- A note is left at a block of the range.
  pub since_noted : {source1 store1 : Store} {notes1 : Notes} {answers1 : List Answer} (block : BlockId) (note : Note)
      → r.block ≤ block.0 → block.0 < r.blocks → Since c r store notes answers source1 store1 notes1 answers1
      → Since c r store notes answers source1 store1 (noted notes1 block note) answers1
  since_noted {source1} {store1} {notes1} {answers1} block note low high t = record {
    agrees = t.agrees;
    later = record {
      temporaries = t.later.temporaries;
      marks = λ other outside. let ne : other ≡ block.0 → ⊥ = λ e. not_outside r.block r.blocks other (omega (arith, e, low)) (omega (arith, e, high)) outside in noted_other notes1 block other note ne ∙ t.later.marks other outside;
      fewer = t.later.fewer;
    };
  }

  -- Continuations, seen from a later point of a part.

  pub follows_then : {r1 : Range} {store1 : Store} {notes1 : Notes} {answers1 : List Answer} {block place : ℕ} {k : Cont} → Inside r r1
      → Later c r store notes answers store1 notes1 answers1
      → Follows c r store notes answers block place k → Follows c r1 store1 notes1 answers1 block place k
  follows_then part a t = record { goes = λ source2 store2 notes2 answers2 b. t.goes source2 store2 notes2 answers2 (since_then part a b) }

  pub continues_then : {r1 : Range} {store1 : Store} {notes1 : Notes} {answers1 : List Answer} {block place identifier : ℕ}
      {k : ValueCont}
      → Inside r r1 → Later c r store notes answers store1 notes1 answers1
      → Continues c r store notes answers block place identifier k → Continues c r1 store1 notes1 answers1 block place identifier k
  continues_then part a t =
      record { goes = λ v source2 store2 notes2 answers2 b is. t.goes v source2 store2 notes2 answers2 (since_then part a b) is }

  pub throws_then : {r1 : Range} {store1 : Store} {notes1 : Notes} {answers1 : List Answer} (handler : Option BlockId) (k : ValueCont)
      → Inside r r1 → Later c r store notes answers store1 notes1 answers1
      → Throws c r store notes answers handler k → Throws c r1 store1 notes1 answers1 handler k
  throws_then None k part a t = t
  throws_then {r1} (Some h) k part a t = record {
    binding = t.binding;
    noted = a.marks h.0 t.outside ∙ t.noted;
    outside = outside_part r.block r.blocks r1.block r1.blocks h.0 part.block part.blocks t.outside;
    goes = λ v source2 store2 notes2 answers2 b. t.goes v source2 store2 notes2 answers2 (since_then part a b);
  }

  pub jumps_then : {r1 : Range} {store1 : Store} {notes1 : Notes} {answers1 : List Answer} {scopes : List JumpScope}
      {breaks continues : Label → Cont}
      → Inside r r1 → Later c r store notes answers store1 notes1 answers1
      → Jumps c r store notes answers scopes breaks continues → Jumps c r1 store1 notes1 answers1 scopes breaks continues
  jumps_then part a t = record {
    behind = λ label block is. follows_then part a (t.behind label block is);
    again = λ label block is. follows_then part a (t.again label block is);
  }
