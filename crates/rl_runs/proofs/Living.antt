-- Instructions of live nodes stand in blocks that are reached.
use Rattle.std.proofs.Common.{◌≡◌, ◌++◌, Bool, true, false, List, [], ◌∷◌, length, Option, Some}
use Rattle.std.proofs.lemmas.List.Elements.{All-append, All-cons, All-nil}
use Rattle.rl_builder.specs.Builder.{pushed}
use Rattle.rl_runs.proofs.Common.{Instruction, State}
use Rattle.rl_runs.proofs.Moves.{contained_before, instruction_met}
use Rattle.rl_runs.proofs.Passing.{passes_pushed}
use Rattle.rl_runs.specs.Blocks.{Lives, Passes, Stands}
use Rattle.rl_runs.specs.Facts.{Extends}

module _ {K : Type 0} (key_of : Instruction → Option K) where
  -- A part without live instructions.
  pub lives_none : (old new : State) (completes : Bool) → (completes ≡ true → Passes old new) → Lives key_of [] completes old new
  lives_none old new completes onward = record { onward = onward; stands = λ c cover entry r. All-nil (Stands key_of c entry) }

  pub lives_refl : (s : State) → Lives key_of [] true s s
  lives_refl s = lives_none s s true (λ is c cover entry r. r)

  -- A part behind another.
  pub lives_then : (a b d : State) (first second : List K) (completes behind : Bool) → Extends b d → completes ≡ true
      → Lives key_of first completes a b → Lives key_of second behind b d → Lives key_of (first ++ second) behind a d
  lives_then a b d first second completes behind g on l1 l2 = record {
    onward = λ is c cover entry r. l2.onward is c cover entry (l1.onward on c (contained_before g cover) entry r);
    stands = λ c cover entry r. All-append (Stands key_of c entry) first second (l1.stands c (contained_before g cover) entry r)
        (l2.stands c cover entry (l1.onward on c (contained_before g cover) entry r));
  }

  -- A dead part behind one that does not complete.
  pub lives_dead : (a b d : State) (first : List K) (behind : Bool) → Extends b d → behind ≡ false
      → Lives key_of first false a b → Lives key_of first behind a d
  lives_dead a b d first behind g dead l = record {
    onward = λ is. absurd (cc);
    stands = λ c cover entry r. l.stands c (contained_before g cover) entry r;
  }

  -- An instruction, of a key or of none.

  pub lives_pushed : (s : State) (i : Instruction) (key : K) → key_of i ≡ Some key → Lives key_of (key ∷ []) true s (pushed s i)
  lives_pushed s i key is = record {
    onward = λ on. passes_pushed s i;
    stands = λ c cover entry r. All-cons (Stands key_of c entry) key []
        (record { id = s.current.id.0; place = length s.current.instructions; instruction = i; there = instruction_met s i c cover; is = is; reached = r })
        (All-nil (Stands key_of c entry));
  }
