-- The graphs of two formulas can be built: their blocks are computed.
use Rattle.std.proofs.Common.{◌≡◌, ℕ, ◌+◌, ◌<◌, ◌^◌, ◌&&◌, Bool, true, false, All, Box, Global, None, List, [], ◌∷◌, length, refl, sym, ap}
use Rattle.std.proofs.Common.{◌∙◌, subst, arith}
use Rattle.std.proofs.lemmas.List.Elements.{All-cons, All-nil}
use Rattle.std.proofs.Math.Dec.{ltb}
use Rattle.std.proofs.lemmas.Bool.{ltb-true}
use Rattle.std.specs.List.{list_all}
use Rattle.frame_tests.proofs.FormulaSizes.{adds}
use Rattle.frame_tests.specs.declared.formula.Formula.{Formula, Truth, Not', Both', Either', Choice'}
use Rattle.frame_tests.specs.Formulas.{HasRoom, share}
use Rattle.frame_tests.specs.Graphs.{CanBuild, fresh, returned, whole_of}
use Rattle.frame_tests.specs.Lowering.{lowered}
use Rattle.rl_base.specs.declared.ids.InstructionId.{InstructionId}
use Rattle.rl_base.specs.declared.span.Span.{Span}
use Rattle.rl_builder.specs.Build.{graph_of}
use Rattle.rl_builder.specs.Builder.{State, terminated}
use Rattle.rl_builder.specs.Started.{Given, started}
use Rattle.rl_hir.specs.Blocks.{Pair}
use Rattle.rl_hir.specs.declared.environment.Environment.{Environment}
use Rattle.rl_hir.specs.declared.function.BlockKind.TheVariants as kinds
use Rattle.rl_hir.specs.declared.instruction.Place.{Place}
use Rattle.rl_order.proofs.WholeGraphs.{all_inside}
use Rattle.rl_runs.specs.Blocks.{size_of}

-- The builder of a function that returns the value of a formula.
module _ (f : Formula) (given : Given) (env : Environment) (s1 : State) (is : env ≡ fresh)
    (begun : s1 ≡ started env given kinds.Block) where
  first : s1 ≡ started fresh given kinds.Block
  first = begun ∙ ap (λ (e : Environment). started e given kinds.Block) is

  pub first_room : share f + 1 < 2 ^ 31 → HasRoom s1 (share f)
  first_room room =
      let same : size_of s1 ≡ size_of (started fresh given kinds.Block) = ap size_of first in omega (arith, same, room)

  pub second_room : (s2 : State) → share f + 1 < 2 ^ 31 → s2 ≡ (lowered f s1).state → HasRoom s2 0
  second_room s2 room made =
      let start : HasRoom s1 (share f) = first_room room in
      let same : size_of s2 ≡ size_of (lowered f s1).state = ap size_of made in
      omega (arith, same, adds f s1, start)

  pub whole_is : (s2 s3 : State) (value : Place) → s2 ≡ (lowered f s1).state → value ≡ (lowered f s1).place
      → s3 ≡ terminated s2 (returned value) None
      → s3 ≡ whole_of f given
  whole_is s2 s3 value made placed ended =
      ended
      ∙ (λ i. terminated ((made ∙ ap (λ (x : State). (lowered f x).state) first) i)
      (returned ((placed ∙ ap (λ (x : State). (lowered f x).place) first) i)) None)

-- Indices that a test finds below a bound are below it.

abbrev IsBelow : ℕ → InstructionId → Type 0
IsBelow bound id = id.0 < bound

abbrev ListsBelow : ℕ → Pair → Type 0
ListsBelow bound p = All (IsBelow bound) p.1.instructions

all_by : {X : Type 0} (P : X → Type 0) (test : X → Bool) → ((x : X) → test x ≡ true → P x) → (xs : List X) → list_all test xs ≡ true
    → All P xs
all_by P test tells [] passed = All-nil P
all_by P test tells (x ∷ xs) passed = by_test (test x) refl passed (all_by P test tells xs)
  where
    by_test : (b : Bool) → test x ≡ b → (b && list_all test xs) ≡ true → (list_all test xs ≡ true → All P xs) → All P (x ∷ xs)
    by_test true is rest more = All-cons P x xs (tells x is) (more rest)
    by_test false is rest more = absurd (cc)

below_by : (bound : ℕ) (pairs : List Pair)
    → list_all (λ (p : Pair). list_all (λ (id : InstructionId). ltb id.0 bound) p.1.instructions) pairs ≡ true
    → All (ListsBelow bound) pairs
below_by bound pairs passed =
    all_by (ListsBelow bound) (λ (p : Pair). list_all (λ (id : InstructionId). ltb id.0 bound) p.1.instructions)
    (λ p inside. all_by (IsBelow bound) (λ (id : InstructionId). ltb id.0 bound)
    (λ id less. ltb-true id.0 bound less) p.1.instructions inside)
    pairs passed

-- `true && !false`.
module _ (span : Span) (at : Box (Unit {0}) Global) (given : Given) where
  abbrev pub both : Formula
  both = Both' span at (Truth span true) at (Not' span at (Truth span false))

  both_builds : CanBuild (whole_of both given)
  both_builds = record {
    whole = all_inside (graph_of (whole_of both given)) (record { 0 = 0 }) 5 (omega arith) refl refl;
    listed = below_by (length (whole_of both given).table) (graph_of (whole_of both given)) refl;
    room = omega arith;
  }

  pub both_of : (left right part : Formula) → left ≡ Truth span true → right ≡ Not' span at part → part ≡ Truth span false
      → CanBuild (whole_of (Both' span at left at right) given)
  both_of left right part l r p =
      subst (λ (f : Formula). CanBuild (whole_of f given)) (sym (λ i. Both' span at (l i) at ((r ∙ ap (Not' span at) p) i))) both_builds

-- `true ? false || true : false`.
module _ (span : Span) (at there : Box (Unit {0}) Global) (given : Given) where
  abbrev pub choice : Formula
  choice = Choice' span at (Truth span true) at (Either' span at (Truth span false) there (Truth span true)) at (Truth span false)

  choice_builds : CanBuild (whole_of choice given)
  choice_builds = record {
    whole = all_inside (graph_of (whole_of choice given)) (record { 0 = 0 }) 9 (omega arith) refl refl;
    listed = below_by (length (whole_of choice given).table) (graph_of (whole_of choice given)) refl;
    room = omega arith;
  }

  pub choice_of : (test consequent alternate left right : Formula) → test ≡ Truth span true
      → consequent ≡ Either' span at left there right → alternate ≡ Truth span false → left ≡ Truth span false → right ≡ Truth span true
      → CanBuild (whole_of (Choice' span at test at consequent at alternate) given)
  choice_of test consequent alternate left right t c a l r =
      subst (λ (f : Formula). CanBuild (whole_of f given))
      (sym (λ i. Choice' span at (t i) at ((c ∙ (λ j. Either' span at (l j) there (r j))) i) at (a i))) choice_builds
