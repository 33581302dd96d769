-- The runs of a `switch`: its tests from the last case to the first, its value, and the comparisons behind which a case is taken.
use Rattle.std.proofs.Common.{◌≡◌, ℕ, ◌-◌, ◌<◌, ◌≤◌, inl, ◌++◌, Bool, true, false, is_some, List, [], ◌∷◌, length, take}
use Rattle.std.proofs.Common.{Option, Some, None, unwrap_or, refl, sym, ap, ◌∙◌, subst, arith}
use Rattle.rl_builder.specs.Builder.{innermost, new_block, reserved}
use Rattle.rl_builder.specs.declared.jumps.JumpScope.{JumpScope}
use Rattle.rl_builder.specs.declared.jumps.JumpScope.TheVariants as scope
use Rattle.rl_frames.proofs.Common.{BlockId, Code, Extends, IsContainedIn, Label, Place, Span, State}
use Rattle.rl_frames.specs.Meanings.{front_ways}
use Rattle.rl_frames.specs.SwitchCases.{AreAlike, AreMade, AreTested, ContinuesTested, FollowCases, IsAlike, IsMade, RunsCases, RunsTest}
use Rattle.rl_frames.specs.SwitchMeanings.{CaseMeaning, case_runs, case_ways, default_or, from_default, in_turn, selecting}
use Rattle.rl_frames.specs.SwitchMeanings.{test_value, test_values}
use Rattle.rl_frames.specs.SwitchParts.{case_begun, case_ended, fall_of, switch_begun, switch_end, switch_finished, with_default}
use Rattle.rl_hir.specs.declared.function.BlockKind.TheVariants as block
use Rattle.rl_hir.specs.declared.terminal.Case.{Case}
use Rattle.rl_hir.specs.declared.terminal.GotoVariant.TheVariants as gotos
use Rattle.rl_machine.specs.declared.trace.Answer.{Answer}
use Rattle.rl_machine.specs.declared.trace.Value.{Value}
use Rattle.rl_machine.specs.Ends.{Notes, Passes, noted}
use Rattle.rl_machine.specs.Machine.{Ends, compared, default_case, or_default}
use Rattle.rl_machine.specs.Traces.{Changer, Cont, Store, World, matches, set_open, tested, waiting}
use Rattle.rl_model.specs.Actions.{Action, Ways}
use Rattle.rl_runs.proofs.Holes.{aside, contained_hole, contained_stacked, front_added, hole_goes, same_jumps, same_throws, use_expression}
use Rattle.rl_runs.proofs.Holes.{use_statement}
use Rattle.rl_runs.proofs.Jumping.{jumps_in_switch}
use Rattle.rl_runs.proofs.Moves.{contained_before, extends_completed, extends_reserved, extends_then, terminal_met}
use Rattle.rl_runs.proofs.Steps.{follows_then, inside_refl, jumps_then, later_refl, since_noted, since_start, since_whole, steps_on}
use Rattle.rl_runs.proofs.Steps.{throws_then}
use Rattle.rl_runs.proofs.Switches.{compares_come}
use Rattle.rl_runs.specs.Continuations.{Agrees, Eventually, Follows, Inside, Jumps, Range, SharesVariables, Since, Throws, TracesAt}
use Rattle.rl_runs.specs.Continuations.{TracesFrom, between}
use Rattle.rl_runs.specs.Exits.{AreCases, IsTest, switched}
use Rattle.rl_runs.specs.Facts.{HasSoundNames, Nobody}
use Rattle.rl_runs.specs.Moves.{block_id, goto, without_scope}
use Rattle.rl_runs.specs.Simulation.{RunsExpression, RunsStatement}

-- The values of tests stay in their places.
module _ (c : Code) {store later : Store} (made : ℕ)
    (same : (identifier : ℕ) → Nobody c.ident identifier → identifier < made → later identifier ≡ store identifier) where
  test_kept : (test : Option Place) (v : Option Value) → IsMade test made → IsTest c store test v → IsTest c later test v
  test_kept None None below is = is
  test_kept None (Some w) below is = absurd is
  test_kept (Some place) None below is = absurd is
  test_kept (Some place) (Some w) below is = (is.0, same place.identifier.0 is.0 below ∙ is.1)

  tests_kept : (cases : List Case) (vs : List (Option Value)) → AreMade cases made → AreTested c store cases vs
      → AreTested c later cases vs
  tests_kept [] [] below are = are
  tests_kept [] (v ∷ vs) below are = absurd are
  tests_kept (k ∷ cases) [] below are = absurd are
  tests_kept (k ∷ cases) (v ∷ vs) below are = (test_kept k.test v below.0 are.0, tests_kept cases vs below.1 are.1)

made_one : (test : Option Place) (made more : ℕ) → made ≤ more → IsMade test made → IsMade test more
made_one None made more le is = is
made_one (Some place) made more le is = omega (arith, le, is)

made_more : (cases : List Case) (made more : ℕ) → made ≤ more → AreMade cases made → AreMade cases more
made_more [] made more le are = are
made_more (k ∷ cases) made more le are = (made_one k.test made more le are.0, made_more cases made more le are.1)

-- No case was lowered yet.
pub switch_begun_runs : (world : World) (own : Label) (s : State) → RunsCases world own s [] (switch_begun s) []
switch_begun_runs world own s = record {
  alike = tt;
  made = tt;
  tests = λ c cover sound shares ways k source store notes answers a throws go. go.goes [] source store notes answers (since_start a) tt;
  bodies = λ c cover sound shares r part ways behind store notes answers throws jumps follows. tt;
}

-- The block to which a case falls through.
fall_follows : {c : Code} {r : Range} {store : Store} {notes : Notes} {answers : List Answer} (ways : Ways) (behind : Cont) (n : ℕ)
    (cases : List Case) (ms : List CaseMeaning) → FollowCases c r store notes answers cases ms ways behind
    → Follows c r store notes answers n 0 behind
    → Follows c r store notes answers (fall_of n cases) 0 (in_turn ms ways (λ end. behind))
fall_follows ways behind n [] [] all last = last
fall_follows ways behind n [] (m ∷ ms) all last = absurd all
fall_follows ways behind n (k ∷ cases) [] all last = absurd all
fall_follows ways behind n (k ∷ cases) (m ∷ ms) all last = all.0

-- Another case of a `switch`.
module _ (s x y : State) (own : Label) (cases : List Case) (part : Span) where
  abbrev n : ℕ
  n = s.env.next_block

  abbrev shut : State
  shut = case_ended y (fall_of n cases) x.current part

  module _ (gx : Extends (reserved s) x) (gy : Extends (case_begun x own s.env.next_block) y) where
    scopes_left : take (length y.scopes - 1) y.scopes ≡ x.scopes
    scopes_left =
        ap (λ (l : List JumpScope). take (length l - 1) l) gy.scopes ∙ front_added x.scopes (scope.Switch own (block_id n))

    pub case_extends : Extends x shut
    case_extends =
        extends_then (extends_reserved x)
        (aside (reserved x) y (new_block x.env.next_block block.Block) (case_begun x own n).scopes
        (take (length y.scopes - 1) y.scopes) x.handlers y.handlers (goto (fall_of n cases) gotos.Break part) scopes_left gy.handlers gy)

    to_shut : Extends s shut
    to_shut = extends_then (extends_reserved s) (extends_then gx case_extends)

    module _ (z : State) (gz : Extends (case_ended y (fall_of s.env.next_block cases) x.current part) z) where
      module _ {c : Code} (cover : IsContainedIn z c) where
        pub case_cover_shut : IsContainedIn shut c
        case_cover_shut = contained_before gz cover

        pub case_cover_before : IsContainedIn x c
        case_cover_before = contained_before case_extends case_cover_shut

        pub case_cover_body : IsContainedIn y c
        case_cover_body =
            contained_stacked y (take (length y.scopes - 1) y.scopes) y.handlers c (λ none. none)
            (contained_hole (without_scope y) (fall_of n cases) gotos.Break part x.current c case_cover_shut)

      pub case_runs_more : (world : World) (ms : List CaseMeaning) (m : CaseMeaning) (test : Option Place)
          → RunsCases world own s cases x ms → RunsStatement world m.body (case_begun x own s.env.next_block) y
          → RunsTest world m.test (case_ended y (fall_of s.env.next_block cases) x.current part) z test
          → RunsCases world own s (record { test = test; block = block_id x.env.next_block } ∷ cases) z (m ∷ ms)
      case_runs_more world ms m test rx rb rt = record {
        alike = (alike_test m.test test rt, rx.alike);
        made = (
          made_test m.test test rt,
          made_more cases (length x.env.identifiers) (length z.env.identifiers)
              (omega (arith, case_extends.identifiers, gz.identifiers)) rx.made,
        );
        tests = run_tests;
        bodies = λ c cover sound shares r inner ways behind store notes answers throws jumps follows. (
          record {
            goes = λ source1 store1 notes1 rest1 t. run_body c cover sound shares r inner ways behind store notes answers throws jumps
                follows source1 store1 notes1 rest1 t;
          },
          rx.bodies c (case_cover_before cover) sound shares r (to_x r inner) ways behind store notes answers throws jumps follows,
        );
      }
        where
          alike_test : (d : Option (Action Value)) (place : Option Place) → RunsTest world d shut z place → IsAlike place d
          alike_test None None is = tt
          alike_test None (Some place) is = absurd is
          alike_test (Some d) None is = absurd is
          alike_test (Some d) (Some place) is = tt

          made_test : (d : Option (Action Value)) (place : Option Place) → RunsTest world d shut z place
              → IsMade place (length z.env.identifiers)
          made_test None None is = tt
          made_test None (Some place) is = absurd is
          made_test (Some d) None is = absurd is
          made_test (Some d) (Some place) is = is.made

          to_x : (r : Range) → Inside r (between s z) → Inside r (between s x)
          to_x r inner = record {
            identifier = inner.identifier;
            identifiers = omega (arith, inner.identifiers, case_extends.identifiers, gz.identifiers);
            block = inner.block;
            blocks = omega (arith, inner.blocks, case_extends.blocks, gz.blocks);
          }

          in_x : Inside (between s z) (between s x)
          in_x = to_x (between s z) (inside_refl (between s z))

          in_test : Inside (between s z) (between shut z)
          in_test = record {
            identifier = to_shut.identifiers;
            identifiers = omega arith;
            block = to_shut.blocks;
            blocks = omega arith;
          }

          run_tests : (c : Code) → IsContainedIn z c → HasSoundNames s → SharesVariables c.ident world c.world
              → (ways : Ways) (k : List (Option Value) → Cont) (source store : Store) (notes : Notes) (answers : List Answer)
              → Agrees c.ident source store → Throws c (between s z) store notes answers (innermost s.handlers) ways.throws
              → ContinuesTested c (between s z) store notes answers z.current.id.0 (length z.current.instructions)
              (record { test = test; block = block_id x.env.next_block } ∷ cases) k
              → TracesFrom c s store notes answers (test_values (m ∷ ms) ways k source answers)
          run_tests c cover sound shares ways k source store notes answers a throws go =
              rx.tests c (case_cover_before cover) sound shares ways (λ vs. test_value m.test ways (λ v. k (v ∷ vs))) source store notes answers a
              (throws_then (innermost s.handlers) ways.throws in_x (later_refl c (between s z) store notes answers) throws)
              (record { goes = λ vs source1 store1 notes1 rest1 t are. by_test m.test test rt go vs source1 store1 notes1 rest1 t are })
            where
              by_test : (d : Option (Action Value)) (place : Option Place) → RunsTest world d shut z place
                  → ContinuesTested c (between s z) store notes answers z.current.id.0 (length z.current.instructions)
                  (record { test = place; block = block_id x.env.next_block } ∷ cases) k
                  → (vs : List (Option Value)) (source1 store1 : Store) (notes1 : Notes) (rest1 : List Answer)
                  → Since c (between s x) store notes answers source1 store1 notes1 rest1 → AreTested c store1 cases vs
                  → TracesAt c x.current.id.0 (length x.current.instructions) store1 notes1 rest1
                  (test_value d ways (λ v. k (v ∷ vs)) source1 rest1)
              by_test None None is on vs source1 store1 notes1 rest1 t are =
                  subst (λ (e : State). TracesAt c e.current.id.0 (length e.current.instructions) store1 notes1 rest1 (k (None ∷ vs) source1 rest1)) is
                  (on.goes (None ∷ vs) source1 store1 notes1 rest1 (since_whole in_x t) (tt, are))
              by_test None (Some place) is on vs source1 store1 notes1 rest1 t are = absurd is
              by_test (Some d) None is on vs source1 store1 notes1 rest1 t are = absurd is
              by_test (Some d) (Some place) re on vs source1 store1 notes1 rest1 t are =
                  use_expression ways (λ v. k (Some v ∷ vs)) re cover (to_shut.sound sound) shares in_test
                  (same_throws c (between s z) store notes answers s shut ways.throws to_shut.handlers throws) (since_whole in_x t)
                  (λ v source2 store2 notes2 rest2 u w is. on.goes (Some v ∷ vs) source2 store2 notes2 rest2 u (
                    (re.free c cover (to_shut.sound sound), is),
                    tests_kept c (length x.env.identifiers)
                        (λ identifier nobody below. w.later.temporaries identifier nobody
                        (inl (omega (arith, below, case_extends.identifiers)))) cases vs rx.made are,
                  ))

          run_body : (c : Code) → IsContainedIn z c → HasSoundNames s → SharesVariables c.ident world c.world
              → (r : Range) → Inside r (between s z) → (ways : Ways) (behind : Cont) (store : Store) (notes : Notes) (answers : List Answer)
              → Throws c r store notes answers (innermost s.handlers) ways.throws
              → Jumps c r store notes answers s.scopes ways.breaks ways.continues
              → Follows c r store notes answers n 0 behind
              → (source1 store1 : Store) (notes1 : Notes) (rest1 : List Answer)
              → Since c r store notes answers source1 store1 notes1 rest1
              → TracesAt c x.env.next_block 0 store1 notes1 rest1 (in_turn (m ∷ ms) (case_ways own behind ways) (λ end. behind) source1 rest1)
          run_body c cover sound shares r inner ways behind store notes answers throws jumps follows source1 store1 notes1 rest1 t =
              use_statement (case_ways own behind ways) (in_turn ms (case_ways own behind ways) (λ end. behind)) rb (case_cover_body cover)
              (gx.sound sound) shares in_body (same_throws c r store notes answers s x ways.throws gx.handlers throws)
              (jumps_in_switch own (block_id n) behind (λ source answers. waiting) ways x.scopes follows
              (same_jumps c r store notes answers s x ways.breaks ways.continues gx.scopes jumps)) t
              (λ source2 store2 notes2 rest2 u w. hole_goes (without_scope y) (fall_of n cases) gotos.Break part x.current c store2 notes2 rest2 _
              (case_cover_shut cover) (falls.goes source2 store2 notes2 rest2 u))
            where
              in_body : Inside r (between (case_begun x own n) y)
              in_body = record {
                identifier = omega (arith, inner.identifier, gx.identifiers);
                identifiers = omega (arith, inner.identifiers, gz.identifiers);
                block = omega (arith, inner.block, gx.blocks);
                blocks = omega (arith, inner.blocks, gz.blocks);
              }

              falls : Follows c r store notes answers (fall_of n cases) 0 (in_turn ms (case_ways own behind ways) (λ end. behind))
              falls =
                  fall_follows (case_ways own behind ways) behind n cases ms
                  (rx.bodies c (case_cover_before cover) sound shares r (to_x r inner) ways behind store notes answers throws jumps follows) follows

-- The default.

default_more : (cases : List Case) (behind : BlockId) → default_case cases ≡ None
    → default_case (cases ++ record { test = None; block = behind } ∷ []) ≡ Some behind
default_more [] behind none = refl
default_more (k ∷ cases) behind none = by_test k.test none (default_more cases behind)
  where
    by_test : (test : Option Place) → or_default test k.block (default_case cases) ≡ None
        → (default_case cases ≡ None → default_case (cases ++ record { test = None; block = behind } ∷ []) ≡ Some behind)
        → or_default test k.block (default_case (cases ++ record { test = None; block = behind } ∷ [])) ≡ Some behind
    by_test None is further = absurd (cc)
    by_test (Some place) is further = further is

-- The block to which the run goes if no case matches.
abbrev pub other_of : (behind : ℕ) → List Case → BlockId
other_of behind cases = unwrap_or (default_case cases) (block_id behind)

pub default_is : (behind : ℕ) (cases : List Case)
    → default_case (with_default (is_some (default_case cases)) cases behind) ≡ Some (other_of behind cases)
default_is behind cases = by_default (default_case cases) refl
  where
    by_default : (d : Option BlockId) → default_case cases ≡ d
        → default_case (with_default (is_some d) cases behind) ≡ Some (unwrap_or d (block_id behind))
    by_default None is = default_more cases (block_id behind) is
    by_default (Some b) is = is

module _ {c : Code} {r : Range} {store : Store} {notes : Notes} {answers : List Answer} (ways : Ways) (behind : Cont) (n : ℕ)
    (last : Follows c r store notes answers n 0 behind) where
  follows_default : (cases : List Case) (ms : List CaseMeaning) → AreAlike cases ms
      → FollowCases c r store notes answers cases ms ways behind
      → Follows c r store notes answers (other_of n cases).0 0 (from_default ms ways (λ end. behind))
  follows_default [] [] alike all = last
  follows_default [] (m ∷ ms) alike all = absurd all
  follows_default (k ∷ cases) [] alike all = absurd all
  follows_default (k ∷ cases) (m ∷ ms) alike all = by_test k.test m.test alike.0 (follows_default cases ms alike.1 all.1)
    where
      by_test : (test : Option Place) (d : Option (Action Value)) → IsAlike test d
          → Follows c r store notes answers (other_of n cases).0 0 (from_default ms ways (λ end. behind))
          → Follows c r store notes answers (unwrap_or (or_default test k.block (default_case cases)) (block_id n)).0 0
          (default_or d (in_turn (m ∷ ms)) (from_default ms) ways (λ end. behind))
      by_test None None is rest = all.0
      by_test None (Some d) is rest = absurd is
      by_test (Some place) None is rest = absurd is
      by_test (Some place) (Some d) is rest = rest

  -- The comparisons.

  are_cases : (cases : List Case) (ms : List CaseMeaning) (vs : List (Option Value)) → AreTested c store cases vs
      → FollowCases c r store notes answers cases ms ways behind
      → AreCases c r store notes answers cases (case_runs ms vs ways behind)
  are_cases [] [] vs are all = tt
  are_cases [] (m ∷ ms) vs are all = absurd all
  are_cases (k ∷ cases) [] vs are all = absurd all
  are_cases (k ∷ cases) (m ∷ ms) [] are all = absurd are
  are_cases (k ∷ cases) (m ∷ ms) (v ∷ vs) are all = (are.0, all.0, are_cases cases ms vs are.1 all.1)

  are_more : (cases : List Case) (ks : List (Option Value × Cont)) → AreCases c r store notes answers cases ks
      → AreCases c r store notes answers (cases ++ record { test = None; block = block_id n } ∷ []) (ks ++ (None, behind) ∷ [])
  are_more [] [] are = (tt, last, tt)
  are_more [] (k ∷ ks) are = absurd are
  are_more (k ∷ cases) [] are = absurd are
  are_more (k ∷ cases) (t ∷ ks) are = (are.0, are.1, are_more cases ks are.2)

switched_more : (change : Changer) (ks : List (Option Value × Cont)) (behind other : Cont) (v : Value)
    → switched change (ks ++ (None, behind) ∷ []) other v ≡ switched change ks other v
switched_more change [] behind other v = refl
switched_more change (k ∷ ks) behind other v = by_value k.0 (switched_more change ks behind other v)
  where
    by_value : (w : Option Value) → switched change (ks ++ (None, behind) ∷ []) other v ≡ switched change ks other v
        → switched change ((w, k.1) ∷ (ks ++ (None, behind) ∷ [])) other v ≡ switched change ((w, k.1) ∷ ks) other v
    by_value None is = is
    by_value (Some w) is = ap (λ (rest : Cont). λ source answers. tested change (matches v w) source answers k.1 rest) is

-- The whole statement.
module _ (s x t : State) (own : Label) (cases : List Case) (value : Place) (span : Span) where
  abbrev behind_id : ℕ
  behind_id = s.env.next_block

  abbrev pub finished : State
  finished = switch_finished t behind_id cases value span

  module _ (gx : Extends (reserved s) x) (gt : Extends x t) where
    ends : Extends t finished
    ends = extends_completed t (switch_end behind_id cases value span) (new_block behind_id block.Block) (λ none. refl)

    from_start : Extends s x
    from_start = extends_then (extends_reserved s) gx

    pub switch_runs : (world : World) (ms : List CaseMeaning) (d : Action Value) → RunsCases world own s cases x ms
        → RunsExpression world d x t value.identifier.0 → RunsStatement world (selecting world own ms d) s finished
    switch_runs world ms d rx rd = record { runs = run_it }
      where
        in_cases : Inside (between s finished) (between s x)
        in_cases = record { identifier = omega arith; identifiers = gt.identifiers; block = omega arith; blocks = gt.blocks }

        in_value : Inside (between s finished) (between x t)
        in_value = record { identifier = from_start.identifiers; identifiers = omega arith; block = from_start.blocks; blocks = omega arith }

        run_it : (c : Code) → IsContainedIn finished c → HasSoundNames s → SharesVariables c.ident world c.world
            → (ways : Ways) (normal : Cont) (source store : Store) (notes : Notes) (answers : List Answer) → Agrees c.ident source store
            → Throws c (between s finished) store notes answers (innermost s.handlers) ways.throws
            → Jumps c (between s finished) store notes answers s.scopes ways.breaks ways.continues
            → Follows c (between s finished) store notes answers behind_id 0 normal
            → TracesFrom c s store notes answers (selecting world own ms d ways (λ end. normal) source answers)
        run_it c cover sound shares ways normal source store notes answers a throws jumps onward =
            rx.tests c cover_x sound shares (front_ways own normal ways) _ source store notes answers a
            (throws_then (innermost s.handlers) ways.throws in_cases (later_refl c (between s finished) store notes answers) throws)
            (record {
              goes = λ vs source1 store1 notes1 rest1 p are. use_expression (front_ways own normal ways) _ rd cover_t (from_start.sound sound) shares in_value
                  (same_throws c (between s finished) store notes answers s x ways.throws from_start.handlers throws) (since_whole in_cases p)
                  (λ v source2 store2 notes2 rest2 u w is. compare vs v source2 store2 notes2 rest2 u is
                  (tests_kept c (length x.env.identifiers) (λ identifier nobody below. w.later.temporaries identifier nobody (inl below)) cases vs rx.made are));
            })
          where
            cover_t : IsContainedIn t c
            cover_t = contained_before ends cover

            cover_x : IsContainedIn x c
            cover_x = contained_before gt cover_t

            inner : Ways
            inner = case_ways own normal ways

            compare : (vs : List (Option Value)) (v : Value) (source2 store2 : Store) (notes2 : Notes) (rest2 : List Answer)
                → Since c (between s finished) store notes answers source2 store2 notes2 rest2 → store2 value.identifier.0 ≡ v
                → AreTested c store2 cases vs
                → TracesAt c t.current.id.0 (length t.current.instructions) store2 notes2 rest2
                (switched (set_open world.opens) (case_runs ms vs inner normal) (from_default ms inner (λ end. normal)) v source2 rest2)
            compare vs v source2 store2 notes2 rest2 u is are =
                steps_on c t.current.id.0 (length t.current.instructions) store2 notes2 rest2 (Ends (switch_end behind_id cases value span)) _
                (terminal_met t (switch_end behind_id cases value span) (new_block behind_id block.Block) c cover)
                (subst (λ (o : Option BlockId). Eventually c
                (λ stuck next. compared stuck c (with_default (is_some (default_case cases)) cases behind_id) o value.identifier.0 next next notes3 store2
                rest2) (switched (set_open world.opens) (case_runs ms vs inner normal) (from_default ms inner (λ end. normal)) v source2 rest2))
                (sym (default_is behind_id cases)) (by_default (is_some (default_case cases))))
              where
                notes3 : Notes
                notes3 = noted notes2 (block_id behind_id) Passes

                there : Since c (between s finished) store notes answers source2 store2 notes3 rest2
                there = since_noted (block_id behind_id) Passes (omega arith) (omega (arith, gx.blocks, gt.blocks)) u

                same : Inside (between s finished) (between s finished)
                same = inside_refl (between s finished)

                last : Follows c (between s finished) store2 notes3 rest2 behind_id 0 normal
                last = follows_then same there.later onward

                follow : FollowCases c (between s finished) store2 notes3 rest2 cases ms inner normal
                follow =
                    rx.bodies c cover_x sound shares (between s finished) in_cases ways normal store2 notes3 rest2
                    (throws_then (innermost s.handlers) ways.throws same there.later throws) (jumps_then same there.later jumps) last

                other : Follows c (between s finished) store2 notes3 rest2 (other_of behind_id cases).0 0 (from_default ms inner (λ end. normal))
                other = follows_default inner normal behind_id last cases ms rx.alike follow

                pairs : AreCases c (between s finished) store2 notes3 rest2 cases (case_runs ms vs inner normal)
                pairs = are_cases inner normal behind_id last cases ms vs are follow

                by_default : (b : Bool) → Eventually c
                    (λ stuck next. compared stuck c (with_default b cases behind_id) (Some (other_of behind_id cases)) value.identifier.0 next next notes3
                    store2 rest2) (switched (set_open world.opens) (case_runs ms vs inner normal) (from_default ms inner (λ end. normal)) v source2 rest2)
                by_default true =
                    compares_come c world cover.names.one shares (between s finished) store2 notes3 rest2 value.identifier.0 v
                    (rd.free c cover_t (from_start.sound sound)) is (other_of behind_id cases) (from_default ms inner (λ end. normal)) other cases
                    (case_runs ms vs inner normal) pairs source2 store2 rest2 (λ q. since_start u.agrees)
                by_default false =
                    subst (λ (k : Cont). Eventually c
                    (λ stuck next. compared stuck c (with_default false cases behind_id) (Some (other_of behind_id cases)) value.identifier.0 next next
                    notes3 store2 rest2) (k source2 rest2))
                    (switched_more (set_open world.opens) (case_runs ms vs inner normal) normal (from_default ms inner (λ end. normal)) v)
                    (compares_come c world cover.names.one shares (between s finished) store2 notes3 rest2 value.identifier.0 v
                    (rd.free c cover_t (from_start.sound sound)) is (other_of behind_id cases) (from_default ms inner (λ end. normal)) other
                    (with_default false cases behind_id) (case_runs ms vs inner normal ++ (None, normal) ∷ [])
                    (are_more inner normal behind_id last cases (case_runs ms vs inner normal) pairs) source2 store2 rest2
                    (λ q. since_start u.agrees))
