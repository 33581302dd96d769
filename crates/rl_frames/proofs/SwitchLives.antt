-- The live instructions of a `switch` stand in blocks that are reached, and so are the targets of the jumps out of it. Where it is reached,
-- so are all of its cases.
use Rattle.std.proofs.Common.{◌≡◌, ℕ, ◌++◌, ◌||◌, Bool, true, false, not, is_some, if◌then◌else◌, List, [], ◌∷◌, length, map, All}
use Rattle.std.proofs.Common.{Option, Some, None, Ok, refl, sym, ap, ◌∙◌, subst}
use Rattle.std.proofs.lemmas.List.Elements.{All-append, All-nil}
use Rattle.std.proofs.lemmas.Bool.{not-true}
use Rattle.std.specs.List.{list_any}
use Rattle.rl_builder.specs.Builder.{new_block, reserved}
use Rattle.rl_builder.specs.declared.jumps.JumpScope.{JumpScope}
use Rattle.rl_builder.specs.declared.jumps.JumpScope.TheVariants as scope
use Rattle.rl_builder.specs.Jumps.{lookup_break, takes_break, takes_continue}
use Rattle.rl_frames.proofs.Common.{BlockId, Code, Extends, IsContainedIn, IsLedTo, Label, Place, Span, State}
use Rattle.rl_frames.proofs.SwitchRuns.{case_cover_body, case_extends}
use Rattle.rl_frames.specs.SwitchParts.{case_begun, case_ended, fall_of, switch_begun, switch_end, switch_finished, with_default}
use Rattle.rl_hir.specs.Blocks.{same_id}
use Rattle.rl_hir.specs.declared.function.BlockKind.TheVariants as block
use Rattle.rl_hir.specs.declared.instruction.Instruction.{Instruction}
use Rattle.rl_hir.specs.declared.terminal.Case.{Case}
use Rattle.rl_hir.specs.declared.terminal.GotoVariant.TheVariants as gotos
use Rattle.rl_machine.specs.Machine.{default_case}
use Rattle.rl_model.specs.Dead.{Outs, either, falling, is_broken, is_labeled, loop_outs, switch_outs}
use Rattle.rl_order.proofs.Ordering.{or_left, or_right, same_self}
use Rattle.rl_runs.proofs.Jumping.{break_is}
use Rattle.rl_runs.proofs.Leaving.{BreakLeads, ContinueLeads, all_kept, continue_left, loop_breaks, loop_broken, loop_completes, outs_by}
use Rattle.rl_runs.proofs.Moves.{contained_before, extends_completed, extends_refl, terminal_met}
use Rattle.rl_runs.specs.Blocks.{Leads, Leaves, Lives, Passes, Stands}
use Rattle.rl_runs.specs.Moves.{block_id, goto, without_scope}

-- The blocks of the cases are reached.
abbrev pub AreLed : Code → (entry : ℕ) → List Case → Type 0
AreLed c entry [] = Unit {0}
AreLed c entry (k ∷ cases) = IsLedTo c entry k.block.0 × AreLed c entry cases

-- The exits of a case and those behind it.
abbrev pub outs_before : Outs → List Case → Outs → Outs
outs_before a [] outs = a
outs_before a (k ∷ cases) outs = record (either a outs) { falls = outs.falls }

abbrev pub in_switch : Label → (s : State) → List JumpScope
in_switch own s = s.scopes ++ scope.Switch own (block_id s.env.next_block) ∷ []

-- The cases `cases` of a `switch` that began at `s` were lowered, the last one first, and the builder stands at `x`.
pub record LivesCases {K : Type 0} (key_of : Instruction → Option K) (live : List K) (outs : Outs) (own : Label) (s : State)
    (cases : List Case) (x : State) : Type 0 where
  pub passes : Passes s x
  pub stands : (c : Code) → IsContainedIn x c → (entry : ℕ) → IsLedTo c entry s.current.id.0 → AreLed c entry cases
      → All (Stands key_of c entry) live
  pub falls : outs.falls ≡ true → (c : Code) → IsContainedIn x c → (entry : ℕ) → AreLed c entry cases
      → IsLedTo c entry (fall_of s.env.next_block cases) → IsLedTo c entry s.env.next_block
  pub breaks : (c : Code) → IsContainedIn x c → (entry : ℕ) → AreLed c entry cases
      → All (BreakLeads (IsLedTo c entry) (in_switch own s)) outs.breaks
  pub continues : (c : Code) → IsContainedIn x c → (entry : ℕ) → AreLed c entry cases
      → All (ContinueLeads (IsLedTo c entry) (in_switch own s)) outs.continues

module _ {K : Type 0} (key_of : Instruction → Option K) (own : Label) (s : State) where
  -- No case was lowered yet.
  pub switch_begun_lives : LivesCases key_of [] falling own s [] (switch_begun s)
  switch_begun_lives = record {
    passes = λ c cover entry led. led;
    stands = λ c cover entry led all. All-nil (Stands key_of c entry);
    falls = λ is c cover entry all led. led;
    breaks = λ c cover entry all. All-nil (BreakLeads (IsLedTo c entry) (in_switch own s));
    continues = λ c cover entry all. All-nil (ContinueLeads (IsLedTo c entry) (in_switch own s));
  }

  -- A part in front of the next case that completes: the test of one, or the value.
  pub lives_then : (x z : State) (cases : List Case) (live before : List K) (outs : Outs) → Extends x z
      → Lives key_of before true x z → LivesCases key_of live outs own s cases x → LivesCases key_of (before ++ live) outs own s cases z
  lives_then x z cases live before outs g part l = record {
    passes = λ c cover entry led. part.onward refl c cover entry (l.passes c (contained_before g cover) entry led);
    stands = λ c cover entry led all. All-append (Stands key_of c entry) before live
        (part.stands c cover entry (l.passes c (contained_before g cover) entry led)) (l.stands c (contained_before g cover) entry led all);
    falls = λ is c cover entry all led. l.falls is c (contained_before g cover) entry all led;
    breaks = λ c cover entry all. l.breaks c (contained_before g cover) entry all;
    continues = λ c cover entry all. l.continues c (contained_before g cover) entry all;
  }

  -- The statements of one more case.
  module _ (x y : State) (cases : List Case) (part : Span) (test : Option Place) (gx : Extends (reserved s) x)
      (gy : Extends (case_begun x own s.env.next_block) y) where
    abbrev n : ℕ
    n = s.env.next_block

    abbrev fall : ℕ
    fall = fall_of n cases

    abbrev shut : State
    shut = case_ended y fall x.current part

    grows : Extends x shut
    grows = case_extends s x y own cases part gx gy

    cover_body : (c : Code) → IsContainedIn shut c → IsContainedIn y c
    cover_body c cover = case_cover_body s x y own cases part gx gy shut (extends_refl shut) cover

    -- A case's end leads to the block to which it falls through.
    falls_through : (c : Code) → IsContainedIn shut c → (entry : ℕ) → IsLedTo c entry y.current.id.0 → IsLedTo c entry fall
    falls_through c cover entry led =
        Leads y.current.id.0 (length y.current.instructions) (goto fall gotos.Break part) (block_id fall) led
        (terminal_met (without_scope y) (goto fall gotos.Break part) x.current c cover)
        (or_left (same_id (block_id fall) (block_id fall)) false (same_self (block_id fall)))

    module _ (live in_body : List K) (a outs : Outs) (body : Lives key_of in_body a.falls (case_begun x own s.env.next_block) y)
        (leaves : Leaves a (case_begun x own s.env.next_block) y) (l : LivesCases key_of live outs own s cases x) where
      falls_by : (rest : List Case) → (outs_before a rest outs).falls ≡ true → (c : Code) (entry : ℕ) → AreLed c entry rest
          → (a.falls ≡ true → IsLedTo c entry (fall_of n rest))
          → (outs.falls ≡ true → AreLed c entry rest → IsLedTo c entry (fall_of n rest) → IsLedTo c entry n) → IsLedTo c entry n
      falls_by [] is c entry all mine behind = mine is
      falls_by (k ∷ rest) is c entry all mine behind = behind is all all.0

      breaks_by : (rest : List Case) (P : Label → Type 0) → All P a.breaks → All P outs.breaks → All P (outs_before a rest outs).breaks
      breaks_by [] P mine behind = mine
      breaks_by (k ∷ rest) P mine behind = All-append P a.breaks outs.breaks mine behind

      continues_by : (rest : List Case) (P : Label → Type 0) → All P a.continues → All P outs.continues
          → All P (outs_before a rest outs).continues
      continues_by [] P mine behind = mine
      continues_by (k ∷ rest) P mine behind = All-append P a.continues outs.continues mine behind

      pub lives_more : LivesCases key_of (in_body ++ live) (outs_before a cases outs) own s
          (record { test = test; block = block_id x.env.next_block } ∷ cases)
          (case_ended y (fall_of s.env.next_block cases) x.current part)
      lives_more = record {
        passes = λ c cover entry led. l.passes c (contained_before grows cover) entry led;
        stands = λ c cover entry led all. All-append (Stands key_of c entry) in_body live (body.stands c (cover_body c cover) entry all.0)
            (l.stands c (contained_before grows cover) entry led all.1);
        falls = λ is c cover entry all led. falls_by cases is c entry all.1
            (λ falls. falls_through c cover entry (body.onward falls c (cover_body c cover) entry all.0))
            (λ falls others next. l.falls falls c (contained_before grows cover) entry others next);
        breaks = λ c cover entry all. breaks_by cases (BreakLeads (IsLedTo c entry) (in_switch own s))
            (subst (λ (e : List JumpScope). All (BreakLeads (IsLedTo c entry) (e ++ scope.Switch own (block_id n) ∷ [])) a.breaks) gx.scopes
            (leaves.breaks c (cover_body c cover) entry all.0))
            (l.breaks c (contained_before grows cover) entry all.1);
        continues = λ c cover entry all. continues_by cases (ContinueLeads (IsLedTo c entry) (in_switch own s))
            (subst (λ (e : List JumpScope). All (ContinueLeads (IsLedTo c entry) (e ++ scope.Switch own (block_id n) ∷ [])) a.continues)
            gx.scopes
            (leaves.continues c (cover_body c cover) entry all.0))
            (l.continues c (contained_before grows cover) entry all.1);
      }

-- The terminal leads to the blocks of all cases.
all_led : (c : Code) (entry : ℕ) (cases : List Case)
    → ((b : BlockId) → list_any (same_id b) (map (λ (k : Case). k.block) cases ++ []) ≡ true → IsLedTo c entry b.0)
    → AreLed c entry cases
all_led c entry [] leads = tt
all_led c entry (k ∷ cases) leads =
    (leads k.block (or_left (same_id k.block k.block) _ (same_self k.block)), all_led c entry cases (λ b is. leads b (or_right (same_id b k.block) _ is)))

led_cases : (c : Code) (entry : ℕ) (n : ℕ) (b : Bool) (cases : List Case) → AreLed c entry (with_default b cases n)
    → AreLed c entry cases
led_cases c entry n true cases all = all
led_cases c entry n false [] all = tt
led_cases c entry n false (k ∷ cases) all = (all.0, led_cases c entry n false cases all.1)

led_behind : (c : Code) (entry : ℕ) (n : ℕ) (b : Bool) (cases : List Case) → not b ≡ true → AreLed c entry (with_default b cases n)
    → IsLedTo c entry n
led_behind c entry n true cases is all = let never : false ≡ true = is in absurd (cc)
led_behind c entry n false [] is all = all.0
led_behind c entry n false (k ∷ cases) is all = led_behind c entry n false cases is all.1

led_fall : (c : Code) (entry : ℕ) (n : ℕ) (cases : List Case) → AreLed c entry (with_default (is_some (default_case cases)) cases n)
    → AreLed c entry cases → IsLedTo c entry (fall_of n cases)
led_fall c entry n [] there all = there.0
led_fall c entry n (k ∷ cases) there all = all.0

one_of : (a b d : Bool) (R : Type 0) → (a || b || d) ≡ true → (a ≡ true → R) → (b ≡ true → R) → (d ≡ true → R) → R
one_of true b d R is first second third = first refl
one_of false true d R is first second third = second refl
one_of false false d R is first second third = third is

-- The whole statement, behind its value.
module _ (own : Label) (s t : State) (cases : List Case) (value : Place) (span : Span) where
  abbrev behind : ℕ
  behind = s.env.next_block

  abbrev has_default : Bool
  has_default = is_some (default_case cases)

  cover_t : (c : Code) → IsContainedIn (switch_finished t s.env.next_block cases value span) c → IsContainedIn t c
  cover_t c cover =
      contained_before (extends_completed t (switch_end behind cases value span) (new_block behind block.Block) (λ none. refl)) cover

  module _ {K : Type 0} (key_of : Instruction → Option K) (live : List K) (outs : Outs)
      (l : LivesCases key_of live outs own s cases t) where
    module _ (c : Code) (cover : IsContainedIn (switch_finished t s.env.next_block cases value span) c) (entry : ℕ)
        (led : IsLedTo c entry s.current.id.0) where
      with_all : AreLed c entry (with_default has_default cases behind)
      with_all =
          all_led c entry (with_default has_default cases behind)
          (λ b is. Leads t.current.id.0 (length t.current.instructions) (switch_end behind cases value span) b
          (l.passes c (cover_t c cover) entry led)
          (terminal_met t (switch_end behind cases value span) (new_block behind block.Block) c cover) is)

      all_cases : AreLed c entry cases
      all_cases = led_cases c entry behind has_default cases with_all

      abbrev jumpless : Outs
      jumpless = record outs { continues = [] }

      -- A `break` in a `switch` leads where it does in a loop.

      abbrev as_loop : JumpScope
      as_loop = scope.Loop own (block_id behind) (block_id behind)

      taken_so : (jump : Label) → takes_break jump (scope.Switch own (block_id behind)) ≡ takes_break jump as_loop
      taken_so None = refl
      taken_so (Some label) = refl

      loop_break : (jump : Label) → BreakLeads (IsLedTo c entry) (in_switch own s) jump
          → BreakLeads (IsLedTo c entry) (s.scopes ++ as_loop ∷ []) jump
      loop_break jump leads target is =
          leads target
          (break_is s.scopes (scope.Switch own (block_id behind)) jump
          ∙ ap (λ (b : Bool). if b then Ok (block_id behind) else lookup_break s.scopes jump) (taken_so jump)
          ∙ sym (break_is s.scopes as_loop jump) ∙ is)

      loop_all : All (BreakLeads (IsLedTo c entry) (s.scopes ++ as_loop ∷ [])) outs.breaks
      loop_all k d below = loop_break _ (l.breaks c (cover_t c cover) entry all_cases k d below)

      none_again : All (ContinueLeads (IsLedTo c entry) (s.scopes ++ as_loop ∷ [])) []
      none_again = All-nil (ContinueLeads (IsLedTo c entry) (s.scopes ++ as_loop ∷ []))

      by_itself : (switch_outs has_default outs).falls ≡ true → IsLedTo c entry behind
      by_itself is =
          one_of outs.falls (not has_default) (is_broken outs) (IsLedTo c entry behind) is
          (λ falls. l.falls falls c (cover_t c cover) entry all_cases (led_fall c entry behind cases with_all all_cases))
          (λ none. led_behind c entry behind has_default cases none with_all)
          (λ broken. loop_broken (IsLedTo c entry) s.scopes own (block_id behind) (block_id behind) jumpless loop_all none_again broken)

      same_falls : (label : Label) → (outs_by label (switch_outs has_default outs)).falls ≡ true
          → (outs_by label (loop_outs label (switch_outs has_default outs).falls jumpless)).falls ≡ true
      same_falls None is = is
      same_falls (Some label) is = is

      comes_behind : (outs_by own (switch_outs has_default outs)).falls ≡ true → IsLedTo c entry behind
      comes_behind is =
          loop_completes (IsLedTo c entry) s.scopes own (block_id behind) (block_id behind) jumpless loop_all none_again
          (switch_outs has_default outs).falls by_itself (same_falls own is)

      same_breaks : (P : Label → Type 0) (label : Label)
          → All P (outs_by label (loop_outs label (switch_outs has_default outs).falls jumpless)).breaks
          → All P (outs_by label (switch_outs has_default outs)).breaks
      same_breaks P None all = all
      same_breaks P (Some label) all = all

      other_breaks : All (BreakLeads (IsLedTo c entry) s.scopes) (outs_by own (switch_outs has_default outs)).breaks
      other_breaks =
          same_breaks (BreakLeads (IsLedTo c entry) s.scopes) own
          (loop_breaks (IsLedTo c entry) s.scopes own (block_id behind) (block_id behind) jumpless loop_all none_again
          (switch_outs has_default outs).falls)

      others_continue : (label : Label)
          → All (ContinueLeads (IsLedTo c entry) (s.scopes ++ scope.Switch label (block_id behind) ∷ [])) outs.continues
          → All (ContinueLeads (IsLedTo c entry) s.scopes) (outs_by label (switch_outs has_default outs)).continues
      others_continue None all = λ k d below.
          continue_left (IsLedTo c entry) s.scopes (scope.Switch None (block_id behind)) _ (passed _) (all k d below)
        where
          passed : (jump : Label) → takes_continue jump (scope.Switch None (block_id behind)) ≡ false
          passed None = refl
          passed (Some label) = refl
      others_continue (Some label) all =
          all_kept (λ jump. not (is_labeled label jump))
          (ContinueLeads (IsLedTo c entry) (s.scopes ++ scope.Switch (Some label) (block_id behind) ∷ []))
          (ContinueLeads (IsLedTo c entry) s.scopes)
          (λ jump is leads. continue_left (IsLedTo c entry) s.scopes (scope.Switch (Some label) (block_id behind)) jump
          (named jump ∙ not-true (is_labeled label jump) is) leads) outs.continues all
        where
          named : (jump : Label) → takes_continue jump (scope.Switch (Some label) (block_id behind)) ≡ is_labeled label jump
          named None = refl
          named (Some jump) = refl

    pub switch_lives : Lives key_of live (outs_by own (switch_outs (is_some (default_case cases)) outs)).falls s
        (switch_finished t s.env.next_block cases value span)
    switch_lives = record {
      onward = λ is c cover entry led. comes_behind c cover entry led is;
      stands = λ c cover entry led. l.stands c (cover_t c cover) entry led (all_cases c cover entry led);
    }

    pub switch_leaves : Leaves (outs_by own (switch_outs (is_some (default_case cases)) outs)) s
        (switch_finished t s.env.next_block cases value span)
    switch_leaves = record {
      breaks = λ c cover entry led. other_breaks c cover entry led;
      continues = λ c cover entry led. others_continue c cover entry led own
          (l.continues c (cover_t c cover) entry (all_cases c cover entry led));
    }
