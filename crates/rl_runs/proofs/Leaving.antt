-- The targets of jumps out of a part are reached where the part is.
use Rattle.std.proofs.Common.{◌≡◌, ℕ, ◌++◌, ◌||◌, Bool, true, false, not, cond, if◌then◌else◌, List, [], ◌∷◌, length, filter, All}
use Rattle.std.proofs.Common.{Some, None, Result, Ok, refl, ap, ◌∙◌, subst}
use Rattle.std.proofs.lemmas.List.Elements.{All-append, All-cons, All-head, All-nil, All-tail}
use Rattle.std.proofs.lemmas.Bool.{not-true}
use Rattle.std.specs.List.{list_any}
use Rattle.std.specs.Str.{bytes_eq}
use Rattle.rl_builder.specs.Builder.{new_block, reserved}
use Rattle.rl_builder.specs.declared.jumps.JumpError.{JumpError}
use Rattle.rl_builder.specs.declared.jumps.JumpScope.{JumpScope}
use Rattle.rl_builder.specs.declared.jumps.JumpScope.TheVariants as scopes
use Rattle.rl_builder.specs.Jumps.{break_block_of, continue_block_of, lookup_break, lookup_continue, takes_break, takes_continue}
use Rattle.rl_hir.specs.Blocks.{same_id}
use Rattle.rl_hir.specs.declared.function.BlockKind.{BlockKind}
use Rattle.rl_hir.specs.declared.terminal.GotoVariant.{GotoVariant}
use Rattle.rl_hir.specs.declared.terminal.GotoVariant.TheVariants as gotos
use Rattle.rl_model.specs.Actions.{Label, is_own}
use Rattle.rl_model.specs.Dead.{Outs, either, goes_on, in_row, is_broken, is_labeled, is_unlabeled, labeled_outs, leaving, loop_outs}
use Rattle.rl_order.proofs.Ordering.{or_left, same_self}
use Rattle.rl_runs.proofs.Common.{BlockId, Code, Span, State}
use Rattle.rl_runs.proofs.Jumping.{break_is, continue_is}
use Rattle.rl_runs.proofs.Moves.{contained_before, terminal_met}
use Rattle.rl_runs.specs.Blocks.{IsLedTo, Leads, Leaves, Passes}
use Rattle.rl_runs.specs.Facts.{Extends, IsContainedIn}
use Rattle.rl_runs.specs.Moves.{goto, next_hole}

-- Lists of jumps.

module _ {X : Type 0} (p : X → Bool) (P Q : X → Type 0) (on : (x : X) → p x ≡ true → P x → Q x) where
  kept_if : (x : X) (xs : List X) (b : Bool) → p x ≡ b → P x → All Q xs → All Q (cond b (x ∷ xs) xs)
  kept_if x xs true is h rest = All-cons Q x xs (on x is h) rest
  kept_if x xs false is h rest = rest

  -- Items that a filter keeps.
  pub all_kept : (xs : List X) → All P xs → All Q (filter p xs)
  all_kept [] all = All-nil Q
  all_kept (x ∷ xs) all = kept_if x (filter p xs) (p x) refl (All-head P x xs all) (all_kept xs (All-tail P x xs all))

-- An element for which the test holds.
pub some_of : {X : Type 0} (p : X → Bool) (P : X → Type 0) (R : Type 0) → ((x : X) → p x ≡ true → P x → R) → (xs : List X)
    → list_any p xs ≡ true → All P xs → R
some_of p P R on [] any all = let never : false ≡ true = any in absurd (cc)
some_of {X} p P R on (x ∷ xs) any all = by_first (p x) refl any (λ rest. some_of p P R on xs rest (All-tail P x xs all))
  where
    by_first : (b : Bool) → p x ≡ b → (b || list_any p xs) ≡ true → (list_any p xs ≡ true → R) → R
    by_first true is rest further = on x is (All-head P x xs all)
    by_first false is rest further = further rest

pub by_either : (a b : Bool) (R : Type 0) → (a ≡ true → R) → (b ≡ true → R) → (a || b) ≡ true → R
by_either true b R one other is = one refl
by_either false b R one other is = other is

-- Elements that are there under a condition.
pub all_if : {X : Type 0} (P : X → Type 0) (b : Bool) (xs : List X) → (b ≡ true → All P xs) → All P (if b then xs else [])
all_if P true xs all = all refl
all_if P false xs all = All-nil P

-- Jumps whose targets are led to.

abbrev pub BreakLeads : (led : ℕ → Type 0) → List JumpScope → Label → Type 0
BreakLeads led outer jump = (block : BlockId) → lookup_break outer jump ≡ Ok block → led block.0

abbrev pub ContinueLeads : (led : ℕ → Type 0) → List JumpScope → Label → Type 0
ContinueLeads led outer jump = (block : BlockId) → lookup_continue outer jump ≡ Ok block → led block.0

-- A part is left where code that contains a later state is.
pub leaves_more : (outs : Outs) (old mid new : State) → Extends mid new → Leaves outs old mid → Leaves outs old new
leaves_more outs old mid new g l = record {
  breaks = λ c cover entry r. l.breaks c (contained_before g cover) entry r;
  continues = λ c cover entry r. l.continues c (contained_before g cover) entry r;
}

-- A part without jumps.
pub leaves_none : (falls : Bool) (old new : State) → Leaves (record { falls = falls; breaks = []; continues = [] }) old new
leaves_none falls old new = record {
  breaks = λ c cover entry r. All-nil (BreakLeads (IsLedTo c entry) old.scopes);
  continues = λ c cover entry r. All-nil (ContinueLeads (IsLedTo c entry) old.scopes);
}

-- Its `falls` does not matter.
pub leaves_falling : (falls : Bool) (outs : Outs) (old new : State) → Leaves outs old new → Leaves (record outs { falls = falls }) old new
leaves_falling falls outs old new l = record { breaks = l.breaks; continues = l.continues }

-- Two parts, both of which are reached where the whole is.
pub leaves_both : (a b : Outs) (old new : State) → Leaves a old new → Leaves b old new → Leaves (either a b) old new
leaves_both a b old new la lb = record {
  breaks = λ c cover entry r.
      All-append (BreakLeads (IsLedTo c entry) old.scopes) a.breaks b.breaks (la.breaks c cover entry r) (lb.breaks c cover entry r);
  continues = λ c cover entry r.
      All-append (ContinueLeads (IsLedTo c entry) old.scopes) a.continues b.continues (la.continues c cover entry r)
      (lb.continues c cover entry r);
}

-- A part in front of which another stands, through which it is reached.
pub leaves_behind : (outs : Outs) (old mid new : State) → Extends mid new → mid.scopes ≡ old.scopes → Passes old mid
    → Leaves outs mid new → Leaves outs old new
leaves_behind outs old mid new g same passes l = record {
  breaks = λ c cover entry r. subst (λ (x : List JumpScope). All (BreakLeads (IsLedTo c entry) x) outs.breaks) same
      (l.breaks c cover entry (passes c (contained_before g cover) entry r));
  continues = λ c cover entry r. subst (λ (x : List JumpScope). All (ContinueLeads (IsLedTo c entry) x) outs.continues) same
      (l.continues c cover entry (passes c (contained_before g cover) entry r));
}

-- Two parts in a row.
pub leaves_row : (a b : Outs) (old mid new : State) → Extends old mid → Extends mid new → (a.falls ≡ true → Passes old mid)
    → Leaves a old mid → Leaves b mid new → Leaves (in_row a b) old new
leaves_row a b old mid new g h onward la lb = by_fall a.falls refl
  where
    by_fall : (falls : Bool) → a.falls ≡ falls → Leaves (if falls then record (either a b) { falls = b.falls } else a) old new
    by_fall true is =
        leaves_falling b.falls (either a b) old new
        (leaves_both a b old new (leaves_more a old mid new h la) (leaves_behind b old mid new h g.scopes (onward is) lb))
    by_fall false is = leaves_more a old mid new h la

-- Jumps.

same_target : (led : ℕ → Type 0) (found : Result BlockId JumpError) (a b : BlockId) → found ≡ Ok a → found ≡ Ok b → led a.0 → led b.0
same_target led found a b is other leads = let same : a ≡ b = cc in subst (λ (x : BlockId). led x.0) same leads

jump_leads : (s : State) (target : BlockId) (variant : GotoVariant) (span : Span) (kind : BlockKind) (c : Code)
    → IsContainedIn (next_hole s target.0 variant span kind) c → (entry : ℕ) → IsLedTo c entry s.current.id.0 → IsLedTo c entry target.0
jump_leads s target variant span kind c cover entry r =
    Leads s.current.id.0 (length s.current.instructions) (goto target.0 variant span) target r
    (terminal_met (reserved s) (goto target.0 variant span) (new_block s.env.next_block kind) c cover)
    (or_left (same_id target target) false (same_self target))

pub leaves_broken : (s : State) (label : Label) (target : BlockId) (span : Span) (kind : BlockKind)
    → lookup_break s.scopes label ≡ Ok target
    → Leaves (record leaving { breaks = label ∷ [] }) s (next_hole s target.0 gotos.Break span kind)
leaves_broken s label target span kind is = record {
  breaks = λ c cover entry r. All-cons (BreakLeads (IsLedTo c entry) s.scopes) label []
      (λ block found. same_target (IsLedTo c entry) (lookup_break s.scopes label) target block is found
      (jump_leads s target gotos.Break span kind c cover entry r))
      (All-nil (BreakLeads (IsLedTo c entry) s.scopes));
  continues = λ c cover entry r. All-nil (ContinueLeads (IsLedTo c entry) s.scopes);
}

pub leaves_continued : (s : State) (label : Label) (target : BlockId) (span : Span) (kind : BlockKind)
    → lookup_continue s.scopes label ≡ Ok target
    → Leaves (record leaving { continues = label ∷ [] }) s (next_hole s target.0 gotos.Continue span kind)
leaves_continued s label target span kind is = record {
  breaks = λ c cover entry r. All-nil (BreakLeads (IsLedTo c entry) s.scopes);
  continues = λ c cover entry r. All-cons (ContinueLeads (IsLedTo c entry) s.scopes) label []
      (λ block found. same_target (IsLedTo c entry) (lookup_continue s.scopes label) target block is found
      (jump_leads s target gotos.Continue span kind c cover entry r))
      (All-nil (ContinueLeads (IsLedTo c entry) s.scopes));
}

-- Jumps under one more scope: those that it takes lead to its blocks, and all others to those around it.

module _ (led : ℕ → Type 0) (outer : List JumpScope) (scope : JumpScope) (jump : Label) where
  pub break_taken : takes_break jump scope ≡ true → BreakLeads led (outer ++ scope ∷ []) jump → led (break_block_of scope).0
  break_taken taken leads =
      leads (break_block_of scope)
      (break_is outer scope jump
      ∙ ap (λ (b : Bool). if b then Ok (break_block_of scope) else lookup_break outer jump) taken)

  pub break_left : takes_break jump scope ≡ false → BreakLeads led (outer ++ scope ∷ []) jump → BreakLeads led outer jump
  break_left left leads block is =
      leads block
      (break_is outer scope jump
      ∙ ap (λ (b : Bool). if b then Ok (break_block_of scope) else lookup_break outer jump) left ∙ is)

  pub continue_taken : (block : BlockId) → takes_continue jump scope ≡ true → continue_block_of scope ≡ Ok block
      → ContinueLeads led (outer ++ scope ∷ []) jump → led block.0
  continue_taken block taken own leads =
      leads block
      (continue_is outer scope jump
      ∙ ap (λ (b : Bool). if b then continue_block_of scope else lookup_continue outer jump) taken ∙ own)

  pub continue_left : takes_continue jump scope ≡ false → ContinueLeads led (outer ++ scope ∷ []) jump → ContinueLeads led outer jump
  continue_left left leads block is =
      leads block
      (continue_is outer scope jump
      ∙ ap (λ (b : Bool). if b then continue_block_of scope else lookup_continue outer jump) left ∙ is)

-- The exits of a loop under its label, if it has one.
abbrev pub outs_by : Label → Outs → Outs
outs_by None outs = outs
outs_by (Some label) outs = labeled_outs label outs

-- The body of a loop, whose jumps lead to their targets in its scope.
module _ (led : ℕ → Type 0) (outer : List JumpScope) (own : Label) (again behind : BlockId) (body : Outs)
    (breaks : All (BreakLeads led (outer ++ scopes.Loop own again behind ∷ [])) body.breaks)
    (continues : All (ContinueLeads led (outer ++ scopes.Loop own again behind ∷ [])) body.continues) where
  abbrev inner : List JumpScope
  inner = outer ++ scopes.Loop own again behind ∷ []

  break_own : (label l : Label) → takes_break l (scopes.Loop label again behind) ≡ is_own label l
  break_own label None = refl
  break_own None (Some l) = refl
  break_own (Some x) (Some l) = refl

  continue_own : (label l : Label) → takes_continue l (scopes.Loop label again behind) ≡ is_own label l
  continue_own label None = refl
  continue_own None (Some l) = refl
  continue_own (Some x) (Some l) = refl

  -- A `continue` of the loop.
  pub loop_continued : list_any (is_own own) body.continues ≡ true → led again.0
  loop_continued any =
      some_of (is_own own) (ContinueLeads led inner) (led again.0)
      (λ l is leads. continue_taken led outer (scopes.Loop own again behind) l again (continue_own own l ∙ is) refl leads)
      body.continues any continues

  pub loop_goes_on : (body.falls ≡ true → led again.0) → goes_on own body ≡ true → led again.0
  loop_goes_on falls on = by_fall body.falls refl on
    where
      by_fall : (b : Bool) → body.falls ≡ b → (b || list_any (is_own own) body.continues) ≡ true → led again.0
      by_fall true is any = falls is
      by_fall false is any = loop_continued any

  -- A `break` that the loop takes.
  own_broken : (l : Label) → is_own own l ≡ true → BreakLeads led inner l → led behind.0
  own_broken l is leads = break_taken led outer (scopes.Loop own again behind) l (break_own own l ∙ is) leads

  unlabeled_own : (label l : Label) → is_unlabeled l ≡ true → is_own label l ≡ true
  unlabeled_own label None is = refl
  unlabeled_own label (Some l) is = let never : false ≡ true = is in absurd (cc)

  pub loop_broken : is_broken body ≡ true → led behind.0
  loop_broken any =
      some_of is_unlabeled (BreakLeads led inner) (led behind.0) (λ l is. own_broken l (unlabeled_own own l is)) body.breaks any breaks

  -- The jumps that it leaves.

  pub loop_breaks : (falls : Bool) → All (BreakLeads led outer) (outs_by own (loop_outs own falls body)).breaks
  loop_breaks falls = by_own own break_own breaks
    where
      unlabeled_left : (l : Label) → not (is_unlabeled l) ≡ true → is_own None l ≡ false
      unlabeled_left None is = let never : false ≡ true = is in absurd (cc)
      unlabeled_left (Some l) is = refl

      labeled_left : (label : List ℕ) (l : Label) → not (is_unlabeled l) ≡ true → not (is_labeled label l) ≡ true
          → is_own (Some label) l ≡ false
      labeled_left label None is other = let never : false ≡ true = is in absurd (cc)
      labeled_left label (Some l) is other = not-true (bytes_eq label l) other

      by_own : (label : Label) → ((x l : Label) → takes_break l (scopes.Loop x again behind) ≡ is_own x l)
          → All (BreakLeads led (outer ++ scopes.Loop label again behind ∷ [])) body.breaks
          → All (BreakLeads led outer) (outs_by label (loop_outs label falls body)).breaks
      by_own None taken all =
          all_kept (λ l. not (is_unlabeled l)) (BreakLeads led (outer ++ scopes.Loop None again behind ∷ [])) (BreakLeads led outer)
          (λ l is leads. break_left led outer (scopes.Loop None again behind) l (taken None l ∙ unlabeled_left l is) leads) body.breaks all
      by_own (Some label) taken all =
          all_kept (λ l. not (is_labeled label l))
          (λ l. (not (is_unlabeled l) ≡ true) × BreakLeads led (outer ++ scopes.Loop (Some label) again behind ∷ []) l)
          (BreakLeads led outer)
          (λ l other h. break_left led outer (scopes.Loop (Some label) again behind) l
          (taken (Some label) l ∙ labeled_left label l h.0 other) h.1) (filter (λ l. not (is_unlabeled l)) body.breaks)
          (all_kept (λ l. not (is_unlabeled l)) (BreakLeads led (outer ++ scopes.Loop (Some label) again behind ∷ []))
          (λ l. (not (is_unlabeled l) ≡ true) × BreakLeads led (outer ++ scopes.Loop (Some label) again behind ∷ []) l)
          (λ l is leads. (is, leads)) body.breaks all)

  others_continue : All (ContinueLeads led outer) (filter (λ l. not (is_own own l)) body.continues)
  others_continue =
      all_kept (λ l. not (is_own own l)) (ContinueLeads led inner) (ContinueLeads led outer)
      (λ l is leads. continue_left led outer (scopes.Loop own again behind) l (continue_own own l ∙ not-true (is_own own l) is) leads)
      body.continues continues

  pub loop_continues : (falls : Bool) → All (ContinueLeads led outer) (outs_by own (loop_outs own falls body)).continues
  loop_continues falls = by_own own (loop_outs own falls body) others_continue
    where
      by_own : (label : Label) (outs : Outs) → All (ContinueLeads led outer) outs.continues
          → All (ContinueLeads led outer) (outs_by label outs).continues
      by_own None outs all = all
      by_own (Some label) outs all =
          all_kept (λ l. not (is_labeled label l)) (ContinueLeads led outer) (ContinueLeads led outer) (λ l is leads. leads)
          outs.continues all

  -- Behind the loop, where it completes: it may by itself, or by a jump.
  pub loop_completes : (falls : Bool) → (falls ≡ true → led behind.0) → (outs_by own (loop_outs own falls body)).falls ≡ true → led behind.0
  loop_completes falls by_itself is = by_own own break_own breaks is
    where
      labeled_own : (label : List ℕ) (l : Label) → is_labeled label l ≡ true → is_own (Some label) l ≡ true
      labeled_own label None is1 = let never : false ≡ true = is1 in absurd (cc)
      labeled_own label (Some l) is1 = is1

      by_own : (label : Label) → ((x l : Label) → takes_break l (scopes.Loop x again behind) ≡ is_own x l)
          → All (BreakLeads led (outer ++ scopes.Loop label again behind ∷ [])) body.breaks
          → (outs_by label (loop_outs label falls body)).falls ≡ true → led behind.0
      by_own None taken all is1 = by_itself is1
      by_own (Some label) taken all is1 = by_fall falls refl is1
        where
          by_fall : (b : Bool) → falls ≡ b
              → (b || list_any (is_labeled label) (filter (λ l. not (is_unlabeled l)) body.breaks)) ≡ true → led behind.0
          by_fall true one any = by_itself one
          by_fall false one any =
              some_of (is_labeled label) (BreakLeads led (outer ++ scopes.Loop (Some label) again behind ∷ [])) (led behind.0)
              (λ l named leads. break_taken led outer (scopes.Loop (Some label) again behind) l
              (taken (Some label) l ∙ labeled_own label l named) leads)
              (filter (λ l. not (is_unlabeled l)) body.breaks) any
              (all_kept (λ l. not (is_unlabeled l)) (BreakLeads led (outer ++ scopes.Loop (Some label) again behind ∷ []))
              (BreakLeads led (outer ++ scopes.Loop (Some label) again behind ∷ [])) (λ l left leads. leads) body.breaks all)

-- The body of a labelled statement that is no loop.
module _ (led : ℕ → Type 0) (outer : List JumpScope) (own : List ℕ) (behind : BlockId) (body : Outs)
    (breaks : All (BreakLeads led (outer ++ scopes.Label own behind ∷ [])) body.breaks)
    (continues : All (ContinueLeads led (outer ++ scopes.Label own behind ∷ [])) body.continues) where
  abbrev in_label : List JumpScope
  in_label = outer ++ scopes.Label own behind ∷ []

  takes_own : (l : Label) → takes_break l (scopes.Label own behind) ≡ is_labeled own l
  takes_own None = refl
  takes_own (Some l) = refl

  takes_astray : (l : Label) → takes_continue l (scopes.Label own behind) ≡ is_labeled own l
  takes_astray None = refl
  takes_astray (Some l) = refl

  pub label_completes : (body.falls ≡ true → led behind.0) → (labeled_outs own body).falls ≡ true → led behind.0
  label_completes falls is = by_fall body.falls refl is
    where
      by_fall : (b : Bool) → body.falls ≡ b → (b || list_any (is_labeled own) body.breaks) ≡ true → led behind.0
      by_fall true one any = falls one
      by_fall false one any =
          some_of (is_labeled own) (BreakLeads led in_label) (led behind.0)
          (λ l named leads. break_taken led outer (scopes.Label own behind) l (takes_own l ∙ named) leads) body.breaks any breaks

  pub label_breaks : All (BreakLeads led outer) (labeled_outs own body).breaks
  label_breaks =
      all_kept (λ l. not (is_labeled own l)) (BreakLeads led in_label) (BreakLeads led outer)
      (λ l is leads. break_left led outer (scopes.Label own behind) l (takes_own l ∙ not-true (is_labeled own l) is) leads) body.breaks
      breaks

  pub label_continues : All (ContinueLeads led outer) (labeled_outs own body).continues
  label_continues =
      all_kept (λ l. not (is_labeled own l)) (ContinueLeads led in_label) (ContinueLeads led outer)
      (λ l is leads. continue_left led outer (scopes.Label own behind) l (takes_astray l ∙ not-true (is_labeled own l) is) leads)
      body.continues continues
