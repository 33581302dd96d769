-- The parts of the blocks that a `switch` preserves: its cases from the last to the first, and the whole statement.
use Rattle.std.proofs.Common.{◌≡◌, ℕ, zero, suc, ◌+◌, ◌-◌, ◌<◌, ◌≤◌, inl, inr, ◌++◌, Bool, true, false, is_some, List, [], ◌∷◌}
use Rattle.std.proofs.Common.{length, map, take, Option, Some, None, Ok, Err, unwrap_or, refl, sym, ◌∙◌, subst, arith}
use Rattle.std.specs.List.{list_any}
use Rattle.rl_builder.specs.Builder.{ended_by, new_block, reserved}
use Rattle.rl_builder.specs.declared.jumps.JumpError.TheVariants.{NotALoop}
use Rattle.rl_builder.specs.declared.jumps.JumpScope.{JumpScope}
use Rattle.rl_builder.specs.declared.jumps.JumpScope.TheVariants as scope
use Rattle.rl_frames.proofs.Common.{BlockId, Code, Extends, IsContainedIn, IsLedTo, Label, Place, Span, State}
use Rattle.rl_frames.proofs.SwitchRuns.{case_extends, default_is, other_of}
use Rattle.rl_frames.specs.SwitchCases.{AreNumbered, DoneSettle, EachSettles, PreservesCases, SettlesAround}
use Rattle.rl_frames.specs.SwitchParts.{case_begun, case_ended, fall_of, switch_begun, switch_end, switch_finished, with_default}
use Rattle.rl_hir.specs.Blocks.{same_id}
use Rattle.rl_hir.specs.declared.function.BlockKind.TheVariants as block
use Rattle.rl_hir.specs.declared.terminal.Case.{Case}
use Rattle.rl_hir.specs.declared.terminal.GotoVariant.TheVariants as gotos
use Rattle.rl_machine.proofs.Silence.{settles_compares}
use Rattle.rl_machine.specs.Machine.{Ends, default_case, or_default}
use Rattle.rl_machine.specs.Silence.{Settles}
use Rattle.rl_runs.proofs.BlockIds.{IsFree, free_aside, free_fresh, free_then, ids_aside, ids_counted, ids_ended, ids_then}
use Rattle.rl_runs.proofs.Holes.{contained_hole, contained_stacked}
use Rattle.rl_runs.proofs.Moves.{contained_before, extends_completed, extends_refl, extends_reserved, extends_then, terminal_met}
use Rattle.rl_runs.proofs.Naming.{named_ended, named_first, named_goto, named_more, named_none, named_then, same_targets, scope_targets}
use Rattle.rl_runs.proofs.Points.{empty_settles, scope_jumps_settle, settle_aside, settle_completed, settle_goto}
use Rattle.rl_runs.proofs.Used.{below_or, ended_there, ends_more, looped_ended, notes_back, still_there, straight_below, straight_ended}
use Rattle.rl_runs.proofs.Used.{straight_then, used_refl, used_then}
use Rattle.rl_runs.specs.Blocks.{AreUsed, HasPoint, IsNameSince, IsTarget, JumpsSettle, NamesSince, PointsSettle}
use Rattle.rl_runs.specs.Blocks.{PreservesBlocks, PreservesIds, Settling, StraightSince, UniqueIds, WasNumbered}
use Rattle.rl_runs.specs.Facts.{At as AtPlace, InCompleted, IsCurrentOrCompleted}
use Rattle.rl_runs.specs.Moves.{block_id, goto, without_scope}

-- The blocks of cases.

numbered_more : (first next later : ℕ) (cases : List Case) → next ≤ later → AreNumbered first next cases → AreNumbered first later cases
numbered_more first next later [] le are = are
numbered_more first next later (k ∷ cases) le are =
    ((are.0.0, omega (arith, are.0.1, le)), numbered_more first next later cases le are.1)

fall_numbered : (n next : ℕ) (cases : List Case) → n < next → AreNumbered n next cases → WasNumbered n next (fall_of n cases)
fall_numbered n next [] below are = (omega arith, below)
fall_numbered n next (k ∷ cases) below are = are.0

default_numbered : (b : Bool) (n next : ℕ) (cases : List Case) → n < next → AreNumbered n next cases
    → AreNumbered n next (with_default b cases n)
default_numbered true n next cases below are = are
default_numbered false n next [] below are = ((omega arith, below), tt)
default_numbered false n next (k ∷ cases) below are = (are.0, default_numbered false n next cases below are.1)

-- The terminal names the blocks of the cases, and the one behind the statement.
named_cases : (a : State) (next : ℕ) (cases : List Case) (behind : BlockId) → AreNumbered a.env.next_block next cases
    → WasNumbered a.env.next_block next behind.0 → (id : ℕ)
    → list_any (same_id (record { 0 = id })) (map (λ (k : Case). k.block) cases ++ behind ∷ []) ≡ true → IsNameSince a next id
named_cases a next [] behind are last id is = elim (named_first id behind [] is) [
  | inl e ↦ inl (omega (arith, e, last.0), omega (arith, e, last.1))
  | inr never ↦ absurd (named_none id never)
]
named_cases a next (k ∷ cases) behind are last id is =
    elim (named_first id k.block (map (λ (j : Case). j.block) cases ++ behind ∷ []) is) [
      | inl e ↦ inl (omega (arith, e, are.0.0), omega (arith, e, are.0.1))
      | inr later ↦ named_cases a next cases behind are.1 last id later
    ]

-- Complete blocks stay, with their program points.
done_back : (c : Code) {old new : State} → Extends old new → DoneSettle c new → DoneSettle c old
done_back c {old} {new} g all id place p = all id place (record {
  index = kept.place;
  block = kept.block;
  found = kept.found;
  named = kept.named;
  within = omega (arith, kept.holds.0, p.within);
})
  where
    kept : InCompleted new id (AtPlace (length p.block.1.instructions) (Ends p.block.1.terminal))
    kept =
        g.done id (AtPlace (length p.block.1.instructions) (Ends p.block.1.terminal))
        (record { place = p.index; block = p.block; found = p.found; named = p.named; holds = (refl, refl) })

each_back : (c : Code) {old new : State} → Extends old new → (cases : List Case) → EachSettles c old cases → EachSettles c new cases
each_back c g [] each = each
each_back c g (k ∷ cases) each = ((λ h. each.0 (λ t. done_back c g (h t))), each_back c g cases each.1)

fall_settles : (c : Code) (x : State) (n : ℕ) (cases : List Case) → EachSettles c x cases → Settles c n 0
    → (Settles c (fall_of n cases) 0 → DoneSettle c x) → Settles c (fall_of n cases) 0
fall_settles c x n [] each last h = last
fall_settles c x n (k ∷ cases) each last h = each.0 h

other_settles : (c : Code) (x : State) (n : ℕ) (cases : List Case) → EachSettles c x cases → Settles c n 0
    → (Settles c (other_of n cases).0 0 → DoneSettle c x) → Settles c (other_of n cases).0 0
other_settles c x n [] each last h = last
other_settles c x n (k ∷ cases) each last h = by_test k.test h (λ further. other_settles c x n cases each.1 last further)
  where
    by_test : (test : Option Place)
        → (Settles c (unwrap_or (or_default test k.block (default_case cases)) (block_id n)).0 0 → DoneSettle c x)
        → ((Settles c (other_of n cases).0 0 → DoneSettle c x) → Settles c (other_of n cases).0 0)
        → Settles c (unwrap_or (or_default test k.block (default_case cases)) (block_id n)).0 0
    by_test None h1 further = each.0 h1
    by_test (Some place) h1 further = further h1

-- No case was lowered yet.
pub switch_begun_cases : (s : State) → PreservesCases s [] (switch_begun s)
switch_begun_cases s = record {
  extends = extends_refl (reserved s);
  ids = ids_counted s.completed s.current.id.0 s.env.next_block (s.env.next_block + 1) (omega arith);
  free = λ u there. elim there [
    | inl same ↦ absurd (omega (arith, same, u.current_below))
    | inr k ↦ (let below : s.env.next_block < s.env.next_block = u.below s.env.next_block k in absurd (omega arith))
  ];
  used = used_refl (reserved s);
  named = λ b one. inl one;
  numbered = tt;
  ended = λ all. all;
  straight = λ id m. inl m;
  settle = λ c a here id place h. a.old here id place h;
  each = λ c a. tt;
  looped = λ c cover entry old. old;
}

-- The block behind the statement is neither current nor complete.
module _ (s x : State) (cases : List Case) (px : PreservesCases s cases x) (u : UniqueIds s.completed s.current.id.0 s.env.next_block) where
  behind_free : IsFree x.completed x.current.id.0 x.env.next_block s.env.next_block
  behind_free =
      record { below = omega (arith, px.extends.blocks); unused = λ k. px.free u (inr k); other = λ e. px.free u (inl (sym e)) }

-- Facts around the cases hold around those before one more part.
around_before : (c : Code) (s x z : State) (cases : List Case) → PreservesCases s cases x → Extends x z → StraightSince x z
    → SettlesAround c s z → SettlesAround c s x
around_before c s x z cases px g since a = record {
  cover = contained_before g a.cover;
  own = notes_back c s s x z a.own (omega arith) g.blocks since;
  below = a.below;
  jumps = a.jumps;
  behind = a.behind;
  old = a.old;
}

-- A part in front of the next case: the test of one, or the value.
pub cases_then : (s x z : State) (cases : List Case) → PreservesCases s cases x → PreservesBlocks x z → PreservesCases s cases z
cases_then s x z cases px b = record {
  extends = extends_then px.extends b.extends;
  ids = ids_then px.ids b.ids;
  free = λ u there. (let f = free_then s.env.next_block b.ids (behind_free s x cases px u) in elim there [ inl same ↦ f.other (sym same) | inr k ↦ f.unused k ]);
  used = used_then (reserved s) b.extends px.used b.used;
  named = named_then s x z (omega (arith, px.extends.blocks)) b.extends.blocks
      (same_targets s x z.env.next_block px.extends.handlers px.extends.scopes) px.named b.named;
  numbered = numbered_more s.env.next_block x.env.next_block z.env.next_block cases b.extends.blocks px.numbered;
  ended = λ all. b.ended (px.ended all);
  straight = straight_then s x z (omega (arith, px.extends.blocks)) b.extends.blocks px.straight b.straight;
  settle = λ c a. b.settle c a.cover
      (notes_back c s x z z a.own (omega (arith, px.extends.blocks)) (omega arith) (λ id m. inl m))
      (straight_below s x (omega (arith, px.extends.blocks)) px.straight a.below)
      (subst (λ (l : List JumpScope). JumpsSettle c l) (sym px.extends.scopes) a.jumps)
      (px.settle c (around_before c s x z cases px b.extends b.straight a));
  each = λ c a. each_back c b.extends cases (px.each c (around_before c s x z cases px b.extends b.straight a));
  looped = λ c cover entry old. b.looped c cover entry (px.looped c (contained_before b.extends cover) entry old);
}

-- The statements of one more case.
module _ (s x y : State) (own : Label) (cases : List Case) (part : Span) (test : Option Place) (px : PreservesCases s cases x)
    (b : PreservesBlocks (case_begun x own s.env.next_block) y) where
  abbrev n : ℕ
  n = s.env.next_block

  abbrev q : ℕ
  q = x.env.next_block

  abbrev fall : ℕ
  fall = fall_of n cases

  abbrev r : State
  r = reserved x

  abbrev opened : State
  opened = case_begun x own n

  abbrev sr : State
  sr = without_scope y

  abbrev shut : State
  shut = case_ended y fall x.current part

  behind_below : n < q
  behind_below = omega (arith, px.extends.blocks)

  grows : Extends x shut
  grows = case_extends s x y own cases part px.extends b.extends

  shut_ids : PreservesIds s shut
  shut_ids =
      ids_aside r sr q (goto fall gotos.Break part)
      (ids_then px.ids (ids_counted x.completed x.current.id.0 q (q + 1) (omega arith))) (inr (omega (arith, behind_below)))
      (λ u. free_fresh x.completed x.current.id.0 q (q + 1) q (px.ids.distinct u) (omega arith) (omega arith)) b.ids

  shut_free : UniqueIds s.completed s.current.id.0 s.env.next_block → IsCurrentOrCompleted shut n → ⊥
  shut_free u there = elim there [ inl same ↦ free.other (sym same) | inr k ↦ free.unused k ]
    where
      free : IsFree shut.completed shut.current.id.0 shut.env.next_block n
      free =
          free_aside r sr q n (goto fall gotos.Break part)
          (record { below = omega (arith, behind_below); unused = λ k. px.free u (inr k); other = λ e. px.free u (inl (sym e)) })
          (λ e. omega (arith, e, behind_below)) b.ids

  shut_used : AreUsed (reserved s) shut
  shut_used id above below = elim (below_or id q) [
    | inl before ↦ still_there grows id (px.used id above before)
    | inr rest ↦ inr (ended_there sr (goto fall gotos.Break part) x.current id (in_hole rest))
  ]
    where
      in_hole : q ≤ id → IsCurrentOrCompleted sr id
      in_hole rest = elim (below_or id (q + 1)) [
        | inl one ↦ (let same : q ≡ id = omega (arith, rest, one) in subst (λ (m : ℕ). IsCurrentOrCompleted sr m) same b.extends.current)
        | inr more ↦ b.used id more below
      ]

  falls_to : WasNumbered n shut.env.next_block fall
  falls_to =
      fall_numbered n shut.env.next_block cases (omega (arith, behind_below, b.extends.blocks))
      (numbered_more n q shut.env.next_block cases (omega (arith, b.extends.blocks)) px.numbered)

  shut_named : NamesSince s shut
  shut_named =
      named_ended s sr (goto fall gotos.Break part) x.current to_hole
      (named_goto s fall sr.env.next_block gotos.Break part falls_to.0 falls_to.1)
    where
      in_body : (id : ℕ) → IsTarget opened.handlers opened.scopes id → IsNameSince s sr.env.next_block id
      in_body id to = elim (scope_targets x.handlers x.scopes (scope.Switch own (block_id n)) id to) [
        | inl around ↦ same_targets s x sr.env.next_block px.extends.handlers px.extends.scopes id around
        | inr mine ↦ elim mine [
          | inl e ↦ inl (omega (arith, e), omega (arith, e, behind_below, b.extends.blocks))
          | inr again ↦ absurd (let never : Err NotALoop ≡ Ok again.0 = again.1 in cc)
        ]
      ]

      to_opened : NamesSince s opened
      to_opened one there = elim (px.named one there) [
        | inl old ↦ inl old
        | inr new ↦ inr (λ id is. named_more s q (q + 1) (omega arith) id (new id is))
      ]

      to_hole : NamesSince s sr
      to_hole = named_then s opened sr (omega (arith, behind_below)) b.extends.blocks in_body to_opened b.named

  last_straight : StraightSince sr shut
  last_straight = straight_ended sr (goto fall gotos.Break part) x.current (λ id never. never)

  hole_straight : StraightSince opened shut
  hole_straight = straight_then opened sr shut b.extends.blocks (omega arith) b.straight last_straight

  grown_straight : StraightSince x shut
  grown_straight = straight_then x opened shut (omega arith) b.extends.blocks (λ id m. inl m) hole_straight

  shut_straight : StraightSince s shut
  shut_straight = straight_then s x shut (omega (arith, behind_below)) grows.blocks px.straight grown_straight

  cover_body : (c : Code) → IsContainedIn shut c → IsContainedIn y c
  cover_body c cover =
      contained_stacked y (take (length y.scopes - 1) y.scopes) y.handlers c (λ none. none)
      (contained_hole sr fall gotos.Break part x.current c cover)

  module _ (c : Code) (a : SettlesAround c s (case_ended y (fall_of s.env.next_block cases) x.current part)) where
    around : SettlesAround c s x
    around = around_before c s x shut cases px grows grown_straight a

    hole : PointsSettle c opened → PointsSettle c sr
    hole first =
        b.settle c (cover_body c a.cover)
        (notes_back c s opened sr shut a.own (omega (arith, behind_below)) (omega arith) last_straight)
        (λ id m. (let small : id < q = straight_below s x (omega (arith, behind_below)) px.straight a.below id m in omega (arith, small)))
        (scope_jumps_settle c x.scopes (scope.Switch own (block_id n))
        (subst (λ (l : List JumpScope). JumpsSettle c l) (sym px.extends.scopes) a.jumps) a.behind
        (λ block1 is. absurd (let never : Err NotALoop ≡ Ok block1 = is in cc))) first

    shut_settle : PointsSettle c shut
    shut_settle here =
        settle_aside r sr (new_block q block.Block) (goto fall gotos.Break part) c refl hole
        (settle_goto sr fall gotos.Break part x.current c a.cover
        (fall_settles c x n cases (px.each c around) a.behind (λ t id place p. px.settle c around here id place (inl p))))
        (px.settle c around) here

    -- The case's block settles where the one does to which it falls through.
    first_settles : (Settles c q 0 → DoneSettle c shut) → Settles c fall 0 → Settles c q 0
    first_settles h t = elim b.extends.current [
      | inl same ↦ by_length (length sr.current.instructions) refl same
      | inr k ↦ all_points q 0 (inl (record { index = k.place; block = k.block; found = k.found; named = k.named; within = omega arith }))
    ]
      where
        end : Settles c sr.current.id.0 (length sr.current.instructions)
        end = settle_goto sr fall gotos.Break part x.current c a.cover t

        begins : PointsSettle c opened
        begins there id index p = elim p [
          | inl d ↦ done_back c grows (h there) id index (record { index = d.index; block = d.block; found = d.found; named = d.named; within = d.within })
          | inr w ↦ absurd (let none : index < 0 = w.within in omega (arith, none))
        ]

        all_points : (id index : ℕ) → HasPoint y id index → Settles c id index
        all_points = hole begins end

        by_length : (m : ℕ) → length sr.current.instructions ≡ m → sr.current.id.0 ≡ q → Settles c q 0
        by_length zero is same = subst (λ (m : ℕ). Settles c m 0) same (subst (λ (m : ℕ). Settles c sr.current.id.0 m) is end)
        by_length (suc m) is same = all_points q 0 (inr (record { named = same; within = omega (arith, is) }))

    block_settles : (Settles c q 0 → DoneSettle c shut) → Settles c q 0
    block_settles h =
        first_settles h
        (fall_settles c x n cases (px.each c around) a.behind (λ t. done_back c grows (h (first_settles h t))))

  pub cases_more : PreservesCases s (record { test = test; block = block_id x.env.next_block } ∷ cases)
      (case_ended y (fall_of s.env.next_block cases) x.current part)
  cases_more = record {
    extends = extends_then px.extends grows;
    ids = shut_ids;
    free = shut_free;
    used = shut_used;
    named = shut_named;
    numbered = ((omega (arith, behind_below), omega (arith, b.extends.blocks)), numbered_more n q shut.env.next_block cases (omega (arith, b.extends.blocks)) px.numbered);
    ended = λ all. ends_more sr.completed (ended_by sr.current (goto fall gotos.Break part)) refl (b.ended (px.ended all));
    straight = shut_straight;
    settle = shut_settle;
    each = λ c a. (block_settles c a, each_back c grows cases (px.each c (around c a)));
    looped = λ c cover entry old.
        looped_ended (IsLedTo c entry) sr (goto fall gotos.Break part) x.current (λ led. tt)
        (b.looped c (cover_body c cover) entry (px.looped c (contained_before grows cover) entry old));
  }

-- The whole statement.
module _ (s t : State) (cases : List Case) (value : Place) (span : Span) (pt : PreservesCases s cases t) where
  abbrev behind : ℕ
  behind = s.env.next_block

  abbrev finished : State
  finished = switch_finished t behind cases value span

  ends : Extends t finished
  ends = extends_completed t (switch_end behind cases value span) (new_block behind block.Block) (λ none. refl)

  whole_used : AreUsed s finished
  whole_used id above below = elim (below_or id (behind + 1)) [
    | inl one ↦ (let same : behind ≡ id = omega (arith, above, one) in inl same)
    | inr rest ↦ inr (ended_there t (switch_end behind cases value span) (new_block behind block.Block) id (pt.used id rest below))
  ]

  whole_straight : StraightSince t finished
  whole_straight = straight_ended t (switch_end behind cases value span) (new_block behind block.Block) (λ id never. never)

  whole_settles : Settling s finished
  whole_settles c cover own below jumps old last =
      settle_completed t (switch_end behind cases value span) (new_block behind block.Block) c
      (end (other_settles c t behind cases (pt.each c around) last (λ d id place p. pt.settle c around (end d) id place (inl p))))
      (pt.settle c around) (empty_settles c behind)
    where
      around : SettlesAround c s t
      around = record {
        cover = contained_before ends cover;
        own = notes_back c s s t finished own (omega arith) (omega arith) whole_straight;
        below = below;
        jumps = jumps;
        behind = last;
        old = old;
      }

      end : Settles c (other_of behind cases).0 0 → Settles c t.current.id.0 (length t.current.instructions)
      end other =
          settles_compares c t.current.id.0 (length t.current.instructions) (switch_end behind cases value span) value.identifier.0
          (with_default (is_some (default_case cases)) cases behind) (block_id behind)
          (terminal_met t (switch_end behind cases value span) (new_block behind block.Block) c cover) refl
          (λ b is. (let same : Some (other_of behind cases) ≡ Some b = sym (default_is behind cases) ∙ is in
          let one : other_of behind cases ≡ b = cc in subst (λ (m : BlockId). Settles c m.0 0) one other))

  pub switch_blocks : PreservesBlocks s (switch_finished t s.env.next_block cases value span)
  switch_blocks = record {
    extends = extends_then (extends_then (extends_reserved s) pt.extends) ends;
    ids = ids_ended t (switch_end behind cases value span) (new_block behind block.Block) pt.ids (inr (omega arith))
        (λ u. behind_free s t cases pt u);
    used = whole_used;
    named = named_ended s t (switch_end behind cases value span) (new_block behind block.Block) pt.named
        (named_cases s t.env.next_block (with_default (is_some (default_case cases)) cases behind) (block_id behind)
        (default_numbered (is_some (default_case cases)) behind t.env.next_block cases (omega (arith, pt.extends.blocks)) pt.numbered)
        (omega arith, omega (arith, pt.extends.blocks)));
    ended = λ all. ends_more t.completed (ended_by t.current (switch_end behind cases value span)) refl (pt.ended all);
    straight = straight_then s t finished (omega (arith, pt.extends.blocks)) (omega arith) pt.straight whole_straight;
    settle = whole_settles;
    looped = λ c cover entry old.
        looped_ended (IsLedTo c entry) t (switch_end behind cases value span) (new_block behind block.Block) (λ led. tt)
        (pt.looped c (contained_before ends cover) entry old);
  }
