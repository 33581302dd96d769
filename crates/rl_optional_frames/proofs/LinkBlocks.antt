-- The blocks of a link of an optional chain.
use Rattle.std.proofs.Common.{◌≡◌, ℕ, zero, suc, ◌+◌, ◌<◌, ◌⊎◌, inl, inr, ◌++◌, Bool, List, [], ◌∷◌, length, refl, sym, ap, ◌∙◌}
use Rattle.std.proofs.Common.{subst, arith}
use Rattle.rl_base.specs.declared.span.Span.{Span}
use Rattle.rl_builder.specs.Builder.{State, completed_by, ended_by, new_block, reserved}
use Rattle.rl_builder.specs.declared.blocks.WipBlock.{WipBlock}
use Rattle.rl_builder.specs.declared.jumps.JumpScope.{JumpScope}
use Rattle.rl_builder.specs.declared.jumps.JumpScope.TheVariants as scope
use Rattle.rl_frames.specs.Parts.{link_begun, link_end, link_object}
use Rattle.rl_hir.specs.declared.function.BlockKind.{BlockKind}
use Rattle.rl_hir.specs.declared.function.BlockKind.TheVariants as block
use Rattle.rl_hir.specs.declared.instruction.Place.{Place}
use Rattle.rl_hir.specs.declared.terminal.GotoVariant.TheVariants as gotos
use Rattle.rl_hir.specs.declared.terminal.Terminal.{Terminal}
use Rattle.rl_machine.proofs.Silence.{settles_goes, settles_reads}
use Rattle.rl_machine.specs.Ends.{Chains, leaving}
use Rattle.rl_machine.specs.Machine.{Code}
use Rattle.rl_machine.specs.Silence.{LeavesStraight, Settles}
use Rattle.rl_optional_frames.proofs.LinkStarts.{StartsLink}
use Rattle.rl_optional_frames.proofs.Reaching.{alternate_target, names_reaching, since_reaching}
use Rattle.rl_optional_frames.proofs.There.{there_too}
use Rattle.rl_optional_frames.specs.Links.{LinkBlocks, reaching}
use Rattle.rl_runs.proofs.BlockIds.{IsFree, free_ended, free_then, ids_ended, ids_then}
use Rattle.rl_runs.proofs.Holes.{aside, contained_hole}
use Rattle.rl_runs.proofs.Moves.{contained_before, extends_completed, extends_reserved, extends_then, terminal_met}
use Rattle.rl_runs.proofs.Naming.{named_ended, named_first, named_goto, named_more, named_none, named_then, named_two, same_targets}
use Rattle.rl_runs.proofs.Points.{empty_settles, settle_aside, settle_completed, settle_goto, straight_cases}
use Rattle.rl_runs.proofs.Used.{below_or, ended_there, ends_more, looped_ended, notes_back, straight_below, straight_ended, straight_then}
use Rattle.rl_runs.proofs.Used.{used_then}
use Rattle.rl_runs.specs.Blocks.{AreUsed, HasPoint, InCompletedPoint, IsLedTo, IsNameSince, IsTarget, JumpsSettle, NamesBlock}
use Rattle.rl_runs.specs.Blocks.{NamesSince, NotesOwn}
use Rattle.rl_runs.specs.Blocks.{PointsSettle, PreservesBlocks, PreservesIds, PreservesUniqueIds, Settling, StraightBelow, StraightSince}
use Rattle.rl_runs.specs.Blocks.{UniqueIds}
use Rattle.rl_runs.specs.Facts.{Extends, IsCompleted, IsContainedIn, IsCurrentOrCompleted}
use Rattle.rl_runs.specs.Moves.{block_id, branch, goto, last_hole}

-- `f` is the block behind the link, `q` that of the link, and `a` the one in which the chain ends early; `s5` is the state behind the
-- link, with its value in its place.
module _ (s x s2 s5 : State) (optional : Bool) (object : Place) (f q a : ℕ) (last_kind : BlockKind) (span : Span) where
  abbrev tb : ℕ
  tb = x.env.next_block

  abbrev s0 : State
  s0 = link_begun x

  abbrev end_branch : Terminal
  end_branch = branch object q a f span

  abbrev s3 : State
  s3 = link_object s2 f q a span object

  abbrev end_hole : Terminal
  end_hole = goto f gotos.Break span

  abbrev shut : State
  shut = last_hole s5 f gotos.Break span x.current

  abbrev end_link : Terminal
  end_link = link_end f tb optional span

  abbrev pub linked : State
  linked = completed_by shut end_link (new_block f last_kind)

  module _ (st : StartsLink s x f q) (bo : LinkBlocks a (link_begun x) s2)
      (bk : PreservesBlocks (link_object s2 f q a span object) s5) where
    opens : Extends s2 s3
    opens = extends_completed s2 end_branch (new_block q block.Value) (λ none. refl)

    within : Extends s0 s5
    within = extends_then bo.extends (extends_then opens bk.extends)

    shuts : Extends (reserved x) shut
    shuts =
        aside (reserved x) s5 (new_block tb block.Value) x.scopes s5.scopes x.handlers s5.handlers end_hole within.scopes within.handlers
        within

    ends : Extends shut linked
    ends = extends_completed shut end_link (new_block f last_kind) (λ none. refl)

    pub link_extends : Extends x linked
    link_extends = extends_then (extends_reserved x) (extends_then shuts ends)

    all_extends : Extends s linked
    all_extends = extends_then st.extends link_extends

    -- Ids.

    entering : UniqueIds s.completed s.current.id.0 s.env.next_block → UniqueIds x.completed tb (tb + 1)
    entering c = record {
      apart = (st.ids.distinct c).apart;
      open_block = λ k. (let under : tb < x.env.next_block = (st.ids.distinct c).below tb k in omega (arith, under));
      below = λ id k. (let under : id < x.env.next_block = (st.ids.distinct c).below id k in omega (arith, under));
      current_below = omega arith;
    }

    ids_begun : PreservesUniqueIds s.completed s.current.id.0 s.env.next_block x.completed tb (tb + 1)
    ids_begun = record {
      added = st.ids.added;
      own = inr st.extends.blocks;
      distinct = entering;
      counted = omega (arith, st.extends.blocks);
    }

    free_begun : (id : ℕ) → IsFree x.completed x.current.id.0 tb id → IsFree x.completed tb (tb + 1) id
    free_begun id g = record { below = omega (arith, g.below); unused = g.unused; other = λ e. omega (arith, e, g.below) }

    outer_free : UniqueIds s.completed s.current.id.0 s.env.next_block → IsFree x.completed tb (tb + 1) x.current.id.0
    outer_free c =
        let there : UniqueIds x.completed x.current.id.0 tb = st.ids.distinct c in
        record {
          below = omega (arith, there.current_below);
          unused = there.open_block;
          other = λ e. omega (arith, e, there.current_below);
        }

    -- A free id but that of the link's block.
    later_free : (id : ℕ) → (id ≡ q → ⊥) → IsFree x.completed tb (tb + 1) id → IsFree s5.completed s5.current.id.0 s5.env.next_block id
    later_free id other g = free_then id bk.ids (free_ended s2 end_branch q id (free_then id bo.ids g) other)

    ids_open : PreservesUniqueIds s.completed s.current.id.0 s.env.next_block s3.completed q s3.env.next_block
    ids_open =
        ids_ended s2 end_branch (new_block q block.Value) (ids_then ids_begun bo.ids) (inr st.link_since)
        (λ c. free_then q bo.ids (free_begun q (st.free q (inr refl) c)))

    ids_shut : PreservesUniqueIds s.completed s.current.id.0 s.env.next_block shut.completed x.current.id.0 shut.env.next_block
    ids_shut =
        ids_ended s5 end_hole x.current (ids_then ids_open bk.ids) (inl (ap (λ (w : WipBlock). w.id.0) st.position))
        (λ c. later_free x.current.id.0 (λ e. (st.free q (inr refl) c).other (sym e)) (outer_free c))

    all_ids : PreservesIds s linked
    all_ids =
        ids_ended shut end_link (new_block f last_kind) ids_shut (inr st.behind_since)
        (λ c. free_ended s5 end_hole x.current.id.0 f (later_free f st.apart (free_begun f (st.free f (inl refl) c)))
        (st.free f (inl refl) c).other)

    -- Each block is used.

    in_linked : (id : ℕ) → IsCurrentOrCompleted s5 id → IsCurrentOrCompleted linked id
    in_linked id h = inr (ended_there shut end_link (new_block f last_kind) id (inr (ended_there s5 end_hole x.current id h)))

    used_within : AreUsed s0 s5
    used_within =
        used_then s0 bk.extends (used_then s0 opens bo.used (λ id above below. absurd (omega (arith, above, below)))) bk.used

    all_used : AreUsed s linked
    all_used id above below = elim (below_or id tb) [
      | inl before ↦ elim (st.used id above before) [
        | inl is ↦ inl (sym is)
        | inr other ↦ elim other [
          | inl is ↦ in_linked id (there_too s5 q id (sym is) bk.extends.current)
          | inr done ↦ inr (link_extends.completed id done)
        ]
      ]
      | inr since ↦ elim (below_or id (tb + 1)) [
        | inl one ↦ in_linked id (there_too s5 tb id (omega (arith, since, one)) within.current)
        | inr more ↦ in_linked id (used_within id more below)
      ]
    ]

    -- Names.

    abbrev around : State
    around = reaching s a

    to_begun : NamesSince around (reaching s0 a)
    to_begun b one = elim (names_reaching s x a st.named b one) [
      | inl old ↦ inl old
      | inr own ↦ inr (λ id is. named_more around tb (tb + 1) (omega arith) id (own id is))
    ]

    to_object : NamesSince around s2
    to_object =
        named_then around (reaching s0 a) s2 (omega (arith, st.extends.blocks)) bo.extends.blocks
        (same_targets around (reaching s0 a) s2.env.next_block st.extends.handlers
        (ap (λ (l : List JumpScope). l ++ scope.Label [] (block_id a) ∷ []) st.extends.scopes)) to_begun bo.named

    to_open : NamesSince around s3
    to_open = named_ended around s2 end_branch (new_block q block.Value) to_object own
      where
        own : (id : ℕ) → NamesBlock end_branch id → IsNameSince around s2.env.next_block id
        own id is = elim (named_first id (block_id q) (block_id a ∷ block_id f ∷ []) is) [
          | inl e ↦ inl (omega (arith, e, st.link_since), omega (arith, e, st.link_below, bo.extends.blocks))
          | inr is1 ↦ elim (named_first id (block_id a) (block_id f ∷ []) is1) [
            | inl e ↦ inr (subst (λ (m : ℕ). IsTarget around.handlers around.scopes m) (sym e) (alternate_target s a))
            | inr is2 ↦ elim (named_first id (block_id f) [] is2) [
              | inl e ↦ inl (omega (arith, e, st.behind_since), omega (arith, e, st.behind_below, bo.extends.blocks))
              | inr never ↦ absurd (named_none id never)
            ]
          ]
        ]

    to_shut : NamesSince around shut
    to_shut =
        named_ended around s5 end_hole x.current
        (named_then around s3 s5 (omega (arith, st.extends.blocks, bo.extends.blocks)) bk.extends.blocks
        (λ id target. since_reaching s a s5.env.next_block id
        (same_targets s s3 s5.env.next_block (bo.extends.handlers ∙ st.extends.handlers) (bo.extends.scopes ∙ st.extends.scopes) id target))
        to_open bk.named)
        (named_goto around f s5.env.next_block gotos.Break span st.behind_since
        (omega (arith, st.behind_below, bo.extends.blocks, bk.extends.blocks)))

    all_named : NamesSince around linked
    all_named =
        named_ended around shut end_link (new_block f last_kind) to_shut
        (named_two around (block_id tb) (block_id f) s5.env.next_block st.extends.blocks
        (omega (arith, bo.extends.blocks, bk.extends.blocks)) st.behind_since
        (omega (arith, st.behind_below, bo.extends.blocks, bk.extends.blocks)))

    -- Straight notes: the link leaves its own at the blocks of its test and behind it.

    object_straight : StraightSince s2 shut
    object_straight =
        straight_then s2 s3 shut (omega arith) (omega (arith, bk.extends.blocks))
        (straight_ended s2 end_branch (new_block q block.Value) (λ id never. never))
        (straight_then s3 s5 shut bk.extends.blocks (omega arith) bk.straight
        (straight_ended s5 end_hole x.current (λ id never. never)))

    begun_straight : StraightSince s0 shut
    begun_straight = straight_then s0 s2 shut bo.extends.blocks (omega (arith, bk.extends.blocks)) bo.straight object_straight

    shut_straight : StraightSince s shut
    shut_straight =
        straight_then s s0 shut (omega (arith, st.extends.blocks)) (omega (arith, bo.extends.blocks, bk.extends.blocks))
        (λ id m. elim (st.straight id m) [ inl old ↦ inl old | inr own ↦ inr (own.0, omega (arith, own.1)) ]) begun_straight

    own_notes : (id : ℕ) → LeavesStraight (leaving end_link.kind) id → (id ≡ tb) ⊎ (id ≡ f)
    own_notes id leaves = elim leaves [
      | inl one ↦ inl (sym one.0)
      | inr rest ↦ elim rest [ inl two ↦ inr (sym two.0) | inr never ↦ absurd never ]
    ]

    all_straight : StraightSince s linked
    all_straight id m = elim (straight_cases shut.completed (ended_by x.current end_link) id m) [
      | inl old ↦ shut_straight id old
      | inr new ↦ elim (own_notes id new) [
        | inl e ↦ inr (omega (arith, e, st.extends.blocks), omega (arith, e, bo.extends.blocks, bk.extends.blocks))
        | inr e ↦ inr (omega (arith, e, st.behind_since), omega (arith, e, st.behind_below, bo.extends.blocks, bk.extends.blocks))
      ]
    ]

    -- Loops.

    cover_shut : (c : Code) → IsContainedIn linked c → IsContainedIn shut c
    cover_shut c cover = contained_before ends cover

    cover5 : (c : Code) → IsContainedIn linked c → IsContainedIn s5 c
    cover5 c cover = contained_hole s5 f gotos.Break span x.current c (cover_shut c cover)

    cover3 : (c : Code) → IsContainedIn linked c → IsContainedIn s3 c
    cover3 c cover = contained_before bk.extends (cover5 c cover)

    cover2 : (c : Code) → IsContainedIn linked c → IsContainedIn s2 c
    cover2 c cover = contained_before opens (cover3 c cover)

    cover_start : (c : Code) → IsContainedIn linked c → IsContainedIn x c
    cover_start c cover = contained_before link_extends cover

    pub link_blocks : LinkBlocks a s linked
    link_blocks = record {
      extends = all_extends;
      ids = all_ids;
      used = all_used;
      named = all_named;
      ended = λ all. ends_more shut.completed (ended_by x.current end_link) refl
          (ends_more s5.completed (ended_by s5.current end_hole) refl
          (bk.ended (ends_more s2.completed (ended_by s2.current end_branch) refl (bo.ended (st.ended all)))));
      straight = all_straight;
      settle = settles;
      looped = λ c cover entry old.
          looped_ended (IsLedTo c entry) shut end_link (new_block f last_kind) (λ led. tt)
          (looped_ended (IsLedTo c entry) s5 end_hole x.current (λ led. tt)
          (bk.looped c (cover5 c cover) entry
          (looped_ended (IsLedTo c entry) s2 end_branch (new_block q block.Value) (λ led. tt)
          (bo.looped c (cover2 c cover) entry (st.looped c (cover_start c cover) entry old)))));
    }
      where
        settles : Settling s linked
        settles c cover own below jumps old behind =
            settle_completed shut end_link (new_block f last_kind) c (leads start)
            (settle_aside (reserved x) s5 (new_block tb block.Value) end_hole c refl hole end at_start) (empty_settles c f)
          where
            at_start : PointsSettle c x
            at_start = st.settle c (cover_start c cover) behind old

            -- The end of the block in front settles if the first point of the test does.
            leads : Settles c tb 0 → Settles c x.current.id.0 (length x.current.instructions)
            leads there =
                settles_goes c x.current.id.0 (length x.current.instructions) end_link (block_id tb)
                ((block_id tb, Chains optional) ∷ (block_id f, Chains optional) ∷ [])
                (terminal_met shut end_link (new_block f last_kind) c cover) refl there

            -- The straight notes of the parts are their own.
            own_shut : NotesOwn c s0 shut
            own_shut id over under noted = elim
                (straight_cases shut.completed (ended_by x.current end_link) id
                (own id (omega (arith, over, st.extends.blocks)) under noted)) [
                  | inl m ↦ m
                  | inr new ↦ elim (own_notes id new) [
                    | inl e ↦ absurd (omega (arith, e, over))
                    | inr e ↦ absurd (omega (arith, e, over, st.behind_below))
                  ]
                ]

            by_scopes : (z : State) → z.scopes ≡ s.scopes → JumpsSettle c z.scopes
            by_scopes z same = subst (λ (l : List JumpScope). JumpsSettle c l) (sym same) jumps

            below_begun : StraightBelow s0
            below_begun id m = elim (st.straight id m) [
              | inl before ↦ (let small : id < s.env.next_block = below id before in omega (arith, small, st.extends.blocks))
              | inr since ↦ omega (arith, since.1)
            ]

            below_open : StraightBelow s3
            below_open =
                straight_below s2 s3 (omega arith) (straight_ended s2 end_branch (new_block q block.Value) (λ id never. never))
                (straight_below s0 s2 bo.extends.blocks bo.straight below_begun)

            hole : PointsSettle c s0 → PointsSettle c s5
            hole first =
                bk.settle c (cover5 c cover)
                (notes_back c s0 s3 s5 shut own_shut bo.extends.blocks (omega arith)
                (straight_ended s5 end_hole x.current (λ id never. never))) below_open
                (by_scopes s3 (bo.extends.scopes ∙ st.extends.scopes))
                (λ here. settle_completed s2 end_branch (new_block q block.Value) c
                (settles_reads c s2.current.id.0 (length s2.current.instructions) end_branch object.identifier.0 (block_id q)
                (block_id a) (block_id f) (terminal_met s2 end_branch (new_block q block.Value) c (cover3 c cover)) refl (λ noted. here))
                (bo.settle c (cover2 c cover)
                (notes_back c s0 s0 s2 shut own_shut (omega arith) (omega (arith, bk.extends.blocks)) object_straight) below_begun
                (by_scopes s0 st.extends.scopes) first)
                (empty_settles c q))

            end : Settles c s5.current.id.0 (length s5.current.instructions)
            end = settle_goto s5 f gotos.Break span x.current c (cover_shut c cover) behind

            all_points : (id index : ℕ) → HasPoint s5 id index → Settles c id index
            all_points = hole begins end
              where
                begins : PointsSettle c s0
                begins there id index h = elim h [
                  | inl d ↦ at_start (leads there) id index (inl d)
                  | inr w ↦ absurd (let none : index < 0 = w.within in omega (arith, none))
                ]

            at_front : IsCompleted s5.completed tb → InCompletedPoint s5.completed tb 0
            at_front k = record { index = k.place; block = k.block; found = k.found; named = k.named; within = omega arith }

            start : Settles c tb 0
            start = elim within.current [
              | inl same ↦ by_length (length s5.current.instructions) refl same
              | inr k ↦ all_points tb 0 (inl (at_front k))
            ]
              where
                by_length : (m : ℕ) → length s5.current.instructions ≡ m → s5.current.id.0 ≡ tb → Settles c tb 0
                by_length zero is same =
                    subst (λ (m : ℕ). Settles c m 0) same (subst (λ (m : ℕ). Settles c s5.current.id.0 m) is end)
                by_length (suc m) is same = all_points tb 0 (inr (record { named = same; within = omega (arith, is) }))
