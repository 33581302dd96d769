-- The runs of a link of an optional chain.
use Rattle.std.proofs.Common.{◌≡◌, ℕ, ◌<◌, ◌≤◌, inl, Bool, true, false, List, [], ◌∷◌, length, map, get_or, All, Option, Some, refl, sym}
use Rattle.std.proofs.Common.{ap, ◌∙◌, subst, arith}
use Rattle.rl_base.specs.declared.ids.BlockId.{BlockId}
use Rattle.rl_base.specs.declared.span.Span.{Span}
use Rattle.rl_builder.specs.Builder.{State, innermost, new_block, reserved}
use Rattle.rl_builder.specs.declared.blocks.WipBlock.{WipBlock}
use Rattle.rl_frames.specs.Meanings.{passed}
use Rattle.rl_frames.specs.Parts.{link_begun, link_end, link_finished, link_object}
use Rattle.rl_hir.specs.declared.function.BlockKind.{BlockKind}
use Rattle.rl_hir.specs.declared.function.BlockKind.TheVariants as block
use Rattle.rl_hir.specs.declared.instruction.InstructionKind.TheVariants as variables
use Rattle.rl_hir.specs.declared.instruction.InstructionValue.TheVariants as values
use Rattle.rl_hir.specs.declared.instruction.Place.{Place}
use Rattle.rl_hir.specs.declared.terminal.GotoVariant.TheVariants as gotos
use Rattle.rl_machine.specs.declared.trace.Answer.{Answer}
use Rattle.rl_machine.specs.declared.trace.Value.{Value}
use Rattle.rl_machine.specs.Ends.{Chains, Note, Notes, choice, noted}
use Rattle.rl_machine.specs.Machine.{Code, Ends, at, branched, changer, choice_at}
use Rattle.rl_machine.specs.Traces.{Cont, Store, ValueCont, ValuesCont, World, nullish, set_open, tested}
use Rattle.rl_model.specs.Actions.{Action, Ways}
use Rattle.rl_model.specs.Expressions.{called}
use Rattle.rl_optional_frames.proofs.LinkValues.{all_handed, handed_values, maps_same, stores_behind, tested_value}
use Rattle.rl_optional_frames.specs.Links.{RunsOnAll}
use Rattle.rl_optional_frames.specs.Meanings.{handed, linked_values, tested_of}
use Rattle.rl_runs.proofs.Events.{tests_come}
use Rattle.rl_runs.proofs.Holes.{aside, contained_hole, hole_goes, same_throws}
use Rattle.rl_runs.proofs.Moves.{contained_before, extends_completed, extends_reserved, extends_then, extends_value, goes_on}
use Rattle.rl_runs.proofs.Moves.{terminal_met, value_made}
use Rattle.rl_runs.proofs.Steps.{follows_then, inside_refl, noted_same, since_noted, since_start, since_then, steps_on, throws_then}
use Rattle.rl_runs.specs.Continuations.{Agrees, ContinuesAll, Eventually, Follows, Inside, Range, SharesVariables, Since, Throws, TracesAt}
use Rattle.rl_runs.specs.Continuations.{TracesFrom, between}
use Rattle.rl_runs.specs.Facts.{Extends, HasSoundNames, IsContainedIn, Nobody}
use Rattle.rl_runs.specs.Moves.{block_id, branch, goto, last_hole, stored_in}
use Rattle.rl_runs.specs.Simulation.{RunsLinks}

-- The branch at the end of the test goes on as the link does.
chains : (c : Code) (world : World)
    → ((symbol other identifier : ℕ) → c.ident symbol ≡ Some identifier → c.ident other ≡ Some identifier → symbol ≡ other)
    → SharesVariables c.ident world c.world → (optional : Bool)
    (test : ℕ) (v : Value) (source store : Store) (notes : Notes) (answers : List Answer) (consequent alternate : BlockId) (k short : Cont)
    → store test ≡ v → Agrees c.ident source store
    → ((source1 store1 : Store) (rest : List Answer) → ((r : Range) → Since c r store notes answers source1 store1 notes rest)
    → TracesAt c consequent.0 0 store1 notes rest (k source1 rest))
    → ((source1 store1 : Store) (rest : List Answer) → ((r : Range) → Since c r store notes answers source1 store1 notes rest)
    → TracesAt c alternate.0 0 store1 notes rest (short source1 rest))
    → Eventually c (λ stuck next. branched stuck c (choice (Chains optional)) test consequent alternate next next notes store answers)
    (passed optional (set_open world.opens) v source answers k short)
chains c world one shares true test v source store notes answers consequent alternate k short is a on off =
    subst (λ (w : Value). Eventually c
    (λ stuck next. tested (changer c) (nullish w) store answers (at next alternate notes) (at next consequent notes))
    (tested (set_open world.opens) (nullish v) source answers short k)) (sym is)
    (tests_come c world one shares (nullish v) answers (λ next. at next alternate notes) (λ next. at next consequent notes) short k a
    (λ source1 store1 rest after. off source1 store1 rest (λ r. after.since r))
    (λ source1 store1 rest after. on source1 store1 rest (λ r. after.since r)))
chains c world one shares false test v source store notes answers consequent alternate k short is a on off =
    on source store answers (λ r. since_start a)

-- `x` is the state in which the blocks `f` behind the link and `q` of the link are numbered, and its place is made; `a` is the block in
-- which the chain ends early. The object's hole gives `objects`, of which `object` is tested.
module _ (s x s2 s4 : State) (optional lends : Bool) (place object value : Place) (objects : List ℕ) (f q a : ℕ) (last_kind : BlockKind)
    (span : Span)
    (gx : Extends s x) (position : x.current ≡ s.current)
    (nobody : (c : Code) → IsContainedIn x c → HasSoundNames s → Nobody c.ident place.identifier.0)
    (f_since : s.env.next_block ≤ f) (f_below : f < x.env.next_block) (p_since : length s.env.identifiers ≤ place.identifier.0)
    (p_below : place.identifier.0 < length x.env.identifiers) (tests : tested_of objects ≡ Some object.identifier.0) where
  abbrev pub tb : ℕ
  tb = x.env.next_block

  abbrev pub s0 : State
  s0 = link_begun x

  abbrev pub s3 : State
  s3 = link_object s2 f q a span object

  abbrev pub s5 : State
  s5 = stored_in s4 place value span

  abbrev pub shut : State
  shut = last_hole s5 f gotos.Break span x.current

  abbrev pub finished : State
  finished = link_finished s4 f tb optional last_kind span place value x.current

  module _ (go : Extends (link_begun x) s2) (gk : Extends (link_object s2 f q a span object) s4) where
    opens : Extends s2 s3
    opens = extends_completed s2 (branch object q a f span) (new_block q block.Value) (λ none. refl)

    moves_on : Extends s4 s5
    moves_on = extends_value s4 (values.StoreLocal variables.Const place value) (Some span)

    aside_extends : Extends (reserved x) shut
    aside_extends =
        aside (reserved x) s5 (new_block tb block.Value) x.scopes s5.scopes x.handlers s5.handlers
        (goto f gotos.Break span) within.scopes within.handlers within
      where
        within : Extends s0 s5
        within = extends_then go (extends_then opens (extends_then gk moves_on))

    last_extends : Extends shut finished
    last_extends = extends_completed shut (link_end f tb optional span) (new_block f last_kind) (λ none. refl)

    from_start : Extends x finished
    from_start = extends_then (extends_reserved x) (extends_then aside_extends last_extends)

    fits : length s4.env.identifiers < length finished.env.identifiers
    fits = value_made s4 (values.StoreLocal variables.Const place value) (Some span)

    pub links_run : (world : World) (dobj : Action (List Value)) (dk : List Value → Action Value)
        → RunsLinks world dobj (link_begun x) s2 a objects
        → RunsOnAll world dk (link_object s2 f q a span object) s4 objects value.identifier.0
        → RunsLinks world (linked_values world optional lends dobj dk) s finished a (handed lends objects place.identifier.0)
    links_run world dobj dk ro rk = record {
      fresh = all_handed (λ (n : ℕ). length s.env.identifiers ≤ n) lends objects place.identifier.0
          (λ k default within. later (get_or objects k default) (ro.fresh k default within)) p_since;
      made = all_handed (λ (n : ℕ). n < length finished.env.identifiers) lends objects place.identifier.0
          (λ k default within. sooner (get_or objects k default) (ro.made k default within)) (omega (arith, p_below, from_start.identifiers));
      free = λ c cover sound. all_handed (Nobody c.ident) lends objects place.identifier.0
          (ro.free c (contained_before opens (contained_before gk (contained_before moves_on
          (contained_hole s5 f gotos.Break span x.current c (contained_before last_extends cover))))) (gx.sound sound))
          (nobody c (contained_before from_start cover) sound);
      runs = run_it;
    }
      where
        later : (i : ℕ) → length x.env.identifiers ≤ i → length s.env.identifiers ≤ i
        later i above = omega (arith, above, gx.identifiers)

        sooner : (i : ℕ) → i < length s2.env.identifiers → i < length finished.env.identifiers
        sooner i under = omega (arith, under, gk.identifiers, fits)

        run_it : (c : Code) → IsContainedIn finished c → HasSoundNames s → SharesVariables c.ident world c.world
            → (ways : Ways) (k : ValuesCont) (source store : Store) (notes : Notes) (answers : List Answer) → Agrees c.ident source store
            → Throws c (between s finished) store notes answers (innermost s.handlers) ways.throws
            → Follows c (between s finished) store notes answers a 0 ways.short
            → ContinuesAll c (between s finished) store notes answers f 0 (handed lends objects place.identifier.0) k
            → TracesFrom c s store notes answers (linked_values world optional lends dobj dk ways k source answers)
        run_it c cover sound shares ways k source store notes answers a0 throws ends onward =
            subst (λ (w : WipBlock). TracesAt c w.id.0 (length w.instructions) store notes answers
            (linked_values world optional lends dobj dk ways k source answers)) position
            (goes_on shut (link_end f tb optional span) (new_block f last_kind) c (block_id tb)
            ((block_id tb, Chains optional) ∷ (block_id f, Chains optional) ∷ []) store notes answers _ refl cover
            (ro.runs c cover2 (gx.sound sound) shares ways
            (λ vs after rest. passed optional (set_open world.opens) (called vs) after rest
            (dk vs ways (hands vs)) ways.short) source store notes1 answers a0
            (throws_then (innermost s0.handlers) ways.throws part start.later
            (same_throws c R store notes answers s s0 ways.throws gx.handlers throws)) (follows_then part start.later ends)
            (record { goes = tests_on })))
          where
            R : Range
            R = between s finished

            hands : List Value → ValueCont
            hands vs w = k (handed lends vs w)

            notes1 : Notes
            notes1 = noted (noted notes (block_id tb) (Chains optional)) (block_id f) (Chains optional)

            cover_shut : IsContainedIn shut c
            cover_shut = contained_before last_extends cover

            cover5 : IsContainedIn s5 c
            cover5 = contained_hole s5 f gotos.Break span x.current c cover_shut

            cover4 : IsContainedIn s4 c
            cover4 = contained_before moves_on cover5

            cover3 : IsContainedIn s3 c
            cover3 = contained_before gk cover4

            cover2 : IsContainedIn s2 c
            cover2 = contained_before opens cover3

            sound_open : HasSoundNames s2
            sound_open = go.sound (gx.sound sound)

            objects_free : All (Nobody c.ident) objects
            objects_free = ro.free c cover2 (gx.sound sound)

            place_free : Nobody c.ident place.identifier.0
            place_free = nobody c (contained_before from_start cover) sound

            start : Since c (between s finished) store notes answers source store notes1 answers
            start = since_noted (block_id f) (Chains optional) f_since (omega (arith, f_below, aside_extends.blocks))
                (since_noted (block_id tb) (Chains optional) gx.blocks (omega (arith, aside_extends.blocks)) (since_start a0))

            part : Inside (between s finished) (between s0 s2)
            part = record {
              identifier = gx.identifiers;
              identifiers = omega (arith, gk.identifiers, fits);
              block = omega (arith, gx.blocks);
              blocks = omega (arith, gk.blocks, moves_on.blocks);
            }

            part_link : Inside (between s finished) (between s3 s4)
            part_link = record {
              identifier = omega (arith, gx.identifiers, go.identifiers);
              identifiers = omega (arith, fits);
              block = omega (arith, gx.blocks, go.blocks);
              blocks = omega (arith, moves_on.blocks);
            }

            -- Behind the link: its value goes into its place, and those that it was given are still there.
            ends_on : (vs : List Value) {source2 store2 : Store} {notes2 : Notes} {rest : List Answer}
                → Since c R store notes answers source2 store2 notes2 rest → map store2 objects ≡ vs
                → (w : Value) (source3 store3 : Store) (notes3 : Notes) (answers3 : List Answer)
                → Since c (between s3 s4) store2 notes2 rest source3 store3 notes3 answers3 → store3 value.identifier.0 ≡ w
                → TracesAt c s4.current.id.0 (length s4.current.instructions) store3 notes3 answers3 (hands vs w source3 answers3)
            ends_on vs {source2} {store2} {notes2} {rest} t are w source3 store3 notes3 answers3 u is =
                stores_behind s4 place value span f (hands vs w source3 answers3) cover5 (gk.sound sound_open) place_free p_since
                (omega (arith, p_below, go.identifiers, gk.identifiers)) fits
                (λ store4 further. hole_goes s5 f gotos.Break span x.current c store4 notes3 answers3
                (hands vs w source3 answers3) cover_shut further)
                (λ store4 since value_there others. onward.goes (handed lends vs w) source3 store4 notes3 answers3 since
                (handed_values lends objects place.identifier.0 store4 vs w
                (maps_same objects store4 store3 (λ i default within. kept store4 others (get_or objects i default)
                (ro.fresh i default within) (ro.made i default within))
                ∙ maps_same objects store3 store2 (λ i default within. behind (get_or objects i default)
                (objects_free i default within) (ro.made i default within)) ∙ are)
                (value_there ∙ is)))
                (since_then part_link t.later u)
              where
                kept : (store4 : Store)
                    → ((i : ℕ) → (i ≡ place.identifier.0 → ⊥) → (i ≡ length s4.env.identifiers → ⊥) → store4 i ≡ store3 i)
                    → (i : ℕ) → length x.env.identifiers ≤ i → i < length s2.env.identifiers → store4 i ≡ store3 i
                kept store4 others i above under =
                    others i (λ e. omega (arith, e, above, p_below)) (λ e. omega (arith, e, under, gk.identifiers))

                behind : (i : ℕ) → Nobody c.ident i → i < length s2.env.identifiers → store3 i ≡ store2 i
                behind i free under = u.later.temporaries i free (inl under)

            tests_on : (vs : List Value) (source1 store1 : Store) (notes2 : Notes) (answers1 : List Answer)
                → Since c (between s0 s2) store notes1 answers source1 store1 notes2 answers1 → map store1 objects ≡ vs
                → TracesAt c s2.current.id.0 (length s2.current.instructions) store1 notes2 answers1
                (passed optional (set_open world.opens) (called vs) source1 answers1 (dk vs ways (hands vs)) ways.short)
            tests_on vs source1 store1 notes2 answers1 u are =
                steps_on c s2.current.id.0 (length s2.current.instructions) store1 notes2 answers1 (Ends (branch object q a f span)) _
                (terminal_met s2 (branch object q a f span) (new_block q block.Value) c cover3)
                (subst (λ (o : Option Note). Eventually c
                (λ stuck next. branched stuck c (choice_at o) object.identifier.0 (block_id q)
                (block_id a) next next notes2 store1 answers1)
                (passed optional (set_open world.opens) (called vs) source1 answers1 (dk vs ways (hands vs)) ways.short)) (sym mark)
                (chains c world cover.names.one shares optional object.identifier.0 (called vs) source1 store1 notes2 answers1 (block_id q)
                (block_id a) (dk vs ways (hands vs)) ways.short
                (tested_value objects object.identifier.0 store1 tests ∙ ap called are) t1.agrees
                (λ source2 store2 rest after. links_on source2 store2 rest after)
                (λ source2 store2 rest after. ends.goes source2 store2 notes2 rest (since_then (inside_refl R) t1.later (after R)))))
              where
                t1 : Since c R store notes answers source1 store1 notes2 answers1
                t1 = since_then part start.later u

                mark : notes2 f ≡ Some (Chains optional)
                mark = u.later.marks f (inl (omega (arith, f_below)))
                    ∙ noted_same (noted notes (block_id tb) (Chains optional)) (block_id f) (Chains optional)

                links_on : (source2 store2 : Store) (rest : List Answer)
                    → ((r : Range) → Since c r store1 notes2 answers1 source2 store2 notes2 rest)
                    → TracesAt c q 0 store2 notes2 rest (dk vs ways (hands vs) source2 rest)
                links_on source2 store2 rest after =
                    rk.runs c cover4 sound_open shares objects_free ro.made ways (hands vs) vs source2 store2 notes2 rest t2.agrees still
                    (throws_then (innermost s3.handlers) ways.throws part_link t2.later
                    (same_throws c R store notes answers s s3 ways.throws (go.handlers ∙ gx.handlers) throws))
                    (record { goes = ends_on vs t2 still })
                  where
                    t2 : Since c R store notes answers source2 store2 notes2 rest
                    t2 = since_then (inside_refl R) t1.later (after R)

                    still : map store2 objects ≡ vs
                    still = maps_same objects store2 store1 (λ i default within. same (get_or objects i default)
                        (objects_free i default within) (ro.made i default within)) ∙ are
                      where
                        same : (i : ℕ) → Nobody c.ident i → i < length s2.env.identifiers → store2 i ≡ store1 i
                        same i free under = (after (between finished finished)).later.temporaries i free
                            (inl (omega (arith, under, gk.identifiers, fits)))
