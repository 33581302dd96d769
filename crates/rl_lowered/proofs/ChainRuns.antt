-- The runs of links of optional chains: a property, a call, and what stands in front of a chain.
use Rattle.std.proofs.Common.{◌≡◌, ℕ, ◌++◌, ◌&&◌, Bool, true, false, if◌then◌else◌, List, [], ◌∷◌, All, length, map, codes, Option, Some}
use Rattle.std.proofs.Common.{None, true≢false, refl, sym, ap, ◌∙◌, subst}
use Rattle.std.proofs.lemmas.List.Elements.{All-cons, All-head, All-nil, All-tail}
use Rattle.rl_builder.specs.Temporaries.{temporary, with_value}
use Rattle.rl_hir.specs.declared.instruction.PlaceOrSpread.{PlaceOrSpread}
use Rattle.rl_hir.specs.declared.instruction.PropertyLiteral.TheVariants as keys
use Rattle.rl_hir.specs.Pieces.{argument_pieces, gathered, texts}
use Rattle.rl_lowered.proofs.ChainFrames.{linked_state}
use Rattle.rl_lowered.proofs.Clean.{first_none}
use Rattle.rl_lowered.proofs.CleanChains.{broken_never, private_link_never}
use Rattle.rl_lowered.proofs.Common.{At, BlockId, End, Names, Node, Piece, Pieces, Place, Said, Span, State, Syntax, Then}
use Rattle.rl_lowered.proofs.Forms.{given_values, identifiers_in, key_by}
use Rattle.rl_lowered.proofs.Meant.{computed_there, unlinked}
use Rattle.rl_lowered.proofs.Plain.{lowered_plain, one_part}
use Rattle.rl_lowered.specs.Forms.{Alone, Computed, Fixed, Front, Indexed, IsLinkKey, IsMember, Lent, LinkIndexed, LinkNumbered, LinkStatic}
use Rattle.rl_lowered.specs.Forms.{MemberKey, Numbered, Static, call_of, front_places, handed_on, is_property, load_of}
use Rattle.rl_lowered.specs.Forms.{tested_front}
use Rattle.rl_lowered.specs.Lowered.{Broken, LinkedCall, LinkedPrivate, LinkedProperty, Lowered, LoweredLink, LoweredParts, LoweredSpine}
use Rattle.rl_lowered.specs.Lowered.{NextPart, NoPart, Outermost}
use Rattle.rl_machine.specs.Acts.{Asks, act, gives}
use Rattle.rl_machine.specs.declared.trace.Answer.{Answer}
use Rattle.rl_machine.specs.declared.trace.Trace.{Trace}
use Rattle.rl_machine.specs.declared.trace.Value.{Value}
use Rattle.rl_machine.specs.declared.trace.Value.TheVariants as value
use Rattle.rl_machine.specs.Traces.{Store, ValueCont, ValuesCont, World, fired, set_open}
use Rattle.rl_model.specs.Actions.{Action, Ways, ◌>>=◌, ask, chained, give, no_meaning}
use Rattle.rl_model.specs.Events.{Key, event, fixed_key, load}
use Rattle.rl_model.specs.Expressions.{call_kind, called, callee, eval, first_piece, key_in, later_pieces, one_value, values as values_in}
use Rattle.rl_model.specs.Scene.{Scene}
use Rattle.rl_model.specs.Shapes.{is_link, lends as lends_any, lends_receiver, shapes}
use Rattle.rl_optional_frames.proofs.Composes.{link_composes}
use Rattle.rl_optional_frames.proofs.LinkValues.{parts_all}
use Rattle.rl_optional_frames.proofs.Meant.{call_meant, index_meant, lent_index_meant, lent_member_meant, member_meant}
use Rattle.rl_optional_frames.proofs.Taken.{links_same}
use Rattle.rl_optional_frames.specs.Frames.{LinkComposes, LinkParts, link_after, link_at, link_ended, link_objected}
use Rattle.rl_optional_frames.specs.Links.{LinkBlocks, RunsOnAll}
use Rattle.rl_optional_frames.specs.Meanings.{handed, linked_over, linked_values, tested_of}
use Rattle.rl_optional_frames.specs.Parts.{link_opened}
use Rattle.rl_promises.specs.Chains.{Below}
use Rattle.rl_promises.specs.Rows.{refusals, refusals_by, refusals_in}
use Rattle.rl_promises.specs.Tallies.{call_word}
use Rattle.rl_runs.proofs.Expressions.{means_same, over_asked}
use Rattle.rl_runs.proofs.Growing.{arranged_runs, fronted_runs}
use Rattle.rl_runs.proofs.Moves.{extends_value}
use Rattle.rl_runs.specs.Blocks.{PreservesBlocks}
use Rattle.rl_runs.specs.Continuations.{TracesFrom}
use Rattle.rl_runs.specs.Facts.{Extends}
use Rattle.rl_runs.specs.Simulation.{RunsAll, RunsExpression, RunsLinks}
use Rattle.rl_syntax.specs.declared.word.Word.{Word}
use Rattle.rl_syntax.specs.declared.word.Word.TheVariants as word
use Rattle.rl_syntax.specs.Syntax.{Listed, Flag}
use Rattle.rl_text.specs.Numeral.{number_of}

-- The values that stand in front of a link.

abbrev pub front_identifiers : Front → List ℕ
front_identifiers front = map (λ (q : Place). q.identifier.0) (front_places front)

tested_there : (front : Front) → tested_of (front_identifiers front) ≡ Some (tested_front front).identifier.0
tested_there (Alone p) = refl
tested_there (Lent receiver function) = refl

-- The values that a link hands on, and those that a call's callee or another link's object gives.

abbrev pub link_action : Scene → (lends : Bool) → Syntax → Action (List Value)
link_action scene lends e = if lends && is_property e then callee scene e else one_value (eval scene e)

abbrev pub front_action : Scene → (is_called : Bool) → Syntax → Action (List Value)
front_action scene true e = if lends_receiver scene e then callee scene e else one_value (eval scene e)
front_action scene false e = one_value (eval scene e)

-- Inside a chain a link has runs whether it lends its object or not; the outermost one is an expression.
abbrev pub LinkRuns : Scene → (alternate : Option BlockId) → Syntax → (s t : State) → Front → Place → Type 0
LinkRuns scene None e s t front p = RunsExpression scene.world (chained value.Undefined (eval scene e)) s t p.identifier.0
LinkRuns scene (Some alternate) e s t front p =
    (lends : Bool) → RunsLinks scene.world (link_action scene lends e) s t alternate.0
    (front_identifiers (handed_on (lends && is_property e) front p))

-- Both holes of a link have their blocks and their runs.
pub record HolesRun (scene : Scene) (alternate : Option BlockId) (s s2 s4 : State) (span : Span) (optional : Bool) (front : Front)
    (last : Place) (dobj : Action (List Value)) (dk : List Value → Action Value) : Type 0 where
  pub opened : LinkBlocks (link_at s span optional alternate).alternate.0 (link_opened alternate s span) s2
  pub linked : PreservesBlocks (link_objected (link_at s span optional alternate) s2 (tested_front front)) s4
  pub object : RunsLinks scene.world dobj (link_opened alternate s span) s2 (link_at s span optional alternate).alternate.0
      (front_identifiers front)
  pub link : RunsOnAll scene.world dk (link_objected (link_at s span optional alternate) s2 (tested_front front)) s4
      (front_identifiers front) last.identifier.0

inner_runs : (scene : Scene) (alternate : BlockId) (s s2 s4 : State) (span : Span) (optional lends : Bool) (front : Front) (last : Place)
    (dobj : Action (List Value)) (dk : List Value → Action Value)
    → HolesRun scene (Some alternate) s s2 s4 span optional front last dobj dk
    → RunsLinks scene.world (linked_values scene.world optional lends dobj dk) s (linked_state (Some alternate) s span optional s4 last)
    alternate.0 (handed lends (front_identifiers front) (length s.env.identifiers))
inner_runs scene alternate s s2 s4 span optional lends front last dobj dk h =
    let f : LinkParts = link_after (link_at s span optional (Some alternate)) in
    let ends : LinkComposes f s4 (link_ended f s4 last) last = link_composes f s4 (link_ended f s4 last) last refl in
    (ends.inner s s2 span optional lends alternate (front_identifiers front) (tested_front front) scene.world dobj dk refl
    (tested_there front) h.opened h.linked h.object h.link).1

outer_runs : (scene : Scene) (s s2 s4 : State) (span : Span) (optional : Bool) (front : Front) (last : Place)
    (dobj : Action (List Value)) (dk : List Value → Action Value) → HolesRun scene None s s2 s4 span optional front last dobj dk
    → RunsExpression scene.world (chained value.Undefined (linked_over scene.world optional dobj dk)) s
    (linked_state None s span optional s4 last) (length s.env.identifiers)
outer_runs scene s s2 s4 span optional front last dobj dk h =
    let f : LinkParts = link_after (link_at s span optional None) in
    let ends : LinkComposes f s4 (link_ended f s4 last) last = link_composes f s4 (link_ended f s4 last) last refl in
    (ends.outer s s2 span optional (front_identifiers front) (tested_front front) scene.world dobj dk refl
    (tested_there front) h.opened h.linked h.object h.link).1

-- The meaning of a link by those of its holes, whether it lends its object or not.
abbrev MeansLink : Scene → (optional lends : Bool) → Action (List Value) → (List Value → Action Value) → Syntax → Type 0
MeansLink scene optional lends dobj dk e =
    (ways : Ways) (k : ValuesCont) (source : Store) (answers : List Answer)
    → linked_values scene.world optional (lends && is_property e) dobj dk ways k source answers
    ≡ link_action scene lends e ways k source answers

-- A link has the runs of its meaning.
pub link_means : (scene : Scene) (alternate : Option BlockId) (e : Syntax) (s s2 s4 : State) (span : Span) (optional : Bool)
    (front : Front) (last : Place) (dobj : Action (List Value)) (dk : List Value → Action Value)
    → HolesRun scene alternate s s2 s4 span optional front last dobj dk → ((lends : Bool) → MeansLink scene optional lends dobj dk e)
    → ((lends : Bool) → handed (lends && is_property e) (front_identifiers front) (length s.env.identifiers)
    ≡ front_identifiers (handed_on (lends && is_property e) front (temporary s (Some span))))
    → LinkRuns scene alternate e s (linked_state alternate s span optional s4 last) front (link_at s span optional alternate).place
link_means scene None e s s2 s4 span optional front last dobj dk h means hands =
    means_same scene.world s (linked_state None s span optional s4 last) (length s.env.identifiers)
    (λ ways k source answers.
    means false (record ways { short = k value.Undefined }) (λ vs. k (called vs)) source answers)
    (outer_runs scene s s2 s4 span optional front last dobj dk h)
link_means scene (Some alternate) e s s2 s4 span optional front last dobj dk h means hands =
    λ lends. subst (λ (l : List ℕ). RunsLinks scene.world (link_action scene lends e) s
    (linked_state (Some alternate) s span optional s4 last) alternate.0 l) (hands lends)
    (links_same scene.world s (linked_state (Some alternate) s span optional s4 last) alternate.0 _ (means lends)
    (inner_runs scene alternate s s2 s4 span optional (lends && is_property e) front last dobj dk h))

-- Equal meanings over the values that are given.
all_same : (world : World) (old new : State) (given : List ℕ) (identifier : ℕ) {d m : List Value → Action Value}
    → ((store : Store) (ways : Ways) (k : ValueCont) (source : Store) (answers : List Answer)
    → m (map store given) ways k source answers ≡ d (map store given) ways k source answers)
    → RunsOnAll world m old new given identifier → RunsOnAll world d old new given identifier
all_same world old new given identifier {d} {m} same r = record {
  fresh = r.fresh;
  made = r.made;
  free = r.free;
  runs = λ c cover sound shares free below ways k vs source store notes answers a are throws onward.
      subst (λ (l : List Value). TracesFrom c old store notes answers (d l ways k source answers)) are
      (subst (λ (t : Trace). TracesFrom c old store notes answers t) (same store ways k source answers)
      (r.runs c cover sound shares free below ways k (map store given) source store notes answers a refl throws onward));
}

-- Values that several ways compute, in front of a chain that they never end.
pub links_of_all : (world : World) (old new : State) (d : Action (List Value)) (alternate : ℕ) (identifiers : List ℕ)
    → RunsAll world d old new identifiers → RunsLinks world d old new alternate identifiers
links_of_all world old new d alternate identifiers r = record {
  fresh = r.fresh;
  made = r.made;
  free = r.free;
  runs = λ c cover sound shares ways k source store notes answers a throws early onward.
      r.runs c cover sound shares ways k source store notes answers a throws onward;
}

-- A property: its key is computed, and it is loaded.

abbrev pub property_link : Scene → MemberKey → (parts : Pieces) → List Value → Action Value
property_link scene key parts vs ways k =
    values_in scene parts ways (λ ws. ask scene (load (first_piece (vs ++ ws)) (key_by key (vs ++ ws))) ways k)

link_acts : {w : Word} {rest parts : Pieces} {pieces : List Piece} {key : MemberKey} → IsLinkKey w rest parts pieces key
    → (o : Place) (id : ℕ) (store : Store)
    → act id (load_of o key) store
    ≡ Asks (load (first_piece (map store (o.identifier.0 ∷ identifiers_in pieces)))
    (key_by key (map store (o.identifier.0 ∷ identifiers_in pieces)))) (gives id)
link_acts LinkStatic o id store = refl
link_acts _ o id store = refl

pub property_runs : {w : Word} {rest parts : Pieces} {pieces : List Piece} {key : MemberKey} → IsLinkKey w rest parts pieces key
    → (scene : Scene) (s t : State) (o : Place) (span : Span) → Extends s t
    → RunsAll scene.world (values_in scene parts) s t (identifiers_in pieces)
    → RunsOnAll scene.world (property_link scene key parts) s (with_value t (load_of o key) (Some span)) (o.identifier.0 ∷ [])
    (length t.env.identifiers)
property_runs {parts} {pieces} {key} is scene s t o span g rs =
    parts_all scene.world s t (with_value t (load_of o key) (Some span)) (values_in scene parts)
    (λ vs ways k source answers. fired (set_open scene.world.opens) (load (first_piece vs) (key_by key vs)) source answers
    (λ a. k a.value) ways.throws) (o.identifier.0 ∷ []) (identifiers_in pieces) (length t.env.identifiers) g
    (extends_value t (load_of o key) (Some span)) rs
    (over_asked scene.world t (o.identifier.0 ∷ identifiers_in pieces) (load_of o key) (Some span)
    (λ vs. load (first_piece vs) (key_by key vs)) (λ store. link_acts is o (length t.env.identifiers) store))

-- A link by its key, whatever way that is computed.
abbrev keyed : Scene → (optional lends : Bool) → (object : Syntax) → Action Key → Action (List Value)
keyed scene optional lends object key =
    linked_values scene.world optional lends (one_value (eval scene object)) (λ vs. do
      k ← key
      ask scene (load (called vs) k))

index_means : (scene : Scene) (at : At) (optional lends : Bool) (object property : Syntax) (ways : Ways) (k : ValuesCont)
    (source : Store) (answers : List Answer)
    → keyed scene optional lends object (key_in property (eval scene property)) ways k source answers
    ≡ link_action scene lends (Node at word.Index (Then (Flag optional) (Then object (Then property End)))) ways k source answers
index_means scene at optional true object property ways k source answers =
    sym (lent_index_meant scene at optional object property ways k source answers)
index_means scene at optional false object property ways k source answers =
    sym (index_meant scene at optional object property ways (λ v. k (v ∷ [])) source answers)

member_means_link : (scene : Scene) (at : At) (optional lends : Bool) (object : Syntax) (name : List ℕ) (ways : Ways) (k : ValuesCont)
    (source : Store) (answers : List Answer)
    → keyed scene optional lends object (give (fixed_key (value.Text name))) ways k source answers
    ≡ link_action scene lends (Node at word.Member (Then (Flag optional) (Then object (Then (Said name) End)))) ways k source answers
member_means_link scene at optional true object name ways k source answers =
    sym (lent_member_meant scene at optional object name ways k source answers)
member_means_link scene at optional false object name ways k source answers =
    sym (member_meant scene at optional object name ways (λ v. k (v ∷ [])) source answers)

-- The parts of a link, behind the value of its object.
abbrev parted : Scene → (optional lends : Bool) → (object : Syntax) → Action (List Value) → MemberKey → Action (List Value)
parted scene optional lends object parts key =
    linked_values scene.world optional lends (one_value (eval scene object))
    (λ vs ways k. parts ways (λ ws. ask scene (load (first_piece (vs ++ ws)) (key_by key (vs ++ ws))) ways k))

pub property_means : {w : Word} {rest parts : Pieces} {pieces : List Piece} {key : MemberKey} {names : Names} {s t : State}
    → IsLinkKey w rest parts pieces key → LoweredParts names false parts s t pieces → refusals_in names parts ≡ []
    → (scene : Scene) (at : At) (optional : Bool) (object : Syntax) (lends : Bool)
    → MeansLink scene optional lends (one_value (eval scene object)) (property_link scene key parts)
    (Node at w (Then (Flag optional) (Then object rest)))
property_means (LinkStatic {key}) all none scene at optional object true ways k source answers =
    member_means_link scene at optional true object key ways k source answers
property_means (LinkStatic {key}) all none scene at optional object false ways k source answers =
    member_means_link scene at optional false object key ways k source answers
property_means {names} (LinkIndexed {property} {q} other) (NextPart _ _ _ _ _ _ _ first (NoPart _)) none scene at optional object true
    ways k source answers =
    ap (λ (a : Action (List Value)). parted scene optional true object a (Computed q) ways k source answers)
    (one_part scene property (lowered_plain first))
    ∙ sym (ap (λ (a : Action Key). keyed scene optional true object a ways k source answers)
    (computed_there names property (eval scene property) other (first_none (refusals names property) [] none)))
    ∙ index_means scene at optional true object property ways k source answers
property_means {names} (LinkIndexed {property} {q} other) (NextPart _ _ _ _ _ _ _ first (NoPart _)) none scene at optional object false
    ways k source answers =
    ap (λ (a : Action (List Value)). parted scene optional false object a (Computed q) ways k source answers)
    (one_part scene property (lowered_plain first))
    ∙ sym (ap (λ (a : Action Key). keyed scene optional false object a ways k source answers)
    (computed_there names property (eval scene property) other (first_none (refusals names property) [] none)))
    ∙ index_means scene at optional false object property ways k source answers
property_means (LinkNumbered {there} {text} numeral) all none scene at optional object true ways k source answers =
    sym (ap (λ (b : Bool). keyed scene optional true object
    (if b then give (fixed_key (value.Number (number_of text))) else no_meaning) ways k source answers) numeral)
    ∙ index_means scene at optional true object (Node there word.Num (Then (Said text) End)) ways k source answers
property_means (LinkNumbered {there} {text} numeral) all none scene at optional object false ways k source answers =
    sym (ap (λ (b : Bool). keyed scene optional false object
    (if b then give (fixed_key (value.Number (number_of text))) else no_meaning) ways k source answers) numeral)
    ∙ index_means scene at optional false object (Node there word.Num (Then (Said text) End)) ways k source answers

pub property_hands : {w : Word} {rest parts : Pieces} {pieces : List Piece} {key : MemberKey} → IsLinkKey w rest parts pieces key
    → (at : At) (fields : Pieces) (s : State) (span : Span) (o : Place) (lends : Bool)
    → handed (lends && is_property (Node at w fields)) (front_identifiers (Alone o)) (length s.env.identifiers)
    ≡ front_identifiers (handed_on (lends && is_property (Node at w fields)) (Alone o) (temporary s (Some span)))
property_hands LinkStatic at fields s span o true = refl
property_hands LinkStatic at fields s span o false = refl
property_hands _ at fields s span o true = refl
property_hands _ at fields s span o false = refl

-- A call: its arguments are computed, and its callee is called.

-- The word of the event of a call.
abbrev front_word : Front → List ℕ
front_word (Alone callee) = codes "call"
front_word (Lent receiver function) = codes "methodcall"

call_acts : (front : Front) (given : List PlaceOrSpread) (pieces : List Piece) → gathered argument_pieces given ≡ pieces
    → (id : ℕ) (store : Store)
    → act id (call_of front given) store
    ≡ Asks (event (front_word front) (texts pieces) (map store (front_identifiers front ++ identifiers_in pieces))) (gives id)
call_acts (Alone callee) given pieces is id store =
    ap (λ (l : List Value). Asks (event (codes "call") (texts (gathered argument_pieces given)) (store callee.identifier.0 ∷ l)) (gives id))
    (given_values given store)
    ∙ ap (λ (l : List Piece). Asks (event (codes "call") (texts l)
    (store callee.identifier.0 ∷ map store (identifiers_in l))) (gives id)) is
call_acts (Lent receiver function) given pieces is id store =
    ap (λ (l : List Value). Asks (event (codes "methodcall") (texts (gathered argument_pieces given))
    (store receiver.identifier.0 ∷ store function.identifier.0 ∷ l)) (gives id)) (given_values given store)
    ∙ ap (λ (l : List Piece). Asks (event (codes "methodcall") (texts l)
    (store receiver.identifier.0 ∷ store function.identifier.0 ∷ map store (identifiers_in l))) (gives id)) is

-- A call by its callee's values, as the source has it.
abbrev pub call_link : Scene → (es : Pieces) → List Value → Action Value
call_link scene es head ways k =
    values_in scene es ways (λ vs. ask scene (event (call_kind head) (shapes es) (head ++ vs)) ways k)

shaped_link : (front : Front) (scene : Scene) (es : Pieces) (pieces : List Piece) → texts pieces ≡ shapes es
    → (store : Store) (ways : Ways) (k : ValueCont) (source : Store) (answers : List Answer)
    → values_in scene es ways
    (λ vs. ask scene (event (front_word front) (texts pieces) (map store (front_identifiers front) ++ vs)) ways k) source answers
    ≡ call_link scene es (map store (front_identifiers front)) ways k source answers
shaped_link (Alone callee) scene es pieces shaped store ways k source answers =
    ap (λ (l : List (List ℕ)). values_in scene es ways
    (λ vs. ask scene (event (codes "call") l (store callee.identifier.0 ∷ vs)) ways k) source answers) shaped
shaped_link (Lent receiver function) scene es pieces shaped store ways k source answers =
    ap (λ (l : List (List ℕ)). values_in scene es ways
    (λ vs. ask scene (event (codes "methodcall") l (store receiver.identifier.0 ∷ store function.identifier.0 ∷ vs)) ways k) source
    answers) shaped

pub call_runs : (front : Front) (given : List PlaceOrSpread) (pieces : List Piece) → gathered argument_pieces given ≡ pieces
    → (scene : Scene) (es : Pieces) (s t : State) (span : Span) → texts pieces ≡ shapes es → Extends s t
    → RunsAll scene.world (values_in scene es) s t (identifiers_in pieces)
    → RunsOnAll scene.world (call_link scene es) s (with_value t (call_of front given) (Some span)) (front_identifiers front)
    (length t.env.identifiers)
call_runs front given pieces is scene es s t span shaped g rs =
    all_same scene.world s (with_value t (call_of front given) (Some span)) (front_identifiers front) (length t.env.identifiers)
    {m = λ head ways k. values_in scene es ways (λ vs. ask scene (event (front_word front) (texts pieces) (head ++ vs)) ways k)}
    (shaped_link front scene es pieces shaped)
    (parts_all scene.world s t (with_value t (call_of front given) (Some span)) (values_in scene es)
    (λ vs ways k source answers. fired (set_open scene.world.opens) (event (front_word front) (texts pieces) vs) source answers
    (λ a. k a.value) ways.throws) (front_identifiers front) (identifiers_in pieces) (length t.env.identifiers) g
    (extends_value t (call_of front given) (Some span)) rs
    (over_asked scene.world t (front_identifiers front ++ identifiers_in pieces) (call_of front given) (Some span)
    (λ vs. event (front_word front) (texts pieces) vs) (λ store. call_acts front given pieces is (length t.env.identifiers) store)))

pub call_means : (scene : Scene) (at : At) (optional : Bool) (part : Syntax) (es : Pieces) (lends : Bool)
    → MeansLink scene optional lends (front_action scene true part) (call_link scene es)
    (Node at word.Call (Then (Flag optional) (Then part (Then (Listed es) End))))
call_means scene at optional part es true ways k source answers =
    sym (call_meant scene at optional part es ways (λ v. k (v ∷ [])) source answers)
call_means scene at optional part es false ways k source answers =
    sym (call_meant scene at optional part es ways (λ v. k (v ∷ [])) source answers)

pub call_hands : (at : At) (fields : Pieces) (s : State) (span : Span) (front : Front) (lends : Bool)
    → handed (lends && is_property (Node at word.Call fields)) (front_identifiers front) (length s.env.identifiers)
    ≡ front_identifiers (handed_on (lends && is_property (Node at word.Call fields)) front (temporary s (Some span)))
call_hands at fields s span front true = refl
call_hands at fields s span front false = refl

-- In front of a chain: a link, a method, or any other expression.

-- A link that is called lends its object exactly if it is a property.
pub link_front : (scene : Scene) (is_called : Bool) (e : Syntax) → scene.ported ≡ true → is_link e ≡ is_property e
    → link_action scene is_called e ≡ front_action scene is_called e
link_front scene false e ported same = refl
link_front scene true e ported same =
    ap (λ (b : Bool). if b then callee scene e else one_value (eval scene e)) (sym same)
    ∙ sym (ap (λ (b : Bool). if (if b then is_link e else lends_any e) then callee scene e else one_value (eval scene e)) ported)

pub alone_front : (scene : Scene) (is_called : Bool) (e : Syntax) → scene.ported ≡ true → (is_called ≡ true → is_link e ≡ false)
    → one_value (eval scene e) ≡ front_action scene is_called e
alone_front scene false e ported none = refl
alone_front scene true e ported none =
    sym (ap (λ (b : Bool). if b then callee scene e else one_value (eval scene e)) (none refl))
    ∙ sym (ap (λ (b : Bool). if (if b then is_link e else lends_any e) then callee scene e else one_value (eval scene e)) ported)

link_key_lends : {w : Word} {rest parts : Pieces} {pieces : List Piece} {key : MemberKey} → IsLinkKey w rest parts pieces key
    → (at : At) (fields : Pieces) → is_link (Node at w fields) ≡ is_property (Node at w fields)
link_key_lends LinkStatic at fields = refl
link_key_lends _ at fields = refl

pub link_lends : {names : Names} {alternate : Option BlockId} {e : Syntax} {s t : State} {front : Front} {p : Place}
    → LoweredLink names alternate e s t front p → refusals_by names Below e ≡ [] → is_link e ≡ is_property e
link_lends (LinkedProperty alternate at w optional object rest parts pieces o key s t u is by all) none =
    link_key_lends is at (Then (Flag optional) (Then object rest))
link_lends {names} (LinkedPrivate alternate at optional object name o s t by) none =
    absurd (private_link_never names Below at (Flag optional) object (Said name) none)
link_lends (LinkedCall alternate at optional callee es pieces given front s t u by all gathers) none = refl

plain_called : (e : Syntax) → is_property e ≡ false → call_word e ≡ codes "call"
plain_called (Node at word.Member parts) is = absurd (true≢false is)
plain_called (Node at word.Index parts) is = absurd (true≢false is)
plain_called _ is = refl

pub front_unlinked : {names : Names} {e : Syntax} {s t : State} {p : Place} → Lowered names e s t p → refusals names e ≡ []
    → (is_called : Bool) → (is_called && is_property e) ≡ false → is_called ≡ true → is_link e ≡ false
front_unlinked {e} by none is_called is called_is =
    unlinked by none (plain_called e (sym (ap (λ (b : Bool). b && is_property e) called_is) ∙ is))

-- A `!` below a link of a chain is refused.

abbrev pub is_asserted : Syntax → Bool
is_asserted (Node at word.Nonnull parts) = true
is_asserted _ = false

link_key_unasserted : {w : Word} {rest parts : Pieces} {pieces : List Piece} {key : MemberKey} → IsLinkKey w rest parts pieces key
    → (at : At) (fields : Pieces) → is_asserted (Node at w fields) ≡ false
link_key_unasserted LinkStatic at fields = refl
link_key_unasserted _ at fields = refl

link_unasserted : {names : Names} {alternate : Option BlockId} {e : Syntax} {s t : State} {front : Front} {p : Place}
    → LoweredLink names alternate e s t front p → is_asserted e ≡ false
link_unasserted (LinkedProperty alternate at w optional object rest parts pieces o key s t u is by all) =
    link_key_unasserted is at (Then (Flag optional) (Then object rest))
link_unasserted _ = refl

pub asserted_never : {names : Names} {e : Syntax} {s t : State} {p : Place} → LoweredSpine names true e s t p → is_asserted e ≡ true
    → refusals_by names Below e ≡ [] → ⊥
asserted_never (Outermost e s t front p by) asserted none = true≢false (sym asserted ∙ link_unasserted by)
asserted_never {names} (Broken at e s t p is by) asserted none = broken_never names at e is none

-- A method is loaded from its receiver, the first of some values.
method_loaded : (scene : Scene) (s t : State) (ds : Action (List Value)) (receiver : ℕ) (others : List ℕ) (key : MemberKey)
    (object : Place) (there : Span) → Extends s t
    → ((store : Store) → act (length t.env.identifiers) (load_of object key) store
    ≡ Asks (load (first_piece (map store (receiver ∷ others))) (key_by key (map store (receiver ∷ others))))
    (gives (length t.env.identifiers)))
    → RunsAll scene.world ds s t (receiver ∷ others)
    → RunsAll scene.world
    (λ ways k. ds ways (λ vs. ask scene (load (first_piece vs) (key_by key vs)) ways (λ f. k (first_piece vs ∷ f ∷ [])))) s
    (with_value t (load_of object key) (Some there)) (receiver ∷ length t.env.identifiers ∷ [])
method_loaded scene s t ds receiver others key object there g acts rs =
    arranged_runs scene.world s behind
    (λ ways k. ds ways (λ vs source answers. fired (set_open scene.world.opens) (load (first_piece vs) (key_by key vs)) source answers
    (λ a. k (a.value ∷ vs)) ways.throws)) (method ∷ receiver ∷ others) (receiver ∷ method ∷ [])
    (λ vs. first_piece (later_pieces vs) ∷ first_piece vs ∷ []) both (λ store. refl)
    (fronted_runs scene.world s t behind ds (receiver ∷ others) g (extends_value t (load_of object key) (Some there)) rs
    (λ vs ways k source answers. fired (set_open scene.world.opens) (load (first_piece vs) (key_by key vs)) source answers
    (λ a. k a.value) ways.throws) method
    (over_asked scene.world t (receiver ∷ others) (load_of object key) (Some there) (λ vs. load (first_piece vs) (key_by key vs)) acts))
  where
    method : ℕ
    method = length t.env.identifiers

    behind : State
    behind = with_value t (load_of object key) (Some there)

    both : (P : ℕ → Type 0) → All P (method ∷ receiver ∷ others) → All P (receiver ∷ method ∷ [])
    both P all =
        All-cons P receiver (method ∷ []) (All-head P receiver others (All-tail P method (receiver ∷ others) all))
        (All-cons P method [] (All-head P method (receiver ∷ others) all) (All-nil P))

pub method_front_runs : {w : Word} {fields parts : Pieces} {pieces : List Piece} {object : Place} {key : MemberKey}
    → IsMember w fields parts pieces object key → (scene : Scene) (s t : State) (there : Span) → Extends s t
    → RunsAll scene.world (values_in scene parts) s t (identifiers_in pieces)
    → RunsAll scene.world
    (λ ways k. values_in scene parts ways
    (λ vs. ask scene (load (first_piece vs) (key_by key vs)) ways (λ f. k (first_piece vs ∷ f ∷ [])))) s
    (with_value t (load_of object key) (Some there)) (front_identifiers (Lent object (temporary t (Some there))))
method_front_runs (Static {object = e} {key} {p}) scene s t there g rs =
    method_loaded scene s t (values_in scene (Then e End)) p.identifier.0 [] (Fixed (keys.String key)) p there g (λ store. refl) rs
method_front_runs (Indexed {object = e} {property} {p} {q} other) scene s t there g rs =
    method_loaded scene s t (values_in scene (Then e (Then property End))) p.identifier.0 (q.identifier.0 ∷ []) (Computed q) p there g
    (λ store. refl) rs
method_front_runs (Numbered {object = e} {text} {p} numeral) scene s t there g rs =
    method_loaded scene s t (values_in scene (Then e End)) p.identifier.0 [] (Fixed (keys.Number (number_of text))) p there g
    (λ store. refl) rs
