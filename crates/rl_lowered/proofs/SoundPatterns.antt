-- Lowering a binding pattern, or parameters, keeps places known and parts writable.
use Rattle.std.proofs.Common.{◌<◌, Bool, List, [], ◌∷◌, All, map, Some, lit<, refl}
use Rattle.std.proofs.lemmas.List.Elements.{All-cons, All-head, All-nil, All-tail}
use Rattle.rl_builder.specs.Builder.{with_temporary}
use Rattle.rl_builder.specs.Temporaries.{temporary}
use Rattle.rl_hir.specs.declared.function.Param.{Param}
use Rattle.rl_hir.specs.declared.function.Param.TheVariants as params
use Rattle.rl_hir.specs.declared.instruction.InstructionKind.{InstructionKind}
use Rattle.rl_hir.specs.Listing as listing
use Rattle.rl_lowered.proofs.Common.{Names, Pieces, Place, Span, State, Syntax}
use Rattle.rl_lowered.proofs.Sound.{moved_sound}
use Rattle.rl_lowered.proofs.SoundDefaults.{default_sound}
use Rattle.rl_lowered.proofs.SoundItems.{IsSoundLater, apart_sound, caught_place, items_sound, laters_next, met_below, sound_met}
use Rattle.rl_lowered.proofs.SoundItems.{sound_promoted}
use Rattle.rl_lowered.proofs.SoundListing.{span_writable}
use Rattle.rl_lowered.proofs.SoundMoves.{place_next, place_temporary, place_weaker, sound_next, sound_refl, sound_temporary, sound_weaker}
use Rattle.rl_lowered.proofs.SoundNames.{sound_found}
use Rattle.rl_lowered.proofs.SoundTrees.{span_small}
use Rattle.rl_lowered.proofs.SoundValues.{IsSound, one_place, variable_place, variable_stored}
use Rattle.rl_lowered.specs.Items.{Later, caught, met, promoted, variable_at}
use Rattle.rl_lowered.specs.Lowered.{LoweredBound, LoweredMoved, LoweredParams, LoweredPattern}
use Rattle.rl_lowered.specs.Lowered as lowered
use Rattle.rl_lowered.specs.Named.{found}
use Rattle.rl_lowered.specs.Sound.{AreSmallTrees, HasSmallCounters, IsSmallTree, IsSoundPlace, StaysSound}
use Rattle.rl_model.specs.WellFormed.{param_place}
use Rattle.rl_optional_frames.specs.Frames.{default_at, default_ended}
use Rattle.rl_optional_frames.specs.Parts.{default_begun}
use Rattle.rl_promises.specs.Locals.{IsSmallSpan, KnowsNames}
use Rattle.rl_text.specs.Notation.{IsWritable}

-- A default, which `value` passes.
taken_default : {names : Names} {default : Syntax} {t : State} {q : Place} (small : Type 0) → KnowsNames names → (s : State) (span : Span)
    (value : Place) → LoweredMoved names default (default_begun s span) t q → (small → IsSmallTree default) → (small → IsSmallSpan span)
    → IsSoundPlace small s value → IsSound small s (default_ended (default_at s span value) t q) (temporary s (Some span))
taken_default {default} {t} {q} small knows s span value by part at given =
    let inner = moved_sound knows by in
    default_sound small s t q value span at given (sound_weaker (IsSmallTree default) small (default_begun s span) t part inner.0)
    (place_weaker (IsSmallTree default) small t q part inner.1)

mutual
  -- Names are UTF-8, and spans of declarations are small.
  pub pattern_sound : {names : Names} {again : Bool} {k : InstructionKind} {at : Span} {value : Place} {e : Syntax} {s t : State}
      {p : Place} (small : Type 0) → KnowsNames names → LoweredPattern names again k at value e s t p → (small → IsSmallTree e)
      → (small → IsSmallSpan at) → IsSoundPlace small s value → IsSound small s t p
  pattern_sound {names} {again} {k} {at} {value} small knows (lowered.BoundName bind name type symbol identifier s annotated is f) tree
      at_small given =
      variable_stored small s (met again names s symbol identifier bind.span) k identifier at at value
      (sound_met small again names s symbol bind.span identifier f (λ holds. (tree holds).0.0))
      (met_below again names s symbol bind.span identifier f) given at_small at_small
  pattern_sound {value} small knows (lowered.BoundDefault there pattern default s t u q p by rest) tree at_small given =
      let there_small : small → IsSmallSpan there.span = λ holds. (tree holds).0.0 in
      let frame = taken_default small knows s there.span value by (λ holds. ((tree holds).0.1.1.0, (tree holds).1.1.1.0)) there_small
      given in
      let last = pattern_sound small knows rest (λ holds. ((tree holds).0.1.0, (tree holds).1.1.0)) there_small frame.1 in
      (sound_next small s (default_ended (default_at s there.span value) t q) u frame.0 last.0, last.1)
  pattern_sound {k} {at} {value} small knows
      (lowered.BoundPattern there w of_object es rest pattern pieces later s u v is bound are left) tree at_small given =
      apart_sound small k pattern of_object value at u pieces are s v later
      (items_sound small bound (λ holds. ((tree holds).0.1.0, (tree holds).1.1.0)) (λ holds. ((tree holds).0.1.1.0, (tree holds).1.1.1.0)))
      given at_small (λ each. bound_sound small knows left each)

  pub bound_sound : {names : Names} {again : Bool} {k : InstructionKind} {later : List Later} {s t : State} (small : Type 0)
      → KnowsNames names → LoweredBound names again k later s t → All (IsSoundLater small s) later → StaysSound small s t
  bound_sound small knows (lowered.NothingBound s) each = sound_refl small s
  bound_sound small knows (lowered.NextBound value part later s t u p by more) each =
      let here : Later = record { value = value; part = part } in
      let one : IsSoundLater small s here = All-head (IsSoundLater small s) here later each in
      let first = pattern_sound small knows by one.part (λ holds. span_small part (one.part holds).0) one.value in
      sound_next small s t u first.0
      (bound_sound small knows more (laters_next small s t later first.0 (All-tail (IsSoundLater small s) here later each)))

-- Parameters keep places known and parts writable, and their places were made.
pub record AreSoundParams (small : Type 0) (s t : State) (ps : List Param) : Type 0 where
  pub stays : StaysSound small s t
  pub places : All (IsSoundPlace small t) (map param_place ps)

-- A parameter in front of others, whose place was made in the state `m`.
next_param : (small : Type 0) (s m t : State) (p : Param) (ps : List Param) → StaysSound small s m → IsSoundPlace small m (param_place p)
    → AreSoundParams small m t ps → AreSoundParams small s t (p ∷ ps)
next_param small s m t p ps before place rest = record {
  stays = sound_next small s m t before rest.stays;
  places = All-cons (IsSoundPlace small t) (param_place p) (map param_place ps)
      (place_next small m t (param_place p) rest.stays place) rest.places;
}

pub params_sound : {names : Names} {es : Pieces} {rest : Syntax} {s t : State} {ps : List Param} (small : Type 0) → KnowsNames names
    → LoweredParams names es rest s t ps → (small → AreSmallTrees es) → (small → IsSmallTree rest) → AreSoundParams small s t ps
params_sound small knows (lowered.NoParam s) all last =
    record { stays = sound_refl small s; places = All-nil (IsSoundPlace small s) }
params_sound small knows (lowered.RestParam there pattern s t p by) all last =
    let made : State = with_temporary s (Some there.span) in
    let q : Place = temporary s (Some there.span) in
    let at : small → IsSmallSpan there.span = λ holds. (last holds).0.0 in
    let place = place_temporary small s (Some there.span) (λ holds. span_writable there.span (at holds)) in
    let inner = pattern_sound small knows by (λ holds. ((last holds).0.1.0, (last holds).1.1.0)) at place in record {
      stays = sound_next small s made t (sound_temporary small s (Some there.span) (λ holds. span_writable there.span (at holds))) inner.0;
      places = one_place small t q (place_next small made t q inner.0 place);
    }
params_sound {names} small knows (lowered.PlainParam there bind name type rest more symbol identifier s t ps annotated is f by) all last =
    let at : small → IsSmallSpan bind.span = λ holds. (all holds).0.0.1.0.0 in
    next_param small s (found names s symbol bind.span) t (params.Place (variable_at identifier bind.span)) ps
    (sound_found small names s symbol bind.span identifier f at)
    (variable_place small names s symbol bind.span bind.span identifier f at)
    (params_sound small knows by (λ holds. ((all holds).0.1, (all holds).1.1)) last)
params_sound small knows (lowered.PatternParam there pattern rest more s t u p ps is by others) all last =
    let made : State = promoted s there.span in
    let q : Place = caught s there.span in
    let at : small → IsSmallSpan there.span = λ holds. (all holds).0.0.0 in
    let place : IsSoundPlace small made q = caught_place small s there.span at in
    let inner = pattern_sound small knows by (λ holds. ((all holds).0.0.1.0, (all holds).1.0.1.0)) at place in
    next_param small s t u (params.Place q) ps (sound_next small s made t (sound_promoted small s there.span at) inner.0)
    (place_next small made t q inner.0 place) (params_sound small knows others (λ holds. ((all holds).0.1, (all holds).1.1)) last)
params_sound small knows (lowered.DefaultParam there pattern default rest more s t u v q p ps by first others) all last =
    let made : State = promoted s there.span in
    let place : Place = caught s there.span in
    let ended : State = default_ended (default_at made there.span place) t q in
    let at : small → IsSmallSpan there.span = λ holds. (all holds).0.0.0 in
    let own : IsSoundPlace small made place = caught_place small s there.span at in
    let frame = taken_default small knows made there.span place by (λ holds. ((all holds).0.0.1.1.0, (all holds).1.0.1.1.0)) at own in
    let inner = pattern_sound small knows first (λ holds. ((all holds).0.0.1.0, (all holds).1.0.1.0)) at frame.1 in
    let behind : StaysSound small made u = sound_next small made ended u frame.0 inner.0 in
    next_param small s u v (params.Place place) ps (sound_next small s made u (sound_promoted small s there.span at) behind)
    (place_next small made u place behind own) (params_sound small knows others (λ holds. ((all holds).0.1, (all holds).1.1)) last)

-- The notation has parameters whose places it has.
pub params_writable : (small : Type 0) (t : State) (ps : List Param) → small → HasSmallCounters t
    → All (IsSoundPlace small t) (map param_place ps) → All (λ p. IsWritable (listing.param p)) ps
params_writable small t [] holds fits all = All-nil (λ (p : Param). IsWritable (listing.param p))
params_writable small t (params.Place q ∷ ps) holds fits all =
    All-cons (λ (p : Param). IsWritable (listing.param p)) (params.Place q) ps
    ((All-head (IsSoundPlace small t) q (map param_place ps) all).writable holds fits)
    (params_writable small t ps holds fits (All-tail (IsSoundPlace small t) q (map param_place ps) all))
params_writable small t (params.Spread q ∷ ps) holds fits all =
    All-cons (λ (p : Param). IsWritable (listing.param p)) (params.Spread q) ps
    ((lit< tt, refl), ((All-head (IsSoundPlace small t) q (map param_place ps) all).writable holds fits, tt))
    (params_writable small t ps holds fits (All-tail (IsSoundPlace small t) q (map param_place ps) all))
