-- A node uses and declares the symbols that the parts do which are lowered for it.
use Rattle.std.proofs.Common.{◌≡◌, inl, inr, Bool, List, Some, refl, ap, ◌∙◌}
use Rattle.std.proofs.lemmas.Option.{none-some, same_Some}
use Rattle.rl_base.specs.declared.row.Row.{Row}
use Rattle.rl_lowered.proofs.Common.{At, End, InstructionValue, Names, Node, Piece, Pieces, Place, Said, SymbolId, Syntax, Then}
use Rattle.rl_lowered.specs.Forms as forms
use Rattle.rl_lowered.specs.Forms.{Around, As, Assert, Bare, BoundProperty, DefaultName, DefaultTarget, Element, ImportCall, ImportCallWith}
use Rattle.rl_lowered.specs.Forms.{Indexed, Instantiated, IsCast, IsDefaulted, IsForm, IsInside, IsItem, IsLinkKey, IsMember, IsPrivate}
use Rattle.rl_lowered.specs.Forms.{IsRefusing, IsWrapper, LinkIndexed, LinkNumbered, LinkStatic, MemberKey, NonNull, Numbered}
use Rattle.rl_lowered.specs.Forms.{Parenthesized}
use Rattle.rl_lowered.specs.Forms.{PrivateDelete, PrivateIn, PrivateUpdate, Satisfies, Shorthand, ShorthandDefault, Static, TakenProperty}
use Rattle.rl_lowered.specs.Items.{BindsArray, BindsObject, IsBinding, IsTaking, TakesArray, TakesObject}
use Rattle.rl_names.specs.Names.{local_of}
use Rattle.rl_names.specs.declared.names.Meaning.{Meaning}
use Rattle.rl_names.specs.declared.names.Meaning.TheVariants.{Local, Outer}
use Rattle.rl_promises.specs.Locals.{Mentions, MentionsAmong}
use Rattle.rl_promises.specs.Patterns.{local_at, target_under}
use Rattle.rl_syntax.specs.Syntax.{Flag, Absent}
use Rattle.rl_syntax.specs.declared.word.Word.{Word}
use Rattle.rl_syntax.specs.declared.word.Word.TheVariants as word

module _ (names : Names) (x : SymbolId) where
  pub member_mentions : {w : Word} {fields parts : Pieces} {pieces : List Piece} {object : Place} {key : MemberKey}
      → IsMember w fields parts pieces object key → (at : At) → MentionsAmong names x parts → Mentions names x (Node at w fields)
  member_mentions Static at (inl m) = inr (inl m)
  member_mentions Static at (inr m) = absurd m
  member_mentions (Indexed is) at (inl m) = inr (inl m)
  member_mentions (Indexed is) at (inr (inl m)) = inr (inr (inl m))
  member_mentions (Indexed is) at (inr (inr m)) = absurd m
  member_mentions (Numbered is) at (inl m) = inr (inl m)
  member_mentions (Numbered is) at (inr m) = absurd m

  inside_mentions : {e inner : Syntax} → IsInside e inner → Mentions names x inner → Mentions names x e
  inside_mentions Bare m = m
  inside_mentions (Around is) m = inl (inside_mentions is m)

  pub form_mentions : {w : Word} {fields parts : Pieces} {pieces : List Piece} {v : InstructionValue} → IsForm w fields parts pieces v
      → (at : At) → MentionsAmong names x parts → Mentions names x (Node at w fields)
  form_mentions forms.Binary at (inl m) = inr (inl m)
  form_mentions forms.Binary at (inr (inl m)) = inr (inr (inl m))
  form_mentions forms.Binary at (inr (inr m)) = absurd m
  form_mentions (forms.Unary is) at (inl m) = inr (inl m)
  form_mentions (forms.Unary is) at (inr m) = absurd m
  form_mentions forms.Await at m = m
  form_mentions (forms.Load is) at m = member_mentions is at m
  form_mentions (forms.Delete operator {there = there} is around member) at m =
      inr (inl (inside_mentions around (member_mentions member there m)))
  form_mentions (forms.Call is given) at (inl m) = inr (inl m)
  form_mentions (forms.Call is given) at (inr m) = inr (inr (inl m))
  form_mentions (forms.New given) at (inl m) = inl m
  form_mentions (forms.New given) at (inr m) = inr (inl m)
  form_mentions (forms.Array given) at m = inl m
  form_mentions (forms.Template are given) at m = inr (inl m)
  form_mentions (forms.Tagged raw are given) at (inl m) = inl m
  form_mentions (forms.Tagged raw are given) at (inr m) = inr (inl (inr (inl m)))
  form_mentions forms.RegExp at m = absurd m
  form_mentions forms.ImportMeta at m = absurd m

  pub refusing_mentions : {w : Word} {fields parts : Pieces} {r : Row} → IsRefusing w fields parts r → (at : At)
      → MentionsAmong names x parts → Mentions names x (Node at w fields)
  refusing_mentions PrivateIn at (inl m) = inr (inl m)
  refusing_mentions PrivateIn at (inr m) = absurd m
  refusing_mentions ImportCall at (inl m) = inl m
  refusing_mentions ImportCall at (inr m) = absurd m
  refusing_mentions ImportCallWith at m = m

  pub private_mentions : {w : Word} {fields : Pieces} {e : Syntax} → IsPrivate w fields e → (at : At) → Mentions names x e
      → Mentions names x (Node at w fields)
  private_mentions PrivateUpdate at m = inr (inr (inl m))
  private_mentions (PrivateDelete operator is around) at m = inr (inl (inside_mentions around m))

  pub wrapper_mentions : {w : Word} {fields : Pieces} {e : Syntax} → IsWrapper w fields e → (at : At) → Mentions names x e
      → Mentions names x (Node at w fields)
  wrapper_mentions Parenthesized at m = inl m
  wrapper_mentions NonNull at m = inl m
  wrapper_mentions (Instantiated is) at m = inl m

  pub cast_mentions : {w : Word} {fields : Pieces} {e type : Syntax} → IsCast w fields e type → (at : At) → Mentions names x e
      → Mentions names x (Node at w fields)
  cast_mentions As at m = inl m
  cast_mentions Satisfies at m = inl m
  cast_mentions Assert at m = inr (inl m)

  -- A link mentions what its object does, and its key.

  pub object_mentions : {w : Word} {rest parts : Pieces} {pieces : List Piece} {key : MemberKey} → IsLinkKey w rest parts pieces key
      → (at : At) (optional : Bool) (object : Syntax) → Mentions names x object
      → Mentions names x (Node at w (Then (Flag optional) (Then object rest)))
  object_mentions LinkStatic at optional object m = inr (inl m)
  object_mentions (LinkIndexed is) at optional object m = inr (inl m)
  object_mentions (LinkNumbered is) at optional object m = inr (inl m)

  pub key_mentions : {w : Word} {rest parts : Pieces} {pieces : List Piece} {key : MemberKey} → IsLinkKey w rest parts pieces key
      → (at : At) (optional : Bool) (object : Syntax) → MentionsAmong names x parts
      → Mentions names x (Node at w (Then (Flag optional) (Then object rest)))
  key_mentions LinkStatic at optional object m = absurd m
  key_mentions (LinkIndexed is) at optional object (inl m) = inr (inr (inl m))
  key_mentions (LinkIndexed is) at optional object (inr m) = absurd m
  key_mentions (LinkNumbered is) at optional object m = absurd m

  -- A target with a default mentions what both parts do.

  pub target_mentions : {w : Word} {fields : Pieces} {target default : Syntax} → IsDefaulted w fields target default → (at : At)
      → Mentions names x target → Mentions names x (Node at w fields)
  target_mentions (DefaultTarget whole) at m = inl m
  target_mentions (DefaultName whole is) at m = inl m

  pub default_mentions : {w : Word} {fields : Pieces} {target default : Syntax} → IsDefaulted w fields target default → (at : At)
      → Mentions names x default → Mentions names x (Node at w fields)
  default_mentions (DefaultTarget whole) at m = inr (inl m)
  default_mentions (DefaultName whole is) at m = inr (inl m)

  pub item_mentions : {binds of_object : Bool} {item part : Syntax} {key : List Piece} → IsItem binds of_object item key part
      → Mentions names x part → Mentions names x item
  item_mentions (Element is shaped) m = m
  item_mentions (BoundProperty is) m = inr (inr (inl m))
  item_mentions (TakenProperty is) m = inr (inr (inl m))
  item_mentions Shorthand m = inl m
  item_mentions (ShorthandDefault is) m = m

  -- An item mentions the variable that it is by itself.

  under_mentions : (item : Syntax) → Mentions names x (target_under item) → Mentions names x item
  under_mentions (Node at word.Keyed (Then computed (Then key (Then target End)))) m = inr (inr (inl m))
  under_mentions (Node at word.Short (Then name (Then Absent End))) m = inl m
  under_mentions _ m = m

  local_mentions : (target : Syntax) → local_at names target ≡ Some x → Mentions names x target
  local_mentions (Node at word.Id (Then (Said name) End)) is = by_meaning (names.meaning at.reference.0 name) refl is
    where
      by_meaning : (m : Meaning) → names.meaning at.reference.0 name ≡ m → local_of m ≡ Some x → names.meaning at.reference.0 name ≡ Local x
      by_meaning (Local symbol) means same = means ∙ ap (λ (s : SymbolId). Local s) (same_Some symbol x same)
      by_meaning (Outer binding) means same = absurd (none-some x same)
  local_mentions _ is = absurd (none-some x is)

  pub ahead_mentions : (item : Syntax) → local_at names (target_under item) ≡ Some x → Mentions names x item
  ahead_mentions item is = under_mentions item (local_mentions (target_under item) is)

  -- A pattern mentions what its parts do.

  pub taking_mentions : {w : Word} {of_object : Bool} → IsTaking w of_object → (at : At) (parts : Pieces) → MentionsAmong names x parts
      → Mentions names x (Node at w parts)
  taking_mentions TakesArray at parts m = m
  taking_mentions TakesObject at parts m = m

  pub binding_mentions : {w : Word} {of_object : Bool} → IsBinding w of_object → (at : At) (parts : Pieces) → MentionsAmong names x parts
      → Mentions names x (Node at w parts)
  binding_mentions BindsArray at parts m = m
  binding_mentions BindsObject at parts m = m
