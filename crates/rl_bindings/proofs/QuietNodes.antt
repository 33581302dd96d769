-- Steps of a walk at the quiet nodes, which it passes by.
use Rattle.std.proofs.Common.{◌≡◌, ℕ, ◌+◌, Bool, true, ◌&&◌, Option, List, [], map, ap, sym, refl, ◌∙◌}
use Rattle.std.proofs.lemmas.Bool.{and_parts}
use Rattle.rl_bindings.specs.Events.{sign, back}
use Rattle.rl_bindings.specs.Quiet.{is_quiet_word, is_open, is_quiet, is_plain, is_silent, inside}
use Rattle.rl_bindings.specs.Roles.{role_of, parts_ahead, below}
use Rattle.rl_bindings.specs.declared.role.Above.{Above}
use Rattle.rl_bindings.specs.declared.role.Role.{Role}
use Rattle.rl_bindings.specs.declared.role.Role.TheVariants as role
use Rattle.rl_bindings.proofs.Following.{behind_tree, behind_items, node_kept}
use Rattle.rl_rules.specs.Declarations.{other_stands}
use Rattle.rl_rules.specs.Following.{Context, followed, node_passes, part_below, outermost}
use Rattle.rl_rules.specs.Marks.{body_of, bodies_among}
use Rattle.rl_rules.specs.Walks.{passes, parts_pass, items_pass}
use Rattle.rl_rules.specs.declared.declarations.Place.{Place}
use Rattle.rl_rules.specs.declared.declarations.Place.TheVariants as stands
use Rattle.rl_rules.proofs.KeptOn.{followed_none}
use Rattle.rl_syntax.specs.Syntax.{Syntax, Node, Pieces, End, Then, pieces_of, syntax}
use Rattle.rl_syntax.specs.declared.numbered.At.{At}
use Rattle.rl_syntax.specs.declared.numbered.Numbered.{Numbered}
use Rattle.rl_syntax.specs.declared.word.Word.{Word}
use Rattle.rl_syntax.specs.declared.word.Word.TheVariants as word

-- All that a walk asks of a word, at the words whose nodes it passes by.
pub record IsPassed (w : Word) : Type 0 where
  pub no_sign : (a : Above) (at : At) → sign (role_of w) a at w ≡ []
  pub no_back : back (role_of w) ≡ []
  pub none_ahead : parts_ahead w ≡ 0
  pub inner : (a : Above) (at : At) (ps : Pieces) → below a at w ps ≡ inside a
  pub stands : (c : Context) (ps : Pieces) → node_passes c w ps ≡ (other_stands c.1.1.0 w && true)
  pub no_body : (ps : Pieces) → body_of w ps ≡ []
  pub under : (c : Context) (index : ℕ) → part_below c w index ≡ outermost

quiet_word : (w : Word) → is_quiet_word w ≡ true → IsPassed w
quiet_word word.Program is = absurd (cc)
quiet_word word.Arrow is = absurd (cc)
quiet_word word.Fundecl is = absurd (cc)
quiet_word word.Funexpr is = absurd (cc)
quiet_word word.Block is = absurd (cc)
quiet_word word.For is = absurd (cc)
quiet_word word.Forin is = absurd (cc)
quiet_word word.Forof is = absurd (cc)
quiet_word word.Switch is = absurd (cc)
quiet_word word.Catch is = absurd (cc)
quiet_word word.Classdecl is = absurd (cc)
quiet_word word.Classexpr is = absurd (cc)
quiet_word word.Static is = absurd (cc)
quiet_word word.Body is = absurd (cc)
quiet_word word.Case is = absurd (cc)
quiet_word word.Export is = absurd (cc)
quiet_word word.Exportdefault is = absurd (cc)
quiet_word word.Import is = absurd (cc)
quiet_word word.Params is = absurd (cc)
quiet_word word.Var is = absurd (cc)
quiet_word word.Default is = absurd (cc)
quiet_word word.Named is = absurd (cc)
quiet_word word.Namespace is = absurd (cc)
quiet_word word.Typealias is = absurd (cc)
quiet_word word.Interface is = absurd (cc)
quiet_word word.Enum is = absurd (cc)
quiet_word word.Chain is = absurd (cc)
quiet_word word.Member is = absurd (cc)
quiet_word word.Index is = absurd (cc)
quiet_word word.Privatemember is = absurd (cc)
quiet_word word.Call is = absurd (cc)
quiet_word word.Nonnull is = absurd (cc)
quiet_word word.Template is = absurd (cc)
quiet_word word.Seq is = absurd (cc)
quiet_word word.Keyedpat is = absurd (cc)
quiet_word word.Prop is = absurd (cc)
quiet_word word.Method is = absurd (cc)
quiet_word word.Get is = absurd (cc)
quiet_word word.Set is = absurd (cc)
quiet_word word.Keyed is = absurd (cc)
quiet_word word.Update is = absurd (cc)
quiet_word word.Tagmember is = absurd (cc)
quiet_word _ is = record {
  no_sign = λ a at. refl;
  no_back = refl;
  none_ahead = refl;
  inner = λ a at ps. refl;
  stands = λ c ps. refl;
  no_body = λ ps. refl;
  under = λ c index. refl;
}

other_open : (at : Place) (w : Word) → is_open at ≡ true → other_stands at w ≡ true
other_open stands.Export w open_is = absurd (cc)
other_open stands.DefaultExport w open_is = absurd (cc)
other_open _ w open_is = refl

module _ (c : Context) (w : Word) (quiet : is_quiet c w ≡ true) where
  pub passed : IsPassed w
  passed = quiet_word w (and_parts (is_quiet_word w) (is_open c.1.1.0) quiet).0

  -- The rules hold at the node, whatever its parts are.
  node_holds : (ps : Pieces) → node_passes c w ps ≡ true
  node_holds ps = passed.stands c ps ∙ ap (λ b. b && true) (other_open c.1.1.0 w (and_parts (is_quiet_word w) (is_open c.1.1.0) quiet).1)

  -- The parts of the node are as the items of a list that nothing stands above.
  as_items : (index : ℕ) (ps : Pieces) → parts_pass node_passes part_below c w index ps ≡ items_pass node_passes part_below outermost ps
  as_items index End = refl
  as_items index (Then p ps) = (λ i. passes node_passes part_below (passed.under c index i) p && as_items (index + 1) ps i)

  pub node_passed : (tree : Syntax) (at : At) (parts : List Numbered) (k0 k1 : Option Bool) → tree ≡ Node at w (pieces_of (map syntax parts)) → k1 ≡ behind_items k0 outermost parts → k1 ≡ behind_tree k0 c tree
  node_passed tree at parts k0 k1 is same =
      let ps = pieces_of (map syntax parts) in
      node_kept tree at w parts c k0 k0 k1 is
      (sym ((λ i. followed k0 (node_holds ps i) (passed.no_body ps i)) ∙ followed_none k0))
      (same ∙ ap (λ b. followed k0 b (bodies_among ps)) (sym (as_items 0 ps)))

plain_role : (r : Role) → is_plain r ≡ true → r ≡ role.Plain
plain_role role.Plain plain = refl
plain_role role.Maker plain = absurd (cc)
plain_role role.Binder plain = absurd (cc)
plain_role role.User plain = absurd (cc)

module _ (c : Context) (w : Word) (silent : is_silent c w ≡ true) where
  pub silent_quiet : is_quiet c w ≡ true
  silent_quiet = (and_parts (is_quiet c w) (is_plain (role_of w)) silent).0

  pub silent_plain : role_of w ≡ role.Plain
  silent_plain = plain_role (role_of w) (and_parts (is_quiet c w) (is_plain (role_of w)) silent).1
