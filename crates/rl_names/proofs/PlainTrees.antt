-- Plain trees: they declare no names, and make no scopes.
use Rattle.std.proofs.Common.{◌≡◌, ℕ, zero, suc, true, List, [], ◌++◌, refl, sym, subst, arith}
use Rattle.rl_bindings.specs.Roles.{role_of, parts_ahead, outside, below}
use Rattle.rl_bindings.specs.declared.names.Name.{Name}
use Rattle.rl_bindings.specs.declared.role.Above.{Above}
use Rattle.rl_bindings.specs.declared.role.Role.{Role}
use Rattle.rl_bindings.specs.declared.role.Role.TheVariants as role
use Rattle.rl_syntax.specs.Syntax.{Syntax, Node, Listed, Said, Count, Flag, Absent, Pieces, End, Then, scopes, one_if}
use Rattle.rl_syntax.specs.Tallies.{scopes_of}
use Rattle.rl_syntax.specs.Words.{makes_scope}
use Rattle.rl_syntax.specs.declared.numbered.At.{At}
use Rattle.rl_syntax.specs.declared.word.Word.{Word}
use Rattle.rl_syntax.specs.declared.word.Word.TheVariants as word
use Rattle.rl_names.specs.Plain.{is_plain, IsPlain, ArePlain}
use Rattle.rl_names.proofs.Declarations.{own, declares, declares_among}
use Rattle.rl_names.proofs.FunctionScopes.{AreElsewhere}

own_none : (names : List Name) (r : Role) (a : Above) (at : At) (ps : Pieces) → is_plain r ≡ true → own names r a at ps ≡ []
own_none names role.Plain a at ps plain = refl
own_none names role.User a at ps plain = refl
own_none names role.Maker a at ps plain = absurd (cc)
own_none names role.Binder a at ps plain = absurd (cc)

plain_word : (w : Word) → is_plain (role_of w) ≡ true → one_if makes_scope w ≡ 0
plain_word word.Program plain = absurd (cc)
plain_word word.Arrow plain = absurd (cc)
plain_word word.Fundecl plain = absurd (cc)
plain_word word.Funexpr plain = absurd (cc)
plain_word word.Block plain = absurd (cc)
plain_word word.For plain = absurd (cc)
plain_word word.Forin plain = absurd (cc)
plain_word word.Forof plain = absurd (cc)
plain_word word.Switch plain = absurd (cc)
plain_word word.Catch plain = absurd (cc)
plain_word word.Classdecl plain = absurd (cc)
plain_word word.Classexpr plain = absurd (cc)
plain_word word.Static plain = absurd (cc)
plain_word _ plain = refl

module _ (names : List Name) where
  mutual
    -- A plain tree declares no name.
    pub plain_none : (t : Syntax) (a : Above) → IsPlain t → declares names a t ≡ []
    plain_none (Node at w ps) a plain = λ i. own_none names (role_of w) a at ps plain.0 i ++ plain_none_among ps (parts_ahead w) (outside a w) (below a at w ps) plain.1 i
    plain_none (Listed ps) a plain = plain_none_among ps zero a a plain
    plain_none (Said text) a plain = refl
    plain_none (Count number) a plain = refl
    plain_none (Flag flag) a plain = refl
    plain_none Absent a plain = refl

    pub plain_none_among : (ps : Pieces) (n : ℕ) (a b : Above) → ArePlain ps → declares_among names n a b ps ≡ []
    plain_none_among End n a b plain = refl
    plain_none_among (Then p ps) zero a b plain = λ i. plain_none p b plain.0 i ++ plain_none_among ps zero a b plain.1 i
    plain_none_among (Then p ps) (suc n) a b plain = λ i. plain_none p a plain.0 i ++ plain_none_among ps n a b plain.1 i

mutual
  -- A plain tree makes no scope.
  pub plain_scopes : (t : Syntax) → IsPlain t → scopes t ≡ 0
  plain_scopes (Node at w ps) plain = let one = plain_word w plain.0 in let more = plain_scopes_of ps plain.1 in omega (arith, one, more)
  plain_scopes (Listed ps) plain = plain_scopes_of ps plain
  plain_scopes (Said text) plain = refl
  plain_scopes (Count number) plain = refl
  plain_scopes (Flag flag) plain = refl
  plain_scopes Absent plain = refl

  pub plain_scopes_of : (ps : Pieces) → ArePlain ps → scopes_of ps ≡ 0
  plain_scopes_of End plain = refl
  plain_scopes_of (Then p ps) plain = let one = plain_scopes p plain.0 in let more = plain_scopes_of ps plain.1 in omega (arith, one, more)

pub plain_elsewhere_among : (k : ℕ) (names : List Name) (n : ℕ) (a b : Above) (ps : Pieces) → ArePlain ps → AreElsewhere k (declares_among names n a b ps)
plain_elsewhere_among k names n a b ps plain = subst (λ l. AreElsewhere k l) (sym (plain_none_among names ps n a b plain)) tt
