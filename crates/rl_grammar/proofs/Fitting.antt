-- The fields that a tree may stand in, by the tree's form.
use Rattle.std.proofs.Common.{◌≡◌, true, false, refl}
use Rattle.rl_syntax.specs.Syntax.{Syntax, Listed, Absent}
use Rattle.rl_syntax.specs.Forms.{is_absent}
use Rattle.rl_syntax.specs.Shapes.{is_list}
use Rattle.rl_grammar.specs.Grammar.{fits}
use Rattle.rl_grammar.specs.declared.kind.Field.TheVariants as field
use Rattle.rl_grammar.specs.declared.kind.Kind.{Kind}

pub many_else : (k : Kind) (t : Syntax) → is_list t ≡ false → fits (field.Many k) t ≡ false
many_else k (Listed parts) h = absurd (cc)
many_else k _ h = refl

pub maybe_absent : (k : Kind) (t : Syntax) → is_absent t ≡ true → fits (field.Maybe k) t ≡ true
maybe_absent k Absent h = refl
maybe_absent k _ h = absurd (cc)

pub maybe_present : (k : Kind) (t : Syntax) → is_absent t ≡ false → fits (field.Maybe k) t ≡ fits (field.One k) t
maybe_present k Absent h = absurd (cc)
maybe_present k _ h = refl

pub ruleset by_form = (many_else, maybe_absent, maybe_present)
