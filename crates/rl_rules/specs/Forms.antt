-- Rule B9: the forms of nodes that the grammar alone does not say.
use Rattle.std.specs.Prelude.{ℕ, ◌+◌, nat_eq, nat_le, if◌then◌else◌, Bool, true, false, not, ◌&&◌}
use Rattle.rl_syntax.specs.Forms.{is_absent}
use Rattle.rl_syntax.specs.Syntax.{Syntax, Pieces, End, Then, part_count}
use Rattle.rl_syntax.specs.declared.word.Word.{Word}
use Rattle.rl_syntax.specs.declared.word.Word.TheVariants as word
use Rattle.rl_rules.specs.Pieces.{is_yes, is_node_of, parts_of, first_is, first_items, has_some, behind}
use Rattle.rl_rules.specs.Walks.{passes}
use Rattle.rl_rules.specs.declared.forms.Form.{Form}
use Rattle.rl_rules.specs.declared.forms.Form.TheVariants as form

-- The form that the rule asks of the nodes of a word.
abbrev pub form_of : Word → Form
form_of word.Template = form.Template
form_of word.Seq = form.Sequence
form_of word.Switch = form.Switch
form_of word.Keyedpat = form.Keyed
form_of word.Prop = form.Keyed
form_of word.Method = form.Keyed
form_of word.Get = form.Keyed
form_of word.Set = form.Keyed
form_of word.Keyed = form.Keyed
form_of word.Update = form.Update
form_of word.Tagmember = form.TagMember
form_of _ = form.Free

-- True of the words of patterns in targets.
abbrev pub is_pattern : Word → Bool
is_pattern word.Arraytarget = true
is_pattern word.Objecttarget = true
is_pattern _ = false

-- True of the words of the keys that are written as they are.
abbrev pub names_itself : Word → Bool
names_itself word.Name = true
names_itself word.Private = true
names_itself _ = false

-- True of the words of the tags that may have a property.
abbrev pub has_properties : Word → Bool
has_properties word.Tagmember = true
has_properties word.Id = true
has_properties word.This = true
has_properties _ = false

-- True of a case without a test.
abbrev pub is_default : Syntax → Bool
is_default tree = first_is is_absent (parts_of tree)

-- The number of cases without a test.
abbrev pub defaults : Pieces → ℕ
defaults End = 0
defaults (Then piece pieces) = (if is_default piece then 1 else 0) + defaults pieces

-- True of parts of the form: in a template one quasi more than expressions, in a sequence an expression, in a switch at most one
-- case without a test, a key that is computed no name, in `++` and `--` no pattern, in a tag's member a tag that may have
-- properties.
abbrev pub form_fits : Form → Pieces → Bool
form_fits form.Template parts = nat_eq (part_count (first_items parts)) (part_count (first_items (behind parts)) + 1)
form_fits form.Sequence parts = has_some (first_items parts)
form_fits form.Switch parts = nat_le (defaults (first_items (behind parts))) 1
form_fits form.Keyed parts = not (first_is is_yes parts && first_is (is_node_of names_itself) (behind parts))
form_fits form.Update parts = not (first_is (is_node_of is_pattern) (behind (behind parts)))
form_fits form.TagMember parts = first_is (is_node_of has_properties) parts
form_fits form.Free parts = true

abbrev pub node_fits : Unit {0} → Word → Pieces → Bool
node_fits above w parts = form_fits (form_of w) parts

abbrev pub nothing_below : Unit {0} → Word → (index : ℕ) → Unit {0}
nothing_below above w index = above

-- Rule B9 of a tree.
abbrev pub keeps_forms : Syntax → Bool
keeps_forms unit = passes node_fits nothing_below tt unit
