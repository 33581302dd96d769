-- The nodes that the lowering covers, by their words. Written by tools/syntax.py from tools/grammar.txt.
use Rattle.std.specs.Prelude.{Bool, true, false}
use Rattle.rl_promises.specs.Conditions.{no_pattern, not_empty, plain_head}
use Rattle.rl_syntax.specs.Syntax.{Pieces}
use Rattle.rl_syntax.specs.declared.word.Word.{Word}
use Rattle.rl_syntax.specs.declared.word.Word.TheVariants as word

-- True of a node inside a function that the lowering covers. A type is a node of its own.
abbrev pub covers : Word → Pieces → Bool
covers word.Empty parts = true
covers word.Debugger parts = true
covers word.Expr parts = true
covers word.Return parts = true
covers word.Throw parts = true
covers word.If parts = true
covers word.For parts = true
covers word.While parts = true
covers word.Dowhile parts = true
covers word.Forin parts = plain_head parts
covers word.Forof parts = plain_head parts
covers word.Switch parts = true
covers word.Try parts = true
covers word.Break parts = true
covers word.Continue parts = true
covers word.Labeled parts = true
covers word.With parts = true
covers word.Block parts = true
covers word.Case parts = true
covers word.Catch parts = true
covers word.Var parts = true
covers word.Declarator parts = true
covers word.Default parts = true
covers word.Params parts = true
covers word.Param parts = true
covers word.Rest parts = true
covers word.Body parts = true
covers word.Bind parts = true
covers word.Type parts = true
covers word.Id parts = true
covers word.Arraypat parts = true
covers word.Objectpat parts = true
covers word.Defaultpat parts = true
covers word.Hole parts = true
covers word.Keyedpat parts = true
covers word.Name parts = true
covers word.Private parts = true
covers word.Null parts = true
covers word.Bool parts = true
covers word.Num parts = true
covers word.Str parts = true
covers word.Bigint parts = true
covers word.Regexp parts = true
covers word.Tagged parts = true
covers word.Array parts = true
covers word.Object parts = true
covers word.Unary parts = true
covers word.Update parts = no_pattern parts
covers word.Binary parts = true
covers word.Privatein parts = true
covers word.Logical parts = true
covers word.Cond parts = true
covers word.Assign parts = true
covers word.Seq parts = not_empty parts
covers word.New parts = true
covers word.Await parts = true
covers word.Yield parts = true
covers word.Importmeta parts = true
covers word.Newtarget parts = true
covers word.Super parts = true
covers word.This parts = true
covers word.Importcall parts = true
covers word.Paren parts = true
covers word.As parts = true
covers word.Satisfies parts = true
covers word.Assert parts = true
covers word.Nonnull parts = true
covers word.Instantiate parts = true
covers word.Member parts = true
covers word.Index parts = true
covers word.Privatemember parts = true
covers word.Call parts = true
covers word.Chain parts = true
covers word.Template parts = true
covers word.Quasi parts = true
covers word.Spread parts = true
covers word.Prop parts = true
covers word.Arraytarget parts = true
covers word.Objecttarget parts = true
covers word.Short parts = true
covers word.Keyed parts = true
covers _ parts = false
