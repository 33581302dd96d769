-- Kinds of symbols, by their first declaration.
use Rattle.rl_bindings.specs.declared.event.BindKind.{BindKind}
use Rattle.rl_bindings.specs.declared.event.BindKind.TheVariants as kind
use Rattle.rl_bindings.specs.declared.symbol_kind.BindingKind.{BindingKind}
use Rattle.rl_bindings.specs.declared.symbol_kind.BindingKind.TheVariants as binding
use Rattle.rl_bindings.specs.declared.symbol_kind.DeclKind.{DeclKind}
use Rattle.rl_bindings.specs.declared.symbol_kind.DeclKind.TheVariants as declaration

-- The kind of the binding of a symbol, by the kind of its first declaration.
abbrev pub binding_kind : BindKind → BindingKind
binding_kind kind.Var = binding.Var
binding_kind kind.Let = binding.Let
binding_kind kind.Catch = binding.Let
binding_kind kind.Const = binding.Const
binding_kind kind.Param = binding.Param
binding_kind kind.ImportDefault = binding.Module
binding_kind kind.ImportNamespace = binding.Module
binding_kind kind.ImportNamed = binding.Module
binding_kind kind.FunctionDeclaration = binding.Hoisted
binding_kind kind.FunctionExpression = binding.Local
binding_kind kind.ClassDeclaration = binding.Local
binding_kind kind.ClassExpression = binding.Local
binding_kind kind.TypeAlias = binding.Local
binding_kind kind.Enum = binding.Local
binding_kind kind.Namespace = binding.Local
binding_kind kind.Interface = binding.Unknown

-- The kind of a declaration, in the words of the original.
abbrev pub decl_kind : BindKind → DeclKind
decl_kind kind.Var = declaration.VariableDeclarator
decl_kind kind.Let = declaration.VariableDeclarator
decl_kind kind.Const = declaration.VariableDeclarator
decl_kind kind.Param = declaration.FormalParameter
decl_kind kind.Catch = declaration.CatchClause
decl_kind kind.FunctionDeclaration = declaration.FunctionDeclaration
decl_kind kind.FunctionExpression = declaration.FunctionExpression
decl_kind kind.ClassDeclaration = declaration.ClassDeclaration
decl_kind kind.ClassExpression = declaration.ClassExpression
decl_kind kind.ImportDefault = declaration.ImportDefaultSpecifier
decl_kind kind.ImportNamespace = declaration.ImportNamespaceSpecifier
decl_kind kind.ImportNamed = declaration.ImportSpecifier
decl_kind kind.TypeAlias = declaration.TSTypeAliasDeclaration
decl_kind kind.Enum = declaration.TSEnumDeclaration
decl_kind kind.Namespace = declaration.TSModuleDeclaration
decl_kind kind.Interface = declaration.Unknown
