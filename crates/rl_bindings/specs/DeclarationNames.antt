-- The names of the kinds of declarations.
use Rattle.std.specs.Prelude.{ℕ, List, codes}
use Rattle.rl_bindings.specs.declared.symbol_kind.DeclKind.{DeclKind}
use Rattle.rl_bindings.specs.declared.symbol_kind.DeclKind.TheVariants as declaration

-- The name of a kind of declaration: that of its variant.
abbrev pub decl_name : DeclKind → List ℕ
decl_name declaration.BindingIdentifier = codes "BindingIdentifier"
decl_name declaration.VariableDeclarator = codes "VariableDeclarator"
decl_name declaration.FunctionDeclaration = codes "FunctionDeclaration"
decl_name declaration.FunctionExpression = codes "FunctionExpression"
decl_name declaration.ClassDeclaration = codes "ClassDeclaration"
decl_name declaration.ClassExpression = codes "ClassExpression"
decl_name declaration.FormalParameter = codes "FormalParameter"
decl_name declaration.ImportSpecifier = codes "ImportSpecifier"
decl_name declaration.ImportDefaultSpecifier = codes "ImportDefaultSpecifier"
decl_name declaration.ImportNamespaceSpecifier = codes "ImportNamespaceSpecifier"
decl_name declaration.CatchClause = codes "CatchClause"
decl_name declaration.TSTypeAliasDeclaration = codes "TSTypeAliasDeclaration"
decl_name declaration.TSEnumDeclaration = codes "TSEnumDeclaration"
decl_name declaration.TSModuleDeclaration = codes "TSModuleDeclaration"
decl_name declaration.Unknown = codes "Unknown"
