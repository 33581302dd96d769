-- Rows of docs/NOTATION by small functions: to each a row applies, or none where the name says so.
use Rattle.std.proofs.Common.{◌≡◌, true, false, [], ◌∷◌, codes, refl}
use Rattle.rl_model.proofs.ExampleTrees.{id, listed, name, no, of_body, text, tree, unit, yes}
use Rattle.rl_model.specs.Source.{is_supported}
use Rattle.rl_syntax.specs.Syntax.{Absent}
use Rattle.rl_syntax.specs.declared.word.Word.TheVariants as word

-- (expr (id "eval"))
f2 : is_supported (of_body [] (tree word.Expr (id (codes "eval") ∷ []) ∷ [])) ≡ false
f2 = refl

-- (expr (privatemember n (id "a") "b"))
f3 : is_supported (of_body [] (tree word.Expr (tree word.Privatemember (no ∷ id (codes "a") ∷ text (codes "b") ∷ []) ∷ []) ∷ [])) ≡ false
f3 = refl

-- (expr (importcall (id "a") -))
f4 : is_supported (of_body [] (tree word.Expr (tree word.Importcall (id (codes "a") ∷ Absent ∷ []) ∷ []) ∷ [])) ≡ false
f4 = refl

-- (expr (assign "=" (privatemember n (id "a") "b") (id "c")))
f5 : is_supported
    (of_body [] (tree word.Expr
    (tree word.Assign (text (codes "=") ∷ tree word.Privatemember (no ∷ id (codes "a") ∷ text (codes "b") ∷ []) ∷ id (codes "c") ∷ [])
    ∷ []) ∷ []))
    ≡ false
f5 = refl

-- (var "const" [(declarator (bind "n" -) (str "1"))]) (expr (assign "=" (id "n") (id "n")))
f6 : is_supported
    (of_body [] (tree word.Var
    (text (codes "const") ∷ listed (tree word.Declarator (name (codes "n") ∷ tree word.Str (text (codes "1") ∷ []) ∷ []) ∷ []) ∷ []) ∷
    tree word.Expr (tree word.Assign (text (codes "=") ∷ id (codes "n") ∷ id (codes "n") ∷ []) ∷ []) ∷ []))
    ≡ false
f6 = refl

-- (param (bind "v" -) -) : (var "const" [(declarator (objectpat [(keyedpat y (id "k") (bind "a" -))] -) (id "v"))])
f8 : is_supported
    (of_body (tree word.Param (name (codes "v") ∷ Absent ∷ []) ∷ [])
    (tree word.Var (text (codes "const") ∷ listed
    (tree word.Declarator
    (tree word.Objectpat (listed (tree word.Keyedpat (yes ∷ id (codes "k") ∷ name (codes "a") ∷ []) ∷ []) ∷ Absent ∷ []) ∷ id
    (codes "v") ∷ []) ∷ []) ∷ []) ∷ []))
    ≡ false
f8 = refl

-- (expr (object [(prop n (private "a") (id "b"))]))
f9 : is_supported
    (of_body [] (tree word.Expr
    (tree word.Object (listed (tree word.Prop (no ∷ tree word.Private (text (codes "a") ∷ []) ∷ id (codes "b") ∷ []) ∷ []) ∷ []) ∷ [])
    ∷ []))
    ≡ false
f9 = refl

-- (param (bind "v" -) -) : (var "let" [(declarator (objectpat [] (rest (arraypat [] -))) (id "v"))])
f10 : is_supported
    (of_body (tree word.Param (name (codes "v") ∷ Absent ∷ []) ∷ [])
    (tree word.Var (text (codes "let") ∷ listed
    (tree word.Declarator
    (tree word.Objectpat (listed [] ∷ tree word.Rest (tree word.Arraypat (listed [] ∷ Absent ∷ []) ∷ []) ∷ []) ∷ id
    (codes "v") ∷ []) ∷ []) ∷ []) ∷ []))
    ≡ false
f10 = refl

-- (param (bind "v" -) -) : (expr (assign "=" (arraytarget [(privatemember n (id "v") "a")] -) (id "v")))
f11 : is_supported
    (of_body (tree word.Param (name (codes "v") ∷ Absent ∷ []) ∷ [])
    (tree word.Expr (tree word.Assign
    (text (codes "=") ∷ tree word.Arraytarget
    (listed (tree word.Privatemember (no ∷ id (codes "v") ∷ text (codes "a") ∷ []) ∷ []) ∷ Absent ∷ []) ∷ id (codes "v") ∷ [])
    ∷ []) ∷ []))
    ≡ false
f11 = refl

-- (expr (unary "delete" (paren (id "a"))))
f12 : is_supported
    (of_body [] (tree word.Expr (tree word.Unary (text (codes "delete") ∷ tree word.Paren (id (codes "a") ∷ []) ∷ []) ∷ []) ∷ []))
    ≡ false
f12 = refl

-- (expr (tagged (id "a") (template [(quasi "a" "b")] [])))
f13 : is_supported
    (of_body [] (tree word.Expr
    (tree word.Tagged (id (codes "a") ∷ tree word.Template
    (listed (tree word.Quasi (text (codes "a") ∷ text (codes "b") ∷ []) ∷ []) ∷ listed [] ∷ []) ∷ []) ∷ []) ∷ []))
    ≡ false
f13 = refl

-- (expr (yield n -))
f14 : is_supported (of_body [] (tree word.Expr (tree word.Yield (no ∷ Absent ∷ []) ∷ []) ∷ [])) ≡ false
f14 = refl

-- (expr (classexpr - - []))
f16 : is_supported (of_body [] (tree word.Expr (tree word.Classexpr (Absent ∷ Absent ∷ listed [] ∷ []) ∷ []) ∷ [])) ≡ false
f16 = refl

-- (expr (this))
f18 : is_supported (of_body [] (tree word.Expr (tree word.This [] ∷ []) ∷ [])) ≡ false
f18 = refl

-- (expr (update "++" n (id "g")))
f20 : is_supported (of_body [] (tree word.Expr (tree word.Update (text (codes "++") ∷ no ∷ id (codes "g") ∷ []) ∷ []) ∷ [])) ≡ false
f20 = refl

-- (param (bind "v" -) -) : (expr (update "++" n (nonnull (id "v"))))
f22 : is_supported
    (of_body (tree word.Param (name (codes "v") ∷ Absent ∷ []) ∷ [])
    (tree word.Expr (tree word.Update (text (codes "++") ∷ no ∷ tree word.Nonnull (id (codes "v") ∷ []) ∷ []) ∷ []) ∷ []))
    ≡ false
f22 = refl

-- (param (bind "v" -) -) : (expr (assign "||=" (id "v") (id "g")))
f23 : is_supported
    (of_body (tree word.Param (name (codes "v") ∷ Absent ∷ []) ∷ [])
    (tree word.Expr (tree word.Assign (text (codes "||=") ∷ id (codes "v") ∷ id (codes "g") ∷ []) ∷ []) ∷ []))
    ≡ false
f23 = refl

-- (param (bind "v" -) -) : (expr (assign "+=" (arraytarget [] -) (id "v")))
f24 : is_supported
    (of_body (tree word.Param (name (codes "v") ∷ Absent ∷ []) ∷ [])
    (tree word.Expr (tree word.Assign (text (codes "+=") ∷ tree word.Arraytarget (listed [] ∷ Absent ∷ []) ∷ id (codes "v") ∷ []) ∷
    []) ∷ []))
    ≡ false
f24 = refl

-- (expr (element (opening (tag "a") [(attr (attrname "b:c") -)]) [] -))
f25 : is_supported
    (of_body [] (tree word.Expr
    (tree word.Element (tree word.Opening
    (tree word.Tag (text (codes "a") ∷ []) ∷ listed
    (tree word.Attr (tree word.Attrname (text (codes "b:c") ∷ []) ∷ Absent ∷ []) ∷ []) ∷ []) ∷ listed [] ∷ Absent ∷ []) ∷ [])
    ∷ []))
    ≡ false
f25 = refl

-- (expr (element (opening (tagns "a:b" "c") []) [] -))
f27 : is_supported
    (of_body [] (tree word.Expr
    (tree word.Element (tree word.Opening (tree word.Tagns (text (codes "a:b") ∷ text (codes "c") ∷ []) ∷ listed [] ∷ []) ∷ listed []
    ∷ Absent ∷ []) ∷ []) ∷ []))
    ≡ false
f27 = refl

-- (expr (object [(get n (name "a") (funexpr n n n - (params [] -) (body [] [])))]))
f28 : is_supported
    (of_body [] (tree word.Expr
    (tree word.Object (listed
    (tree word.Get (no ∷ tree word.Name (text (codes "a") ∷ []) ∷ tree word.Funexpr
    (no ∷ no ∷ no ∷ Absent ∷ tree word.Params (listed [] ∷ Absent ∷ []) ∷ tree word.Body (listed [] ∷ listed [] ∷ []) ∷ []) ∷
    []) ∷ []) ∷ []) ∷ []) ∷ []))
    ≡ false
f28 = refl

-- (expr (arrow y n (params [(param (bind "a" -) (binary "+" (id "g") (id "h")))] -) (id "a")))
f29 : is_supported
    (unit (tree word.Expr
    (tree word.Arrow (yes ∷ no ∷ tree word.Params
    (listed (tree word.Param (name (codes "a") ∷ tree word.Binary (text (codes "+") ∷ id (codes "g") ∷ id (codes "h") ∷ []) ∷ [])
    ∷ []) ∷ Absent ∷ []) ∷ id (codes "a") ∷ []) ∷ []) ∷ []))
    ≡ false
f29 = refl

-- (expr (arrow y n (params [(param (bind "a" -) (array [(id "g") (member n (id "h") "k")]))] -) (id "a")))
f29_not : is_supported
    (unit (tree word.Expr
    (tree word.Arrow (yes ∷ no ∷ tree word.Params
    (listed (tree word.Param
    (name (codes "a") ∷ tree word.Array
    (listed (id (codes "g") ∷ tree word.Member (no ∷ id (codes "h") ∷ text (codes "k") ∷ []) ∷ []) ∷ []) ∷ []) ∷ []) ∷
    Absent ∷ []) ∷ id (codes "a") ∷ []) ∷ []) ∷ []))
    ≡ true
f29_not = refl

-- (try (block [(throw (id "a"))]) (catch - (block [])) -)
f30 : is_supported
    (of_body [] (tree word.Try
    (tree word.Block (listed (tree word.Throw (id (codes "a") ∷ []) ∷ []) ∷ []) ∷ tree word.Catch
    (Absent ∷ tree word.Block (listed [] ∷ []) ∷ []) ∷ Absent ∷ []) ∷ []))
    ≡ false
f30 = refl

-- (for (id "a") (id "b") - (empty))
f31 : is_supported (of_body [] (tree word.For (id (codes "a") ∷ id (codes "b") ∷ Absent ∷ tree word.Empty [] ∷ []) ∷ [])) ≡ false
f31 = refl

-- (for - - - (empty))
f32 : is_supported (of_body [] (tree word.For (Absent ∷ Absent ∷ Absent ∷ tree word.Empty [] ∷ []) ∷ [])) ≡ false
f32 = refl

-- (forof y (id "a") (id "b") (empty))
f33 : is_supported (of_body [] (tree word.Forof (yes ∷ id (codes "a") ∷ id (codes "b") ∷ tree word.Empty [] ∷ []) ∷ [])) ≡ false
f33 = refl

-- (try (block []) - (block []))
f34 : is_supported
    (of_body [] (tree word.Try (tree word.Block (listed [] ∷ []) ∷ Absent ∷ tree word.Block (listed [] ∷ []) ∷ []) ∷ []))
    ≡ false
f34 = refl

-- (try (block []) (catch - (block [])) (block []))
f35 : is_supported
    (of_body [] (tree word.Try
    (tree word.Block (listed [] ∷ []) ∷ tree word.Catch (Absent ∷ tree word.Block (listed [] ∷ []) ∷ []) ∷ tree word.Block
    (listed [] ∷ []) ∷ []) ∷ []))
    ≡ false
f35 = refl

-- (with (id "a") (empty))
f36 : is_supported (of_body [] (tree word.With (id (codes "a") ∷ tree word.Empty [] ∷ []) ∷ [])) ≡ false
f36 = refl

-- (classdecl (bind "a" -) - [])
f37 : is_supported (of_body [] (tree word.Classdecl (name (codes "a") ∷ Absent ∷ listed [] ∷ []) ∷ [])) ≡ false
f37 = refl

-- (var "var" [(declarator (bind "a" -) (id "g"))])
f39 : is_supported
    (of_body [] (tree word.Var (text (codes "var") ∷ listed (tree word.Declarator (name (codes "a") ∷ id (codes "g") ∷ []) ∷ []) ∷ []) ∷
    []))
    ≡ false
f39 = refl

-- (param (bind "fbt" -) -) : (expr (id "fbt"))
f40 : is_supported
    (of_body (tree word.Param (name (codes "fbt") ∷ Absent ∷ []) ∷ []) (tree word.Expr (id (codes "fbt") ∷ []) ∷ []))
    ≡ false
f40 = refl

-- (return -) (expr (arrow n n (params [] -) (id "g")))
f41 : is_supported
    (of_body [] (tree word.Return (Absent ∷ []) ∷ tree word.Expr
    (tree word.Arrow (no ∷ no ∷ tree word.Params (listed [] ∷ Absent ∷ []) ∷ id (codes "g") ∷ []) ∷ []) ∷ []))
    ≡ false
f41 = refl

-- (expr (bigint "1n"))
f42 : is_supported (of_body [] (tree word.Expr (tree word.Bigint (text (codes "1n") ∷ []) ∷ []) ∷ [])) ≡ false
f42 = refl

-- (expr (chain (member n (nonnull (member y (id "a") "b")) "c")))
f44 : is_supported
    (of_body [] (tree word.Expr
    (tree word.Chain (tree word.Member
    (no ∷ tree word.Nonnull (tree word.Member (yes ∷ id (codes "a") ∷ text (codes "b") ∷ []) ∷ []) ∷ text (codes "c") ∷ []) ∷ [])
    ∷ []) ∷ []))
    ≡ false
f44 = refl

-- (expr (chain (member y (nonnull (id "a")) "c")))
f44_not : is_supported
    (of_body [] (tree word.Expr
    (tree word.Chain (tree word.Member (yes ∷ tree word.Nonnull (id (codes "a") ∷ []) ∷ text (codes "c") ∷ []) ∷ []) ∷ []) ∷ []))
    ≡ true
f44_not = refl

-- (param (bind "v" -) -) : (forof n (nonnull (id "v")) (id "v") (empty))
f45 : is_supported
    (of_body (tree word.Param (name (codes "v") ∷ Absent ∷ []) ∷ [])
    (tree word.Forof (no ∷ tree word.Nonnull (id (codes "v") ∷ []) ∷ id (codes "v") ∷ tree word.Empty [] ∷ []) ∷ []))
    ≡ false
f45 = refl

-- (param (bind "v" -) -) : (forof n (arraytarget [(as (id "v") (type "other" []))] -) (id "v") (empty))
f45_in_a_pattern : is_supported
    (of_body (tree word.Param (name (codes "v") ∷ Absent ∷ []) ∷ [])
    (tree word.Forof (no ∷ tree word.Arraytarget
    (listed (tree word.As (id (codes "v") ∷ tree word.Type (text (codes "other") ∷ listed [] ∷ []) ∷ []) ∷ []) ∷ Absent ∷ []) ∷ id
    (codes "v") ∷ tree word.Empty [] ∷ []) ∷ []))
    ≡ false
f45_in_a_pattern = refl

-- (expr (fragment [(spreadchild (id "a"))]))
f46 : is_supported
    (of_body [] (tree word.Expr (tree word.Fragment (listed (tree word.Spreadchild (id (codes "a") ∷ []) ∷ []) ∷ []) ∷ []) ∷ []))
    ≡ false
f46 = refl

-- (param (bind "class" -) -) : (empty)
s1 : is_supported (of_body (tree word.Param (name (codes "class") ∷ Absent ∷ []) ∷ []) (tree word.Empty [] ∷ [])) ≡ false
s1 = refl

-- (param (bind "v" -) -) : (expr (assign "=" (nonnull (id "v")) (id "g")))
s3 : is_supported
    (of_body (tree word.Param (name (codes "v") ∷ Absent ∷ []) ∷ [])
    (tree word.Expr (tree word.Assign (text (codes "=") ∷ tree word.Nonnull (id (codes "v") ∷ []) ∷ id (codes "g") ∷ []) ∷ []) ∷ []))
    ≡ false
s3 = refl

-- (try (block []) (catch (arraypat [] -) (block [])) -)
s4 : is_supported
    (of_body [] (tree word.Try
    (tree word.Block (listed [] ∷ []) ∷ tree word.Catch
    (tree word.Arraypat (listed [] ∷ Absent ∷ []) ∷ tree word.Block (listed [] ∷ []) ∷ []) ∷ Absent ∷ []) ∷ []))
    ≡ false
s4 = refl

-- (break -)
s6 : is_supported (of_body [] (tree word.Break (Absent ∷ []) ∷ [])) ≡ false
s6 = refl

-- (labeled "a" (forin (var "const" [(declarator (bind "k" -) -)]) (id "o") (block [(switch (id "o") [(case - [(continue "a") (break
--   -)])])])))
s7_not : is_supported
    (of_body [] (tree word.Labeled
    (text (codes "a") ∷ tree word.Forin
    (tree word.Var (text (codes "const") ∷ listed (tree word.Declarator (name (codes "k") ∷ Absent ∷ []) ∷ []) ∷ []) ∷ id
    (codes "o") ∷ tree word.Block
    (listed (tree word.Switch
    (id (codes "o") ∷ listed
    (tree word.Case (Absent ∷ listed
    (tree word.Continue (text (codes "a") ∷ []) ∷ tree word.Break (Absent ∷ []) ∷ []) ∷ []) ∷ []) ∷ []) ∷ [])
    ∷ []) ∷ []) ∷ []) ∷ []))
    ≡ true
s7_not = refl

-- (enum (bind "E" -))
k1 : is_supported (of_body [] (tree word.Enum (name (codes "E") ∷ []) ∷ [])) ≡ false
k1 = refl

-- (var "using" [(declarator (bind "a" -) (id "g"))])
k2 : is_supported
    (of_body [] (tree word.Var (text (codes "using") ∷ listed (tree word.Declarator (name (codes "a") ∷ id (codes "g") ∷ []) ∷ []) ∷ []) ∷
    []))
    ≡ false
k2 = refl

-- (expr (arrow n n (params [] -) (body [] [(break -) (return (this))])))
inner_function : is_supported
    (of_body [] (tree word.Expr
    (tree word.Arrow (no ∷ no ∷ tree word.Params (listed [] ∷ Absent ∷ []) ∷ tree word.Body
    (listed [] ∷ listed (tree word.Break (Absent ∷ []) ∷ tree word.Return (tree word.This [] ∷ []) ∷ []) ∷ []) ∷ []) ∷ []) ∷ []))
    ≡ false
inner_function = refl

-- (var "const" [(declarator (bind "x" -) (null))]) (expr (arrow n n (params [] -) (id "x"))) (expr (arrow n n (params [] -) (assign "="
--   (id "x") (null))))
f7 : is_supported
    (of_body [] (tree word.Var
    (text (codes "const") ∷ listed (tree word.Declarator (name (codes "x") ∷ tree word.Null [] ∷ []) ∷ []) ∷ []) ∷ tree word.Expr
    (tree word.Arrow (no ∷ no ∷ tree word.Params (listed [] ∷ Absent ∷ []) ∷ id (codes "x") ∷ []) ∷ []) ∷ tree word.Expr
    (tree word.Arrow (no ∷ no ∷ tree word.Params (listed [] ∷ Absent ∷ []) ∷ tree word.Assign
    (text (codes "=") ∷ id (codes "x") ∷ tree word.Null [] ∷ []) ∷ []) ∷ []) ∷ []))
    ≡ false
f7 = refl

-- (expr (arrow n n (params [] -) (id "x"))) (var "const" [(declarator (bind "x" -) (null))])
f7_with_a_marker : is_supported
    (of_body [] (tree word.Expr (tree word.Arrow (no ∷ no ∷ tree word.Params (listed [] ∷ Absent ∷ []) ∷ id (codes "x") ∷ []) ∷ []) ∷ tree
    word.Var (text (codes "const") ∷ listed (tree word.Declarator (name (codes "x") ∷ tree word.Null [] ∷ []) ∷ []) ∷ []) ∷ []))
    ≡ true
f7_with_a_marker = refl

-- (expr (newtarget))
f15 : is_supported (of_body [] (tree word.Expr (tree word.Newtarget [] ∷ []) ∷ [])) ≡ false
f15 = refl

-- (expr (super))
f17 : is_supported (of_body [] (tree word.Expr (tree word.Super [] ∷ []) ∷ [])) ≡ false
f17 = refl

-- (var "let" [(declarator (bind "x" -) (null))]) (expr (update "++" y (id "x"))) (expr (arrow n n (params [] -) (id "x")))
f19 : is_supported
    (of_body [] (tree word.Var (text (codes "let") ∷ listed (tree word.Declarator (name (codes "x") ∷ tree word.Null [] ∷ []) ∷ []) ∷ [])
    ∷ tree word.Expr (tree word.Update (text (codes "++") ∷ yes ∷ id (codes "x") ∷ []) ∷ []) ∷ tree word.Expr
    (tree word.Arrow (no ∷ no ∷ tree word.Params (listed [] ∷ Absent ∷ []) ∷ id (codes "x") ∷ []) ∷ []) ∷ []))
    ≡ false
f19 = refl

-- (expr (call n (id "f") [])) (fundecl n n n (bind "f" -) (params [] -) (body [] [])) (expr (update "++" y (id "f")))
f19_by_a_marker : is_supported
    (of_body [] (tree word.Expr (tree word.Call (no ∷ id (codes "f") ∷ listed [] ∷ []) ∷ []) ∷ tree word.Fundecl
    (no ∷ no ∷ no ∷ name (codes "f") ∷ tree word.Params (listed [] ∷ Absent ∷ []) ∷ tree word.Body (listed [] ∷ listed [] ∷ []) ∷ [])
    ∷ tree word.Expr (tree word.Update (text (codes "++") ∷ yes ∷ id (codes "f") ∷ []) ∷ []) ∷ []))
    ≡ false
f19_by_a_marker = refl

-- (fundecl n n n (bind "f" -) (params [] -) (body [] [])) (expr (update "++" y (id "f")))
update_of_a_function : is_supported
    (of_body [] (tree word.Fundecl
    (no ∷ no ∷ no ∷ name (codes "f") ∷ tree word.Params (listed [] ∷ Absent ∷ []) ∷ tree word.Body (listed [] ∷ listed [] ∷ []) ∷ [])
    ∷ tree word.Expr (tree word.Update (text (codes "++") ∷ yes ∷ id (codes "f") ∷ []) ∷ []) ∷ []))
    ≡ true
update_of_a_function = refl

-- (expr (element (opening (tag "fbt") []) [(element (opening (tagns "fbt" "enum") []) [] -) (container (cond (id "g") (element (opening
--   (tagns "fbt" "enum") []) [] -) (null)))] -))
f26 : is_supported
    (of_body [] (tree word.Expr
    (tree word.Element (tree word.Opening (tree word.Tag (text (codes "fbt") ∷ []) ∷ listed [] ∷ []) ∷ listed
    (tree word.Element (tree word.Opening (tree word.Tagns (text (codes "fbt") ∷ text (codes "enum") ∷ []) ∷ listed [] ∷ []) ∷
    listed [] ∷ Absent ∷ []) ∷ tree word.Container
    (tree word.Cond (id (codes "g") ∷ tree word.Element
    (tree word.Opening (tree word.Tagns (text (codes "fbt") ∷ text (codes "enum") ∷ []) ∷ listed [] ∷ []) ∷ listed []
    ∷ Absent ∷ []) ∷ tree word.Null [] ∷ []) ∷ []) ∷ []) ∷ Absent ∷ []) ∷ []) ∷ []))
    ≡ false
f26 = refl

-- (expr (element (opening (tag "fbt") []) [(element (opening (tagns "fbt" "enum") []) [] -)] -))
single_tags : is_supported
    (of_body [] (tree word.Expr
    (tree word.Element (tree word.Opening (tree word.Tag (text (codes "fbt") ∷ []) ∷ listed [] ∷ []) ∷ listed
    (tree word.Element (tree word.Opening (tree word.Tagns (text (codes "fbt") ∷ text (codes "enum") ∷ []) ∷ listed [] ∷ []) ∷
    listed [] ∷ Absent ∷ []) ∷ []) ∷ Absent ∷ []) ∷ []) ∷ []))
    ≡ true
single_tags = refl

-- (exportlist [])
f38 : is_supported (of_body [] (tree word.Exportlist (listed [] ∷ []) ∷ [])) ≡ false
f38 = refl

-- (import "m" [])
f38_of_an_import : is_supported (of_body [] (tree word.Import (text (codes "m") ∷ listed [] ∷ []) ∷ [])) ≡ false
f38_of_an_import = refl

-- (export (var "const" [(declarator (bind "a" -) (null))]))
f38_of_a_declaration : is_supported
    (of_body [] (tree word.Export
    (tree word.Var (text (codes "const") ∷ listed (tree word.Declarator (name (codes "a") ∷ tree word.Null [] ∷ []) ∷ []) ∷ []) ∷ []) ∷
    []))
    ≡ false
f38_of_a_declaration = refl

-- (exportdefault (id "f"))
f38_of_a_default : is_supported (of_body [] (tree word.Exportdefault (id (codes "f") ∷ []) ∷ [])) ≡ false
f38_of_a_default = refl

-- (exportfrom "m")
f38_from_a_module : is_supported (of_body [] (tree word.Exportfrom (text (codes "m") ∷ []) ∷ [])) ≡ false
f38_from_a_module = refl

-- (var "await using" [(declarator (bind "a" -) (id "g"))])
k3 : is_supported
    (of_body [] (tree word.Var
    (text (codes "await using") ∷ listed (tree word.Declarator (name (codes "a") ∷ id (codes "g") ∷ []) ∷ []) ∷ []) ∷ []))
    ≡ false
k3 = refl

-- (param (bind "this" -) -) : (empty)
s2 : is_supported (of_body (tree word.Param (name (codes "this") ∷ Absent ∷ []) ∷ []) (tree word.Empty [] ∷ [])) ≡ false
s2 = refl

-- (fundecl n n n (bind "g" -) (params [(param (bind "this" -) -)] -) -)
s2_without_a_body : is_supported
    (of_body [] (tree word.Fundecl
    (no ∷ no ∷ no ∷ name (codes "g") ∷ tree word.Params
    (listed (tree word.Param (name (codes "this") ∷ Absent ∷ []) ∷ []) ∷ Absent ∷ []) ∷ Absent ∷ []) ∷ []))
    ≡ false
s2_without_a_body = refl

-- (param (bind "fbs" -) -) : (expr (element (opening (id "fbs") []) [] -))
s5 : is_supported
    (of_body (tree word.Param (name (codes "fbs") ∷ Absent ∷ []) ∷ [])
    (tree word.Expr (tree word.Element (tree word.Opening (id (codes "fbs") ∷ listed [] ∷ []) ∷ listed [] ∷ Absent ∷ []) ∷ []) ∷ []))
    ≡ false
s5 = refl

-- (param (bind "fbs" -) -) : (expr (element (opening (tagmember (id "fbs") "x") []) [] -))
member_tag : is_supported
    (of_body (tree word.Param (name (codes "fbs") ∷ Absent ∷ []) ∷ [])
    (tree word.Expr (tree word.Element
    (tree word.Opening (tree word.Tagmember (id (codes "fbs") ∷ text (codes "x") ∷ []) ∷ listed [] ∷ []) ∷ listed [] ∷ Absent ∷
    []) ∷ []) ∷ []))
    ≡ true
member_tag = refl

-- (expr (funexpr n n n (bind "fbt" -) (params [] -) (body [] [])))
own_name : is_supported
    (of_body [] (tree word.Expr
    (tree word.Funexpr (no ∷ no ∷ no ∷ name (codes "fbt") ∷ tree word.Params (listed [] ∷ Absent ∷ []) ∷ tree word.Body
    (listed [] ∷ listed [] ∷ []) ∷ []) ∷ []) ∷ []))
    ≡ true
own_name = refl

-- (continue -)
s7 : is_supported (of_body [] (tree word.Continue (Absent ∷ []) ∷ [])) ≡ false
s7 = refl

-- (labeled "a" (block [(while (id "g") (continue "a"))]))
s7_of_a_label : is_supported
    (of_body [] (tree word.Labeled
    (text (codes "a") ∷ tree word.Block
    (listed (tree word.While (id (codes "g") ∷ tree word.Continue (text (codes "a") ∷ []) ∷ []) ∷ []) ∷ []) ∷ []) ∷ []))
    ≡ false
s7_of_a_label = refl
