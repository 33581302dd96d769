-- The variables that covered code names: it holds no element, so that each name in it is one of a variable.
use Rattle.std.proofs.Common.{◌≡◌, ℕ, true, true≢false, List, [], ◌∷◌, ◌++◌, refl, sym, ap, ◌∙◌}
use Rattle.rl_model.specs.Code.{builtin_tag_at, code, code_among, contains, first_code, flat}
use Rattle.rl_model.specs.Orderly.{used_at, used_in}
use Rattle.rl_names.specs.Names.{Names}
use Rattle.rl_promises.proofs.Accepted.{nil_parts}
use Rattle.rl_promises.proofs.OrderlyCalls.{Each, EachAmong, EachFirst, IsOrderlyAt, Within, contains_left, contains_right, in_front}
use Rattle.rl_promises.specs.Covered.{covers}
use Rattle.rl_syntax.specs.Syntax.{Syntax, Node, Listed, Said, Count, Flag, Absent, Pieces, End, Then}
use Rattle.rl_syntax.specs.declared.numbered.At.{At}
use Rattle.rl_syntax.specs.declared.word.Word.{Word}
use Rattle.rl_syntax.specs.declared.word.Word.TheVariants as word

-- A node of an orderly function, of whose variable something is known if it is a name.
pub record IsReadAt (names : Names) (assigned : List ℕ) (Reads : ℕ → Type 0) (at : At) (w : Word) (parts : Pieces) : Type 0 where
  pub orderly : IsOrderlyAt names assigned at w parts
  pub reads : (symbol : ℕ) → contains (used_at names [] (Node at w parts)) symbol ≡ true → Reads symbol

-- Lists by their parts.

pub flat_left : {A : Type 0} (f : A → List ℕ) (xs ys : List A) (symbol : ℕ) → contains (flat f xs) symbol ≡ true
    → contains (flat f (xs ++ ys)) symbol ≡ true
flat_left f [] ys symbol there = absurd (true≢false (sym there))
flat_left f (x ∷ xs) ys symbol there = in_front (f x) (flat f xs) (flat f (xs ++ ys)) symbol (flat_left f xs ys symbol) there

pub flat_right : {A : Type 0} (f : A → List ℕ) (xs ys : List A) (symbol : ℕ) → contains (flat f ys) symbol ≡ true
    → contains (flat f (xs ++ ys)) symbol ≡ true
flat_right f [] ys symbol there = there
flat_right f (x ∷ xs) ys symbol there = contains_right (f x) (flat f (xs ++ ys)) symbol (flat_right f xs ys symbol there)

flat_none : {A : Type 0} (f : A → List ℕ) (xs ys : List A) → flat f xs ≡ [] → flat f ys ≡ [] → flat f (xs ++ ys) ≡ []
flat_none f [] ys none also = also
flat_none f (x ∷ xs) ys none also =
    let both = nil_parts (f x) (flat f xs) none in
    ap (λ (l : List ℕ). l ++ flat f (xs ++ ys)) both.0 ∙ flat_none f xs ys both.1 also

-- Covered code holds no element, and so no tag.

tags_within : (at : At) (w : Word) (parts : Pieces) (First All : Type 0) → covers w parts ≡ true → Within w First All
    → (First → flat builtin_tag_at (first_code parts) ≡ []) → (All → flat builtin_tag_at (code_among parts) ≡ [])
    → flat builtin_tag_at (code (Node at w parts)) ≡ []
tags_within at word.Type parts First All covered within one each = refl
tags_within at word.Instantiate parts First All covered within one each = one within
tags_within at word.Opening parts First All covered within one each = absurd (true≢false (sym covered))
tags_within at word.Arrow parts First All covered within one each = absurd (true≢false (sym covered))
tags_within at word.Funexpr parts First All covered within one each = absurd (true≢false (sym covered))
tags_within at word.Fundecl parts First All covered within one each = absurd (true≢false (sym covered))
tags_within at word.Classdecl parts First All covered within one each = absurd (true≢false (sym covered))
tags_within at word.Classexpr parts First All covered within one each = absurd (true≢false (sym covered))
tags_within at w parts First All covered within one each = each within

module _ (Facts : At → Word → Pieces → Type 0) where
  mutual
    no_tags : (e : Syntax) → Each Facts e → flat builtin_tag_at (code e) ≡ []
    no_tags (Node at w parts) covered =
        tags_within at w parts (EachFirst Facts parts) (EachAmong Facts parts) covered.0 covered.2 (tags_first parts) (tags_among parts)
    no_tags (Listed parts) covered = tags_among parts covered
    no_tags (Said text) covered = refl
    no_tags (Count number) covered = refl
    no_tags (Flag flag) covered = refl
    no_tags Absent covered = refl

    tags_first : (parts : Pieces) → EachFirst Facts parts → flat builtin_tag_at (first_code parts) ≡ []
    tags_first End covered = refl
    tags_first (Then part parts) covered = no_tags part covered

    tags_among : (parts : Pieces) → EachAmong Facts parts → flat builtin_tag_at (code_among parts) ≡ []
    tags_among End covered = refl
    tags_among (Then part parts) covered =
        flat_none builtin_tag_at (code part) (code_among parts) (no_tags part covered.0) (tags_among parts covered.1)

module _ (names : Names) (assigned : List ℕ) (Reads : ℕ → Type 0) where
  abbrev LendsAlike : Syntax → Type 0
  LendsAlike = Each (IsOrderlyAt names assigned)

  abbrev IsRead : Syntax → Type 0
  IsRead = Each (IsReadAt names assigned Reads)

  -- Each variable that some code names may be read.
  abbrev MayRead : (nodes : List Syntax) → Type 0
  MayRead nodes = (symbol : ℕ) → contains (flat (used_at names []) nodes) symbol ≡ true → Reads symbol

  own_reads : (at : At) (w : Word) (parts : Pieces) → MayRead (code (Node at w parts)) → (symbol : ℕ)
      → contains (used_at names [] (Node at w parts)) symbol ≡ true → Reads symbol
  own_reads at word.Id parts reads symbol there =
      reads symbol (contains_left (used_at names [] (Node at word.Id parts)) (flat (used_at names []) (code_among parts)) symbol there)
  own_reads at _ parts reads symbol there = absurd (true≢false (sym there))

  reads_within : (at : At) (w : Word) (parts : Pieces) (First Later All Others : Type 0) → covers w parts ≡ true → Within w First All
      → MayRead (code (Node at w parts)) → (First → MayRead (first_code parts) → Later) → (All → MayRead (code_among parts) → Others)
      → Within w Later Others
  reads_within at word.Type parts First Later All Others covered within reads one each = tt
  reads_within at word.Instantiate parts First Later All Others covered within reads one each = one within reads
  reads_within at word.Arrow parts First Later All Others covered within reads one each = absurd (true≢false (sym covered))
  reads_within at word.Funexpr parts First Later All Others covered within reads one each = absurd (true≢false (sym covered))
  reads_within at word.Fundecl parts First Later All Others covered within reads one each = absurd (true≢false (sym covered))
  reads_within at word.Classdecl parts First Later All Others covered within reads one each = absurd (true≢false (sym covered))
  reads_within at word.Classexpr parts First Later All Others covered within reads one each = absurd (true≢false (sym covered))
  reads_within at w parts First Later All Others covered within reads one each =
      each within (λ symbol there. reads symbol
      (contains_right (used_at names [] (Node at w parts)) (flat (used_at names []) (code_among parts)) symbol there))

  mutual
    pub read_in : (e : Syntax) → LendsAlike e → MayRead (code e) → IsRead e
    read_in (Node at w parts) covered reads = (
      covered.0,
      record { orderly = covered.1; reads = own_reads at w parts reads },
      reads_within at w parts (EachFirst (IsOrderlyAt names assigned) parts) (EachFirst (IsReadAt names assigned Reads) parts)
          (EachAmong (IsOrderlyAt names assigned) parts) (EachAmong (IsReadAt names assigned Reads) parts) covered.0 covered.2 reads
          (read_first parts) (read_among parts),
    )
    read_in (Listed parts) covered reads = read_among parts covered reads
    read_in (Said text) covered reads = tt
    read_in (Count number) covered reads = tt
    read_in (Flag flag) covered reads = tt
    read_in Absent covered reads = tt

    read_first : (parts : Pieces) → EachFirst (IsOrderlyAt names assigned) parts → MayRead (first_code parts)
        → EachFirst (IsReadAt names assigned Reads) parts
    read_first End covered reads = tt
    read_first (Then part parts) covered reads = read_in part covered reads

    pub read_among : (parts : Pieces) → EachAmong (IsOrderlyAt names assigned) parts → MayRead (code_among parts)
        → EachAmong (IsReadAt names assigned Reads) parts
    read_among End covered reads = tt
    read_among (Then part parts) covered reads = (
      read_in part covered.0 (λ symbol there. reads symbol (flat_left (used_at names []) (code part) (code_among parts) symbol there)),
      read_among parts covered.1
          (λ symbol there. reads symbol (flat_right (used_at names []) (code part) (code_among parts) symbol there)),
    )

  -- Code of which each variable that it names may be read.
  pub read_by : (e : Syntax) → LendsAlike e → ((symbol : ℕ) → contains (used_in names e) symbol ≡ true → Reads symbol) → IsRead e
  read_by e covered reads =
      read_in e covered (λ symbol there. reads symbol
      (ap (λ (tags : List ℕ). contains (flat (used_at names tags) (code e)) symbol) (no_tags (IsOrderlyAt names assigned) e covered)
      ∙ there))
