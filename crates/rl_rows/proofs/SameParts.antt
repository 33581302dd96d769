-- The rows in the parts of a node are those of the model.
use Rattle.std.proofs.Common.{◌≡◌, ℕ, Bool, true, false, ◌&&◌, if◌then◌else◌, None, List, ◌++◌, codes, ap, refl, ◌∙◌}
use Rattle.std.specs.Str.{bytes_eq}
use Rattle.rl_model.specs.Applied as model
use Rattle.rl_model.specs.Applied.{Facts, is_this, rows_among, rows_below, rows_in}
use Rattle.rl_model.specs.Supported.{is_none}
use Rattle.rl_row_forms.specs.Aboves.{breaking, heading, inside_target, keyed, looping, moving, part, resting, seen}
use Rattle.rl_row_forms.specs.Aboves.{membering, tagging, taken, trying, use_of, using}
use Rattle.rl_row_forms.specs.declared.above.Above.{Above}
use Rattle.rl_row_forms.specs.declared.above.Use.{Use}
use Rattle.rl_row_forms.specs.declared.above.Use.TheVariants as uses
use Rattle.rl_row_forms.proofs.Nones.{and_last, both_none, three_none}
use Rattle.rl_rows.specs.Clear.{clear_among, clear_below}
use Rattle.rl_rows.specs.Plans.{clear_from, even, plan_of}
use Rattle.rl_syntax.specs.Syntax.{Syntax, Said, Flag, Pieces, End, Then}
use Rattle.rl_syntax.specs.declared.word.Word.{Word}
use Rattle.rl_syntax.specs.declared.word.Word.TheVariants as word

pub among_same : (f : Facts) (a : model.Above) (parts : Pieces) → clear_among f a parts ≡ is_none (rows_among f a parts)
among_same f a End = refl
among_same f a (Then piece pieces) =
    ap (λ b. is_none (rows_in f a piece) && b) (among_same f a pieces) ∙ both_none (rows_in f a piece) (rows_among f a pieces)

even_same : (f : Facts) (labels : List (List ℕ × Bool)) (x : Above) (parts : Pieces)
    → clear_from f labels (even x) parts ≡ is_none (rows_among f (seen x labels) parts)
even_same f labels x End = refl
even_same f labels x (Then piece pieces) =
    ap (λ b. is_none (rows_in f (seen x labels) piece) && b) (even_same f labels x pieces)
    ∙ both_none (rows_in f (seen x labels) piece) (rows_among f (seen x labels) pieces)

nothing_same : (f : Facts) (labels : List (List ℕ × Bool)) (parts : Pieces)
    → clear_from f labels (plan_of None None None None) parts ≡ true
nothing_same f labels End = refl
nothing_same f labels (Then piece pieces) = nothing_same f labels pieces

inside_use : (u : Use) → use_of (inside_target u) ≡ model.inside_target (use_of u)
inside_use uses.Heads = refl
inside_use _ = refl

seen_taken : (a : Above) (labels : List (List ℕ × Bool)) → seen (taken a) labels ≡ model.taken (seen a labels)
seen_taken a labels = ap (λ u. record (model.part (seen a labels)) { used = u }) (inside_use a.used)

seen_resting : (a : Above) (labels : List (List ℕ × Bool))
    → seen (resting (taken a)) labels ≡ record (model.taken (seen a labels)) { rest = true }
seen_resting a labels = ap (λ (b : model.Above). record b { rest = true }) (seen_taken a labels)

-- Two parts, each with a summary.
pair_same : (f : Facts) (labels : List (List ℕ × Bool)) (x y : Above) (X Y : model.Above) (p q : Syntax) → seen x labels ≡ X
    → seen y labels ≡ Y
    → (is_none (rows_in f (seen x labels) p) && (is_none (rows_in f (seen y labels) q) && true)) ≡ is_none (rows_in f X p ++ rows_in f Y q)
pair_same f labels x y X Y p q ex ey =
    ap (λ b. is_none (rows_in f (seen x labels) p) && b) (and_last (is_none (rows_in f (seen y labels) q)))
    ∙ both_none (rows_in f (seen x labels) p) (rows_in f (seen y labels) q)
    ∙ (λ i. is_none (rows_in f (ex i) p ++ rows_in f (ey i) q))

assign_same : (f : Facts) (a : Above) (labels : List (List ℕ × Bool)) (b : Bool) (p q : Syntax)
    → (is_none (rows_in f (seen (using (if b then uses.Equals else uses.Compounds) a) labels) p)
    && (is_none (rows_in f (seen (part a) labels) q) && true))
    ≡ is_none (rows_in f (model.using (if b then model.Equals else model.Compounds) (seen a labels)) p
    ++ rows_in f (model.part (seen a labels)) q)
assign_same f a labels true p q = pair_same f labels (using uses.Equals a) (part a) _ _ p q refl refl
assign_same f a labels false p q = pair_same f labels (using uses.Compounds a) (part a) _ _ p q refl refl

three_same : (xs ys zs : List model.Which) → (is_none xs && (is_none ys && (is_none zs && true))) ≡ is_none (xs ++ ys ++ zs)
three_same xs ys zs = ap (λ b. is_none xs && (is_none ys && b)) (and_last (is_none zs)) ∙ three_none xs ys zs

-- The first part alone.
alone_same : (f : Facts) (labels : List (List ℕ × Bool)) (b : Bool) (parts : Pieces)
    → (b && clear_from f labels (plan_of None None None None) parts) ≡ b
alone_same f labels b parts = ap (λ c. b && c) (nothing_same f labels parts) ∙ and_last b

-- A part, and those behind it with one summary.
head_same : (f : Facts) (labels : List (List ℕ × Bool)) (x y : Above) (p : Syntax) (parts : Pieces)
    → (is_none (rows_in f (seen x labels) p) && clear_from f labels (even y) parts)
    ≡ is_none (rows_in f (seen x labels) p ++ rows_among f (seen y labels) parts)
head_same f labels x y p parts =
    ap (λ b. is_none (rows_in f (seen x labels) p) && b) (even_same f labels y parts)
    ∙ both_none (rows_in f (seen x labels) p) (rows_among f (seen y labels) parts)

end_same : (f : Facts) (a : Above) (labels : List (List ℕ × Bool)) (w : Word)
    → clear_below f a labels w End ≡ is_none (rows_below f (seen a labels) w End)
end_same f a labels word.Assign = refl
end_same f a labels _ = refl

pub below_same : (f : Facts) (a : Above) (labels : List (List ℕ × Bool)) (w : Word) (parts : Pieces)
    → clear_below f a labels w parts ≡ is_none (rows_below f (seen a labels) w parts)
below_same f a labels word.Assign (Then (Said operator) (Then target (Then right End))) =
    assign_same f a labels (bytes_eq operator (codes "=")) target right
below_same f a labels word.Update (Then operator (Then prefix (Then target End))) =
    and_last (is_none (rows_in f (seen (using uses.Updates a) labels) target))
below_same f a labels word.Arraytarget (Then items (Then rest End)) =
    pair_same f labels (taken a) (taken a) _ _ items rest (seen_taken a labels) (seen_taken a labels)
below_same f a labels word.Objecttarget (Then properties (Then rest End)) =
    pair_same f labels (taken a) (resting (taken a)) _ _ properties rest (seen_taken a labels) (seen_resting a labels)
below_same f a labels word.Objectpat (Then properties (Then rest End)) =
    pair_same f labels (part a) (resting (part a)) _ _ properties rest refl refl
below_same f a labels word.Default (Then target (Then default End)) =
    pair_same f labels (taken a) (moving a) _ _ target default (seen_taken a labels) refl
below_same f a labels word.Short (Then name (Then default End)) =
    pair_same f labels (taken a) (moving a) _ _ name default (seen_taken a labels) refl
below_same f a labels word.Rest (Then target End) = and_last (is_none (rows_in f (seen a labels) target))
below_same f a labels word.Keyed (Then (Flag computed) (Then key (Then target End))) =
    pair_same f labels (keyed computed a) (taken a) _ _ key target refl (seen_taken a labels)
below_same f a labels word.Keyedpat (Then (Flag computed) (Then key (Then pattern End))) =
    pair_same f labels (keyed computed a) (part a) _ _ key pattern refl refl
below_same f a labels word.Prop (Then (Flag computed) (Then key (Then expression End))) =
    pair_same f labels (keyed computed a) (part a) _ _ key expression refl refl
below_same f a labels word.Method (Then (Flag computed) (Then key (Then function End))) =
    pair_same f labels (keyed computed a) (part a) _ _ key function refl refl
below_same f a labels word.Get (Then (Flag computed) (Then key (Then function End))) =
    pair_same f labels (keyed computed a) (part a) _ _ key function refl refl
below_same f a labels word.Set (Then (Flag computed) (Then key (Then function End))) =
    pair_same f labels (keyed computed a) (part a) _ _ key function refl refl
below_same f a labels word.Defaultpat (Then pattern (Then default End)) =
    pair_same f labels (part a) (moving a) _ _ pattern default refl refl
below_same f a labels word.Param (Then pattern (Then default End)) = pair_same f labels (part a) (moving a) _ _ pattern default refl refl
below_same f a labels word.Case (Then condition (Then statements End)) =
    pair_same f labels (moving a) (part a) _ _ condition statements refl refl
below_same f a labels word.Opening (Then tag (Then attributes End)) = pair_same f labels (tagging a) (part a) _ _ tag attributes refl refl
below_same f a labels word.Tagmember (Then object parts) =
    alone_same f labels (is_none (rows_in f (seen (membering (is_this object) a) labels) object)) parts
below_same f a labels word.Try (Then block (Then handler (Then finalizer End))) =
    three_same (rows_in f (seen (trying a) labels) block) (rows_in f (seen (part a) labels) handler)
    (rows_in f (seen (part a) labels) finalizer)
below_same f a labels word.While (Then piece pieces) = head_same f labels (looping a) (looping a) piece pieces
below_same f a labels word.Dowhile (Then piece pieces) = head_same f labels (looping a) (looping a) piece pieces
below_same f a labels word.For (Then piece pieces) = head_same f labels (looping a) (looping a) piece pieces
below_same f a labels word.Forin (Then head parts) = head_same f labels (heading a) (looping a) head parts
below_same f a labels word.Forof (Then is_await (Then head parts)) = head_same f labels (heading a) (looping a) head parts
below_same f a labels word.Switch (Then discriminant (Then cases End)) =
    pair_same f labels (part a) (breaking a) _ _ discriminant cases refl refl
below_same f a labels word.Labeled (Then (Said label) (Then body End)) = refl
below_same f a labels word.Labeled (Then piece pieces) = among_same f (seen (part a) labels) (Then piece pieces)
below_same f a labels word.Instantiate (Then expression names) =
    alone_same f labels (is_none (rows_in f (seen (part a) labels) expression)) names
below_same f a labels word.Arrow (Then piece pieces) = among_same f model.top (Then piece pieces)
below_same f a labels word.Funexpr (Then piece pieces) = among_same f model.top (Then piece pieces)
below_same f a labels word.Fundecl (Then piece pieces) = among_same f model.top (Then piece pieces)
below_same f a labels w (Then piece pieces) = head_same f labels (part a) (part a) piece pieces
below_same f a labels w End = end_same f a labels w
