-- A name that is bound or not declared stays a name, and a declared one is its cell, by itself or as the table of an index.
use Rattle.std.proofs.Common.{◌≡◌, refl, sym, ap, Bool, true, false, ◌||◌, not, List, Option, Some, None}
use Rattle.std.specs.Prelude.{if◌then◌else◌}
use Rattle.std.specs.Option.{is_some}
use Rattle.ess_semantics.specs.Values.{Text}
use Rattle.ess_semantics.specs.Names.{look, is_among}
use Rattle.ess_semantics.specs.Trees.{Step, index, Exs, name_ex, cell_ex, no_exs, more_exs}
use Rattle.ess_semantics.proofs.Tests.{and-left, and-right, not-true}
use Rattle.ess_grammar.specs.Models.{Scope, is_truth_table, cell_or_name, named_cell, cell_or_node, same_truth, is_plain_cell}

-- two truth values that agree are one
pub truth-same : (a b : Bool) → same_truth a b ≡ true → a ≡ b
truth-same true true h = refl
truth-same true false h = cc
truth-same false true h = cc
truth-same false false h = refl

-- ---- names and cells

-- a name that a generator binds, or that no line declares, stays one
pub name-stays : (s : Scope) (g : List Text) (a : Text) → is_among g a || not (is_some (look s.tables a)) ≡ true → named_cell s g a ≡ name_ex a
name-stays s g a h = go (is_among g a) (look s.tables a) h
  where
    go : (i : Bool) (o : Option Bool) → i || not (is_some o) ≡ true → (if i then name_ex a else cell_or_name a o) ≡ name_ex a
    go true o h = refl
    go false None h = refl
    go false (Some b) h = cc

-- a declared name that no generator binds is its cell
pub cell-back : (s : Scope) (g : List Text) (a : Text) (b : Bool) → is_plain_cell g a b (look s.tables a) ≡ true → named_cell s g a ≡ cell_ex b a no_exs
cell-back s g a b h = go (is_among g a) (look s.tables a) refl h
  where
    go : (i : Bool) (o : Option Bool) → is_among g a ≡ i → is_plain_cell g a b o ≡ true → (if i then name_ex a else cell_or_name a o) ≡ cell_ex b a no_exs
    go i None e h = cc
    go true (Some c) e h = let n = not-true (is_among g a) (and-right (same_truth b c) (not (is_among g a)) h) in cc
    go false (Some c) e h = ap (λ t. cell_ex t a no_exs) (sym (truth-same b c (and-left (same_truth b c) (not (is_among g a)) h)))

-- an index of a name is an access to the table of that name
pub access-back : (s : Scope) (g : List Text) (a : Text) (b : Bool) (ss : List Step) (es : Exs) → cell_or_node s b (index ss) (more_exs (named_cell s g a) es) ≡ cell_ex (is_truth_table s a) a es
access-back s g a b ss es = go (is_among g a) (look s.tables a) refl
  where
    go : (i : Bool) (o : Option Bool) → look s.tables a ≡ o → cell_or_node s b (index ss) (more_exs (if i then name_ex a else cell_or_name a o) es) ≡ cell_ex (is_truth_table s a) a es
    go true o e = refl
    go false None e = refl
    go false (Some c) e = ap (λ t. cell_ex t a es) (sym (ap (λ o. elim o [ Some b ↦ b | None ↦ false ]) e))
