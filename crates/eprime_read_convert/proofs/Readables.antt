-- Parts of trees of the grammar are trees of the grammar.
use Rattle.std.proofs.Common.{◌≡◌, refl, ap, ◌∙◌, subst, true, false, Bool, List, [], ◌∷◌, ◌++◌, map, Some, None, ◌&&◌}
use Rattle.std.specs.List.{list_all}
use Rattle.ess_semantics.specs.Trees as pure
use Rattle.ess_grammar.specs.Readable.{ReadableExs, ReadableGens}
use Rattle.ess_core.specs.TreeViews.{within, exs_of, Item, over_item, from_item, cond_item, gens_of, pure_range}
use Rattle.ess_semantics.specs.Values.{Text}
use Rattle.ess_core.specs.declared.expressions.Ex.{Ex}
use Rattle.ess_core.specs.declared.expressions.Gen.{Gen}
use Rattle.ess_core.specs.declared.expressions.Step.{Step}
use Rattle.ess_core.specs.declared.expressions.FieldEx.{FieldEx}
use Rattle.ess_core.specs.declared.expressions.PairEx.{PairEx}
use Rattle.ess_core.specs.declared.expressions.View.{View}
use Rattle.ess_core.specs.declared.domains.Attr.{Attr}
use Rattle.ess_core.specs.declared.domains.FieldDom.{FieldDom}
use Rattle.ess_core.specs.declared.domains.Range.{Range}
use Rattle.ess_core.specs.declared.domains.Dom.{Dom}
use Rattle.ess_core.specs.declared.domains.Range.TheVariants as range
use Rattle.ess_core.specs.declared.domains.Dom.TheOpen.{Range-F}
use Rattle.ess_core.specs.declared.domains.Dom.TheViews.{out-Range, roll-Range, roll-out-Range}
use Rattle.ess_core.proofs.PartEquations.{pure_range_one, pure_range_span}
use Rattle.eprime_read_convert.specs.Converted.{Each, ReadableItem, ReadableRange, name_in}
use Rattle.eprime_read_convert.proofs.ModelLists.{is_fit}

pub each_item : (is : List Item) → ReadableGens (gens_of is) → Each ReadableItem is
each_item [] r = tt
each_item (over_item p d ∷ is) r = ((r.0, r.1), each_item is r.2)
each_item (from_item p e ∷ is) r = ((r.0, r.1), each_item is r.2)
each_item (cond_item e ∷ is) r = (r.0, each_item is r.1)

readable-front : (xs ys : List pure.Ex) → ReadableExs (exs_of (xs ++ ys)) → ReadableExs (exs_of xs)
readable-front [] ys r = tt
readable-front (x ∷ xs) ys r = (r.0, readable-front xs ys r.1)

readable-back : (xs ys : List pure.Ex) → ReadableExs (exs_of (xs ++ ys)) → ReadableExs (exs_of ys)
readable-back [] ys r = r
readable-back (x ∷ xs) ys r = readable-back xs ys r.1

layer-fits : (x : Range-F Dom Range Ex Gen Step Attr FieldDom FieldEx PairEx View) → is_fit (pure_range (roll-Range x)) ≡ true
layer-fits (Range-F.Range::One e) = ap (λ r. is_fit (pure_range r)) (range.rolls-One e) ∙ ap is_fit (pure_range_one e)
layer-fits (Range-F.Span None None) = ap (λ r. is_fit (pure_range r)) (range.rolls-Span None None) ∙ ap is_fit (pure_range_span None None)
layer-fits (Range-F.Span None (Some b)) = ap (λ r. is_fit (pure_range r)) (range.rolls-Span None (Some b)) ∙ ap is_fit (pure_range_span None (Some b))
layer-fits (Range-F.Span (Some a) None) = ap (λ r. is_fit (pure_range r)) (range.rolls-Span (Some a) None) ∙ ap is_fit (pure_range_span (Some a) None)
layer-fits (Range-F.Span (Some a) (Some b)) = ap (λ r. is_fit (pure_range r)) (range.rolls-Span (Some a) (Some b)) ∙ ap is_fit (pure_range_span (Some a) (Some b))

-- A range has its bounds.
pub range_fits : (r : Range) → is_fit (pure_range r) ≡ true
range_fits r = subst (λ x. is_fit (pure_range x) ≡ true) (roll-out-Range r) (layer-fits (out-Range r))

both-hold : (a b : Bool) → a ≡ true → b ≡ true → (a && b) ≡ true
both-hold true b h k = k
both-hold false b h k = cc

pub ranges_fit : (rs : List Range) → list_all is_fit (map pure_range rs) ≡ true
ranges_fit [] = refl
ranges_fit (r ∷ rs) = both-hold (is_fit (pure_range r)) (list_all is_fit (map pure_range rs)) (range_fits r) (ranges_fit rs)

-- Ranges of bounds of the grammar.
pub ranges_readable : (rs : List Range) → ReadableExs (exs_of (within (map pure_range rs))) → Each ReadableRange (map pure_range rs)
ranges_readable [] r = tt
ranges_readable (x ∷ rs) r =
    (readable-front (pure_range x).1 (within (map pure_range rs)) r, ranges_readable rs (readable-back (pure_range x).1 (within (map pure_range rs)) r))

pub name_is : (e : pure.Ex) (a : Text) → name_in e ≡ Some a → e ≡ pure.name_ex a
name_is (pure.number_ex n) a h = cc
name_is (pure.truth_ex b) a h = cc
name_is (pure.name_ex c) a h = cc
name_is (pure.node_ex b op es) a h = cc
name_is (pure.matrix_ex es d) a h = cc
name_is (pure.comp_ex e gs) a h = cc
name_is (pure.cell_ex b c es) a h = cc
name_is (pure.seen_ex r d ns es) a h = cc
