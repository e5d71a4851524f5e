-- A source whose bound names are told apart anew has bound names apart from all that stands behind it, as rules that put terms ask.
use Rattle.std.specs.Prelude.{◌≡◌, ℕ, ◌<◌, ◌≤◌, ◌^◌, Bool, false, ◌&&◌, ◌||◌, not, []}
use Rattle.ess_semantics.specs.declared.words.Fun.{Fun}
use Rattle.ess_semantics.specs.Values.{Text}
use Rattle.ess_semantics.specs.Order.{same_text}
use Rattle.ess_semantics.specs.Trees.{name_pat, Op, Ex, Exs, number_ex, truth_ex, name_ex, node_ex, matrix_ex, comp_ex, cell_ex, seen_ex, fun1, no_exs, more_exs, Gens, no_gens, over, from, cond, Dom, Doms, bool_dom, int_dom, name_dom, tuple_dom, record_dom, matrix_dom, set_dom, mset_dom, function_dom, relation_dom, partition_dom, no_doms, more_doms}
use Rattle.ess_semantics.specs.Substitution.{NamesAre, NamesAreGens, NamesAreDom}
use Rattle.ess_rules_laws.specs.SourceRules.{ItemsApart}
use Rattle.ess_rules_laws.specs.SpliceRules.{NamesApart}
use Rattle.conjure_model_laws.specs.ToldApart.{reserved, told, told_apart}
use Rattle.ess_told_over_laws.specs.ToldOverTables.{IsScopedBelow}

module _ (z : Text → Bool) where
  abbrev mutual
    -- The domains of the tree's views use names of z and bind none.
    pub ViewsBindNone : Ex → Type 0
    ViewsBindNone (number_ex n) = Unit {0}
    ViewsBindNone (truth_ex b) = Unit {0}
    ViewsBindNone (name_ex a) = Unit {0}
    ViewsBindNone (node_ex b op es) = AllViewsBindNone es
    ViewsBindNone (matrix_ex es d) = AllViewsBindNone es × DomViewsBindNone d
    ViewsBindNone (comp_ex e gs) = ViewsBindNone e × GensViewsBindNone gs
    ViewsBindNone (cell_ex b n es) = AllViewsBindNone es
    ViewsBindNone (seen_ex r d ns es) = NamesAreDom z (λ a. false) d

    -- The same of several expressions.
    pub AllViewsBindNone : Exs → Type 0
    AllViewsBindNone no_exs = Unit {0}
    AllViewsBindNone (more_exs e es) = ViewsBindNone e × AllViewsBindNone es

    -- The same of generators.
    pub GensViewsBindNone : Gens → Type 0
    GensViewsBindNone no_gens = Unit {0}
    GensViewsBindNone (over p d gs) = DomViewsBindNone d × GensViewsBindNone gs
    GensViewsBindNone (from p e gs) = ViewsBindNone e × GensViewsBindNone gs
    GensViewsBindNone (cond e gs) = ViewsBindNone e × GensViewsBindNone gs

    -- The same of a domain.
    pub DomViewsBindNone : Dom → Type 0
    DomViewsBindNone bool_dom = Unit {0}
    DomViewsBindNone (int_dom rs es) = AllViewsBindNone es
    DomViewsBindNone (name_dom a) = Unit {0}
    DomViewsBindNone (tuple_dom ds) = DomsViewsBindNone ds
    DomViewsBindNone (record_dom fs ds) = DomsViewsBindNone ds
    DomViewsBindNone (matrix_dom is d) = DomsViewsBindNone is × DomViewsBindNone d
    DomViewsBindNone (set_dom ms es d) = AllViewsBindNone es × DomViewsBindNone d
    DomViewsBindNone (mset_dom ms es d) = AllViewsBindNone es × DomViewsBindNone d
    DomViewsBindNone (function_dom ms es d c) = AllViewsBindNone es × DomViewsBindNone d × DomViewsBindNone c
    DomViewsBindNone (relation_dom ms es ds) = AllViewsBindNone es × DomsViewsBindNone ds
    DomViewsBindNone (partition_dom ms es d) = AllViewsBindNone es × DomViewsBindNone d

    -- The same of several domains.
    pub DomsViewsBindNone : Doms → Type 0
    DomsViewsBindNone no_doms = Unit {0}
    DomsViewsBindNone (more_doms d ds) = DomViewsBindNone d × DomsViewsBindNone ds

-- What stands behind the name y of a source uses names of v, and binds such ones that aren't in scope and aren't y; v has no reserved name
-- from the j-th on.
pub record Behind (v s : Text → Bool) (y : Text) (j : ℕ) (e : Ex) (hs : Gens) : Type 0 where
  pub spared : (i : ℕ) → j ≤ i → i < 2 ^ 64 → v (reserved i) ≡ false
  pub gens : NamesAreGens v (λ a. v a && not (s a || same_text y a)) hs
  pub body : NamesAre v (λ a. v a && not (s a || same_text y a)) e

-- So bound names are apart where the source is told apart from the j-th reserved name on: in a comprehension that is spliced, and in a
-- fold over a literal.
pub record RenewedSourcesAreApart : Type 0 where
  pub of_comprehensions : (z s o v : Text → Bool) (j : ℕ) (y : Text) (e t h : Ex) (ks hs : Gens) → IsScopedBelow z s o j t →
      ViewsBindNone z t → (told t [] j).1 ≤ 2 ^ 64 → Behind v s y j e hs → told_apart j t ≡ comp_ex h ks →
      (r : Text → Bool) × (u : Text → Bool) × NamesApart r u (comp_ex e (from (name_pat y) (told_apart j t) hs))
  pub of_literals : (z s o v : Text → Bool) (j : ℕ) (y : Text) (e t : Ex) (hs : Gens) (m b : Bool) (f : Fun) (op : Op) (es : Exs) →
      IsScopedBelow z s o j t → ViewsBindNone z t → (told t [] j).1 ≤ 2 ^ 64 → Behind v s y j e hs → told_apart j t ≡ node_ex b op es →
      (u : Text → Bool) × ItemsApart u (fun1 m f (comp_ex e (from (name_pat y) (told_apart j t) hs)))
