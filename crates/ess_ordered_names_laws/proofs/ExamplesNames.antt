-- Worked examples: `[q | q <- f(1)]`, where f is a view of a partial function with a table of flags and one of values.
use Rattle.std.specs.Prelude.{◌≡◌, refl, Bool, true, false, [], ◌∷◌, codes, pos, Some, IsTrue}
use Rattle.ess_semantics.specs.declared.words.Op2.{Op2}
use Rattle.ess_semantics.specs.declared.words.Fun.{Fun}
use Rattle.ess_semantics.specs.declared.words.ReprKind.{ReprKind}
use Rattle.ess_semantics.specs.Values.{Text}
use Rattle.ess_semantics.specs.Trees.{both_ends, repr, no_reprs, more_reprs, by_value, index, application, name_pat, Repr, Ex, number_ex, name_ex, node_ex, comp_ex, cell_ex, seen_ex, ex2, fun1, no_exs, more_exs, no_gens, over, from, cond, Dom, bool_dom, int_dom, matrix_dom, function_dom, no_doms, more_doms}
use Rattle.ess_rules_laws.specs.Listings.{Alternative}
use Rattle.ess_refine_laws.specs.AllRules.{Supply}
use Rattle.ess_ordered_laws.specs.PickedSources.{picked_source}
use Rattle.ess_ordered_laws.specs.OrderedRules.{of_an_item, source_of_an_item, keeps_order}
use Rattle.conjure_model_laws.specs.ToldApart.{reserved}
use Rattle.ess_chain_names_laws.specs.NamesHave.{EachHas}
use Rattle.ess_chain_names_laws.specs.Steps.{supply_at}
use Rattle.ess_ordered_names_laws.specs.OrderedNames.{OtherHas, AtSource, WherePicked, ViewHas}

abbrev q : Text
q = codes "q"

abbrev flags : Text
flags = codes "flags"

abbrev values : Text
values = codes "values"

abbrev up_to_two : Dom
up_to_two = int_dom (both_ends ∷ []) (more_exs (number_ex (pos 1)) (more_exs (number_ex (pos 2)) no_exs))

-- The results are matrices of truth values.
abbrev results : Dom
results = matrix_dom (more_doms up_to_two no_doms) bool_dom

abbrev as_matrix : Repr
as_matrix = repr ReprKind.Matrix (more_reprs (repr ReprKind.Atom no_reprs) no_reprs)

abbrev f : Ex
f = seen_ex (repr ReprKind.Function1DPartial (more_reprs as_matrix no_reprs)) (function_dom [] no_exs up_to_two results)
    (flags ∷ values ∷ []) no_exs

abbrev applied : Ex
applied = node_ex false application (more_exs f (more_exs (number_ex (pos 1)) no_exs))

abbrev copied : Ex
copied = comp_ex (name_ex q) (from (name_pat q) applied no_gens)

abbrev names : Supply
names = supply_at 0 1

-- The condition that f has a result at 1 is a cell of the flags: of a table that stands in no tree but that of the view.
abbrev where_flagged : Alternative
where_flagged = record {
  gens = from (name_pat (reserved 1)) (comp_ex (name_ex (reserved 3)) (from (name_pat (reserved 3))
      (comp_ex (seen_ex as_matrix results (values ∷ []) (more_exs (name_ex (reserved 2)) no_exs))
      (over (name_pat (reserved 2)) up_to_two (cond (ex2 true Op2.Eq (name_ex (reserved 2)) (number_ex (pos 1)))
      (cond (cell_ex true flags (more_exs (name_ex (reserved 2)) no_exs)) no_gens)))) no_gens)) no_gens;
  item = comp_ex (name_ex q) (from (name_pat q) (name_ex (reserved 1)) no_gens);
}

flag_is_spelled : picked_source names [] copied ≡ Some (where_flagged ∷ [])
flag_is_spelled = refl

module _ (u : Text → Bool) where
  -- So the law asks for both tables, at any depth of the pick; of a comprehension by itself for none.
  tables_of_the_view : (ViewHas u applied ≡ EachHas u (flags ∷ values ∷ []))
      × (ViewHas u (node_ex false (index (by_value ∷ [])) (more_exs applied (more_exs (number_ex (pos 2)) no_exs))) ≡ ViewHas u f)
      × (ViewHas u copied ≡ Unit {0})
      × (AtSource (ViewHas u) copied ≡ ViewHas u f)
      × (AtSource (ViewHas u) applied ≡ Unit {0})
      × (WherePicked (ViewHas u) of_an_item copied ≡ Unit {0})
  tables_of_the_view = (refl, refl, refl, refl, refl, refl)

-- Under a word that forgets order it asks for nothing.
order_is_forgotten : keeps_order (fun1 false Fun.Sum copied) ≡ false
order_is_forgotten = refl

-- The name over an item as a source is asked for where a rule binds it so, and of no other rule.
module _ (u : Text → Bool) where
  name_over_an_item : (OtherHas u names source_of_an_item ≡ IsTrue (u (reserved 1))) × (OtherHas u names of_an_item ≡ Unit {0})
      × (WherePicked (ViewHas u) source_of_an_item (node_ex false application (more_exs copied no_exs)) ≡ Unit {0})
  name_over_an_item = (refl, refl, refl)
