-- The literal of a table that fits its declaration stands for that table.
use Rattle.std.proofs.Common.{◌≡◌, refl, sym, ap, ◌∙◌, Bool, true, List, [], ◌∷◌, length, take, ℤ, Some, Option, option_map, arith}
use Rattle.std.specs.List.{list_all}
use Rattle.std.proofs.lemmas.Bool.{and_parts, eqb-true}
use Rattle.std.proofs.lemmas.List.{take_all}
use Rattle.ess_semantics.specs.Lists.{and_then, when, is_some_and, each_of}
use Rattle.ess_semantics.specs.Order.{same_ints}
use Rattle.ess_semantics.specs.Names.{Names}
use Rattle.ess_semantics.specs.Trees.{Dom, bool_dom, int_dom, name_dom, tuple_dom, record_dom, matrix_dom, set_dom, mset_dom, function_dom, relation_dom, partition_dom}
use Rattle.ess_semantics.specs.Meaning.{is_bool_dom}
use Rattle.ess_semantics.specs.Tables.{Table, volume, same_axes, is_filled, is_cell}
use Rattle.ess_semantics.specs.DeclaredTables.{TableDecl}
use Rattle.ess_semantics.specs.ModelMeaning.{model_domain}
use Rattle.ess_semantics.specs.Satisfaction.{axis_of, over_declared, in_declared, table_fits}
use Rattle.ess_semantics.proofs.Orders.{same_ints-equal}
use Rattle.ess_semantics.proofs.Tests.{some-and}
use Rattle.ess_grammar.specs.ValueTexts.{literal_of}
use Rattle.eprime_cells_laws.specs.TableReading.{table_of, declared_table}
use Rattle.eprime_cells_laws.specs.CellsText.{table_value, no_names}
use Rattle.eprime_cells_laws.specs.Laws.{is_plain_axis}
use Rattle.eprime_cells_laws.proofs.ItemsBack.{ItemsFit, items-back}

same-axes-equal : (as' bs : List (List ℤ)) → same_axes as' bs ≡ true → as' ≡ bs
same-axes-equal [] [] h = refl
same-axes-equal [] (b ∷ bs) h = cc
same-axes-equal (a ∷ as') [] h = cc
same-axes-equal (a ∷ as') (b ∷ bs) h =
    let parts = and_parts (same_ints a b) (same_axes as' bs) h in
    ap (λ x. x ∷ as') (same_ints-equal a b parts.0) ∙ ap (λ l. b ∷ l) (same-axes-equal as' bs parts.1)

-- The items of a table of truth values are truth values.
truths-fit : (known : List TableDecl) (q : Names Table) (c : Dom) (is : List ℤ) →
    is_some_and (model_domain known q c) (λ e. list_all (is_cell e) is) ≡ true →
    ItemsFit (is_bool_dom c) is
truths-fit known q bool_dom is h = λ e. h
truths-fit known q (int_dom rs es) is h = λ e. cc
truths-fit known q (name_dom a) is h = λ e. cc
truths-fit known q (tuple_dom ds) is h = λ e. cc
truths-fit known q (record_dom ns ds) is h = λ e. cc
truths-fit known q (matrix_dom ds d) is h = λ e. cc
truths-fit known q (set_dom ms es d) is h = λ e. cc
truths-fit known q (mset_dom ms es d) is h = λ e. cc
truths-fit known q (function_dom ms es d c) is h = λ e. cc
truths-fit known q (relation_dom ms es ds) is h = λ e. cc
truths-fit known q (partition_dom ms es d) is h = λ e. cc

-- All items of a filled table.
filled-back : (b : Bool) (t : Table) → list_all is_plain_axis t.axes ≡ true → ItemsFit b t.items → is_filled t ≡ true →
    table_of t.axes b (literal_of no_names (table_value b t.axes t.items)) ≡ Some t
filled-back b t h f k =
    let e : length t.items ≡ volume t.axes = eqb-true (length t.items) (volume t.axes) k in
    ap (option_map (λ is. record { axes = t.axes; items = is })) (items-back b t.axes h t.items f (omega (arith, e)))
    ∙ ap (λ is. Some (record { axes = t.axes; items = is }))
    (ap (λ n. take n t.items) (sym e) ∙ take_all (length t.items) t.items (omega arith))

pub table-back : (known : List TableDecl) (q : Names Table) (d : TableDecl) (t : Table) → table_fits known q d t ≡ true →
    list_all is_plain_axis t.axes ≡ true →
    declared_table known q d (literal_of no_names (table_value (is_bool_dom d.cell) t.axes t.items)) ≡ Some t
table-back known q d t h p =
    let parts = and_parts (over_declared known q d t) (in_declared known q d t) h in
    let over = and_parts (is_filled t) (is_some_and (each_of d.axes (axis_of known q)) (λ as'. same_axes as' t.axes)) parts.0 in
    let found = some-and (each_of d.axes (axis_of known q)) (λ as'. same_axes as' t.axes) over.1 in
    let axes = same-axes-equal found.0 t.axes found.2 in
    let e = literal_of no_names (table_value (is_bool_dom d.cell) t.axes t.items) in
    let next : List (List ℤ) → Option Table =
    λ as'. and_then (table_of as' (is_bool_dom d.cell) e) (λ u. when (in_declared known q d u) u) in
    ap (λ o. and_then o next) found.1 ∙ ap next axes
    ∙ ap (λ o. and_then o (λ u. when (in_declared known q d u) u))
    (filled-back (is_bool_dom d.cell) t p (truths-fit known q d.cell t.items parts.1) over.0)
    ∙ ap (λ b. when b t) parts.1
