-- Tables of sizes are those of the domain.
use Rattle.std.proofs.Common.{Bool}
use Rattle.ess_semantics.specs.Trees.{Ex, Exs, Dom, set_dom, mset_dom, Doms, more_doms, no_exs, more_exs, no_doms, tuple_dom, record_dom, matrix_dom, function_dom, relation_dom, partition_dom, int_dom, name_dom, bool_dom}
use Rattle.ess_semantics.specs.Values.{Text}
use Rattle.ess_kind_sizes_laws.proofs.SizesHave.{SizeParts, AllHave, NumbersHave, AllNumbersHave, bound-has}
use Rattle.ess_repr_declare_laws.specs.SizeTerms.{bound_ex}
use Rattle.ess_rules_types_laws.specs.PutTypes.{TablesAre, AllTablesAre, DomTablesAre, DomsTablesAre}

module _ (w : Text → Bool) where
  -- Expressions with such tables.
  abbrev pub Tabled : Ex → Type 0
  Tabled e = TablesAre w e

  -- And domains with such tables.
  abbrev pub TabledDom : Dom → Type 0
  TabledDom d = DomTablesAre w d

  sizes-tabled : SizeParts Tabled TabledDom
  sizes-tabled = record {
    zero = tt;
    one = tt;
    two = tt;
    sums = λ a b h k. (h, (k, tt));
    differences = λ a b h k. (h, (k, tt));
    products = λ a b h k. (h, (k, tt));
    powers = λ a b h k. (h, (k, tt));
    most = λ a h. ((tt, (h, tt)), tt);
    listed = λ d h. (((h, tt), tt), tt);
  }

  each-tabled : (es : Exs) → AllTablesAre w es → AllHave Tabled TabledDom es
  each-tabled no_exs h = tt
  each-tabled (more_exs e es) h = (h.0, each-tabled es h.1)

  mutual
    numbers-tabled : (d : Dom) → DomTablesAre w d → NumbersHave Tabled TabledDom d
    numbers-tabled bool_dom h = tt
    numbers-tabled (int_dom rs es) h = (each-tabled es h, h)
    numbers-tabled (name_dom a) h = tt
    numbers-tabled (tuple_dom ds) h = all-tabled ds h
    numbers-tabled (record_dom fs ds) h = all-tabled ds h
    numbers-tabled (matrix_dom is d) h = (all-tabled is h.0, numbers-tabled d h.1)
    numbers-tabled (set_dom ms es d) h = (each-tabled es h.0, numbers-tabled d h.1)
    numbers-tabled (mset_dom ms es d) h = (each-tabled es h.0, numbers-tabled d h.1)
    numbers-tabled (function_dom ms es d c) h = (each-tabled es h.0, numbers-tabled d h.1, numbers-tabled c h.2)
    numbers-tabled (relation_dom ms es ds) h = (each-tabled es h.0, all-tabled ds h.1)
    numbers-tabled (partition_dom ms es d) h = (each-tabled es h.0, numbers-tabled d h.1)

    all-tabled : (ds : Doms) → DomsTablesAre w ds → AllNumbersHave Tabled TabledDom ds
    all-tabled no_doms h = tt
    all-tabled (more_doms d ds) h = (numbers-tabled d h.0, all-tabled ds h.1)

  -- The count of a domain's members.
  pub count-tabled : (d : Dom) → DomTablesAre w d → TablesAre w (bound_ex d)
  count-tabled d h = bound-has Tabled TabledDom sizes-tabled d (numbers-tabled d h)
