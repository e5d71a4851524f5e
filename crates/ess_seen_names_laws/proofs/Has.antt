-- What the numbers and names of a tree have, domains of views included: numbers the property q, and names that are used or bound the
-- property u. So it is said at once of the numbers that a tree spells and of its names.
use Rattle.std.specs.Prelude.{Bool, ℤ, IsTrue}
use Rattle.ess_semantics.specs.Values.{Text}
use Rattle.ess_semantics.specs.Trees.{Ex, Exs, number_ex, truth_ex, name_ex, node_ex, matrix_ex, comp_ex, cell_ex, seen_ex, no_exs, more_exs, Gens, no_gens, over, from, cond, Dom, Doms, bool_dom, int_dom, name_dom, tuple_dom, record_dom, matrix_dom, set_dom, mset_dom, function_dom, relation_dom, partition_dom, no_doms, more_doms}
use Rattle.ess_semantics.specs.Substitution.{substitute, substitute_exs, substitute_gens, substitute_dom, substitute_doms, for_name, Binds}
use Rattle.ess_semantics.specs.Order.{same_text}
use Rattle.ess_rules_laws.specs.SpliceRules.{append_gens}
use Rattle.ess_rules_laws.specs.SetListings.{put_last}
use Rattle.ess_rules_laws.specs.FunctionViews.{append_exs}
use Rattle.std.proofs.Common.{true, false, if◌then◌else◌}

module _ (q : ℤ → Bool) (u : Text → Bool) where
  abbrev mutual
    -- Of an expression.
    pub Has : Ex → Type 0
    Has (number_ex n) = IsTrue (q n)
    Has (truth_ex b) = Unit {0}
    Has (name_ex a) = IsTrue (u a)
    Has (node_ex b op es) = AllHave es
    Has (matrix_ex es d) = AllHave es × DomHas d
    Has (comp_ex e gs) = Has e × GensHave gs
    Has (cell_ex b n es) = AllHave es
    Has (seen_ex r d ns es) = DomHas d × AllHave es

    -- Of several.
    pub AllHave : Exs → Type 0
    AllHave no_exs = Unit {0}
    AllHave (more_exs e es) = Has e × AllHave es

    -- Of generators.
    pub GensHave : Gens → Type 0
    GensHave no_gens = Unit {0}
    GensHave (over p d gs) = Binds u p × DomHas d × GensHave gs
    GensHave (from p e gs) = Binds u p × Has e × GensHave gs
    GensHave (cond e gs) = Has e × GensHave gs

    -- Of a domain.
    pub DomHas : Dom → Type 0
    DomHas bool_dom = Unit {0}
    DomHas (int_dom rs es) = AllHave es
    DomHas (name_dom a) = Unit {0}
    DomHas (tuple_dom ds) = DomsHave ds
    DomHas (record_dom fs ds) = DomsHave ds
    DomHas (matrix_dom is d) = DomsHave is × DomHas d
    DomHas (set_dom ms es d) = AllHave es × DomHas d
    DomHas (mset_dom ms es d) = AllHave es × DomHas d
    DomHas (function_dom ms es d c) = AllHave es × DomHas d × DomHas c
    DomHas (relation_dom ms es ds) = AllHave es × DomsHave ds
    DomHas (partition_dom ms es d) = AllHave es × DomHas d

    -- Of several.
    pub DomsHave : Doms → Type 0
    DomsHave no_doms = Unit {0}
    DomsHave (more_doms d ds) = DomHas d × DomsHave ds

  -- ---- what stands for names

  module _ (f : Text → Ex) (each : (a : Text) → IsTrue (u a) → Has (f a)) where
    mutual
      pub put-has : (e : Ex) → Has e → Has (substitute f e)
      put-has (number_ex n) h = h
      put-has (truth_ex b) h = tt
      put-has (name_ex a) h = each a h
      put-has (node_ex b op es) h = put-all es h
      put-has (matrix_ex es d) h = (put-all es h.0, put-dom d h.1)
      put-has (comp_ex e gs) h = (put-has e h.0, put-gens gs h.1)
      put-has (cell_ex b n es) h = put-all es h
      put-has (seen_ex r d ns es) h = (put-dom d h.0, put-all es h.1)

      put-all : (es : Exs) → AllHave es → AllHave (substitute_exs f es)
      put-all no_exs h = tt
      put-all (more_exs e es) h = (put-has e h.0, put-all es h.1)

      pub put-gens : (gs : Gens) → GensHave gs → GensHave (substitute_gens f gs)
      put-gens no_gens h = tt
      put-gens (over p d gs) h = (h.0, put-dom d h.1, put-gens gs h.2)
      put-gens (from p e gs) h = (h.0, put-has e h.1, put-gens gs h.2)
      put-gens (cond e gs) h = (put-has e h.0, put-gens gs h.1)

      put-dom : (d : Dom) → DomHas d → DomHas (substitute_dom f d)
      put-dom bool_dom h = tt
      put-dom (int_dom rs es) h = put-all es h
      put-dom (name_dom a) h = tt
      put-dom (tuple_dom ds) h = put-doms ds h
      put-dom (record_dom fs ds) h = put-doms ds h
      put-dom (matrix_dom is d) h = (put-doms is h.0, put-dom d h.1)
      put-dom (set_dom ms es d) h = (put-all es h.0, put-dom d h.1)
      put-dom (mset_dom ms es d) h = (put-all es h.0, put-dom d h.1)
      put-dom (function_dom ms es d c) h = (put-all es h.0, put-dom d h.1, put-dom c h.2)
      put-dom (relation_dom ms es ds) h = (put-all es h.0, put-doms ds h.1)
      put-dom (partition_dom ms es d) h = (put-all es h.0, put-dom d h.1)

      put-doms : (ds : Doms) → DomsHave ds → DomsHave (substitute_doms f ds)
      put-doms no_doms h = tt
      put-doms (more_doms d ds) h = (put-dom d h.0, put-doms ds h.1)

  pub for-has : (x : Text) (w : Ex) → Has w → (a : Text) → IsTrue (u a) → Has (for_name x w a)
  for-has x w h a k = go (same_text x a)
    where
      go : (b : Bool) → Has (if b then w else name_ex a)
      go true = h
      go false = k

  -- ---- one behind the other

  pub append-have : (gs hs : Gens) → GensHave gs → GensHave hs → GensHave (append_gens gs hs)
  append-have no_gens hs h k = k
  append-have (over p d gs) hs h k = (h.0, h.1, append-have gs hs h.2 k)
  append-have (from p e gs) hs h k = (h.0, h.1, append-have gs hs h.2 k)
  append-have (cond e gs) hs h k = (h.0, append-have gs hs h.1 k)

  pub parts-have : (gs hs : Gens) → GensHave (append_gens gs hs) → GensHave gs × GensHave hs
  parts-have no_gens hs h = (tt, h)
  parts-have (over p d gs) hs h = let k = parts-have gs hs h.2 in ((h.0, h.1, k.0), k.1)
  parts-have (from p e gs) hs h = let k = parts-have gs hs h.2 in ((h.0, h.1, k.0), k.1)
  parts-have (cond e gs) hs h = let k = parts-have gs hs h.1 in ((h.0, k.0), k.1)

  pub last-has : (es : Exs) (a : Ex) → AllHave es → Has a → AllHave (put_last es a)
  last-has no_exs a h k = (k, tt)
  last-has (more_exs e es) a h k = (h.0, last-has es a h.1 k)

  pub append-all : (es fs : Exs) → AllHave es → AllHave fs → AllHave (append_exs es fs)
  append-all no_exs fs h k = k
  append-all (more_exs e es) fs h k = (h.0, append-all es fs h.1 k)
