-- A tree that becomes another one by a step at its root or at one of its parts, said by the form of the tree.
use Rattle.std.specs.Prelude.{◌≡◌, ◌⊎◌}
use Rattle.ess_semantics.specs.Names.{Names}
use Rattle.ess_semantics.specs.Trees.{Ex, Exs, number_ex, truth_ex, name_ex, node_ex, matrix_ex, comp_ex, cell_ex, seen_ex, no_exs, more_exs, Gens, no_gens, over, from, cond, Dom, Doms, bool_dom, int_dom, name_dom, tuple_dom, record_dom, matrix_dom, set_dom, mset_dom, function_dom, relation_dom, partition_dom, no_doms, more_doms}
use Rattle.ess_semantics.specs.Types.{Ty, type_of_dom, bind_types}
use Rattle.ess_semantics.specs.Typing.{source_ty}
use Rattle.ess_semantics.specs.NamesAt.{names_behind}

-- R g a b is a step from a to b, where names have the types g.
module _ (R : Names Ty → Ex → Ex → Type 0) where
  abbrev mutual
    -- A step leads from the tree to this one, at the root or at a part.
    pub Step : Names Ty → Ex → Ex → Type 0
    Step g (number_ex n) u = R g (number_ex n) u
    Step g (truth_ex b) u = R g (truth_ex b) u
    Step g (name_ex a) u = R g (name_ex a) u
    Step g (node_ex b op es) u = R g (node_ex b op es) u ⊎ ((fs : Exs) × (u ≡ node_ex b op fs) × Steps g es fs)
    Step g (matrix_ex es d) u =
        R g (matrix_ex es d) u ⊎ (((fs : Exs) × (u ≡ matrix_ex fs d) × Steps g es fs) ⊎ ((c : Dom) × (u ≡ matrix_ex es c) × DomStep g d c))
    Step g (comp_ex e gs) u =
        R g (comp_ex e gs) u
        ⊎ (((f : Ex) × (u ≡ comp_ex f gs) × Step (names_behind gs g) e f) ⊎ ((hs : Gens) × (u ≡ comp_ex e hs) × GensStep g gs hs))
    Step g (cell_ex b n es) u = R g (cell_ex b n es) u ⊎ ((fs : Exs) × (u ≡ cell_ex b n fs) × Steps g es fs)
    Step g (seen_ex r d ns es) u =
        R g (seen_ex r d ns es) u
        ⊎ (((c : Dom) × (u ≡ seen_ex r c ns es) × DomStep g d c) ⊎ ((fs : Exs) × (u ≡ seen_ex r d ns fs) × Steps g es fs))

    -- The same of operands: one of them becomes another one.
    pub Steps : Names Ty → Exs → Exs → Type 0
    Steps g no_exs fs = ⊥
    Steps g (more_exs e es) fs =
        ((f : Ex) × (fs ≡ more_exs f es) × Step g e f) ⊎ ((hs : Exs) × (fs ≡ more_exs e hs) × Steps g es hs)

    -- The same of generators.
    pub GensStep : Names Ty → Gens → Gens → Type 0
    GensStep g no_gens hs = ⊥
    GensStep g (over p d gs) hs =
        ((c : Dom) × (hs ≡ over p c gs) × DomStep g d c)
        ⊎ ((ks : Gens) × (hs ≡ over p d ks) × GensStep (bind_types p (type_of_dom d) g) gs ks)
    GensStep g (from p e gs) hs =
        ((f : Ex) × (hs ≡ from p f gs) × Step g e f)
        ⊎ ((ks : Gens) × (hs ≡ from p e ks) × GensStep (bind_types p (source_ty e g) g) gs ks)
    GensStep g (cond e gs) hs =
        ((f : Ex) × (hs ≡ cond f gs) × Step g e f) ⊎ ((ks : Gens) × (hs ≡ cond e ks) × GensStep g gs ks)

    -- The same of a domain.
    pub DomStep : Names Ty → Dom → Dom → Type 0
    DomStep g bool_dom c = ⊥
    DomStep g (int_dom rs es) c = (fs : Exs) × (c ≡ int_dom rs fs) × Steps g es fs
    DomStep g (name_dom a) c = ⊥
    DomStep g (tuple_dom ds) c = (bs : Doms) × (c ≡ tuple_dom bs) × DomsStep g ds bs
    DomStep g (record_dom fs ds) c = (bs : Doms) × (c ≡ record_dom fs bs) × DomsStep g ds bs
    DomStep g (matrix_dom is d) c =
        ((bs : Doms) × (c ≡ matrix_dom bs d) × DomsStep g is bs) ⊎ ((b : Dom) × (c ≡ matrix_dom is b) × DomStep g d b)
    DomStep g (set_dom ms es d) c =
        ((fs : Exs) × (c ≡ set_dom ms fs d) × Steps g es fs) ⊎ ((b : Dom) × (c ≡ set_dom ms es b) × DomStep g d b)
    DomStep g (mset_dom ms es d) c =
        ((fs : Exs) × (c ≡ mset_dom ms fs d) × Steps g es fs) ⊎ ((b : Dom) × (c ≡ mset_dom ms es b) × DomStep g d b)
    DomStep g (function_dom ms es d r) c =
        ((fs : Exs) × (c ≡ function_dom ms fs d r) × Steps g es fs)
        ⊎ (((b : Dom) × (c ≡ function_dom ms es b r) × DomStep g d b) ⊎ ((b : Dom) × (c ≡ function_dom ms es d b) × DomStep g r b))
    DomStep g (relation_dom ms es ds) c =
        ((fs : Exs) × (c ≡ relation_dom ms fs ds) × Steps g es fs) ⊎ ((bs : Doms) × (c ≡ relation_dom ms es bs) × DomsStep g ds bs)
    DomStep g (partition_dom ms es d) c =
        ((fs : Exs) × (c ≡ partition_dom ms fs d) × Steps g es fs) ⊎ ((b : Dom) × (c ≡ partition_dom ms es b) × DomStep g d b)

    -- The same of several domains.
    pub DomsStep : Names Ty → Doms → Doms → Type 0
    DomsStep g no_doms bs = ⊥
    DomsStep g (more_doms d ds) bs =
        ((b : Dom) × (bs ≡ more_doms b ds) × DomStep g d b) ⊎ ((cs : Doms) × (bs ≡ more_doms d cs) × DomsStep g ds cs)
