-- What is in scope at a statement or at a part of one, and properties that hold of each part in its scope.
use Rattle.std.specs.Prelude.{Bool, true, false, ◌&&◌, not, if◌then◌else◌, List, [], ◌∷◌, ◌++◌, filter}
use Rattle.ess_semantics.specs.Values.{Text}
use Rattle.ess_semantics.specs.Names.{Names, keys, is_among}
use Rattle.ess_semantics.specs.Trees.{Pat, Ex, Exs, number_ex, truth_ex, name_ex, node_ex, matrix_ex, comp_ex, cell_ex, seen_ex, no_exs, more_exs, Gens, no_gens, over, from, cond, Dom, Doms, bool_dom, int_dom, name_dom, tuple_dom, record_dom, matrix_dom, set_dom, mset_dom, function_dom, relation_dom, partition_dom, no_doms, more_doms}
use Rattle.ess_semantics.specs.Types.{Ty, type_of_dom, bind_types, pattern_names}
use Rattle.ess_semantics.specs.Typing.{source_ty}
use Rattle.ess_semantics.specs.Lettings.{Lettings, no_lettings, field_flags}

-- The types of names; the lettings; the enumerated and the unnamed types; the names that depend on a find; and whether
-- there is an objective.
pub record Scope : Type 0 where
  pub tys : Names Ty
  pub lets : Lettings
  pub enums : List Text
  pub unnamed : List Text
  pub depends_on_finds : List Text
  pub objective : Bool

-- Nothing is in scope.
abbrev pub empty_scope : Scope
empty_scope = record { tys = []; lets = no_lettings; enums = []; unnamed = []; depends_on_finds = []; objective = false }

-- All names that are declared or bound.
abbrev pub names_in_scope : Scope → List Text
names_in_scope s = keys s.tys ++ s.enums ++ s.unnamed ++ keys s.lets.doms

-- The names but those of another list.
abbrev pub names_but : List Text → List Text → List Text
names_but bs ns = filter (λ n. not (is_among bs n)) ns

-- The scope with the names that a pattern binds at a type; `draws_on_finds` says whether they depend on a find. The newest binding
-- of a name counts: with lettings put in, a bound name may hide another one.
abbrev pub with_bound : Bool → Pat → Ty → Scope → Scope
with_bound draws_on_finds p t s =
    record s { tys = bind_types p t s.tys; depends_on_finds = if draws_on_finds then pattern_names p ++ s.depends_on_finds else names_but (pattern_names p) s.depends_on_finds }

-- What is asked of each part: of expressions, of domains, of the domains of generators, and of patterns at a type. Names
-- that are bound over an expression with `draws_on_finds` count as depending on a find.
pub record Asked : Type 0 where
  pub draws_on_finds : Ex → Scope → Bool
  pub of_ex : Ex → Scope → Bool
  pub of_dom : Dom → Scope → Bool
  pub of_generator : Dom → Scope → Bool
  pub of_pattern : Pat → Ty → Scope → Bool

-- Asks nothing.
abbrev pub anything : {A B : Type 0} → A → B → Bool
anything x y = true

-- Nothing is asked of any part.
abbrev pub nothing_asked : Asked
nothing_asked = record { draws_on_finds = λ e s. false; of_ex = anything; of_dom = anything; of_generator = anything; of_pattern = λ p t s. true }

module _ (q : Asked) where
  abbrev mutual
    -- Whether each part of an expression has the property. A field of a record is no part.
    pub every : Ex → Scope → Bool
    every (number_ex n) s = q.of_ex (number_ex n) s
    every (truth_ex b) s = q.of_ex (truth_ex b) s
    every (name_ex a) s = q.of_ex (name_ex a) s
    every (node_ex b op es) s = q.of_ex (node_ex b op es) s && every_operand (field_flags op es s.tys) es s
    every (matrix_ex es d) s = q.of_ex (matrix_ex es d) s && every_operand [] es s && every_dom d s
    every (comp_ex e gs) s = q.of_ex (comp_ex e gs) s && every_under gs s (every e)
    every (cell_ex b n es) s = q.of_ex (cell_ex b n es) s && every_operand [] es s
    every (seen_ex r d ns es) s = q.of_ex (seen_ex r d ns es) s && every_dom d s && every_operand [] es s

    -- The same of operands but those that are flagged.
    pub every_operand : List Bool → Exs → Scope → Bool
    every_operand bs no_exs s = true
    every_operand [] (more_exs e es) s = every e s && every_operand [] es s
    every_operand (true ∷ bs) (more_exs e es) s = every_operand bs es s
    every_operand (false ∷ bs) (more_exs e es) s = every e s && every_operand bs es s

    -- The same of generators, and of what stands under them.
    pub every_under : Gens → Scope → (Scope → Bool) → Bool
    every_under no_gens s k = k s
    every_under (over p d gs) s k =
        every_dom d s && q.of_generator d s && q.of_pattern p (type_of_dom d) s && every_under gs (with_bound false p (type_of_dom d) s) k
    every_under (from p e gs) s k =
        every e s && q.of_pattern p (source_ty e s.tys) s && every_under gs (with_bound (q.draws_on_finds e s) p (source_ty e s.tys) s) k
    every_under (cond e gs) s k = every e s && every_under gs s k

    -- The same of a domain.
    pub every_dom : Dom → Scope → Bool
    every_dom bool_dom s = q.of_dom bool_dom s
    every_dom (int_dom rs es) s = q.of_dom (int_dom rs es) s && every_operand [] es s
    every_dom (name_dom a) s = q.of_dom (name_dom a) s
    every_dom (tuple_dom ds) s = q.of_dom (tuple_dom ds) s && every_doms ds s
    every_dom (record_dom fs ds) s = q.of_dom (record_dom fs ds) s && every_doms ds s
    every_dom (matrix_dom is d) s = q.of_dom (matrix_dom is d) s && every_doms is s && every_dom d s
    every_dom (set_dom ms es d) s = q.of_dom (set_dom ms es d) s && every_operand [] es s && every_dom d s
    every_dom (mset_dom ms es d) s = q.of_dom (mset_dom ms es d) s && every_operand [] es s && every_dom d s
    every_dom (function_dom ms es d c) s = q.of_dom (function_dom ms es d c) s && every_operand [] es s && every_dom d s && every_dom c s
    every_dom (relation_dom ms es ds) s = q.of_dom (relation_dom ms es ds) s && every_operand [] es s && every_doms ds s
    every_dom (partition_dom ms es d) s = q.of_dom (partition_dom ms es d) s && every_operand [] es s && every_dom d s

    -- The same of several domains.
    pub every_doms : Doms → Scope → Bool
    every_doms no_doms s = true
    every_doms (more_doms d ds) s = every_dom d s && every_doms ds s

-- ---- fixed expressions

-- A name that depends on no find.
abbrev pub depends_on_no_find : Ex → Scope → Bool
depends_on_no_find (name_ex a) s = not (is_among s.depends_on_finds a)
depends_on_no_find e s = true

-- An expression is fixed where it mentions no find, and no name that is bound over an expression that isn't fixed.
abbrev pub is_fixed : Ex → Scope → Bool
is_fixed e s = every (record nothing_asked { of_ex = depends_on_no_find }) e s

-- Names bound over the expression depend on a find.
abbrev pub mentions_finds : Ex → Scope → Bool
mentions_finds e s = not (is_fixed e s)

-- Nothing is asked, but names that depend on a find are known.
abbrev pub asking : Asked
asking = record nothing_asked { draws_on_finds = mentions_finds }
