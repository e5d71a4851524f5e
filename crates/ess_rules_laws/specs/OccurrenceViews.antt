-- What views of sets and relations offer that are kept as a truth value for each possible member: the test of one member, and of
-- relations the tuples that occur. The names are those of the components of a tuple.
use Rattle.std.specs.Prelude.{true, false, [], ◌∷◌, map, List, Option, Some, None, IsTrue, is_some, if◌then◌else◌}
use Rattle.ess_semantics.specs.declared.words.Op2.{Op2}
use Rattle.ess_semantics.specs.declared.words.ReprKind.{ReprKind}
use Rattle.ess_semantics.specs.Values.{Text, items_of}
use Rattle.ess_semantics.specs.Trees.{tuple_literal, repr, no_reprs, Ex, node_ex, seen_ex, ex2, no_exs, more_exs, no_gens, over, cond, tuple_dom, set_dom, relation_dom}
use Rattle.ess_semantics.specs.Tables.{code}
use Rattle.ess_semantics.specs.Meaning.{Env, domain_of, members_in}
use Rattle.ess_rules_laws.specs.Listings.{Alternative}
use Rattle.ess_rules_laws.specs.FunctionViews.{by_names, names_fit, flag_at}
use Rattle.ess_rules_laws.specs.FunctionKeys.{IsTold}

-- Its tuples: the names over the components, where the cell there is true, and the tuple of them.
abbrev pub relation_matrix_listing : List Text → Ex → Option Alternative
relation_matrix_listing xs (seen_ex (repr ReprKind.RelationAsMatrix no_reprs) (relation_dom ms es ds) (n ∷ []) js) =
    if names_fit xs ds then Some (record {
      gens = over (by_names xs).pattern (tuple_dom ds) (cond (flag_at n js (by_names xs).keys) no_gens);
      item = (by_names xs).argument;
    }) else None
relation_matrix_listing xs e = None

-- The possible tuples of a relation can be listed.
abbrev pub TuplesThere : Ex → Env → Type 0
TuplesThere (seen_ex r (relation_dom ms es ds) ns js) env = IsTrue (is_some (members_in (domain_of (tuple_dom ds) env)))
TuplesThere e env = Unit {0}

-- The cell that says whether a is a member. Of a tuple that is written as a literal the indices are its items.
abbrev pub cell_of_member : Ex → Ex → Option Ex
cell_of_member (seen_ex (repr ReprKind.Occurrence no_reprs) (set_dom ms es d) (n ∷ []) js) a = Some (flag_at n js (more_exs a no_exs))
cell_of_member (seen_ex (repr ReprKind.RelationAsMatrix no_reprs) (relation_dom ms es ds) (n ∷ []) js) (node_ex false tuple_literal as') =
    Some (flag_at n js as')
cell_of_member v a = None

-- `a in v` is the cell at a.
abbrev pub member_by_cell : Ex → Option Ex
member_by_cell (ex2 true Op2.Member a v) = cell_of_member v a
member_by_cell e = None

-- The term has a value that its number, or those of its components, tell from all other possible members.
abbrev pub ToldIn : Ex → Ex → Env → Type 0
ToldIn (seen_ex r (set_dom ms es d) ns js) a env = IsTold (λ v. code v ∷ []) a d env
ToldIn (seen_ex r (relation_dom ms es ds) ns js) a env = IsTold (λ v. map code (items_of v)) a (tuple_dom ds) env
ToldIn v a env = Unit {0}

-- So it has in `a in v`.
abbrev pub MemberTold : Ex → Env → Type 0
MemberTold (ex2 b o a v) env = ToldIn v a env
MemberTold e env = Unit {0}
